-- Cases of encoding, each by computation: document 01's order of checks, its unstarred cases, and the traps.
use Prim.Native.Nat.{ℕ, ◌*◌}
use mathlib.Core.Path.{◌≡◌, refl}
use mathlib.Core.Bool.{true, false}
use mathlib.Core.List.{List, [], ◌∷◌, ◌++◌}
use lib.ListN.{drop, replicate}
use lib.IntN.{ℤ, pos, negsuc}
use Rattle.format.specs.Refusals.{nowhere}
use Rattle.format.specs.Answers.{refused_by, wrote}
use Rattle.format.specs.Lists.{tab, joined}
use Rattle.format.specs.Numbers.{num_at}
use Rattle.format.specs.Header.{fields_of}
use Rattle.format.specs.Blocks.{base_of, bits_of, samples_of}
use Rattle.format.specs.Decoding.{check_decode}
use Rattle.format.specs.Encoding.{least_width, takes_mid, encoded_group, encoded_group_at, encoded_file, check_encode, encode_of, encode_into}
use Rattle.format.specs.declared.refusals.Refusal.TheVariants.{NotStereo, OutputTooShort}
use Rattle.format.specs.declared.settings.PcmSpec.{PcmSpec}
use Rattle.format.specs.declared.settings.StereoMode.TheVariants.{Auto, Direct, MidSide}
use Rattle.format.proofs.Made.{document_01, decodes_to, said, pcm}

abbrev silent : PcmSpec
silent = record { channels = 2; bits_per_sample = 16; sample_rate = 0 }

-- left and right swing together: mid/side is smaller
abbrev together : List ℤ
together = pos 100 ∷ pos 100 ∷ negsuc 99 ∷ negsuc 99 ∷ []

-- 512 frames that swing together, then one that ties
abbrev mixed : List ℤ
mixed = joined (λ k. together) 256 ++ (pos 5 ∷ pos 5 ∷ [])

-- 512 frames of equal parity, then one of different parity
abbrev odd_at_last : List ℤ
odd_at_last = replicate 1024 (pos 2) ++ (pos 3 ∷ pos 4 ∷ [])

abbrev ramp : ℕ → List ℤ
ramp n = tab n (λ i. pos (i * 3))

pub record Encodings : Type 0 where
  -- 30, 31, 32 each before what follows; 34 before 35
  pub no_channels : said (check_encode (pcm 0 16) MidSide (pos 40000 ∷ [])) ≡ 30
  pub nine_channels : said (check_encode (pcm 9 16) MidSide (pos 40000 ∷ [])) ≡ 30
  pub depth_12 : said (check_encode (pcm 2 12) MidSide (pos 40000 ∷ [])) ≡ 30
  pub no_rate : said (check_encode silent MidSide (pos 40000 ∷ [])) ≡ 30
  pub half_frame : said (check_encode (pcm 2 16) MidSide (pos 40000 ∷ [])) ≡ 31
  pub too_high : said (check_encode (pcm 2 16) MidSide (pos 32768 ∷ pos 1 ∷ [])) ≡ 32
  pub too_low : said (check_encode (pcm 1 16) MidSide (negsuc 32768 ∷ [])) ≡ 32
  pub limits_16 : said (check_encode (pcm 1 16) Auto (pos 32767 ∷ negsuc 32767 ∷ [])) ≡ 0
  pub limits_24 : said (check_encode (pcm 1 24) Auto (pos 8388607 ∷ negsuc 8388607 ∷ [])) ≡ 0
  pub past_24 : said (check_encode (pcm 1 24) Auto (pos 8388608 ∷ [])) ≡ 32
  pub mono_mid : said (check_encode (pcm 1 16) MidSide []) ≡ 34
  pub odd_in_second : said (check_encode (pcm 2 16) MidSide odd_at_last) ≡ 35
  pub odd_in_auto : said (check_encode (pcm 2 16) Auto odd_at_last) ≡ 0
  pub negative_odd : said (check_encode (pcm 2 16) MidSide (negsuc 0 ∷ pos 1 ∷ [])) ≡ 0
  pub negative_differs : said (check_encode (pcm 2 16) MidSide (negsuc 0 ∷ pos 2 ∷ [])) ≡ 35
  -- the width: two bits hold −2 to 1; it goes up to 32
  pub width_2 : least_width (pos 1 ∷ negsuc 1 ∷ []) ≡ 2
  pub width_above_2 : least_width (pos 2 ∷ []) ≡ 3
  pub width_below_2 : least_width (negsuc 2 ∷ []) ≡ 3
  pub width_31 : least_width (pos 1073741823 ∷ []) ≡ 31
  pub width_32 : least_width (pos 1073741824 ∷ []) ≡ 32
  pub width_lowest : least_width (negsuc 2147483647 ∷ []) ≡ 32
  -- 512 frames: data offset 128; 513: 132
  pub offset_512 : (fields_of (encoded_file (pcm 1 16) Auto (replicate 512 (pos 1)))).start ≡ 128
  pub offset_513 : (fields_of (encoded_file (pcm 1 16) Auto (replicate 513 (pos 1)))).start ≡ 132
  -- padding by the last sample; the base in raw blocks too
  pub padding : drop 2 (samples_of 16 (encoded_group (pcm 1 16) Direct (pos 8 ∷ pos 9 ∷ []))) ≡ replicate 510 (pos 9)
  pub raw_base : base_of (encoded_group (pcm 1 16) Direct (negsuc 32767 ∷ pos 32767 ∷ [])) ≡ negsuc 32767
  pub raw_bits : bits_of (encoded_group (pcm 1 16) Direct (negsuc 32767 ∷ pos 32767 ∷ [])) ≡ negsuc 15
  pub raw_24 : bits_of (encoded_group (pcm 1 24) Direct (negsuc 8388607 ∷ pos 8388607 ∷ [])) ≡ negsuc 23
  -- pair (3, 5) by MidSide: bases 4 and −1, both blocks with flags 1, though no smaller
  pub pair_mid : base_of (encoded_group (pcm 2 16) MidSide (pos 3 ∷ pos 5 ∷ [])) ≡ pos 4
  pub pair_side : base_of (drop 144 (encoded_group (pcm 2 16) MidSide (pos 3 ∷ pos 5 ∷ []))) ≡ negsuc 0
  pub pair_flags : num_at 10 2 (encoded_group (pcm 2 16) MidSide (pos 3 ∷ pos 5 ∷ [])) ≡ 1
  pub pair_flags_2 : num_at 154 2 (encoded_group (pcm 2 16) MidSide (pos 3 ∷ pos 5 ∷ [])) ≡ 1
  pub pair_back : decodes_to (encoded_file (pcm 2 16) MidSide (pos 3 ∷ pos 5 ∷ [])) (pos 3 ∷ pos 5 ∷ [])
  -- Auto: mid/side where strictly smaller and representable; mono is direct
  pub auto_mid : takes_mid Auto 2 16 together ≡ true
  pub auto_odd : takes_mid Auto 2 16 (pos 101 ∷ pos 100 ∷ together) ≡ false
  pub auto_mono : takes_mid Auto 1 16 together ≡ false
  pub auto_flags : num_at 10 2 (encoded_group (pcm 2 16) Auto together) ≡ 1
  pub auto_first : num_at 10 2 (encoded_group_at (pcm 2 16) Auto mixed 0) ≡ 1
  pub auto_second : num_at 10 2 (encoded_group_at (pcm 2 16) Auto mixed 1) ≡ 0
  pub direct_flags : num_at 10 2 (encoded_group (pcm 2 16) Direct together) ≡ 0
  -- two groups, there and back
  pub ramp_fine : said (check_decode (encoded_file (pcm 1 16) Auto (ramp 600))) ≡ 0
  pub ramp_back : decodes_to (encoded_file (pcm 1 16) Auto (ramp 600)) (ramp 600)
  pub stereo_back : decodes_to (encoded_file (pcm 2 16) Auto (ramp 1026)) (ramp 1026)
  -- 50 last: one byte short, and nothing changed
  pub room : encode_of (pcm 1 16) Auto (pos 5 ∷ []) 272 ≡ wrote 272
  pub room_short : encode_of (pcm 1 16) Auto (pos 5 ∷ []) 271 ≡ refused_by OutputTooShort nowhere
  pub room_last : encode_of (pcm 1 16) MidSide [] 0 ≡ refused_by NotStereo nowhere
  pub kept : encode_into (pcm 1 16) Auto (pos 5 ∷ []) (replicate 271 7) ≡ replicate 271 7

pub encodings : Encodings
unfolding document_01
encodings =
    record {
      no_channels = refl;
      nine_channels = refl;
      depth_12 = refl;
      no_rate = refl;
      half_frame = refl;
      too_high = refl;
      too_low = refl;
      limits_16 = refl;
      limits_24 = refl;
      past_24 = refl;
      mono_mid = refl;
      odd_in_second = refl;
      odd_in_auto = refl;
      negative_odd = refl;
      negative_differs = refl;
      width_2 = refl;
      width_above_2 = refl;
      width_below_2 = refl;
      width_31 = refl;
      width_32 = refl;
      width_lowest = refl;
      offset_512 = refl;
      offset_513 = refl;
      padding = refl;
      raw_base = refl;
      raw_bits = refl;
      raw_24 = refl;
      pair_mid = refl;
      pair_side = refl;
      pair_flags = refl;
      pair_flags_2 = refl;
      pair_back = refl;
      auto_mid = refl;
      auto_odd = refl;
      auto_mono = refl;
      auto_flags = refl;
      auto_first = refl;
      auto_second = refl;
      direct_flags = refl;
      ramp_fine = refl;
      ramp_back = refl;
      stereo_back = refl;
      room = refl;
      room_short = refl;
      room_last = refl;
      kept = refl;
    }
