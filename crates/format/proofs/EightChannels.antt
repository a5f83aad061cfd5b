-- Document 02, L4: up to eight channels, depths 8 to 32, in encoding alone; each case by computation.
use Prim.Native.Nat.{ℕ, ◌+◌, ◌*◌, ◌^◌}
use mathlib.Core.Path.{◌≡◌, refl}
use mathlib.Core.Bool.{true, false}
use mathlib.Core.List.{List, [], ◌∷◌, ◌++◌}
use lib.ListN.{length, replicate, drop}
use lib.IntN.{ℤ, pos, negsuc}
use Rattle.format.specs.Lists.{joined}
use Rattle.format.specs.Numbers.{le}
use Rattle.format.specs.Blocks.{base_of, bits_of}
use Rattle.format.specs.Answers.{wrote}
use Rattle.format.specs.Encoding.{differences, least_width, mid, side, takes_mid, encoded_group, encoded_file, check_encode, encode_of}
use Rattle.format.specs.Reencoding.{check_reencode}
use Rattle.format.specs.Boundary.{host_encode}
use Rattle.format.specs.declared.settings.PcmSpec.{PcmSpec}
use Rattle.format.specs.declared.settings.StereoMode.TheVariants.{Auto, Direct, MidSide}
use Rattle.format.proofs.Made.{document_01, said, pcm, decodes_to}

-- the lowest and the highest number of 32 bits, and those next to them
abbrev bottom : ℤ
bottom = negsuc 2147483647

abbrev bottom+1 : ℤ
bottom+1 = negsuc 2147483646

abbrev top : ℤ
top = pos 2147483647

abbrev top_1 : ℤ
top_1 = pos 2147483646

-- the block of two mono samples
abbrev two : ℕ → ℤ → ℤ → List ℕ
two depth a b = encoded_group (pcm 1 depth) Auto (a ∷ b ∷ [])

-- two frames of three channels; of these the first two swing together, so that two channels would be mid/side
abbrev together : List ℤ
together = pos 100 ∷ pos 100 ∷ pos 0 ∷ negsuc 99 ∷ negsuc 99 ∷ pos 0 ∷ []

-- two frames of eight channels: each goes from one end of 32 bits to the other
abbrev ends : List ℤ
ends = joined (λ k. bottom ∷ top ∷ []) 4 ++ joined (λ k. top ∷ bottom ∷ []) 4

abbrev silent : PcmSpec
silent = record { channels = 8; bits_per_sample = 32; sample_rate = 0 }

pub record EightChannels : Type 0 where
  -- 30: 1 to 8 channels, 8, 16, 24 and 32 bits, a rate
  pub one_channel : said (check_encode (pcm 1 8) Auto []) ≡ 0
  pub eight_channels : said (check_encode (pcm 8 32) Auto []) ≡ 0
  pub no_channel : said (check_encode (pcm 0 32) MidSide (top ∷ [])) ≡ 30
  pub nine_channels : said (check_encode (pcm 9 32) MidSide (top ∷ [])) ≡ 30
  pub depth_0 : said (check_encode (pcm 8 0) MidSide (top ∷ [])) ≡ 30
  pub depth_7 : said (check_encode (pcm 8 7) MidSide (top ∷ [])) ≡ 30
  pub depth_12 : said (check_encode (pcm 8 12) MidSide (top ∷ [])) ≡ 30
  pub depth_33 : said (check_encode (pcm 8 33) MidSide (top ∷ [])) ≡ 30
  pub no_rate : said (check_encode silent MidSide (top ∷ [])) ≡ 30
  -- then 31, 32, 34 and 35
  pub half_frame : said (check_encode (pcm 8 8) MidSide (replicate 7 top)) ≡ 31
  pub above_8 : said (check_encode (pcm 1 8) MidSide (pos 128 ∷ [])) ≡ 32
  pub below_8 : said (check_encode (pcm 8 8) MidSide (replicate 8 (negsuc 128))) ≡ 32
  pub limits_8 : said (check_encode (pcm 1 8) Auto (pos 127 ∷ negsuc 127 ∷ [])) ≡ 0
  pub limits_32 : said (check_encode (pcm 8 32) Auto ends) ≡ 0
  pub three_mid : said (check_encode (pcm 3 32) MidSide []) ≡ 34
  pub three_mid_after : said (check_encode (pcm 3 8) MidSide (pos 0 ∷ pos 0 ∷ pos 128 ∷ [])) ≡ 32
  pub ends_differ : said (check_encode (pcm 2 32) MidSide (bottom ∷ top ∷ [])) ≡ 35
  pub ends_agree : said (check_encode (pcm 2 32) MidSide (bottom ∷ top_1 ∷ [])) ≡ 0
  -- re-encoding keeps its limits
  pub three_again : said (check_reencode (pcm 3 16) [] []) ≡ 30
  pub eight_bits_again : said (check_reencode (pcm 1 8) [] []) ≡ 30
  pub thirty_two_again : said (check_reencode (pcm 2 32) [] []) ≡ 30
  pub twenty_four_again : said (check_reencode (pcm 2 24) [] []) ≡ 1
  -- differences wrap, and the width is that of the wrapped number
  pub wrapped : differences (top ∷ bottom ∷ []) ≡ pos 1 ∷ pos 0 ∷ []
  pub wrapped_down : differences (bottom ∷ top ∷ []) ≡ negsuc 0 ∷ pos 0 ∷ []
  pub wrapped_width : least_width (differences (top ∷ bottom ∷ [])) ≡ 2
  pub wrapped_bits : bits_of (two 32 top bottom) ≡ pos 2
  pub wrapped_length : encode_of (pcm 1 32) Auto (top ∷ bottom ∷ []) 272 ≡ wrote 272
  pub widest : bits_of (two 32 (pos 0) (pos 1073741823)) ≡ pos 31
  pub raw_32 : bits_of (two 32 (pos 0) (pos 1073741824)) ≡ negsuc 31
  pub raw_32_length : length (two 32 (pos 0) (pos 1073741824)) ≡ 2064
  pub narrow : length (two 8 (pos 0) (pos 63)) ≡ 464
  pub raw_8 : bits_of (two 8 (pos 0) (pos 64)) ≡ negsuc 7
  pub raw_8_length : length (two 8 (pos 0) (pos 64)) ≡ 528
  -- mid and side are halves of the exact sum and difference
  pub high_mid : mid top bottom+1 ≡ pos 0
  pub high_side : side top bottom+1 ≡ top
  pub low_mid : mid bottom top_1 ≡ negsuc 0
  pub low_side : side bottom top_1 ≡ bottom+1
  pub lowest_mid : mid bottom bottom ≡ bottom
  pub sided : base_of (drop 144 (encoded_group (pcm 2 32) MidSide (top ∷ bottom+1 ∷ []))) ≡ top
  pub sided_back : decodes_to (encoded_file (pcm 2 32) MidSide (bottom ∷ top_1 ∷ [])) (bottom ∷ top_1 ∷ [])
  -- Auto: of three channels, two of them equal, none is mid/side; the same two alone are
  pub three_direct : takes_mid Auto 3 16 together ≡ false
  pub three_same : encoded_group (pcm 3 16) Auto together ≡ encoded_group (pcm 3 16) Direct together
  pub two_taken : takes_mid Auto 2 16 (pos 100 ∷ pos 100 ∷ negsuc 99 ∷ negsuc 99 ∷ []) ≡ true
  pub three_back : decodes_to (encoded_file (pcm 3 16) Auto together) together
  -- eight channels of 32 bits whose differences wrap: eight blocks, there and back; and by the boundary
  pub eight_length : length (encoded_file (pcm 8 32) Auto ends) ≡ 128 + 8 * 144
  pub eight_back : decodes_to (encoded_file (pcm 8 32) Auto ends) ends
  pub eight_hosted : host_encode (joined (λ k. le 4 2147483648) 8) (pcm 8 32) 0 2000 ≡ 128 + 8 * 144
  pub nine_hosted : host_encode (joined (λ k. le 4 2147483648) 9) (pcm 9 32) 0 2000 ≡ 2 ^ 63 + 30

pub eight_channels_cases : EightChannels
unfolding document_01
eight_channels_cases =
    record {
      one_channel = refl;
      eight_channels = refl;
      no_channel = refl;
      nine_channels = refl;
      depth_0 = refl;
      depth_7 = refl;
      depth_12 = refl;
      depth_33 = refl;
      no_rate = refl;
      half_frame = refl;
      above_8 = refl;
      below_8 = refl;
      limits_8 = refl;
      limits_32 = refl;
      three_mid = refl;
      three_mid_after = refl;
      ends_differ = refl;
      ends_agree = refl;
      three_again = refl;
      eight_bits_again = refl;
      thirty_two_again = refl;
      twenty_four_again = refl;
      wrapped = refl;
      wrapped_down = refl;
      wrapped_width = refl;
      wrapped_bits = refl;
      wrapped_length = refl;
      widest = refl;
      raw_32 = refl;
      raw_32_length = refl;
      narrow = refl;
      raw_8 = refl;
      raw_8_length = refl;
      high_mid = refl;
      high_side = refl;
      low_mid = refl;
      low_side = refl;
      lowest_mid = refl;
      sided = refl;
      sided_back = refl;
      three_direct = refl;
      three_same = refl;
      two_taken = refl;
      three_back = refl;
      eight_length = refl;
      eight_back = refl;
      eight_hosted = refl;
      nine_hosted = refl;
    }
