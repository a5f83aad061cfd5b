-- Cases of re-encoding, each by computation: document 01's order of checks, its unstarred case, and the traps.
use Prim.Native.Nat.{ℕ}
use mathlib.Core.Path.{◌≡◌, refl}
use mathlib.Core.List.{List, [], ◌∷◌, ◌++◌}
use lib.ListN.{take, replicate}
use lib.IntN.{ℤ, pos, negsuc}
use Rattle.format.specs.Refusals.{No, nowhere}
use Rattle.format.specs.Answers.{refused_by, wrote}
use Rattle.format.specs.Packed.{packing}
use Rattle.format.specs.Encoding.{block_bytes, encoded_file}
use Rattle.format.specs.Reencoding.{check_reencode, reencoded_file, reencode_of, reencode_into}
use Rattle.format.specs.declared.refusals.Place.{Place}
use Rattle.format.specs.declared.refusals.Refusal.TheVariants.{BitsWord, WidthTooSmall, OutputTooShort}
use Rattle.format.specs.declared.settings.StereoMode.TheVariants.{MidSide}
use Rattle.format.proofs.Made.{document_01, decodes_to, reencodes_to, said, said_after, pcm, laid, changed, five, block}

-- the number that re-encoding says for mono samples, for a stereo frame
abbrev mono : List ℤ → List ℕ → ℕ
mono s t = said (check_reencode (pcm 1 16) s t)

abbrev stereo : ℤ → ℤ → List ℕ → ℕ
stereo l r t = said (check_reencode (pcm 2 16) (l ∷ r ∷ []) t)

-- it refuses 36 with the place k of the block at that place
abbrev misfits : ℕ → List ℤ → List ℕ → Place → ℕ → Type 0
misfits channels s t at k = check_reencode (pcm channels 16) s t ≡ No (WidthTooSmall k) at

-- a template of one mono frame whose group is g; of one stereo frame whose blocks are a and b
abbrev one : List ℕ → List ℕ
one g = laid 1 16 1 [] (g ∷ []) []

abbrev both : List ℕ → List ℕ → List ℕ
both a b = laid 2 16 1 [] ((a ++ b) ∷ []) []

-- differences at width 2; raw at width 32, with a padding of its own or of 3
abbrev small : ℕ → List ℕ
small flags = block_bytes (pos 5) (pos 2) flags (replicate 128 0)

abbrev raw_then : ℤ → ℕ → ℤ → List ℕ
raw_then padding flags z = block_bytes (pos 77) (negsuc 31) flags (packing 32 (z ∷ replicate 511 padding))

abbrev raw : ℕ → ℤ → List ℕ
raw = raw_then (pos 3)

-- mid and side both −2147483648
abbrev lowest : List ℕ
lowest = both (raw_then (pos 3) 1 (negsuc 2147483647)) (raw_then (pos 3) 0 (negsuc 2147483647))

-- twelve zeros, but for the flags
abbrev twelve : ℕ → List ℕ
twelve flags = changed 10 2 flags (replicate 12 0)

-- raw at width 1
abbrev bit : List ℕ
bit = block_bytes (pos 5) (negsuc 0) 0 (replicate 64 0)

-- two groups of 80 bytes: 513 mono frames, table at 120, data at 132
abbrev two_groups : List ℕ
two_groups = laid 1 16 513 [] (bit ∷ bit ∷ []) []

abbrev zeros : List ℤ
zeros = replicate 513 (pos 0)

-- three mid/side frames: mid 4 and side −1, differences at width 2
abbrev sides : List ℕ
sides = encoded_file (pcm 2 16) MidSide (pos 3 ∷ pos 5 ∷ pos 3 ∷ pos 5 ∷ pos 3 ∷ pos 5 ∷ [])

-- faults of the template five, from the last check to the first
abbrev faults : List (List ℕ → List ℕ)
faults = changed 138 2 1 ∷ changed 120 4 1 ∷ take 271 ∷ changed 12 4 48000 ∷ changed 0 1 0 ∷ take 119 ∷ []

abbrev faulty : List ℕ
faulty = take 119 five

-- differences at width 3: the last is 3, the padding word and the base are any
abbrev worn : List ℕ
worn = changed 12 4 0xDEADBEEF (block_bytes (pos 5) (pos 3) 0 (packing 3 ((pos 1 ∷ replicate 510 (pos 0)) ++ (pos 3 ∷ []))))

abbrev worn_after : List ℕ
worn_after = changed 12 4 0xDEADBEEF (block_bytes (pos 4) (pos 3) 0 (packing 3 ((pos 2 ∷ replicate 510 (pos 0)) ++ (pos 3 ∷ []))))

-- all 512 frames active: differences of 0, and a last one of 3
abbrev full : ℤ → List ℕ
full base = laid 1 16 512 [] (block_bytes base (pos 3) 0 (packing 3 (replicate 511 (pos 0) ++ (pos 3 ∷ []))) ∷ []) []

pub record Reencodings : Type 0 where
  -- 30, 31, 32 before the template's 1, 2, 40, 41, 42, and those before its groups: each fault more is found before
  -- all that were there
  pub spec : said (check_reencode (pcm 3 16) (pos 40000 ∷ []) faulty) ≡ 30
  pub frame : said (check_reencode (pcm 2 16) (pos 40000 ∷ []) faulty) ≡ 31
  pub value : said (check_reencode (pcm 1 16) (pos 40000 ∷ []) faulty) ≡ 32
  pub order : said_after (check_reencode (pcm 1 16) (pos 5 ∷ [])) faults five ≡ 0 ∷ 34 ∷ 42 ∷ 41 ∷ 40 ∷ 2 ∷ 1 ∷ []
  -- 40: channels, depth, frames too
  pub channels : said (check_reencode (pcm 2 16) (pos 5 ∷ pos 5 ∷ []) five) ≡ 40
  pub depth : said (check_reencode (pcm 1 24) (pos 5 ∷ []) five) ≡ 40
  pub frames : mono (pos 5 ∷ pos 5 ∷ []) five ≡ 40
  pub rate_0 : mono (pos 5 ∷ []) (changed 12 4 0 five) ≡ 40
  pub depth_8 : mono (pos 5 ∷ []) (changed 10 2 8 five) ≡ 40
  -- 41: table offset, data offset, their distance
  pub table_119 : mono (pos 5 ∷ []) (changed 20 4 119 five) ≡ 41
  pub data_before : mono (pos 5 ∷ []) (changed 24 4 119 five) ≡ 41
  pub distance : mono (pos 5 ∷ []) (changed 24 4 132 five) ≡ 41
  -- 42: strictly rising from 0 to the data size, in an empty file too
  pub last_entry : mono (pos 5 ∷ []) (changed 124 4 143 five) ≡ 42
  pub empty_group : mono zeros (changed 124 4 0 two_groups) ≡ 42
  pub falling : mono zeros (changed 124 4 161 two_groups) ≡ 42
  pub no_frames : mono [] (changed 120 4 9 (changed 28 4 9 (laid 1 16 0 [] [] (replicate 9 0)))) ≡ 42
  pub none : mono [] (laid 1 16 0 [] [] []) ≡ 0
  -- 43 under 12 bytes; the flags are looked at before 1 and 3
  pub eleven_mid : mono (pos 5 ∷ []) (one (changed 10 1 1 (replicate 11 0))) ≡ 43
  pub eleven : mono (pos 5 ∷ []) (one (replicate 11 0)) ≡ 43
  pub twelve_plain : mono (pos 5 ∷ []) (one (twelve 0)) ≡ 1
  pub twelve_mid : mono (pos 5 ∷ []) (one (twelve 1)) ≡ 34
  pub mark_mid : mono (pos 5 ∷ []) (one (changed 0 1 0 (small 1))) ≡ 34
  pub mark : mono (pos 5 ∷ []) (one (changed 0 1 0 (block_bytes (pos 0) (pos 0) 2 []))) ≡ 3
  pub flags_3_odd : stereo (pos 5) (pos 6) (both (small 3) (small 0)) ≡ 35
  pub flags_3_even : stereo (pos 5) (pos 5) (both (small 3) (small 0)) ≡ 45
  -- 44 before 45 before 4 before 1 (values); 46 after the channels
  pub bits_0 : mono (pos 5 ∷ []) (one (block_bytes (pos 5) (pos 0) 2 [])) ≡ 44
  pub bits_1 : mono (pos 5 ∷ []) (one (block_bytes (pos 5) (pos 1) 2 [])) ≡ 44
  pub flags_2 : mono (pos 5 ∷ []) (one (block_bytes (pos 5) (pos 33) 2 [])) ≡ 45
  pub word : check_reencode (pcm 1 16) (pos 5 ∷ []) (one (block_bytes (pos 5) (pos 33) 0 [])) ≡ No (BitsWord (pos 33)) (block 0 0)
  pub values : mono (pos 9 ∷ []) (one (block_bytes (pos 5) (pos 2) 0 (replicate 127 0))) ≡ 1
  pub does_not_fit : mono (pos 9 ∷ []) (one (small 0 ++ (0 ∷ []))) ≡ 36
  pub left_over : mono (pos 5 ∷ []) (one (small 0 ++ (0 ∷ []))) ≡ 46
  -- in a group the channels in order, each with its 36; then the next group
  pub first_channel : stereo (pos 9) (pos 5) (both (small 0) (changed 0 1 0 (small 0))) ≡ 36
  pub first_group : mono zeros (laid 1 16 513 [] ((bit ++ (0 ∷ [])) ∷ changed 0 1 0 bit ∷ []) []) ≡ 46
  -- the difference from the last active to the first padded sample is determined by the samples
  pub four : mono (pos 4 ∷ []) five ≡ 0
  pub six : mono (pos 6 ∷ []) five ≡ 0
  pub seven : mono (pos 7 ∷ []) five ≡ 0
  pub three : mono (pos 3 ∷ []) five ≡ 36
  pub four_back : decodes_to (reencoded_file (pos 4 ∷ []) five) (pos 4 ∷ [])
  -- bits −1 is accepted: raw at width 1
  pub minus_1 : mono zeros two_groups ≡ 0
  -- what stays: the padding word, the padded samples, the last difference; the base of a raw block
  pub stays : reencodes_to 1 (pos 4 ∷ []) (one worn) (one worn_after)
  pub last_stays : reencodes_to 1 (replicate 512 (pos 4)) (full (pos 5)) (full (pos 4))
  pub raw_stays : reencodes_to 1 (pos 9 ∷ []) (one (raw 0 (pos 1))) (one (raw 0 (pos 9)))
  -- the second block's flag stays and decides nothing; the other signature stays; bytes around stay
  pub second_flag : reencodes_to 2 (pos 4 ∷ pos 6 ∷ []) (both (raw 0 (pos 1)) (raw 1 (pos 2))) (both (raw 0 (pos 4)) (raw 1 (pos 6)))
  pub signature_30 : reencodes_to 1 (pos 5 ∷ []) (changed 4 1 0x30 five) (changed 4 1 0x30 five)
  pub unknown_bytes : reencodes_to 1 (pos 4 ∷ []) (changed 40 4 0xABCDEF01 five) (changed 40 4 0xABCDEF01 (reencoded_file (pos 4 ∷ []) five))
  pub around : reencodes_to 1 (pos 5 ∷ []) (laid 1 16 1 (1 ∷ 2 ∷ []) (small 0 ∷ []) (3 ∷ [])) (laid 1 16 1 (1 ∷ 2 ∷ []) (small 0 ∷ []) (3 ∷ []))
  -- mid/side by the first block's flag; parity
  pub pair_back : decodes_to (reencoded_file (pos 4 ∷ pos 6 ∷ []) (encoded_file (pcm 2 16) MidSide (pos 3 ∷ pos 5 ∷ []))) (pos 4 ∷ pos 6 ∷ [])
  pub pair_odd : stereo (pos 4) (pos 5) (encoded_file (pcm 2 16) MidSide (pos 3 ∷ pos 5 ∷ [])) ≡ 35
  -- a template with its own samples is itself, but for a mid/side pair that left 32 bits
  pub same_again : reencodes_to 1 (pos 5 ∷ []) five (five)
  pub lowest_accepted : stereo (pos 0) (pos 0) lowest ≡ 0
  pub lowest_reads : decodes_to lowest (pos 0 ∷ pos 0 ∷ [])
  pub lowest_moves : reencodes_to 2 (pos 0 ∷ pos 0 ∷ []) lowest (both (raw 1 (pos 0)) (raw 0 (pos 0)))
  -- 50: the template's length
  pub room : reencode_of (pcm 1 16) (pos 5 ∷ []) five 272 ≡ wrote 272
  pub room_short : reencode_of (pcm 1 16) (pos 5 ∷ []) five 271 ≡ refused_by OutputTooShort nowhere
  pub room_last : reencode_of (pcm 1 16) (pos 3 ∷ []) five 0 ≡ refused_by (WidthTooSmall 0) (block 0 0)
  pub kept : reencode_into (pcm 1 16) (pos 3 ∷ []) five (replicate 272 7) ≡ replicate 272 7
  pub after : reencode_into (pcm 1 16) (pos 5 ∷ []) five (replicate 273 7) ≡ five ++ (7 ∷ [])
  -- 36 tells the place: of a difference to the sample after it, the last that can miss, and the one to a padded sample
  pub place_difference : misfits 1 (replicate 4 (pos 7) ++ (pos 9 ∷ [])) (laid 1 16 5 [] (small 0 ∷ []) []) (block 0 0) 3
  pub place_510 : misfits 1 (replicate 511 (pos 4) ++ (pos 9 ∷ [])) (full (pos 5)) (block 0 0) 510
  pub place_padded : misfits 1 (pos 3 ∷ []) five (block 0 0) 0
  -- of a raw value
  pub place_raw : misfits 1 (pos 0 ∷ pos 0 ∷ pos 1 ∷ []) (laid 1 16 3 [] (bit ∷ []) []) (block 0 0) 2
  pub place_511 : misfits 1 (replicate 511 (pos 0) ++ (pos 1 ∷ [])) (laid 1 16 512 [] (bit ∷ []) []) (block 0 0) 511
  -- in the second group; in both
  pub place_later : misfits 1 (replicate 512 (pos 0) ++ (pos 1 ∷ [])) two_groups (block 1 0) 0
  pub place_sooner : misfits 1 (replicate 511 (pos 0) ++ (pos 1 ∷ pos 1 ∷ [])) two_groups (block 0 0) 511
  -- the side misses and the mid does not; both do
  pub place_side : misfits 2 (pos 3 ∷ pos 5 ∷ pos 3 ∷ pos 5 ∷ pos 9 ∷ negsuc 0 ∷ []) sides (block 0 1) 1
  pub place_mid : misfits 2 (pos 3 ∷ pos 5 ∷ pos 9 ∷ negsuc 0 ∷ pos 9 ∷ pos 9 ∷ []) sides (block 0 0) 1

pub reencodings : Reencodings
unfolding document_01
reencodings =
    record {
      spec = refl;
      frame = refl;
      value = refl;
      order = refl;
      channels = refl;
      depth = refl;
      frames = refl;
      rate_0 = refl;
      depth_8 = refl;
      table_119 = refl;
      data_before = refl;
      distance = refl;
      last_entry = refl;
      empty_group = refl;
      falling = refl;
      no_frames = refl;
      none = refl;
      eleven_mid = refl;
      eleven = refl;
      twelve_plain = refl;
      twelve_mid = refl;
      mark_mid = refl;
      mark = refl;
      flags_3_odd = refl;
      flags_3_even = refl;
      bits_0 = refl;
      bits_1 = refl;
      flags_2 = refl;
      word = refl;
      values = refl;
      does_not_fit = refl;
      left_over = refl;
      first_channel = refl;
      first_group = refl;
      four = refl;
      six = refl;
      seven = refl;
      three = refl;
      four_back = refl;
      minus_1 = refl;
      stays = refl;
      last_stays = refl;
      raw_stays = refl;
      second_flag = refl;
      signature_30 = refl;
      unknown_bytes = refl;
      around = refl;
      pair_back = refl;
      pair_odd = refl;
      same_again = refl;
      lowest_accepted = refl;
      lowest_reads = refl;
      lowest_moves = refl;
      room = refl;
      room_short = refl;
      room_last = refl;
      kept = refl;
      after = refl;
      place_difference = refl;
      place_510 = refl;
      place_padded = refl;
      place_raw = refl;
      place_511 = refl;
      place_later = refl;
      place_sooner = refl;
      place_side = refl;
      place_mid = refl;
    }
