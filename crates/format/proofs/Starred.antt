-- Document 01's starred cases: one table under a single theorem, by computation.
use Prim.Native.Nat.{ℕ}
use mathlib.Core.Path.{◌≡◌, refl}
use mathlib.Core.Bool.{false}
use mathlib.Core.List.{List, [], ◌∷◌, ◌++◌}
use lib.ListN.{length, replicate}
use lib.IntN.{ℤ, pos, negsuc}
use Rattle.format.specs.Answers.{refused_by, wrote}
use Rattle.format.specs.Numbers.{value}
use Rattle.format.specs.Header.{fields_of}
use Rattle.format.specs.Packed.{values, packing, rebuilt}
use Rattle.format.specs.Blocks.{bits_of}
use Rattle.format.specs.Refusals.{number, nowhere}
use Rattle.format.specs.Encoding.{padded, padded_channels, differences, least_width, blocks, mid, side, mid_side, takes_mid, encoded_group, encoded_file, encode_of, encode_into}
use Rattle.format.specs.declared.refusals.Refusal.TheVariants.{ParityDiffers}
use Rattle.format.specs.declared.settings.StereoMode.TheVariants.{Auto, MidSide}
use Rattle.format.proofs.Made.{document_01, pcm, five}

-- the whole file: 124 bytes
abbrev empty_file : List ℕ
empty_file =
    (0x01 ∷ 0xA8 ∷ 0x9E ∷ 0xD6 ∷ 0x31 ∷ 0x01 ∷ 0x00 ∷ 0x00 ∷ 0x02 ∷ 0x00 ∷ 0x10 ∷ 0x00 ∷ 0x44 ∷ 0xAC ∷ 0x00 ∷ 0x00 ∷ [])
    ++ ((0x00 ∷ 0x00 ∷ 0x00 ∷ 0x00 ∷ 0x78 ∷ 0x00 ∷ 0x00 ∷ 0x00 ∷ 0x7C ∷ 0x00 ∷ 0x00 ∷ 0x00 ∷ 0x00 ∷ 0x00 ∷ 0x00 ∷ 0x00 ∷ [])
    ++ (replicate 88 0 ++ (0x00 ∷ 0x00 ∷ 0x00 ∷ 0x00 ∷ [])))

-- 272 bytes: the header, the table of two entries, and the block
abbrev five_file : List ℕ
five_file =
    (0x01 ∷ 0xA8 ∷ 0x9E ∷ 0xD6 ∷ 0x31 ∷ 0x01 ∷ 0x00 ∷ 0x00 ∷ 0x01 ∷ 0x00 ∷ 0x10 ∷ 0x00 ∷ 0x44 ∷ 0xAC ∷ 0x00 ∷ 0x00 ∷ [])
    ++ ((0x01 ∷ 0x00 ∷ 0x00 ∷ 0x00 ∷ 0x78 ∷ 0x00 ∷ 0x00 ∷ 0x00 ∷ 0x80 ∷ 0x00 ∷ 0x00 ∷ 0x00 ∷ 0x90 ∷ 0x00 ∷ 0x00 ∷ 0x00 ∷ [])
    ++ (replicate 88 0
    ++ ((0x00 ∷ 0x00 ∷ 0x00 ∷ 0x00 ∷ 0x90 ∷ 0x00 ∷ 0x00 ∷ 0x00 ∷ [])
    ++ ((0x16 ∷ 0x0C ∷ 0x9A ∷ 0x3E ∷ 0x05 ∷ 0x00 ∷ 0x00 ∷ 0x00 ∷ 0x02 ∷ 0x00 ∷ 0x00 ∷ 0x00 ∷ 0x00 ∷ 0x00 ∷ 0x00 ∷ 0x00 ∷ [])
    ++ replicate 128 0))))

-- these values, then zeros to make 512
abbrev then_zeros : List ℤ → ℕ → List ℤ
then_zeros vs n = vs ++ replicate n (pos 0)

abbrev in_2 : List ℤ
in_2 = then_zeros (pos 1 ∷ negsuc 0 ∷ pos 0 ∷ negsuc 1 ∷ []) 508

abbrev in_3 : List ℤ
in_3 = then_zeros (pos 0 ∷ pos 1 ∷ pos 2 ∷ pos 3 ∷ negsuc 3 ∷ negsuc 2 ∷ negsuc 1 ∷ negsuc 0 ∷ []) 504

-- the block of two mono samples at 16 bits
abbrev two : ℤ → ℤ → List ℕ
two a b = encoded_group (pcm 1 16) Auto (a ∷ b ∷ [])

-- a stereo frame
abbrev pair : ℤ → ℤ → List ℤ
pair l r = l ∷ r ∷ []

pub record Starred : Type 0 where
  -- zero frames, stereo, 16 bits, 44,100
  pub none_file : encoded_file (pcm 2 16) Auto [] ≡ empty_file
  pub none_length : encode_of (pcm 2 16) Auto [] 124 ≡ wrote 124
  pub none_into : encode_into (pcm 2 16) Auto [] (replicate 126 0xFF) ≡ empty_file ++ (0xFF ∷ 0xFF ∷ [])
  -- mono 16, one sample 5
  pub five_width : least_width (differences (padded (pos 5 ∷ []))) ≡ 2
  pub five_offset : (fields_of five).start ≡ 128
  pub five_size : (fields_of five).size ≡ 144
  pub five_length : encode_of (pcm 1 16) Auto (pos 5 ∷ []) 272 ≡ wrote 272
  pub five_file_lem : five ≡ five_file
  -- packed values, there and back
  pub pack_2 : packing 2 in_2 ≡ 0x8D ∷ replicate 127 0
  pub unpack_2 : values 2 (0x8D ∷ replicate 127 0) ≡ in_2
  pub pack_3 : packing 3 in_3 ≡ 0x88 ∷ 0xC6 ∷ 0xFA ∷ replicate 189 0
  pub unpack_3 : values 3 (0x88 ∷ 0xC6 ∷ 0xFA ∷ replicate 189 0) ≡ in_3
  -- codes
  pub code_1 : value 1 1 ≡ negsuc 0
  pub code_32 : value 32 0x80000000 ≡ negsuc 2147483647
  -- base 2147483647, difference 1
  pub wraps : rebuilt (pos 2147483647) (pos 1 ∷ pos 0 ∷ []) ≡ pos 2147483647 ∷ negsuc 2147483647 ∷ []
  -- pair (3, 5), pair (3, 4)
  pub pair_mid : mid (pos 3) (pos 5) ≡ pos 4
  pub pair_side : side (pos 3) (pos 5) ≡ negsuc 0
  pub pair_odd : encode_of (pcm 2 16) MidSide (pair (pos 3) (pos 4)) 1000 ≡ refused_by ParityDiffers nowhere
  pub parity_number : number ParityDiffers ≡ 35
  -- pair (−32768, 32766)
  pub far_mid : mid (negsuc 32767) (pos 32766) ≡ negsuc 0
  pub far_side : side (negsuc 32767) (pos 32766) ≡ negsuc 32766
  -- mono 16: 0, 16383 and 0, 16384
  pub step_15 : bits_of (two (pos 0) (pos 16383)) ≡ pos 15
  pub step_15_length : length (two (pos 0) (pos 16383)) ≡ 976
  pub step_raw : bits_of (two (pos 0) (pos 16384)) ≡ negsuc 15
  pub step_raw_length : length (two (pos 0) (pos 16384)) ≡ 1040
  -- pair (5, 5) under Auto
  pub tie_direct : length (blocks 16 0 (padded_channels 2 (pair (pos 5) (pos 5)))) ≡ 288
  pub tie_both : length (blocks 16 1 (mid_side (padded_channels 2 (pair (pos 5) (pos 5))))) ≡ 288
  pub tie : takes_mid Auto 2 16 (pair (pos 5) (pos 5)) ≡ false

pub starred : Starred
unfolding document_01
starred =
    record {
      none_file = refl;
      none_length = refl;
      none_into = refl;
      five_width = refl;
      five_offset = refl;
      five_size = refl;
      five_length = refl;
      five_file_lem = refl;
      pack_2 = refl;
      unpack_2 = refl;
      pack_3 = refl;
      unpack_3 = refl;
      code_1 = refl;
      code_32 = refl;
      wraps = refl;
      pair_mid = refl;
      pair_side = refl;
      pair_odd = refl;
      parity_number = refl;
      far_mid = refl;
      far_side = refl;
      step_15 = refl;
      step_15_length = refl;
      step_raw = refl;
      step_raw_length = refl;
      tie_direct = refl;
      tie_both = refl;
      tie = refl;
    }
