-- Cases of decoding, each by computation: document 01's order of checks, its unstarred cases, and the traps.
use Prim.Native.Nat.{ℕ, ◌*◌}
use mathlib.Core.Path.{◌≡◌, refl}
use mathlib.Core.List.{List, [], ◌∷◌, ◌++◌}
use lib.ListN.{replicate}
use lib.IntN.{ℤ, pos, negsuc}
use Rattle.format.specs.Refusals.{No, nowhere}
use Rattle.format.specs.Answers.{refused_by, read}
use Rattle.format.specs.Packed.{packing}
use Rattle.format.specs.Decoding.{check_decode, decode_of, decode_into}
use Rattle.format.specs.Encoding.{block_bytes}
use Rattle.format.specs.declared.refusals.Refusal.TheVariants.{BitsWord, BytesLeft, OutputTooShort}
use Rattle.format.proofs.Made.{document_01, decodes_to, said, said_at, block, laid, changed, five}

abbrev small : List ℕ
small = block_bytes (pos 7) (pos 1) 0 (replicate 64 255)

-- mono, 513 frames: a good first group, and this second one
abbrev second : List ℕ → List ℕ
second g = laid 1 16 513 [] (small ∷ g ∷ []) []

-- one mono frame at this depth, of this block; one stereo frame of these two
abbrev mono : ℕ → List ℕ → List ℕ
mono depth b = laid 1 depth 1 [] (b ∷ []) []

abbrev stereo : ℕ → List ℕ → List ℕ → List ℕ
stereo depth a b = laid 2 depth 1 [] ((a ++ b) ∷ []) []

-- raw at 32 bits: this value, then zeros
abbrev raw : ℕ → ℤ → List ℕ
raw flags z = block_bytes (pos 0) (negsuc 31) flags (packing 32 (z ∷ replicate 511 (pos 0)))

-- raw at the depth's own width, which b bits are
abbrev at_depth : ℕ → List ℕ
at_depth b = block_bytes (pos 9) (pos 0) 0 (replicate (64 * b) 0x81)

pub record Decodings : Type 0 where
  -- in a block: 1 (header), 3, 20, 21, 4, 1 (values), then 22; each with its group and channel
  pub header : said_at (check_decode (stereo 16 (block_bytes (pos 0) (pos 3) 0 (replicate 192 0)) (replicate 10 0))) ≡ 1 ∷ 0 ∷ 1 ∷ []
  pub mark : said_at (check_decode (second (changed 0 1 0 (block_bytes (pos 0) (pos 33) 3 (replicate 64 0))))) ≡ 3 ∷ 1 ∷ 0 ∷ []
  pub float : said_at (check_decode (second (block_bytes (pos 0) (pos 33) 3 (replicate 64 0)))) ≡ 20 ∷ 1 ∷ 0 ∷ []
  pub alone : said_at (check_decode (second (block_bytes (pos 0) (pos 33) 1 (replicate 64 0)))) ≡ 21 ∷ 1 ∷ 0 ∷ []
  pub word : check_decode (second (block_bytes (pos 0) (pos 33) 0 (replicate 64 0))) ≡ No (BitsWord (pos 33)) (block 1 0)
  pub word_below : check_decode (second (block_bytes (pos 0) (negsuc 32) 0 (replicate 64 0))) ≡ No (BitsWord (negsuc 32)) (block 1 0)
  pub word_lowest : check_decode (second (block_bytes (pos 0) (negsuc 32767) 0 (replicate 64 0))) ≡ No (BitsWord (negsuc 32767)) (block 1 0)
  pub values : said_at (check_decode (second (block_bytes (pos 0) (pos 3) 0 (replicate 64 0)))) ≡ 1 ∷ 1 ∷ 0 ∷ []
  pub left_over : said_at (check_decode (second (block_bytes (pos 0) (pos 1) 0 (replicate 65 0)))) ≡ 22 ∷ 1 ∷ 0 ∷ []
  -- groups in order, and in a group its channels
  pub first_group : said_at (check_decode (laid 1 16 513 [] ((small ++ (0 ∷ [])) ∷ changed 0 1 0 small ∷ []) [])) ≡ 22 ∷ 0 ∷ 0 ∷ []
  pub first_channel : said_at (check_decode (stereo 16 (block_bytes (pos 0) (pos 33) 0 (replicate 64 0)) (changed 0 1 0 small))) ≡ 4 ∷ 0 ∷ 0 ∷ []
  -- 20 both ways; all four bytes of the mark; width 32 is read
  pub float_then_pcm : said_at (check_decode (laid 1 16 513 [] (changed 10 2 2 small ∷ small ∷ []) [])) ≡ 20 ∷ 1 ∷ 0 ∷ []
  pub mark_4 : said (check_decode (second (changed 3 1 0 small))) ≡ 3
  pub bits_32 : decodes_to (laid 1 16 2 [] (block_bytes (pos 1) (pos 32) 0 (packing 32 (pos 2147483647 ∷ replicate 511 (pos 0))) ∷ []) []) (pos 1 ∷ negsuc 2147483647 ∷ [])
  -- a first block with bits 33 opens, and decoding refuses 4; a group of 80 bytes: width 1 is read
  pub bits_33 : said (check_decode (mono 16 (block_bytes (pos 0) (pos 33) 0 (replicate 64 0)))) ≡ 4
  pub group_80 : decodes_to (mono 16 small) (pos 7 ∷ [])
  -- 1 is against the group's end, not the file's
  pub group_end : said (check_decode (laid 1 16 1 [] (block_bytes (pos 0) (pos 2) 0 (replicate 64 0) ∷ []) (replicate 64 0))) ≡ 1
  -- only the first channel's bit 0 decides; mid/side is for two channels; other bits are ignored
  pub first_decides : decodes_to (stereo 32 (raw 0 (pos 9)) (raw 1 (pos 2))) (pos 9 ∷ pos 2 ∷ [])
  pub first_mid : decodes_to (stereo 32 (raw 1 (pos 9)) (raw 0 (pos 2))) (pos 11 ∷ pos 7 ∷ [])
  pub later_bit : said (check_decode (laid 3 16 1 [] ((small ++ (changed 10 2 1 small ++ small)) ∷ []) [])) ≡ 0
  pub three_mid : said_at (check_decode (laid 3 16 1 [] ((changed 10 2 1 small ++ (small ++ small)) ∷ []) [])) ≡ 21 ∷ 0 ∷ 0 ∷ []
  pub other_bits : said (check_decode (mono 16 (changed 10 2 0xFFFC small))) ≡ 0
  -- bits 0 is raw at the file's depth, whatever the base
  pub depth_8 : decodes_to (mono 8 (at_depth 8)) (negsuc 126 ∷ [])
  pub depth_16 : decodes_to (mono 16 (at_depth 16)) (negsuc 32382 ∷ [])
  pub depth_24 : decodes_to (mono 24 (at_depth 24)) (negsuc 8289918 ∷ [])
  pub depth_32 : decodes_to (mono 32 (at_depth 32)) (negsuc 2122219134 ∷ [])
  -- differences of −1 from the lowest number wrap; no sample is held to the depth
  pub one_bit : decodes_to (laid 1 16 3 [] (block_bytes (negsuc 2147483647) (pos 1) 0 (replicate 64 255) ∷ []) []) (negsuc 2147483647 ∷ pos 2147483647 ∷ pos 2147483646 ∷ [])
  pub any_number : decodes_to (mono 16 (raw 0 (pos 2147483647))) (pos 2147483647 ∷ [])
  -- mid and side both −2147483648, raw at 32: read as 0, 0
  pub lowest_pair : decodes_to (stereo 16 (raw 1 (negsuc 2147483647)) (raw 0 (negsuc 2147483647))) (pos 0 ∷ pos 0 ∷ [])
  -- 50 comes last; a refusal changes nothing, and what lies after the samples stays
  pub room_enough : decode_of five 1 ≡ read 1
  pub room_short : decode_of five 0 ≡ refused_by OutputTooShort nowhere
  pub room_stereo : decode_of (stereo 32 (raw 0 (pos 9)) (raw 0 (pos 2))) 1 ≡ refused_by OutputTooShort nowhere
  pub room_stereo_enough : decode_of (stereo 32 (raw 0 (pos 9)) (raw 0 (pos 2))) 2 ≡ read 2
  pub room_last : decode_of (second (block_bytes (pos 0) (pos 1) 0 (replicate 65 0))) 0 ≡ refused_by BytesLeft (block 1 0)
  pub kept : decode_into (second (block_bytes (pos 0) (pos 1) 0 (replicate 65 0))) (pos 1 ∷ pos 2 ∷ []) ≡ pos 1 ∷ pos 2 ∷ []
  pub after : decode_into five (pos 1 ∷ pos 2 ∷ []) ≡ pos 5 ∷ pos 2 ∷ []

pub decodings : Decodings
unfolding document_01
decodings =
    record {
      header = refl;
      mark = refl;
      float = refl;
      alone = refl;
      word = refl;
      word_below = refl;
      word_lowest = refl;
      values = refl;
      left_over = refl;
      first_group = refl;
      first_channel = refl;
      float_then_pcm = refl;
      mark_4 = refl;
      bits_32 = refl;
      bits_33 = refl;
      group_80 = refl;
      group_end = refl;
      first_decides = refl;
      first_mid = refl;
      later_bit = refl;
      three_mid = refl;
      other_bits = refl;
      depth_8 = refl;
      depth_16 = refl;
      depth_24 = refl;
      depth_32 = refl;
      one_bit = refl;
      any_number = refl;
      lowest_pair = refl;
      room_enough = refl;
      room_short = refl;
      room_stereo = refl;
      room_stereo_enough = refl;
      room_last = refl;
      kept = refl;
      after = refl;
    }
