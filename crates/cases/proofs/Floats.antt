-- Cases of float mid/side, each by computation: left and right of the patterns of mid and side, as IEEE 754 rounds
-- them. Those of NaNs are in format, LostFrames.
use mathlib.Core.Path.{◌≡◌, refl}
use mathlib.Core.List.{[], ◌∷◌}
use lib.ListN.{replicate}
use lib.IntN.{pos}
use Rattle.format.specs.Numbers.{value}
use Rattle.format.specs.Encoding.{block_bytes}
use Rattle.format.proofs.Made.{document_01, bits, both, float_pair, decodes_to, laid}

pub record Floats : Type 0 where
  pub ones : both 0x3F80_0000 0x3F80_0000 ≡ bits 0x4000_0000 0x0000_0000
  -- signed zero
  pub zero_plus : both 0x8000_0000 0x0000_0000 ≡ bits 0x0000_0000 0x8000_0000
  pub zero_minus : both 0x8000_0000 0x8000_0000 ≡ bits 0x8000_0000 0x0000_0000
  -- subnormals are kept
  pub smallest : both 0x0000_0001 0x0000_0001 ≡ bits 0x0000_0002 0x0000_0000
  pub below_normal : both 0x0080_0000 0x0000_0001 ≡ bits 0x0080_0001 0x007F_FFFF
  -- rounded once, to nearest, ties to even
  pub tie_down : both 0x4B80_0000 0x3F80_0000 ≡ bits 0x4B80_0000 0x4B7F_FFFF
  pub tie_up : both 0x4B80_0000 0x4040_0000 ≡ bits 0x4B80_0002 0x4B7F_FFFD
  pub tie_even : both 0x3F80_0001 0x3380_0000 ≡ bits 0x3F80_0002 0x3F80_0000
  -- infinities
  pub overflow : both 0x7F7F_FFFF 0x7F7F_FFFF ≡ bits 0x7F80_0000 0x0000_0000
  pub barely : both 0x7F7F_FFFF 0x7300_0000 ≡ bits 0x7F80_0000 0x7F7F_FFFE
  pub not_yet : both 0x7F7F_FFFF 0x72FF_FFFF ≡ bits 0x7F7F_FFFF 0x7F7F_FFFF
  pub infinite : both 0x7F80_0000 0x3F80_0000 ≡ bits 0x7F80_0000 0x7F80_0000
  -- in files
  pub file : decodes_to (float_pair 3 0x3F80_0000 0x3F80_0000) (bits 0x4000_0000 0x0000_0000)
  -- differences add up on the bit patterns; raw at a depth of 16 the pattern is the sign-extended 16 bits
  pub on_patterns : decodes_to (laid 1 32 2 [] (block_bytes (pos 0x3F80_0000) (pos 1) 2 (replicate 64 255) ∷ []) []) (bits 0x3F80_0000 0x3F7F_FFFF)
  pub depth_16 : decodes_to (laid 1 16 1 [] (block_bytes (pos 0) (pos 0) 2 (replicate 1024 0x81) ∷ []) []) (value 32 0xFFFF_8181 ∷ [])

pub floats : Floats
unfolding document_01
floats =
    record {
      ones = refl;
      zero_plus = refl;
      zero_minus = refl;
      smallest = refl;
      below_normal = refl;
      tie_down = refl;
      tie_up = refl;
      tie_even = refl;
      overflow = refl;
      barely = refl;
      not_yet = refl;
      infinite = refl;
      file = refl;
      on_patterns = refl;
      depth_16 = refl;
    }
