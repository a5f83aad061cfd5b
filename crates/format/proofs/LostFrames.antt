-- Document 02, L5: NaNs in float mid/side, each case by computation. Left and right of the patterns of mid and side.
use Prim.Native.Nat.{ℕ}
use mathlib.Core.Path.{◌≡◌, refl}
use mathlib.Core.List.{List, [], ◌∷◌, ◌++◌}
use lib.ListN.{replicate}
use lib.IntN.{pos}
use Rattle.format.specs.Walking.{step_into}
use Rattle.format.specs.FewFrames.{read_frames_into}
use Rattle.format.specs.Boundary.{host_decode_into, host_read_frames_into}
use Rattle.format.proofs.Made.{document_01, bits, both, float_pair, decodes_to}

-- a file of one lost frame: mid is a negative signalling NaN, side is 1.0
abbrev lost : List ℕ
lost = float_pair 3 0xFF81_2345 0x3F80_0000

pub record LostFrames : Type 0 where
  -- one is a NaN: its bits go on, to the left and to the right
  pub quiet_mid : both 0x7FC1_2345 0x3F80_0000 ≡ bits 0x7FC1_2345 0x7FC1_2345
  pub quiet_side : both 0x3F80_0000 0x7FC1_2345 ≡ bits 0x7FC1_2345 0x7FC1_2345
  -- a signalling one comes out quiet
  pub signalling_mid : both 0x7F80_0001 0x0000_0000 ≡ bits 0x7FC0_0001 0x7FC0_0001
  pub signalling_side : both 0x0000_0000 0x7F80_0001 ≡ bits 0x7FC0_0001 0x7FC0_0001
  -- the sign is kept, the side's in the difference too
  pub negative_mid : both 0xFF81_2345 0x8000_0000 ≡ bits 0xFFC1_2345 0xFFC1_2345
  pub negative_side : both 0x8000_0001 0xFFC1_2345 ≡ bits 0xFFC1_2345 0xFFC1_2345
  -- every bit is kept: all of them, all but the quiet one, the least
  pub all_bits : both 0xFFFF_FFFF 0x3F80_0000 ≡ bits 0xFFFF_FFFF 0xFFFF_FFFF
  pub all_but_quiet : both 0x3F80_0000 0xFFBF_FFFF ≡ bits 0xFFFF_FFFF 0xFFFF_FFFF
  pub least : both 0x0000_0001 0x7FC0_0000 ≡ bits 0x7FC0_0000 0x7FC0_0000
  -- beside an infinity
  pub mid_and_infinity : both 0xFF80_0001 0x7F80_0000 ≡ bits 0xFFC0_0001 0xFFC0_0001
  pub infinity_and_side : both 0xFF80_0000 0x7FC0_0009 ≡ bits 0x7FC0_0009 0x7FC0_0009
  -- both are: mid's, whichever of them is quiet, and whatever their signs
  pub two_quiet : both 0xFFC0_0007 0x7FC0_0009 ≡ bits 0xFFC0_0007 0xFFC0_0007
  pub two_signalling : both 0x7F80_0007 0xFF80_0009 ≡ bits 0x7FC0_0007 0x7FC0_0007
  pub quiet_and_signalling : both 0x7FC0_0007 0x7F80_0009 ≡ bits 0x7FC0_0007 0x7FC0_0007
  pub signalling_and_quiet : both 0x7F80_0007 0x7FC0_0009 ≡ bits 0x7FC0_0007 0x7FC0_0007
  -- neither is, and the result is one: positive, whatever the infinities' signs
  pub infinities : both 0x7F80_0000 0x7F80_0000 ≡ bits 0x7F80_0000 0x7FC0_0000
  pub unlike_infinities : both 0x7F80_0000 0xFF80_0000 ≡ bits 0x7FC0_0000 0x7F80_0000
  pub negative_infinities : both 0xFF80_0000 0xFF80_0000 ≡ bits 0xFF80_0000 0x7FC0_0000
  pub last_infinities : both 0xFF80_0000 0x7F80_0000 ≡ bits 0x7FC0_0000 0xFF80_0000
  -- the patterns next to the NaNs are none
  pub largest : both 0x7F7F_FFFF 0x0000_0000 ≡ bits 0x7F7F_FFFF 0x7F7F_FFFF
  pub infinite : both 0x0000_0000 0xFF80_0000 ≡ bits 0xFF80_0000 0x7F80_0000
  -- in files: read whole, a few frames of it, a step, at the boundary
  pub file : decodes_to lost (bits 0xFFC1_2345 0xFFC1_2345)
  pub range : read_frames_into lost (record { 0 = 0 }) (record { 0 = 1 }) (replicate 3 (pos 7)) ≡ bits 0xFFC1_2345 0xFFC1_2345 ++ (pos 7 ∷ [])
  pub step : step_into lost 0 (replicate 3 (pos 7)) ≡ bits 0xFFC1_2345 0xFFC1_2345 ++ (pos 7 ∷ [])
  pub host : host_decode_into lost (replicate 9 7) ≡ 0x45 ∷ 0x23 ∷ 0xC1 ∷ 0xFF ∷ 0x45 ∷ 0x23 ∷ 0xC1 ∷ 0xFF ∷ 7 ∷ []
  pub host_range : host_read_frames_into lost (record { 0 = 0 }) (record { 0 = 1 }) (replicate 9 7) ≡ host_decode_into lost (replicate 9 7)
  -- direct, the patterns stay as they are
  pub direct : decodes_to (float_pair 2 0x7F80_0001 0xFF80_0001) (bits 0x7F80_0001 0xFF80_0001)

pub lost_frames : LostFrames
unfolding document_01
lost_frames =
    record {
      quiet_mid = refl;
      quiet_side = refl;
      signalling_mid = refl;
      signalling_side = refl;
      negative_mid = refl;
      negative_side = refl;
      all_bits = refl;
      all_but_quiet = refl;
      least = refl;
      mid_and_infinity = refl;
      infinity_and_side = refl;
      two_quiet = refl;
      two_signalling = refl;
      quiet_and_signalling = refl;
      signalling_and_quiet = refl;
      infinities = refl;
      unlike_infinities = refl;
      negative_infinities = refl;
      last_infinities = refl;
      largest = refl;
      infinite = refl;
      file = refl;
      range = refl;
      step = refl;
      host = refl;
      host_range = refl;
      direct = refl;
    }
