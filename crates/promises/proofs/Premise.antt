-- A template that its own samples change, as a sum leaves 32 bits: document 01's mid and side both −2147483648, raw
-- at 32; by computation.
use Prim.Native.Nat.{ℕ}
use mathlib.Core.Path.{◌≡◌, refl, ap}
use mathlib.Core.Bool.{false}
use mathlib.Core.List.{List, [], ◌∷◌, ◌++◌}
use native.Mathlib.Omega.{arith}
use lib.ListN.{length, get_or, replicate}
use lib.IntN.{ℤ, pos, negsuc, ◌+ℤ◌}
use Rattle.format.specs.Numbers.{Below, holds}
use Rattle.format.specs.Header.{fields_of, group_bytes}
use Rattle.format.specs.Packed.{packing}
use Rattle.format.specs.Answers.{read, wrote}
use Rattle.format.specs.Decoding.{decode_of, decode_into}
use Rattle.format.specs.Encoding.{block_bytes}
use Rattle.format.specs.Reencoding.{reencode_of, reencode_into}
use Rattle.format.proofs.Made.{document_01, pcm, laid}
use Rattle.laws.proofs.Marks.{digits_by}
use Rattle.promises.proofs.MidSums.{mid_at, side_at}

-- a block with flags 1 whose first value is −2147483648
abbrev raw : List ℕ
raw = block_bytes (pos 0) (negsuc 31) 1 (packing 32 (negsuc 2147483647 ∷ replicate 511 (pos 0)))

-- two such, as the one group of a stereo file of one frame and 16 bits
abbrev pub lowest : List ℕ
lowest = laid 2 16 1 [] ((raw ++ raw) ∷ []) []

abbrev pub zeros : List ℤ
zeros = pos 0 ∷ pos 0 ∷ []

-- it has all that law three asks but for `NoneLeaves`, and is not kept
pub record Needed : Type 0 where
  -- it is of bytes
  pub of_bytes : Below 256 lowest
  -- it decodes to 0, 0
  pub reads : decode_of lowest 2 ≡ read 2
  pub samples : decode_into lowest (pos 9 ∷ pos 9 ∷ []) ≡ zeros
  -- re-encoding these with it is accepted
  pub accepted : reencode_of (pcm 2 16) zeros lowest (length lowest) ≡ wrote (length lowest)
  -- and gives another file
  pub moves : reencode_into (pcm 2 16) zeros lowest lowest ≡ lowest → ⊥
  -- mid plus side of its frame leaves 32 bits
  pub leaves : holds 32 (mid_at 16 (group_bytes lowest (fields_of lowest) 0) 0 +ℤ side_at 16 (group_bytes lowest (fields_of lowest) 0) 0) ≡ false

pub needed : Needed
unfolding document_01
needed =
    record {
      of_bytes = digits_by 256 (omega arith) lowest refl;
      reads = refl;
      samples = refl;
      accepted = refl;
      moves = λ e. differ (ap (λ (f : List ℕ). get_or f 147 0) e);
      leaves = refl;
    }
  where
    -- the first mid's highest byte
    differ : ◌≡◌ {A = ℕ} 0 128 → ⊥
    differ e = omega arith
