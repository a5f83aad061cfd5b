-- The samples of a whole block, as its coding says.
use Rattle.std.proofs.Common.{◌≡◌, ℕ, ◌-◌, ◌*◌, ◌≤◌, true, List, ℤ, length, take, drop, refl, ◌∙◌, arith, length-drop}
use lib.Seq.{length-take-le}
use Rattle.format.specs.Packed.{width_of, is_beyond, values, rebuilt}
use Rattle.format.specs.Blocks.{coding_of, size_of, decoded}
use Rattle.format.specs.declared.packed.Coding.TheVariants.{Differences, Raw, Beyond}
use Rattle.laws.proofs.Widths.{width_some}
use Rattle.block.specs.Read.{Whole}
use Rattle.block.proofs.Headers.{width_most, base_is, coded}

-- ---- by the coding

pub width_differences : (w : ℕ) → width_of (Differences w) ≡ w
unfolding width_of
width_differences w = refl

pub width_raw : (w : ℕ) → width_of (Raw w) ≡ w
unfolding width_of
width_raw w = refl

pub none_beyond : is_beyond Beyond ≡ true
unfolding is_beyond
none_beyond = refl

module _ (w : ℕ) (base : ℤ) (run : List ℕ) where
  pub decoded_differences : decoded (Differences w) base run ≡ rebuilt base (values w (take (64 * w) run))
  unfolding decoded
  decoded_differences = refl

  pub decoded_raw : decoded (Raw w) base run ≡ values w (take (64 * w) run)
  unfolding decoded
  decoded_raw = refl

-- ---- a block's run

module _ (depth : ℕ) (r : List ℕ) where
  pub run_is : size_of depth r - 16 ≡ 64 * width_of (coding_of depth r)
  unfolding size_of
  run_is = omega arith

  pub size_least : 16 ≤ size_of depth r
  unfolding size_of
  size_least = omega arith

  pub run_length : Whole depth r → (length (take (size_of depth r - 16) (drop 16 r)) ≡ 64 * width_of (coding_of depth r)) × (1 ≤ width_of (coding_of depth r)) × (width_of (coding_of depth r) ≤ 32)
  unfolding coding_of
  run_length whole =
      let long = whole.run in (
        length-take-le (size_of depth r - 16) (drop 16 r) (omega (arith, length-drop 16 r)) ∙ run_is,
        width_some depth _ whole.some whole.known,
        width_most depth _ whole.most,
      )

pub ruleset samples = (size_least, run_is, run_length, base_is, coded, width_differences, width_raw, none_beyond, decoded_differences, decoded_raw)
