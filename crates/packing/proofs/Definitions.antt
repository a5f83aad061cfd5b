-- The differences, one at a time: the definition, unfolded once.
use Prim.Native.Nat.{ℕ, ◌+◌, ◌<◌, ◌≤◌}
use mathlib.Core.Path.{◌≡◌, ap, ◌∙◌}
use mathlib.Core.List.{List, [], ◌∷◌}
use native.Mathlib.Omega.{arith}
use lib.IntN.{ℤ, pos}
use lib.ListN.{length, get_or, drop, drop_of_length-le}
use Rattle.format.specs.Numbers.{minus}
use Rattle.format.specs.Encoding.{differences}
use Rattle.laws.proofs.Parts.{left_now}

module _ (xs : List ℤ) (i : ℕ) where
  pub difference_now : i + 1 < length xs → differences (drop i xs) ≡ minus (get_or xs (i + 1) (pos 0)) (get_or xs i (pos 0)) ∷ differences (drop (i + 1) xs)
  unfolding differences
  difference_now h =
      let e : drop (i + 1) xs ≡ get_or xs (i + 1) (pos 0) ∷ drop (i + 1 + 1) xs = left_now xs (i + 1) (pos 0) h in
      ap differences (left_now xs i (pos 0) (omega arith)) ∙ rw e

  pub difference_last : i < length xs → length xs ≡ i + 1 → differences (drop i xs) ≡ pos 0 ∷ []
  unfolding differences
  difference_last h e =
      let w : length xs ≤ i + 1 = omega arith in
      ap differences (left_now xs i (pos 0) h ∙ ap (λ (l : List ℤ). get_or xs i (pos 0) ∷ l) (drop_of_length-le xs w))
