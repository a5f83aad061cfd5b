-- Parts one behind another: one more, and all of them around one.
use Prim.Native.Nat.{ℕ, ◌+◌, ◌-◌, ◌<◌}
use mathlib.Core.Path.{◌≡◌, ap, ◌∙◌}
use mathlib.Core.List.{List, ◌++◌, append_assoc}
use native.Mathlib.Numerals.{add-one}
use native.Mathlib.Omega.{arith}
use Rattle.format.specs.Lists.{joined}
use Rattle.laws.proofs.Parts.{joined_add}

module _ (part : ℕ → List ℕ) where
  pub joined_more : (k : ℕ) → joined part (k + 1) ≡ joined part k ++ part k
  unfolding joined
  joined_more k = ap (joined part) (add-one k)

  pub joined_around : (k n : ℕ) → k < n → joined part n ≡ joined part k ++ (part k ++ joined (λ i. part (k + 1 + i)) (n - (k + 1)))
  joined_around k n l =
      let e : n ≡ k + 1 + (n - (k + 1)) = omega arith in
      ap (joined part) e ∙ joined_add part (k + 1) (n - (k + 1)) ∙ ap (λ (t : List ℕ). t ++ joined (λ i. part (k + 1 + i)) (n - (k + 1))) (joined_more k)
      ∙ append_assoc (joined part k) (part k) (joined (λ i. part (k + 1 + i)) (n - (k + 1)))
