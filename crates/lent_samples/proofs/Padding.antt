-- Padding, as a loop comes to it.
use mathlib.Core.Path.{◌≡◌, refl, sym, ap, ap₂, ◌∙◌}
use mathlib.Core.List.{List, [], ◌∷◌, ◌++◌, append_assoc, append-nil}
use Prim.Native.Nat.{ℕ, suc, ◌+◌, ◌-◌, ◌<◌, ◌≤◌}
use native.Mathlib.Omega.{arith}
use native.Mathlib.Numerals.{add-one}
use lib.IntN.{ℤ, pos}
use lib.ListN.{length, get_or, set, take, replicate, length-set, replicate-append-replicate}
use lib.Seq.{take-suc, take-set-le, take_all, length-take-le, get_or-take, get_or-set_same}
use Rattle.format.specs.Lists.{last_or}
use Rattle.format.specs.Encoding.{padded}

module _ {A : Type 0} where
  pub last_at : (d z : A) (xs : List A) → 0 < length xs → last_or d xs ≡ get_or xs (length xs - 1) z
  unfolding last_or
  last_at d z [] h = absurd (omega arith)
  last_at d z (x ∷ []) h = refl
  last_at d z (x ∷ y ∷ l) h =
      let e : length (x ∷ y ∷ l) - 1 ≡ suc (length (y ∷ l) - 1) = omega arith in
      last_at x z (y ∷ l) (omega arith) ∙ ap (λ (k : ℕ). get_or (x ∷ y ∷ l) k z) (sym e)

  pub pad_none : (run : List A) (n : ℕ) (v : A) → take n run ≡ take n run ++ replicate (n - n) v
  pad_none run n v = let e : n - n ≡ 0 = omega arith in rw (e, append-nil)

  -- one place more is padded
  pub pad_turn : (out front : List A) (n k : ℕ) (v : A) → n ≤ k → k < length out → take k out ≡ front ++ replicate (k - n) v
      → take (k + 1) (set out k v) ≡ front ++ replicate (k + 1 - n) v
  pad_turn out front n k v g h e =
      let j : k - n + 1 ≡ k + 1 - n = omega arith in
      ap (λ (m : ℕ). take m (set out k v)) (add-one k)
      ∙ take-suc (set out k v) k v (omega (arith, length-set out k v))
      ∙ ap₂ (λ (xs : List A) (x : A). xs ++ (x ∷ [])) (take-set-le k out k v (omega arith) ∙ e) (get_or-set_same out k v v h)
      ∙ append_assoc front (replicate (k - n) v) (v ∷ [])
      ∙ ap (λ (xs : List A). front ++ xs) (replicate-append-replicate (k - n) 1 v ∙ ap (λ (m : ℕ). replicate m v) j)

pub pad_done : (run out : List ℤ) (n k : ℕ) (v : ℤ) → 0 < n → n ≤ length run → length out ≡ 512 → k ≡ 512 → v ≡ get_or run (n - 1) (pos 0)
    → take k out ≡ take n run ++ replicate (k - n) v → out ≡ padded (take n run)
unfolding padded
pad_done run out n k v g h l m e q =
    let long : length (take n run) ≡ n = length-take-le n run h in
    let last : v ≡ last_or (pos 0) (take n run) = e ∙ sym (last_at (pos 0) (pos 0) (take n run) (omega (arith, long)) ∙ ap (λ (j : ℕ). get_or (take n run) (j - 1) (pos 0)) long ∙ get_or-take n run (n - 1) (pos 0) (omega arith)) in
    let rest : k - n ≡ 512 - length (take n run) = omega (arith, long) in
    sym (take_all k out (omega arith)) ∙ q ∙ ap₂ (λ (j : ℕ) (x : ℤ). take n run ++ replicate j x) rest last
