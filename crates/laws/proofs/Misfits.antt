-- The first that fails a test: it lies within the list, all before it pass, and only the first is so. Hence 36 tells
-- k exactly where value k is the first that the width does not hold.
use Prim.Native.Nat.{ℕ, zero, suc, ◌+◌, ◌<◌}
use mathlib.Core.Path.{◌≡◌, refl, ap, ap₂, ◌∙◌}
use mathlib.Core.Bool.{Bool, true, false, not, ◌&&◌, cond}
use mathlib.Core.List.{List, [], ◌∷◌}
use native.Mathlib.Omega.{arith}
use lib.ListN.{length, get_or, drop}
use lib.IntN.{ℤ, pos}
use borrow.Author.Tests.{not-false}
use Rattle.format.specs.Lists.{every, first_not}
use Rattle.format.specs.Numbers.{holds}
use Rattle.format.specs.Refusals.{Fine, No, nowhere, refuse}
use Rattle.format.specs.Fit.{misfit, check_fit}
use Rattle.format.specs.declared.refusals.Refusal.TheVariants.{WidthTooSmall}
use Rattle.laws.proofs.Tests.{never}
use Rattle.laws.proofs.Parts.{left_now}
use Rattle.laws.proofs.Checks.{same_refusal, pass, passed}

-- xs has its first that fails the test at k; d stands for what lies behind a list
pub record FirstNot {A : Type 0} (test : A → Bool) (d : A) (xs : List A) (k : ℕ) : Type 0 where
  pub below : k < length xs
  pub fails : test (get_or xs k d) ≡ false
  pub before : (j : ℕ) → j < k → test (get_or xs j d) ≡ true

module _ {A : Type 0} (test : A → Bool) (d : A) where
  first_below : (xs : List A) → every test xs ≡ false → first_not test xs < length xs
  unfolding every first_not
  first_below [] e = never e
  first_below (x ∷ xs) e = by (test x) e (first_below xs)
    where
      by : (t : Bool) → (t && every test xs) ≡ false → (every test xs ≡ false → first_not test xs < length xs) → cond t (suc (first_not test xs)) 0 < suc (length xs)
      by true e i = let l = i e in omega arith
      by false e i = omega arith

  first_fails : (xs : List A) → every test xs ≡ false → test (get_or xs (first_not test xs) d) ≡ false
  unfolding every first_not
  first_fails [] e = never e
  first_fails (x ∷ xs) e = by (test x) refl e (first_fails xs)
    where
      by : (t : Bool) → test x ≡ t → (t && every test xs) ≡ false → (every test xs ≡ false → test (get_or xs (first_not test xs) d) ≡ false)
          → test (get_or (x ∷ xs) (cond t (suc (first_not test xs)) 0) d) ≡ false
      by true q e i = i e
      by false q e i = q

  first_before : (xs : List A) (j : ℕ) → j < first_not test xs → test (get_or xs j d) ≡ true
  unfolding first_not
  first_before [] j l = absurd (omega arith)
  first_before (x ∷ xs) j l = by (test x) refl j l (first_before xs)
    where
      by : (t : Bool) → test x ≡ t → (j : ℕ) → j < cond t (suc (first_not test xs)) 0 → ((j : ℕ) → j < first_not test xs → test (get_or xs j d) ≡ true)
          → test (get_or (x ∷ xs) j d) ≡ true
      by true q zero l i = q
      by true q (suc j) l i = i j (omega arith)
      by false q j l i = absurd (omega arith)

  -- where not all pass, the first that fails is so
  pub first_not_lem : (xs : List A) → every test xs ≡ false → FirstNot test d xs (first_not test xs)
  first_not_lem xs e = record { below = first_below xs e; fails = first_fails xs e; before = first_before xs }

  -- whatever is so is the first
  pub is_first : (xs : List A) (k : ℕ) → FirstNot test d xs k → (every test xs ≡ false) × (first_not test xs ≡ k)
  unfolding every first_not
  is_first [] k f = let z = f.below in absurd (omega arith)
  is_first (x ∷ xs) zero f = (ap (λ (t : Bool). t && every test xs) f.fails, ap (λ (t : Bool). cond t (suc (first_not test xs)) 0) f.fails)
  is_first (x ∷ xs) (suc k) f =
      let q : test x ≡ true = f.before 0 (omega arith) in
      let l = f.below in
      let i = is_first xs k (record { below = omega arith; fails = f.fails; before = λ j p. f.before (suc j) (omega arith) }) in
      (ap₂ (λ (t u : Bool). t && u) q i.0, ap (λ (t : Bool). cond t (suc (first_not test xs)) 0) q ∙ ap suc i.1)

  -- from k on, by the element at k
  pub first_now : (xs : List A) (k : ℕ) → k < length xs → first_not test (drop k xs) ≡ cond (test (get_or xs k d)) (suc (first_not test (drop (k + 1) xs))) 0
  unfolding first_not
  first_now xs k l = ap (first_not test) (left_now xs k d l)

-- ---- 36

-- value k is the first of vs that so many bits do not hold
abbrev pub FirstMisfit : ℕ → List ℤ → ℕ → Type 0
FirstMisfit width vs k = FirstNot (holds width) (pos 0) vs k

module _ (width : ℕ) (vs : List ℤ) where
  -- nothing is refused exactly where the width holds all
  pub fit_fine : every (holds width) vs ≡ true → check_fit width vs ≡ Fine
  unfolding check_fit
  fit_fine h = pass (not (every (holds width) vs)) _ (ap not h)

  pub fine_fit : check_fit width vs ≡ Fine → every (holds width) vs ≡ true
  unfolding check_fit
  fine_fit e = not-false (every (holds width) vs) (passed (not (every (holds width) vs)) _ e)

  -- where 36 is refused it tells the first misfit
  pub misfit_told_lem : (k : ℕ) → check_fit width vs ≡ No (WidthTooSmall k) nowhere → FirstMisfit width vs k
  unfolding check_fit misfit refuse
  misfit_told_lem k e = by (every (holds width) vs) refl e
    where
      by : (t : Bool) → every (holds width) vs ≡ t → refuse (not t) (WidthTooSmall (misfit width vs)) ≡ No (WidthTooSmall k) nowhere → FirstMisfit width vs k
      by true q f = let z : true ≡ false = cc in never z
      by false q f =
          let told : WidthTooSmall (misfit width vs) ≡ WidthTooSmall k = same_refusal f in
          let s : misfit width vs ≡ k = cc in
          rw (← s) (first_not_lem (holds width) (pos 0) vs q)

  -- and only the first misfit is told
  pub tells_misfit : (k : ℕ) → FirstMisfit width vs k → check_fit width vs ≡ No (WidthTooSmall k) nowhere
  unfolding check_fit misfit refuse
  tells_misfit k f =
      let i = is_first (holds width) (pos 0) vs k f in
      rw (i.0, i.1)
