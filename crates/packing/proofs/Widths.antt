-- The bits of all folded values in one number: a width holds all values where it holds that number, so one test tells
-- what 512 would. And the first value that it does not hold, value by value.
use Rattle.std.specs.Prelude.{Err}
use Prim.Native.Nat.{ℕ, suc, ◌+◌, ◌-◌, ◌^◌, ◌<◌, ◌≤◌}
use mathlib.Core.Path.{◌≡◌, refl, sym, ap, ◌∙◌}
use mathlib.Core.Bool.{Bool, true, false, ◌&&◌, cond, and-true, and_assoc}
use mathlib.Core.List.{List}
use native.Mathlib.Omega.{arith}
use lib.Dec.{ltb}
use lib.IntN.{ℤ, pos}
use lib.ListN.{length, get_or, drop, drop_of_length-le}
use lib.Pow.{pow_pos}
use lib.Bits.{bit_or, or_lt, or_add_and, and_le_l, and_le_r}
use lib.Signed.{mag}
use mir.Syntax.{w32}
use mir.Val.{SFits, to_z, of_z}
use mir.ValLaws.{to_z-of_z}
use borrow.Author.Tests.{ltb-true, ltb-false, lt-ltb, le-ltb}
use Rattle.format.specs.Lists.{every, first_not}
use Rattle.format.specs.Numbers.{holds}
use Rattle.format.specs.Refusals.{Fine, nowhere, refuse}
use Rattle.format.specs.Fit.{misfit, check_fit}
use Rattle.format.specs.declared.refusals.RefusedAt.{RefusedAt}
use Rattle.format.specs.declared.refusals.Refusal.TheVariants.{WidthTooSmall}
use Rattle.laws.proofs.Parts.{left_now}
use Rattle.laws.proofs.Widths.{StandsFor}
use Rattle.laws.proofs.Misfits.{fit_fine, first_now}

-- `mag` of a value that is read
pub mag_read : (x : ℤ) {n : ℕ} → SFits w32 x → n ≡ mag (to_z w32 (of_z w32 x)) → n ≡ mag x
mag_read x f e = e ∙ ap mag (to_z-of_z w32 x f)

-- k bits hold two numbers where they hold the bits of both
or_below : (k m f : ℕ) → ltb (bit_or m f) (2 ^ k) ≡ (ltb m (2 ^ k) && ltb f (2 ^ k))
or_below k m f = by (ltb m (2 ^ k)) (ltb f (2 ^ k)) refl refl
  where
    m_in : m ≤ bit_or m f
    m_in = omega (arith, or_add_and m f, and_le_r m f)

    f_in : f ≤ bit_or m f
    f_in = omega (arith, or_add_and m f, and_le_l m f)

    by : (t u : Bool) → ltb m (2 ^ k) ≡ t → ltb f (2 ^ k) ≡ u → ltb (bit_or m f) (2 ^ k) ≡ (t && u)
    by true true p q = lt-ltb (bit_or m f) (2 ^ k) (or_lt k m f (ltb-true m (2 ^ k) p) (ltb-true f (2 ^ k) q))
    by true false p q = le-ltb (bit_or m f) (2 ^ k) (omega (arith, f_in, ltb-false f (2 ^ k) q))
    by false u p q = le-ltb (bit_or m f) (2 ^ k) (omega (arith, m_in, ltb-false m (2 ^ k) p))

-- m in place of the values before i: the same widths hold m and the rest as hold all
module _ (vs : List ℤ) where
  abbrev pub SoFar : ℕ → ℕ → Type 0
  SoFar m i = (b : ℕ) → (holds b (pos m) && every (holds b) (drop i vs)) ≡ every (holds b) vs

  pub so_far_none : SoFar 0 0
  so_far_none b = ap (λ (t : Bool). t && every (holds b) vs) (lt-ltb 0 (2 ^ (b - 1)) (pow_pos (b - 1)))

  pub so_far_more : (m i f : ℕ) → i < length vs → f ≡ mag (get_or vs i (pos 0)) → SoFar m i → SoFar (bit_or m f) (i + 1)
  unfolding every
  so_far_more m i f h e p b =
      let rest = every (holds b) (drop (i + 1) vs) in
      ap (λ (t : Bool). t && rest) (or_below (b - 1) m f)
      ∙ and_assoc (holds b (pos m)) (ltb f (2 ^ (b - 1))) rest
      ∙ ap (λ (n : ℕ). holds b (pos m) && (ltb n (2 ^ (b - 1)) && rest)) e
      ∙ ap (λ (l : List ℤ). holds b (pos m) && every (holds b) l) (sym (left_now vs i (pos 0) h))
      ∙ p b

  pub so_far_all : (m i : ℕ) → length vs ≤ i → SoFar m i → StandsFor m vs
  unfolding every
  so_far_all m i h p b =
      sym (p b) ∙ ap (λ (l : List ℤ). holds b (pos m) && every (holds b) l) (drop_of_length-le vs h) ∙ and-true (holds b (pos m))

-- the first value that b bits do not hold is that of the values from i on
module _ (vs : List ℤ) (b : ℕ) where
  abbrev pub FromHere : ℕ → Type 0
  FromHere i = i + misfit b (drop i vs) ≡ misfit b vs

  module _ (i f p : ℕ) (inside : i < length vs) (is : f ≡ mag (get_or vs i (pos 0))) (power : p ≡ 2 ^ (b - 1)) (so : FromHere i) where
    now : (t : Bool) → holds b (get_or vs i (pos 0)) ≡ t → misfit b (drop i vs) ≡ cond t (suc (misfit b (drop (i + 1) vs))) 0
    unfolding misfit
    now t e = first_now (holds b) (pos 0) vs i inside ∙ ap (λ (u : Bool). cond u (suc (misfit b (drop (i + 1) vs))) 0) e

    pub here_next : f < p → FromHere (i + 1)
    here_next h = let e = now true (lt-ltb (mag (get_or vs i (pos 0))) (2 ^ (b - 1)) (omega arith)) in omega arith

    pub here_found : p ≤ f → i ≡ misfit b vs
    here_found h = let e = now false (le-ltb (mag (get_or vs i (pos 0))) (2 ^ (b - 1)) (omega arith)) in omega arith

  pub here_none : (i : ℕ) → length vs ≤ i → FromHere i → i ≡ misfit b vs
  unfolding misfit first_not
  here_none i h so = let e : misfit b (drop i vs) ≡ 0 = ap (misfit b) (drop_of_length-le vs h) in omega arith

-- ---- p is the power of the width b
module _ (vs : List ℤ) (m b p : ℕ) (all : StandsFor m vs) (power : p ≡ 2 ^ (b - 1)) where
  holds_all : m < p → every (holds b) vs ≡ true
  holds_all h = all b ∙ lt-ltb m (2 ^ (b - 1)) (omega arith)

  holds_some : p ≤ m → every (holds b) vs ≡ false
  holds_some h = all b ∙ le-ltb m (2 ^ (b - 1)) (omega arith)

  pub fits_all : m < p → Fine ≡ check_fit b vs
  fits_all h = sym (fit_fine b vs (holds_all h))

  pub fits_not : p ≤ m → (k : ℕ) (e : RefusedAt) → k ≡ misfit b vs → (e.why ≡ WidthTooSmall k) × (e.place ≡ nowhere) → Err e ≡ check_fit b vs
  unfolding check_fit refuse
  fits_not h k e is says = rw (says.0, says.1, is, holds_some h)

pub ruleset finds = (here_next, here_found, here_none)
