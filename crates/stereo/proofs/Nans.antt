-- What the tests for NaN say: only a NaN differs from itself, and of mid and side one test tells both.
use Prim.Native.Nat.{ℕ}
use mathlib.Core.Path.{◌≡◌, refl, sym, ap, ◌∙◌, subst}
use mathlib.Core.Bool.{Bool, true, false, not, cond}
use lib.Dec.{T}
use lib.Ieee as Ieee
use lib.Ieee.{Float, binary32, nan_bits, nan, inf, fin}
use lib.Ieee.Compare.{differs_from_itself, nan_differs}
use Rattle.format.specs.MidSide.{pattern_of, quieted, settled}
use Rattle.laws.proofs.Tests.{never}
use Rattle.stereo.specs.Patterns.{lost_by}

-- `x != x`
pub differs : (x : Float) → Ieee.ne x x ≡ true → Ieee.is_nan x ≡ true
unfolding Ieee.is_nan
differs x h = rw (differs_from_itself x (subst T (sym h) tt))

pub same : (x : Float) → Ieee.ne x x ≡ false → Ieee.is_nan x ≡ false
unfolding Ieee.is_nan
same nan h = let z : true ≡ false = cc (nan_differs, h) in z
same (inf s) h = refl
same (fin s m e) h = refl

-- ---- the patterns m and s of mid and side, and k, the one of them that is tested

-- it is mid's where that is a NaN's, otherwise side's
pub tests_mid : (m s : ℕ) (b : Bool) → b ≡ nan_bits binary32 m → b ≡ true → m ≡ lost_by m s
tests_mid m s b e t = rw (sym e ∙ t)

pub tests_side : (m s : ℕ) (b : Bool) → b ≡ nan_bits binary32 m → b ≡ false → s ≡ lost_by m s
tests_side m s b e t = rw (sym e ∙ t)

-- where that is no NaN's, neither is
neither : (m s : ℕ) → nan_bits binary32 (lost_by m s) ≡ false → (nan_bits binary32 m ≡ false) × (nan_bits binary32 s ≡ false)
neither m s = by (nan_bits binary32 m) refl
  where
    by : (t : Bool) → nan_bits binary32 m ≡ t → nan_bits binary32 (cond t m s) ≡ false → (t ≡ false) × (nan_bits binary32 s ≡ false)
    by true e q = never (sym e ∙ q)
    by false e q = (refl, q)

module _ (m s k : ℕ) (b : Bool) (k_is : k ≡ lost_by m s) (tested : b ≡ nan_bits binary32 k) where
  told : nan_bits binary32 (lost_by m s) ≡ b
  told = sym (tested ∙ ap (nan_bits binary32) k_is)

  pub mid_number : b ≡ false → T (not (nan_bits binary32 m))
  mid_number q = rw (neither m s (told ∙ q)).0 tt

  pub side_number : b ≡ false → T (not (nan_bits binary32 s))
  side_number q = rw (neither m s (told ∙ q)).1 tt

  -- so the result's own pattern is settled
  pub number_settled : (p : ℕ) (r : Float) → b ≡ false → p ≡ pattern_of r → p ≡ settled m s r
  unfolding settled
  number_settled p r q e = e ∙ sym (rw ((neither m s (told ∙ q)).0, (neither m s (told ∙ q)).1))

  -- where it is, its bits are
  pub nan_settled : (p : ℕ) (r : Float) → b ≡ true → p ≡ quieted k → p ≡ settled m s r
  unfolding settled
  nan_settled p r q e = e ∙ ap quieted k_is ∙ by (nan_bits binary32 m) refl (told ∙ q)
    where
      by : (t : Bool) → nan_bits binary32 m ≡ t → nan_bits binary32 (cond t m s) ≡ true
          → quieted (cond t m s) ≡ cond t (quieted m) (cond (nan_bits binary32 s) (quieted s) (pattern_of r))
      by true e y = refl
      by false e y = rw y
