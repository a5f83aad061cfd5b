-- The test of two samples decides whether they are equal, and so does the code's test of their bits: different
-- samples of 32 bits have different bits.
use Rattle.std.proofs.Common.{◌≡◌, Bool, true, false, eqb, ℤ, pos, negsuc, sym, refl, ap, ◌∙◌, w32, SFits, to_z, of_z, eq-eqb, ne_eqb, eqb-true}
use mir.ValLaws.{to_z-of_z}
use Rattle.laws.proofs.Tests.{never}
use Rattle.sample.specs.Equal.{equal_samples}

pub sample_self : (x : ℤ) → equal_samples x x ≡ true
unfolding equal_samples
sample_self (pos n) = eq-eqb n n refl
sample_self (negsuc n) = eq-eqb n n refl

pub sample_equal : (x y : ℤ) → equal_samples x y ≡ true → x ≡ y
unfolding equal_samples
sample_equal (pos m) (pos n) e = ap pos (eqb-true m n e)
sample_equal (pos m) (negsuc n) e = never (sym e)
sample_equal (negsuc m) (pos n) e = never (sym e)
sample_equal (negsuc m) (negsuc n) e = ap negsuc (eqb-true m n e)

-- as the code has it, on their bits
pub equal_bits : (x y : ℤ) → SFits w32 x → SFits w32 y → eqb (of_z w32 x) (of_z w32 y) ≡ equal_samples x y
equal_bits x y f g = by (equal_samples x y) refl
  where
    back : of_z w32 x ≡ of_z w32 y → x ≡ y
    back p = sym (to_z-of_z w32 x f) ∙ ap (to_z w32) p ∙ to_z-of_z w32 y g

    by : (t : Bool) → equal_samples x y ≡ t → eqb (of_z w32 x) (of_z w32 y) ≡ t
    by true e = eq-eqb (of_z w32 x) (of_z w32 y) (ap (of_z w32) (sample_equal x y e))
    by false e = ne_eqb (of_z w32 x) (of_z w32 y) (λ p. never (sym (sample_self x) ∙ ap (equal_samples x) (back p) ∙ e))
