-- Given bytes, compared as one number: digits below the base are equal where the numbers that they are, are.
use Prim.Native.Nat.{ℕ, zero, suc, ◌+◌, ◌*◌, ◌/◌, ◌%◌, ◌<◌, ◌≤◌}
use mathlib.Core.Path.{◌≡◌, refl, sym, ap, ap₂, ◌∙◌}
use mathlib.Core.Bool.{Bool, true, false, ◌&&◌}
use mathlib.Core.List.{List, [], ◌∷◌}
use native.Mathlib.Omega.{arith}
use lib.Arith.{digits_div, digits_mod}
use lib.Dec.{eqb, ltb}
use lib.ListN.{length, take}
use lib.Seq.{length-take-le}
use borrow.Author.Tests.{eq-eqb, ne_eqb, eqb-true, eqb-false, ltb-true}
use Rattle.format.specs.Lists.{from, same, every}
use Rattle.format.specs.Numbers.{num, num_at, Below}
use Rattle.laws.proofs.Tests.{never, and_left, and_right}
use Rattle.laws.proofs.Each.{each_take}

-- ---- the test of two lists

pub same_equal : (xs ys : List ℕ) → same xs ys ≡ true → xs ≡ ys
unfolding same
same_equal [] [] e = refl
same_equal [] (y ∷ ys) e = never (sym e)
same_equal (x ∷ xs) [] e = never (sym e)
same_equal (x ∷ xs) (y ∷ ys) e = ap₂ (λ (a : ℕ) (l : List ℕ). a ∷ l) (eqb-true x y (and_left _ _ e)) (same_equal xs ys (and_right (eqb x y) _ e))

pub same_itself : (xs : List ℕ) → same xs xs ≡ true
unfolding same
same_itself [] = refl
same_itself (x ∷ xs) = ap₂ (λ (a b : Bool). a && b) (eq-eqb x x refl) (same_itself xs)

-- ---- lists of digits are equal where their numbers are

module _ (B : ℕ) where
  same_digit : (a b x y : ℕ) → x < B → y < B → (eqb x y && eqb a b) ≡ eqb (a * B + x) (b * B + y)
  same_digit a b x y h k = by (eqb x y) refl (eqb a b) refl
    where
      by : (s : Bool) → eqb x y ≡ s → (t : Bool) → eqb a b ≡ t → (s && t) ≡ eqb (a * B + x) (b * B + y)
      by true e true f = sym (eq-eqb _ _ (ap₂ (λ (i j : ℕ). i * B + j) (eqb-true a b f) (eqb-true x y e)))
      by true e false f = sym (ne_eqb _ _ (λ q. eqb-false a b f (sym (digits_div a h) ∙ ap (λ (i : ℕ). i / B) q ∙ digits_div b k)))
      by false e t f = sym (ne_eqb _ _ (λ q. eqb-false x y e (sym (digits_mod a h) ∙ ap (λ (i : ℕ). i % B) q ∙ digits_mod b k)))

  pub same_number : (xs ys : List ℕ) → length xs ≡ length ys → Below B xs → Below B ys → same xs ys ≡ eqb (num B xs) (num B ys)
  unfolding same num
  same_number [] [] e h k = refl
  same_number [] (y ∷ ys) e h k = absurd (omega arith)
  same_number (x ∷ xs) [] e h k = absurd (omega arith)
  same_number (x ∷ xs) (y ∷ ys) e h k =
      ap (λ (t : Bool). eqb x y && t) (same_number xs ys (omega arith) (λ i. h (suc i)) (λ i. k (suc i)))
      ∙ same_digit (num B xs) (num B ys) x y (h 0) (k 0)

  -- digits, by a test
  pub digits_by : 0 < B → (xs : List ℕ) → every (λ x. ltb x B) xs ≡ true → Below B xs
  unfolding every
  digits_by h [] e i = h
  digits_by h (x ∷ xs) e zero = ltb-true x B (and_left (ltb x B) (every (λ y. ltb y B) xs) e)
  digits_by h (x ∷ xs) e (suc i) = digits_by h xs (and_right (ltb x B) (every (λ y. ltb y B) xs) e) i

-- bytes begin with m where the number that they begin with is m's
pub begins : (m s : List ℕ) → length m ≤ length s → every (λ y. ltb y 256) m ≡ true → Below 256 s
    → same (take (length m) s) m ≡ eqb (num_at 0 (length m) s) (num 256 m)
unfolding num_at from
begins m s long h bytes =
    same_number 256 (take (length m) s) m (length-take-le (length m) s long)
    (each_take (λ b. b < 256) 0 (omega arith) (length m) s bytes) (digits_by 256 (omega arith) m h)
