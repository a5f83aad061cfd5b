-- Document 02, L7: the order of samples, and the extremes of a list by it.
use Prim.Native.Nat.{ℕ, zero, suc, ◌<◌}
use mathlib.Core.Path.{◌≡◌, refl, sym, ◌∙◌}
use mathlib.Core.Bool.{Bool, true, false, cond}
use mathlib.Core.List.{List, [], ◌∷◌}
use mathlib.Core.Logic.{◌⊎◌, ⊎_elim, inl, inr}
use native.Mathlib.Omega.{arith}
use lib.ListN.{length, get_or}
use lib.IntN.{ℤ, pos, negsuc}
use lib.Signed.{le_z}
use borrow.Author.Tests.{leb-true, leb-false, le-leb}
use Rattle.format.specs.Peaks.{lesser, greater, picked, extreme, peak_of}
use Rattle.laws.proofs.Tests.{never}

-- ---- the order of samples

abbrev pub AtMost : ℤ → ℤ → Type 0
AtMost x y = le_z x y ≡ true

le_self : (x : ℤ) → AtMost x x
le_self (pos a) = le-leb a a (omega arith)
le_self (negsuc a) = le-leb a a (omega arith)

pub le_after : (x y z : ℤ) → AtMost x y → AtMost y z → AtMost x z
le_after (pos a) (pos b) (pos c) p q = let l = leb-true a b p in let m = leb-true b c q in le-leb a c (omega arith)
le_after (pos a) (pos b) (negsuc c) p q = q
le_after (pos a) (negsuc b) z p q = never (sym p)
le_after (negsuc a) (pos b) (pos c) p q = refl
le_after (negsuc a) (pos b) (negsuc c) p q = never (sym q)
le_after (negsuc a) (negsuc b) (pos c) p q = refl
le_after (negsuc a) (negsuc b) (negsuc c) p q = let l = leb-true b a p in let m = leb-true c b q in le-leb c a (omega arith)

le_other : (x y : ℤ) → le_z x y ≡ false → AtMost y x
le_other (pos a) (pos b) e = let l = leb-false a b e in le-leb b a (omega arith)
le_other (pos a) (negsuc b) e = refl
le_other (negsuc a) (pos b) e = never e
le_other (negsuc a) (negsuc b) e = let l = leb-false b a e in le-leb a b (omega arith)

-- ---- the extreme of a list by an order R: it is R to each of them, and one equals it
pub record IsExtreme (R : ℤ → ℤ → Type 0) (x : ℤ) (xs : List ℤ) : Type 0 where
  pub each : (i : ℕ) → i < length xs → R x (get_or xs i (pos 0))
  pub one : (i : ℕ) × (i < length xs) × (get_or xs i (pos 0) ≡ x)

-- none is below; none is above
abbrev pub IsSmallest : ℤ → List ℤ → Type 0
IsSmallest = IsExtreme AtMost

abbrev pub IsLargest : ℤ → List ℤ → Type 0
IsLargest = IsExtreme (λ x y. AtMost y x)

-- where `pick` keeps the first of two, the one that it keeps of all
module _ (R : ℤ → ℤ → Type 0) (pick : ℤ → ℤ → ℤ) (self : (x : ℤ) → R x x) (after : (x y z : ℤ) → R x y → R y z → R x z)
    (fore : (x y : ℤ) → R (pick x y) x) (hind : (x y : ℤ) → R (pick x y) y) (one : (x y : ℤ) → (pick x y ≡ x) ⊎ (pick x y ≡ y)) where
  picked_first : (x : ℤ) (ys : List ℤ) → R (picked pick x ys) x
  unfolding picked
  picked_first x [] = self x
  picked_first x (y ∷ ys) = after (picked pick (pick x y) ys) (pick x y) x (picked_first (pick x y) ys) (fore x y)

  picked_each : (x : ℤ) (ys : List ℤ) (i : ℕ) → i < length ys → R (picked pick x ys) (get_or ys i (pos 0))
  unfolding picked
  picked_each x [] i l = absurd (omega arith)
  picked_each x (y ∷ ys) zero l = after (picked pick (pick x y) ys) (pick x y) y (picked_first (pick x y) ys) (hind x y)
  picked_each x (y ∷ ys) (suc i) l = picked_each (pick x y) ys i (omega arith)

  picked_one : (x : ℤ) (ys : List ℤ) → (i : ℕ) × (i < suc (length ys)) × (get_or (x ∷ ys) i (pos 0) ≡ picked pick x ys)
  unfolding picked
  picked_one x [] = (0, omega arith, refl)
  picked_one x (y ∷ ys) = let q = picked_one (pick x y) ys in by q.0 q.1 q.2 (one x y)
    where
      by : (i : ℕ) → i < suc (length ys) → get_or (pick x y ∷ ys) i (pos 0) ≡ picked pick (pick x y) ys → (pick x y ≡ x) ⊎ (pick x y ≡ y)
          → (i : ℕ) × (i < suc (suc (length ys))) × (get_or (x ∷ y ∷ ys) i (pos 0) ≡ picked pick (pick x y) ys)
      by zero l e q = ⊎_elim (λ (o : pick x y ≡ x). (0, omega arith, sym o ∙ e)) (λ (o : pick x y ≡ y). (1, omega arith, sym o ∙ e)) q
      by (suc i) l e q = (suc (suc i), omega arith, e)

  extreme_is : (xs : List ℤ) → 0 < length xs → IsExtreme R (extreme pick xs) xs
  unfolding extreme
  extreme_is [] l = absurd (omega arith)
  extreme_is (x ∷ xs) l = record { each = each; one = picked_one x xs }
    where
      each : (i : ℕ) → i < suc (length xs) → R (picked pick x xs) (get_or (x ∷ xs) i (pos 0))
      each zero m = picked_first x xs
      each (suc i) m = picked_each x xs i (omega arith)

module _ (x y : ℤ) where
  lesser_by : (b : Bool) → le_z x y ≡ b → AtMost (cond b x y) x × AtMost (cond b x y) y × ((cond b x y ≡ x) ⊎ (cond b x y ≡ y))
  lesser_by true e = (le_self x, e, inl refl)
  lesser_by false e = (le_other x y e, le_self y, inr refl)

  greater_by : (b : Bool) → le_z x y ≡ b → AtMost x (cond b y x) × AtMost y (cond b y x) × ((cond b y x ≡ x) ⊎ (cond b y x ≡ y))
  greater_by true e = (e, le_self y, inr refl)
  greater_by false e = (le_self x, le_other x y e, inl refl)

pub smallest_is : (xs : List ℤ) → 0 < length xs → IsSmallest (peak_of xs).smallest xs
smallest_is =
    extreme_is AtMost lesser le_self le_after
    (λ x y. (lesser_by x y (le_z x y) refl).0) (λ x y. (lesser_by x y (le_z x y) refl).1) (λ x y. (lesser_by x y (le_z x y) refl).2)

pub largest_is : (xs : List ℤ) → 0 < length xs → IsLargest (peak_of xs).largest xs
largest_is =
    extreme_is (λ x y. AtMost y x) greater le_self (λ x y z p q. le_after z y x q p)
    (λ x y. (greater_by x y (le_z x y) refl).0) (λ x y. (greater_by x y (le_z x y) refl).1) (λ x y. (greater_by x y (le_z x y) refl).2)
