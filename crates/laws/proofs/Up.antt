-- Integers carried to naturals, so that omega can prove facts about them: up z is z + 2 ^ 40.
-- For numbers of magnitude below 2 ^ 38, far more than 32 bits need.
use mathlib.Core.Path.{◌≡◌, refl, ap}
use mathlib.Core.Bool.{Bool, true, false, cond}
use Prim.Native.Nat.{ℕ, zero, suc, ◌+◌, ◌-◌, ◌/◌, ◌%◌, ◌^◌, ◌≤◌, ◌<◌}
use native.Mathlib.Omega.{arith}
use lib.Dec.{ltb}
use lib.IntN.{ℤ, pos, negsuc, ◌+ℤ◌, ◌-ℤ◌, neg_ℤ, sub_ℕ}
use lib.Signed.{mag, quot_z}
use borrow.Author.Tests.{ltb-true, ltb-false}

abbrev pub up : ℤ → ℕ
up (pos n) = 2 ^ 40 + n
up (negsuc n) = 2 ^ 40 - suc n

-- back: an equation, and a bound on the magnitude, as SFits asks it
pub up_inj : (a b : ℤ) → mag a < 2 ^ 38 → mag b < 2 ^ 38 → up a ≡ up b → a ≡ b
up_inj (pos m) (pos n) f g e = ap pos (down m n e)
  where
    down : (m n : ℕ) → 2 ^ 40 + m ≡ 2 ^ 40 + n → m ≡ n
    down m n e = omega arith
up_inj (pos m) (negsuc n) f g e = absurd (omega arith)
up_inj (negsuc m) (pos n) f g e = absurd (omega arith)
up_inj (negsuc m) (negsuc n) f g e = ap negsuc (down m n f g e)
  where
    down : (m n : ℕ) → m < 2 ^ 38 → n < 2 ^ 38 → 2 ^ 40 - suc m ≡ 2 ^ 40 - suc n → m ≡ n
    down m n f g e = omega arith

pub mag_up : (H : ℕ) (z : ℤ) → H < 2 ^ 40 → 2 ^ 40 ≤ up z + H → up z < 2 ^ 40 + H → mag z < H
mag_up H (pos n) h p q = omega arith
mag_up H (negsuc n) h p q = omega arith

-- there: the magnitude as two bounds, sums, differences, tests
pub up_low : (H : ℕ) (z : ℤ) → mag z < H → 2 ^ 40 ≤ up z + H
up_low H (pos n) h = omega arith
up_low H (negsuc n) h = omega arith

pub up_high : (H : ℕ) (z : ℤ) → mag z < H → up z < 2 ^ 40 + H
up_high H (pos n) h = omega arith
up_high H (negsuc n) h = omega arith

module _ (m n : ℕ) (f : m < 2 ^ 39) (g : n < 2 ^ 39) where
  sub_by : (b : Bool) → ltb m n ≡ b → up (cond b (negsuc (n - suc m)) (pos (m - n))) + n ≡ 2 ^ 40 + m
  sub_by true e = omega (arith, ltb-true m n e)
  sub_by false e = omega (arith, ltb-false m n e)

  up_sub_ℕ : up (sub_ℕ m n) + n ≡ 2 ^ 40 + m
  up_sub_ℕ = sub_by (ltb m n) refl

pub up_add : (a b : ℤ) → mag a < 2 ^ 38 → mag b < 2 ^ 38 → up (a +ℤ b) + 2 ^ 40 ≡ up a + up b
up_add (pos m) (pos n) f g = omega arith
up_add (pos m) (negsuc n) f g = omega (arith, up_sub_ℕ m (suc n) (omega arith) (omega arith))
up_add (negsuc m) (pos n) f g = omega (arith, up_sub_ℕ n (suc m) (omega arith) (omega arith))
up_add (negsuc m) (negsuc n) f g = omega arith

pub up_sub : (a b : ℤ) → mag a < 2 ^ 38 → mag b < 2 ^ 38 → up (a -ℤ b) + up b ≡ up a + 2 ^ 40
up_sub (pos m) (pos zero) f g = omega arith
up_sub (pos m) (pos (suc n)) f g = omega (arith, up_sub_ℕ m (suc n) (omega arith) (omega arith))
up_sub (pos m) (negsuc n) f g = omega arith
up_sub (negsuc m) (pos zero) f g = omega (arith, up_sub_ℕ 0 (suc m) (omega arith) (omega arith))
up_sub (negsuc m) (pos (suc n)) f g = omega arith
up_sub (negsuc m) (negsuc n) f g = omega (arith, up_sub_ℕ (suc n) (suc m) (omega arith) (omega arith))

-- the half of an even number
half_neg : (n : ℕ) → suc n % 2 ≡ 0 → n < 2 ^ 38 → up (neg_ℤ (pos (suc n / 2))) + up (neg_ℤ (pos (suc n / 2))) ≡ (2 ^ 40 - suc n) + 2 ^ 40
half_neg n e h = by (suc n / 2) (omega arith)
  where
    by : (q : ℕ) → q + q ≡ suc n → up (neg_ℤ (pos q)) + up (neg_ℤ (pos q)) ≡ (2 ^ 40 - suc n) + 2 ^ 40
    by zero e = omega arith
    by (suc q) e = omega arith

pub up_half : (z : ℤ) → mag z < 2 ^ 38 → up z % 2 ≡ 0 → up (quot_z z (pos 2)) + up (quot_z z (pos 2)) ≡ up z + 2 ^ 40
up_half (pos n) h e = omega arith
up_half (negsuc n) h e = half_neg n (omega arith) h
