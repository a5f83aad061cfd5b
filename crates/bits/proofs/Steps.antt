-- The bits of a run at a place, what a window shows of them, and what is read there.
use Rattle.std.proofs.Common.{◌≡◌, ℕ, zero, suc, ◌+◌, ◌-◌, ◌*◌, ◌/◌, ◌%◌, ◌^◌, ◌<◌, ◌≤◌, min, List, [], ◌∷◌, length, get_or, take, drop, ℤ, sym, ap, ◌∙◌, ap₂, mod-lt, zero-lt-suc, pow-suc, arith, pow_pos, shr-shr, w8, w32, Fits, to_z, of_z}
use native.Mathlib.Nat.{mod-one, zero-mod, one-le-pow, pow-zero}
use lib.Arith.{digits_div, digits_mod, mod-mul}
use lib.Pow.{field, mod-mod-pow}
use mir.ValLaws.{to_z-of_z}
use Rattle.format.specs.Lists.{from}
use Rattle.format.specs.Numbers.{num, num_at, value, Below}
use Rattle.laws.proofs.Digits.{pow_mul, num_drop}
use Rattle.laws.proofs.Each.{each_drop}
use Rattle.bits.specs.Place.{bits_at, Window}
use Rattle.bits.proofs.Flat.{value_32}

-- ---- eight bytes as bits
num_low : (s : List ℕ) → Below 256 s → (n : ℕ) → num 256 s % 256 ^ n ≡ num 256 (take n s)
unfolding num
num_low s h zero = ap (λ (x : ℕ). num 256 s % x) (pow-zero 256) ∙ mod-one (num 256 s)
num_low [] h (suc n) = zero-mod (256 ^ suc n)
num_low (x ∷ s) h (suc n) =
    ap (λ (y : ℕ). (num 256 s * 256 + x) % y) (pow-suc 256 n) ∙ mod-mul (num 256 s * 256 + x) (one-le-pow n 256 (zero-lt-suc 255)) (zero-lt-suc 255)
    ∙ ap₂ (λ (q r : ℕ). q % 256 ^ n * 256 + r) (digits_div (num 256 s) (h 0)) (digits_mod (num 256 s) (h 0))
    ∙ ap (λ (y : ℕ). y * 256 + x) (num_low s (λ i. h (suc i)) n)

bytes_bits : (s : List ℕ) → Below 256 s → (i : ℕ) → num_at i 8 s ≡ bits_at (num 256 s) (8 * i) 64
unfolding num_at from
bytes_bits s h i =
    sym (ap (λ (x : ℕ). num 256 s / x % 2 ^ 64) (pow_mul 2 8 i)
    ∙ ap (λ (x : ℕ). x % 256 ^ 8) (num_drop 256 s h i)
    ∙ num_low (drop i s) (each_drop (λ (x : ℕ). x < 256) 0 (zero-lt-suc 255) i s h) 8)

-- ---- bits
-- the w lowest of x / 2 ^ k are the bits k to k + w
bits_within : (x k w n : ℕ) → k + w ≤ n → x % 2 ^ n / 2 ^ k % 2 ^ w ≡ bits_at x k w
bits_within x k w n l =
    let a : n ≡ n - k + k = omega arith in
    let b : n - k ≡ n - k - w + w = omega arith in
    ap (λ (y : ℕ). x % 2 ^ y / 2 ^ k % 2 ^ w) a ∙ ap (λ (y : ℕ). y % 2 ^ w) (field x (n - k) k)
    ∙ ap (λ (y : ℕ). x / 2 ^ k % 2 ^ y % 2 ^ w) b ∙ mod-mod-pow (x / 2 ^ k) (n - k - w) w

-- ---- the window
module _ (s : List ℕ) (p at x : ℕ) (bytes : (i : ℕ) → Fits w8 (get_or s i 0)) (least : at ≡ min (p / 8) (length s - 8)) (read : x ≡ num_at at 8 s) (long : 8 ≤ length s) where
  pub shows : Window s p (x / 2 ^ (p - 8 * at))
  shows n l f =
      let k : p - 8 * at + n ≤ 64 = omega arith in
      let e : 8 * at + (p - 8 * at) ≡ p = omega arith in
      ap (λ (y : ℕ). y / 2 ^ (p - 8 * at) % 2 ^ n) (read ∙ bytes_bits s (λ i. (bytes i).fits) at)
      ∙ bits_within (num 256 s / 2 ^ (8 * at)) (p - 8 * at) n 64 k
      ∙ ap (λ (y : ℕ). y % 2 ^ n) (shr-shr (num 256 s) (8 * at) (p - 8 * at))
      ∙ ap (λ (y : ℕ). bits_at (num 256 s) y n) e

-- ---- what is read
-- a value as 32 bits is itself
pub value_is : (v : ℤ) (w x : ℕ) → 1 ≤ w → w ≤ 32 → v ≡ value w (x % 2 ^ w) → to_z w32 (of_z w32 v) ≡ value w (x % 2 ^ w)
value_is v w x l u e = ap (λ (z : ℤ). to_z w32 (of_z w32 z)) e ∙ to_z-of_z w32 (value w (x % 2 ^ w)) (value_32 w (x % 2 ^ w) l u (mod-lt x (pow_pos w)))

-- the value of the lowest bits of a window, and of the bits above them
module _ (s : List ℕ) (p w x : ℕ) (v : ℤ) (l : 1 ≤ w) (u : w ≤ 32) (shown : Window s p x) where
  pub first_is : p + w ≤ length s * 8 → v ≡ value w (x % 2 ^ w) → to_z w32 (of_z w32 v) ≡ value w (bits_at (num 256 s) p w)
  first_is f e = value_is v w x l u e ∙ ap (value w) (shown w (omega arith) f)

  pub second_is : 2 * w ≤ 57 → p + 2 * w ≤ length s * 8 → v ≡ value w (x / 2 ^ w % 2 ^ w) → to_z w32 (of_z w32 v) ≡ value w (bits_at (num 256 s) (p + w) w)
  second_is k f e =
      let both : w + w ≤ 2 * w = omega arith in
      value_is v w (x / 2 ^ w) l u e
      ∙ ap (value w)
      (sym (bits_within x w w (2 * w) both) ∙ ap (λ (y : ℕ). y / 2 ^ w % 2 ^ w) (shown (2 * w) k f) ∙ bits_within (num 256 s / 2 ^ p) w w (2 * w) both
      ∙ ap (λ (y : ℕ). y % 2 ^ w) (shr-shr (num 256 s) p w))
