-- The number that the lowest b bits mean, without a branch: half of 2 ^ b is added, at b bits, and taken off.
use Rattle.std.proofs.Common.{◌≡◌, ℕ, zero, suc, ◌+◌, ◌-◌, ◌*◌, ◌%◌, ◌^◌, ◌<◌, ◌≤◌, Bool, true, false, cond, ltb, ℤ, pos, negsuc, ◌-ℤ◌, sym, refl, ap, ◌∙◌, ap₂, lt_of_lt_of_le, mod-lt, mod-eq_of_lt, one-mul, arith, pow_pos, pow_mono, w32, w64, SFits, to_z, of_z, ltb-false, ltb-true, le-ltb, lt-ltb}
use native.Mathlib.Nat.{mod-add-mod}
use lib.Arith.{digits_mod}
use lib.Pow.{mod-mod-pow}
use mir.ValLaws.{to_z_pos, to_z-of_z}
use Rattle.format.specs.Numbers.{value}
use Rattle.laws.proofs.Signs.{twice, value_pos, value_neg, value_holds}

sub_below : (a n : ℕ) → a < n → pos a -ℤ pos n ≡ negsuc (n - suc a)
sub_below a zero h = absurd (omega (arith, h))
sub_below a (suc m) h = ap (λ (t : Bool). cond t (negsuc (suc m - suc a)) (pos (a - suc m))) (lt-ltb a (suc m) h)

sub_above : (a n : ℕ) → 0 < n → n ≤ a → pos a -ℤ pos n ≡ pos (a - n)
sub_above a zero g h = absurd (omega (arith, g))
sub_above a (suc m) g h = ap (λ (t : Bool). cond t (negsuc (suc m - suc a)) (pos (a - suc m))) (le-ltb a (suc m) h)

pub value_32 : (b c : ℕ) → 1 ≤ b → b ≤ 32 → c < 2 ^ b → SFits w32 (value b c)
value_32 b c l u h = record { sfits = lt_of_lt_of_le (value_holds b c l h) (pow_mono {j = 31} (omega arith)) }

pub half_most : (b : ℕ) → b ≤ 32 → 2 ^ (b - 1) ≤ 2 ^ 31
half_most b u = pow_mono {j = 31} (omega arith)

module _ (b raw h p m : ℕ) (l : 1 ≤ b) (u : b ≤ 32) (half : h ≡ 2 ^ (b - 1)) (full : p ≡ 2 ^ b) (wraps : m ≡ (raw + h) % 2 ^ 64) where
  -- the lowest b bits
  abbrev c : ℕ
  c = raw % 2 ^ b

  -- with half of 2 ^ b added, at b bits
  abbrev up : ℕ
  up = m % p

  small : c < 2 ^ b
  small = mod-lt raw (pow_pos b)

  up_is : up ≡ (c + h) % p
  up_is =
      let e : 64 ≡ 64 - b + b = omega arith in
      rw (full, wraps)
      (ap (λ (x : ℕ). (raw + h) % 2 ^ x % 2 ^ b) e ∙ mod-mod-pow (raw + h) (64 - b) b ∙ sym (mod-add-mod raw (2 ^ b) h))

  two : p ≡ h + h
  two = full ∙ twice b l ∙ ap₂ (λ (x y : ℕ). x + y) (sym half) (sym half)

  room : p ≤ 2 ^ 32
  room = rw full (pow_mono {j = 32} u)

  up_low : c < h → up ≡ c + h
  up_low k = up_is ∙ mod-eq_of_lt (omega (arith, two))

  up_high : h ≤ c → up ≡ c - h
  up_high k =
      let below : c - h < p = omega (arith, two, small, full) in
      let e : c + h ≡ 1 * p + (c - h) = omega (arith, two, one-mul p) in
      up_is ∙ ap (λ (x : ℕ). x % p) e ∙ digits_mod 1 below

  pub up_fits : up < 2 ^ 63
  up_fits = rw full (lt_of_lt_of_le (mod-lt m (pow_pos b)) (pow_mono {j = 63} (omega arith)))

  half_fits : h < 2 ^ 63
  half_fits = omega (arith, two, room)

  some : 0 < h
  some = omega (arith, two, small, full)

  flat_is : to_z w64 up -ℤ to_z w64 h ≡ value b c
  flat_is = ap₂ (λ (x y : ℤ). x -ℤ y) (to_z_pos w64 up up_fits) (to_z_pos w64 h half_fits) ∙ by (ltb c h) refl
    where
      by : (t : Bool) → ltb c h ≡ t → pos up -ℤ pos h ≡ value b c
      by true e =
          let k = ltb-true c h e in
          let d : c + h - h ≡ c = omega arith in
          let q : c < 2 ^ (b - 1) = rw (← half) k in
          rw (up_low k) (sub_above (c + h) h some (omega arith) ∙ ap pos d ∙ sym (value_pos b c q))
      by false e =
          let k = ltb-false c h e in
          let d : h - suc (c - h) ≡ 2 ^ b - suc c = omega (arith, two, small, full) in
          let q : 2 ^ (b - 1) ≤ c = rw (← half) k in
          rw (up_high k) (sub_below (c - h) h (omega (arith, two, small, full)) ∙ ap negsuc d ∙ sym (value_neg b c q small))

  value_64 : SFits w64 (value b c)
  value_64 = record { sfits = lt_of_lt_of_le (value_holds b c l small) (pow_mono {j = 63} (omega arith)) }

  -- the difference fits 64 bits, and 32, where it is the value
  pub flat_value : to_z w32 (of_z w32 (to_z w64 (of_z w64 (to_z w64 up -ℤ to_z w64 h)))) ≡ value b c
  flat_value = rw (flat_is, to_z-of_z w64 (value b c) value_64) (to_z-of_z w32 (value b c) (value_32 b c l u small))
