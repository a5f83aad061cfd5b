-- Half of an exact sum or difference of two samples of equal parity, by their halves: 2 ^ 31 more makes both a number
-- from 0 on. The parity of a sample by its bits.
use mathlib.Core.Path.{◌≡◌, refl, ap, ap₂, ◌∙◌}
use mathlib.Core.Bool.{Bool, true, false, cond}
use Prim.Native.Nat.{ℕ, suc, ◌+◌, ◌-◌, ◌/◌, ◌%◌, ◌^◌, ◌<◌}
use native.Mathlib.Omega.{arith}
use lib.IntN.{ℤ, pos, negsuc, nat_abs, ◌+ℤ◌, ◌-ℤ◌}
use lib.Signed.{mag}
use lib.Dec.{eqb, ltb}
use mir.Syntax.{w32, w64}
use mir.Val.{SFits, to_z, of_z}
use mir.ValLaws.{to_z-of_z}
use borrow.Author.Tests.{ltb-true}
use Rattle.format.specs.Numbers.{code_of}
use Rattle.format.specs.Encoding.{mid, side, equal_parity}
use Rattle.laws.proofs.Up.{up, up_inj, mag_up, up_sub}
use Rattle.laws.proofs.Halves.{mid_range, side_range, side_twice, less_side}
use Rattle.sample.specs.Raised.{raised}
use Rattle.sample.proofs.Words.{given, called}

-- ---- 2^31 more than a sample, by way of 64 bits
pub wide_fits : {z : ℤ} → SFits w32 z → SFits w64 (to_z w32 (of_z w32 z))
wide_fits {z} f = rw (to_z-of_z w32 z f) (record { sfits = omega (arith, f.sfits) })

pub raised_under : (z : ℤ) → SFits w32 z → raised z < 2 ^ 32
raised_under (pos n) f = omega (arith, f.sfits)
raised_under (negsuc n) f = omega arith

raise : (z : ℤ) → SFits w32 z → z +ℤ pos 2147483648 ≡ pos (raised z)
raise (pos n) f = refl
raise (negsuc n) f = by (ltb 2147483648 (suc n)) refl
  where
    by : (b : Bool) → ltb 2147483648 (suc n) ≡ b → cond b (negsuc (suc n - suc 2147483648)) (pos (2147483648 - suc n)) ≡ pos (2147483648 - suc n)
    by true e = absurd (omega (arith, ltb-true 2147483648 (suc n) e, f.sfits))
    by false e = refl

module _ {z : ℤ} (f : SFits w32 z) where
  sum_is : to_z w64 (of_z w64 (to_z w32 (of_z w32 z))) +ℤ pos 2147483648 ≡ pos (raised z)
  sum_is = ap (λ (x : ℤ). x +ℤ pos 2147483648) (to_z-of_z w64 (to_z w32 (of_z w32 z)) (wide_fits f) ∙ to_z-of_z w32 z f) ∙ raise z f

  pub sum_fits : SFits w64 (to_z w64 (of_z w64 (to_z w32 (of_z w32 z))) +ℤ pos 2147483648)
  sum_fits = rw sum_is (record { sfits = omega (arith, raised_under z f) })

  pub sum_back : to_z w64 (of_z w64 (to_z w64 (of_z w64 (to_z w32 (of_z w32 z))) +ℤ pos 2147483648)) ≡ pos (raised z)
  sum_back = to_z-of_z w64 _ sum_fits ∙ sum_is

-- ---- side and mid of two samples of equal parity
raised_up : (z : ℤ) → SFits w32 z → raised z + 2 ^ 40 ≡ up z + 2 ^ 31
raised_up (pos n) f = omega arith
raised_up (negsuc n) f = omega (arith, f.sfits)

module _ {l r : ℤ} (f : SFits w32 l) (g : SFits w32 r) (eq : equal_parity l r ≡ true) where
  halves_less : pos (raised l / 2) -ℤ pos (raised r / 2) ≡ side l r
  halves_less =
      let m = side_range (2 ^ 31) (omega arith) l r f.sfits g.sfits in
      let t = side_twice (2 ^ 31) (omega arith) l r f.sfits g.sfits eq in
      let a = raised_under l f in
      let b = raised_under r g in
      let u = up_sub (pos (raised l / 2)) (pos (raised r / 2)) (omega arith) (omega arith) in
      up_inj (pos (raised l / 2) -ℤ pos (raised r / 2)) (side l r)
      (mag_up (2 ^ 38) (pos (raised l / 2) -ℤ pos (raised r / 2)) (omega arith) (omega arith) (omega arith)) (omega arith) (omega (arith, raised_up l f, raised_up r g))

  -- the halves as the calls give them
  module _ {a b : ℤ} (p : mag a < 2 ^ 31) (x : a ≡ pos (raised (to_z w32 (of_z w32 l)) / 2)) (q : mag b < 2 ^ 31) (y : b ≡ pos (raised (to_z w32 (of_z w32 r)) / 2)) where
    side_exact : to_z w32 (of_z w32 a) -ℤ to_z w32 (of_z w32 b) ≡ side l r
    side_exact = ap₂ (λ (u v : ℤ). u -ℤ v) (half l f p x) (half r g q y) ∙ halves_less
      where
        half : (z : ℤ) {h : ℤ} → SFits w32 z → mag h < 2 ^ 31 → h ≡ pos (raised (to_z w32 (of_z w32 z)) / 2) → to_z w32 (of_z w32 h) ≡ pos (raised z / 2)
        half z k m e = given m (e ∙ ap (λ (u : ℤ). pos (raised u / 2)) (to_z-of_z w32 z k))

    pub side_fits : SFits w32 (to_z w32 (of_z w32 a) -ℤ to_z w32 (of_z w32 b))
    side_fits = rw side_exact (record { sfits = side_range (2 ^ 31) (omega arith) l r f.sfits g.sfits })

    pub side_is : to_z w32 (of_z w32 (to_z w32 (of_z w32 a) -ℤ to_z w32 (of_z w32 b))) ≡ side l r
    side_is = given side_fits.sfits side_exact

  -- side as the call gives it
  module _ {s : ℤ} (p : mag s < 2 ^ 31) (x : s ≡ side (to_z w32 (of_z w32 l)) (to_z w32 (of_z w32 r))) where
    mid_exact : to_z w32 (of_z w32 l) -ℤ to_z w32 (of_z w32 s) ≡ mid l r
    mid_exact = ap₂ (λ (u v : ℤ). u -ℤ v) (to_z-of_z w32 l f) (called side f g p x) ∙ less_side (2 ^ 31) (omega arith) l r f.sfits g.sfits eq

    pub mid_fits : SFits w32 (to_z w32 (of_z w32 l) -ℤ to_z w32 (of_z w32 s))
    mid_fits = rw mid_exact (record { sfits = mid_range (2 ^ 31) (omega arith) l r f.sfits g.sfits })

    pub mid_is : to_z w32 (of_z w32 (to_z w32 (of_z w32 l) -ℤ to_z w32 (of_z w32 s))) ≡ mid l r
    mid_is = given mid_fits.sfits mid_exact

-- ---- parity

-- the lowest bit
odd_bit : (z : ℤ) → SFits w32 z → code_of 32 z % 2 ≡ nat_abs z % 2
odd_bit (pos n) f = omega arith
odd_bit (negsuc n) f = omega (arith, f.sfits)

bit_of : {z : ℤ} {x : ℕ} → SFits w32 z → x ≡ code_of 32 (to_z w32 (of_z w32 z)) → x % 2 ≡ nat_abs z % 2
bit_of {z} f p = ap (λ (n : ℕ). n % 2) (p ∙ ap (code_of 32) (to_z-of_z w32 z f)) ∙ odd_bit z f

pub same_bit : {a b : ℤ} {x y : ℕ} → SFits w32 a → SFits w32 b → x ≡ code_of 32 (to_z w32 (of_z w32 a)) → y ≡ code_of 32 (to_z w32 (of_z w32 b)) → eqb (x % 2) (y % 2) ≡ equal_parity a b
unfolding equal_parity
same_bit f g p q = ap₂ eqb (bit_of f p) (bit_of g q)
