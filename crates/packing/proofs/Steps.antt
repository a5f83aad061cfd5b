-- A code put above the bits that wait, and what is carried into the bytes.
use Prim.Native.Nat.{ℕ, ◌+◌, ◌-◌, ◌*◌, ◌/◌, ◌%◌, ◌^◌, ◌≤◌, ◌<◌}
use mathlib.Core.Path.{◌≡◌, sym, ap, ap₂, ◌∙◌, subst}
use mathlib.Core.List.{List}
use native.Mathlib.Nat.{mod-lt, mul_comm, mul_assoc, add_comm, add-mul, lt_of_lt_of_le, div-add-mod'}
use native.Mathlib.Omega.{arith}
use lib.ListN.{length, take}
use lib.Seq.{sets, length-sets}
use lib.Arith.{digits_lt}
use lib.Pow.{pow-add, pow_pos, pow_mono, shl_exact, shr_lt}
use Rattle.format.specs.Numbers.{num, le}
use Rattle.bits.specs.Place.{Room}
use Rattle.packing.specs.Place.{Open, CodePut, end, written}
use Rattle.packing.specs.declared.PutCursor.{PutCursor}
use Rattle.packing.proofs.Numbers.{pow_place, num_stored}

-- ---- sums of products
-- a code above what waits
above : (a c P X n : ℕ) → (a + c * P) * X + n ≡ a * X + n + c * (X * P)
above a c P X n =
    let d : (a + c * P) * X ≡ a * X + c * P * X = add-mul a (c * P) X in
    let e : c * P * X ≡ c * (X * P) = mul_assoc c P X ∙ ap (λ (x : ℕ). c * x) (mul_comm P X) in
    omega (arith, d, e)

-- the lowest of what waits carried into the bytes
carry : (a M X n : ℕ) → a / M * (X * M) + (a % M * X + n) ≡ a * X + n
carry a M X n =
    let d : a / M * (X * M) ≡ a / M * M * X = ap (λ (x : ℕ). a / M * x) (mul_comm X M) ∙ sym (mul_assoc (a / M) M X) in
    let e : (a / M * M + a % M) * X ≡ a / M * M * X + a % M * X = add-mul (a / M * M) (a % M) X in
    let f : (a / M * M + a % M) * X ≡ a * X = ap (λ (x : ℕ). x * X) (div-add-mod' a M) in
    omega (arith, d, e, f)

module _ (s : List ℕ) (c : PutCursor) (code w : ℕ) (o : Open s c) (f : Room s (end c) w) (low : code < 2 ^ w) where
  abbrev sum : ℕ
  sum = c.acc + (code * 2 ^ c.have) % 2 ^ 64

  sum_is : sum ≡ c.acc + code * 2 ^ c.have
  sum_is = ap (λ (x : ℕ). c.acc + x) (shl_exact w c.have 64 low (omega (arith, o.small, f.high)))

  sum_lt : sum < 2 ^ (w + c.have)
  sum_lt = rw (sum_is, add_comm c.acc, pow-add) (digits_lt low o.held)

  pub sum_fits : sum < 2 ^ 64
  sum_fits = lt_of_lt_of_le sum_lt (pow_mono {j = 64} (omega (arith, o.small, f.high)))

  sum_adds : sum * 256 ^ c.at + num 256 (take c.at s) ≡ written s c + code * 2 ^ end c
  sum_adds =
      ap (λ (x : ℕ). x * 256 ^ c.at + num 256 (take c.at s)) sum_is
      ∙ above c.acc code (2 ^ c.have) (256 ^ c.at) (num 256 (take c.at s))
      ∙ ap (λ (x : ℕ). written s c + code * x) (sym (pow_place c.at c.have))

  pub put_short : c.have + w < 32 → CodePut s c code w s (record { acc = sum; have = c.have + w; at = c.at })
  put_short h =
      record {
        valid = record { held = subst (λ (x : ℕ). sum < 2 ^ x) (add_comm w c.have) sum_lt; small = h; whole = o.whole; inside = o.inside };
        moved = omega arith;
        adds = sum_adds;
      }

  pub put_long : (after : List ℕ) → 32 ≤ c.have + w → after ≡ sets s c.at (le 4 (sum % 2 ^ 32))
      → CodePut s c code w after (record { acc = sum / 2 ^ 32; have = c.have + w - 32; at = c.at + 4 })
  put_long after h e =
      let room : c.at + 4 ≤ length s = omega (arith, o.whole, f.whole, f.fits) in
      let d : w + c.have ≡ c.have + w - 32 + 32 = omega arith in
      rw e
      (record {
        valid = record {
          held = shr_lt (c.have + w - 32) 32 (subst (λ (x : ℕ). sum < 2 ^ x) d sum_lt);
          small = omega (arith, o.small, f.high);
          whole = omega (arith, o.whole);
          inside = rw length-sets room;
        };
        moved = omega arith;
        adds =
            ap₂ (λ (x y : ℕ). sum / 2 ^ 32 * x + y) (pow-add 256 c.at 4) (num_stored s c.at (sum % 2 ^ 32) room (mod-lt sum (pow_pos 32)))
            ∙ carry sum (2 ^ 32) (256 ^ c.at) (num 256 (take c.at s))
            ∙ sum_adds;
      })
