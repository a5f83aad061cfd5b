-- The codes of a run, one a turn: code k of 512 stands at bit b * k.
use Prim.Native.Nat.{ℕ, ◌+◌, ◌-◌, ◌*◌, ◌%◌, ◌^◌, ◌≤◌, ◌<◌}
use mathlib.Core.Path.{◌≡◌, refl, sym, ap, ap₂, ◌∙◌, subst}
use mathlib.Core.Bool.{true}
use mathlib.Core.List.{List, map}
use native.Mathlib.Nat.{zero-mul, mul-zero, mul-add, mul-le-mul_left, zero-lt-suc, lt_of_lt_of_le}
use native.Mathlib.Omega.{arith}
use lib.IntN.{ℤ, pos}
use lib.ListN.{length, get_or, take, length-map, get_or-map}
use lib.Seq.{take_all}
use lib.Arith.{lt-one}
use lib.Pow.{pow_mono}
use lib.Signed.{mag}
use mir.Syntax.{w32}
use mir.Val.{to_z, of_z}
use mir.ValLaws.{to_z-of_z}
use borrow.Author.Tests.{lt-ltb, ltb-true}
use Rattle.format.specs.Lists.{every}
use Rattle.format.specs.Numbers.{num, digits, Below, code_of, holds}
use Rattle.format.specs.Packed.{run_of, packing}
use Rattle.laws.proofs.Digits.{pow_mul, digits_num}
use Rattle.laws.proofs.Signs.{Holds, every_holds, code_lt}
use Rattle.bits.specs.Place.{Room}
use Rattle.packing.specs.Place.{Open, CodePut, origin, end, written}
use Rattle.packing.specs.declared.PutCursor.{PutCursor}
use Rattle.packing.proofs.Numbers.{num_take, low_code}

-- the codes of the first k of vs are put
pub record Done (b : ℕ) (vs : List ℤ) (s : List ℕ) (c : PutCursor) (k : ℕ) : Type 0 where
  pub valid : Open s c
  pub place : end c ≡ b * k
  pub sofar : written s c ≡ num (2 ^ b) (take k (map (code_of b) vs))

-- ---- codes
-- a number that b bits hold, through 32 bits and back
word_back : (b : ℕ) (z : ℤ) → b ≤ 32 → Holds b z → to_z w32 (of_z w32 z) ≡ z
word_back b z u h = to_z-of_z w32 z (record { sfits = lt_of_lt_of_le h (pow_mono {j = 31} (omega arith)) })

pub code_word : (b x p : ℕ) (z : ℤ) → 1 ≤ b → b ≤ 32 → holds b z ≡ true → x ≡ code_of 32 (to_z w32 (of_z w32 z)) → p ≡ 2 ^ b → x % p ≡ code_of b z
code_word b x p z l u h e q =
    let f : Holds b z = ltb-true (mag z) (2 ^ (b - 1)) h in
    ap₂ (λ (m n : ℕ). m % n) (e ∙ ap (code_of 32) (word_back b z u f)) q ∙ low_code b l u z f

-- value k of those that b bits hold, and its code
module _ (b : ℕ) (vs : List ℤ) (k : ℕ) (l : 1 ≤ b) (u : b ≤ 32) (h : every (holds b) vs ≡ true) where
  abbrev v : ℤ
  v = get_or vs k (pos 0)

  held : Holds b v
  held = every_holds b vs h k

  pub value_holds : holds b (to_z w32 (of_z w32 v)) ≡ true
  value_holds = rw (word_back b v u held) (lt-ltb (mag v) (2 ^ (b - 1)) held)

  pub code_is : (code : ℕ) → code ≡ code_of b (to_z w32 (of_z w32 v)) → code ≡ code_of b v
  code_is code e = e ∙ ap (code_of b) (word_back b v u held)

  pub code_below : (code : ℕ) → code ≡ code_of b (to_z w32 (of_z w32 v)) → code < 2 ^ b
  code_below code e = rw (code_is code e) (code_lt b l v held)

-- ---- the loop
module _ (b : ℕ) (vs : List ℤ) where
  pub done_none : (s : List ℕ) (c : PutCursor) → c ≡ origin → Done b vs s c 0
  unfolding num
  done_none s c e = rw e (record { valid = record { held = zero-lt-suc 0; small = omega arith; whole = refl; inside = omega arith }; place = sym (mul-zero b); sofar = refl })

  pub done_more : (s after : List ℕ) (c r : PutCursor) (k code : ℕ) → length vs ≡ 512 → k < 512 → code ≡ code_of b (get_or vs k (pos 0)) → CodePut s c code b after r → Done b vs s c k
      → Done b vs after r (k + 1)
  done_more s after c r k code m l e p d =
      let cs = map (code_of b) vs in
      let n : k < length cs = rw (length-map, m) l in
      let at : 2 ^ end c ≡ (2 ^ b) ^ k = ap (λ (x : ℕ). 2 ^ x) d.place ∙ pow_mul 2 b k in
      record {
        valid = p.valid;
        place = omega (arith, p.moved, d.place, mul-add b k 1);
        sofar = p.adds ∙ ap₂ (λ (x y : ℕ). x + code * y) d.sofar at
            ∙ ap (λ (x : ℕ). num (2 ^ b) (take k cs) + x * (2 ^ b) ^ k) (e ∙ sym (get_or-map (code_of b) vs k (pos 0)))
            ∙ sym (num_take (2 ^ b) cs k n);
      }

  -- 512 codes end on a whole word, and no bit waits
  pub done_all : (s : List ℕ) (c : PutCursor) (k : ℕ) → length s ≡ 64 * b → length vs ≡ 512 → k ≤ 512 → 512 ≤ k → Below 256 s → Done b vs s c k → s ≡ packing b vs
  unfolding packing run_of
  done_all s c k l m g u h d =
      let cs = map (code_of b) vs in
      let o = d.valid in
      let q : k ≡ 512 = omega arith in
      let p : end c ≡ b * 512 = rw q at d.place in
      let none : c.have ≡ 0 = omega (arith, o.small, o.whole) in
      let at : c.at ≡ 64 * b = omega (arith, o.small, o.whole) in
      let z : c.acc ≡ 0 = lt-one (subst (λ (x : ℕ). c.acc < 2 ^ x) none o.held) in
      let y : c.acc * 256 ^ c.at ≡ 0 = ap (λ (x : ℕ). x * 256 ^ c.at) z ∙ zero-mul (256 ^ c.at) in
      let t : take c.at s ≡ s = take_all c.at s (omega arith) in
      let f : take k cs ≡ cs = take_all k cs (rw length-map (omega arith)) in
      let e : num 256 s ≡ num (2 ^ b) cs = sym (ap (num 256) t) ∙ omega (arith, y, d.sofar) ∙ ap (num (2 ^ b)) f in
      sym (digits_num 256 s h) ∙ ap₂ (λ (n N : ℕ). digits 256 n N) l e

  pub room : (s : List ℕ) (c : PutCursor) (k : ℕ) → 1 ≤ b → b ≤ 32 → length s ≡ 64 * b → k < 512 → Done b vs s c k → Room s (end c) b
  room s c k l u e h d =
      let most : k + 1 ≤ 512 = omega arith in
      record { low = l; high = u; whole = e; fits = omega (arith, d.place, mul-le-mul_left b most, mul-add b k 1) }

pub ruleset codes = (value_holds, code_below, room, done_all)
