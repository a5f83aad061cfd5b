-- The values of a run, two a turn: value k of 512 is the code at bit b * k.
use Rattle.std.proofs.Common.{◌≡◌, ℕ, ◌+◌, ◌-◌, ◌*◌, ◌/◌, ◌%◌, ◌^◌, ◌<◌, ◌≤◌, List, map, length, get_or, set, ℤ, pos, sym, ap, ◌∙◌, subst, mul-le-mul_left, mul-add, arith, length-set, get_or-set_other, get_or-set_same, ext_get_or, pow_pos, w32, to_z, of_z, below_more}
use lib.ListN.{get_or-map}
use Rattle.format.specs.Numbers.{num, value}
use Rattle.format.specs.Packed.{codes_in, values}
use Rattle.laws.proofs.Digits.{pow_mul, get_d_digits}
use Rattle.laws.proofs.Lengths.{length_values}
use Rattle.laws.proofs.Signs.{value_pos}
use Rattle.bits.specs.Place.{bits_at, Room, Read, ReadTwo}
use Rattle.bits.specs.declared.Next.{Next}
use Rattle.bits.specs.declared.Pair.{Pair}
use Rattle.bits.proofs.Steps.{value_is}

codes_at : (b : ℕ) (s : List ℕ) (k : ℕ) → k < 512 → get_or (codes_in b s) k 0 ≡ bits_at (num 256 s) (b * k) b
unfolding codes_in
codes_at b s k h = get_d_digits (2 ^ b) 512 (num 256 s) k h ∙ ap (λ (x : ℕ). num 256 s / x % 2 ^ b) (sym (pow_mul 2 b k))

values_at : (b : ℕ) (s : List ℕ) (k : ℕ) → k < 512 → get_or (values b s) k (pos 0) ≡ value b (bits_at (num 256 s) (b * k) b)
unfolding values
values_at b s k h =
    ap (get_or (map (value b) (codes_in b s)) k) (sym (value_pos b 0 (pow_pos (b - 1)))) ∙ get_or-map (value b) (codes_in b s) k 0 ∙ ap (value b) (codes_at b s k h)

-- ---- the loop
module _ (b : ℕ) (s : List ℕ) where
  -- what turn i reads are the values 2 * i and 2 * i + 1
  value_at : (k p : ℕ) (v : ℤ) → 1 ≤ b → b ≤ 32 → k < 512 → p ≡ b * k → v ≡ value b (bits_at (num 256 s) p b) → to_z w32 (of_z w32 v) ≡ get_or (values b s) k (pos 0)
  value_at k p v low high l q e =
      value_is v b (num 256 s / 2 ^ p) low high e ∙ ap (λ (x : ℕ). value b (bits_at (num 256 s) x b)) q ∙ sym (values_at b s k l)

  pub first_value_lem : (k p : ℕ) (r : Pair) → 1 ≤ b → b ≤ 32 → k < 512 → p ≡ b * k → ReadTwo s p b r → to_z w32 (of_z w32 r.first) ≡ get_or (values b s) k (pos 0)
  first_value_lem k p r low high l q e = value_at k p r.first low high l q e.first

  pub first_value_pair : (i p : ℕ) (r : Pair) → 1 ≤ b → b ≤ 32 → i < 256 → p ≡ b * (2 * i) → ReadTwo s p b r → to_z w32 (of_z w32 r.first) ≡ get_or (values b s) (2 * i) (pos 0)
  first_value_pair i p r low high l q e = first_value_lem (2 * i) p r low high (omega arith) q e

  pub second_value : (i p : ℕ) (r : Pair) → 1 ≤ b → b ≤ 32 → i < 256 → p ≡ b * (2 * i) → ReadTwo s p b r → to_z w32 (of_z w32 r.second) ≡ get_or (values b s) (2 * i + 1) (pos 0)
  second_value i p r low high l q e = value_at (2 * i + 1) (p + b) r.second low high (omega arith) (omega (arith, q, mul-add b (2 * i) 1)) e.second

  pub last_value : (r : Next) → 1 ≤ b → b ≤ 32 → Read s (511 * b) b r → to_z w32 (of_z w32 r.value) ≡ get_or (values b s) 511 (pos 0)
  last_value r low high e = value_at 511 (511 * b) r.value low high (omega arith) (omega arith) e.means

  -- the first k values are in place
  abbrev pub Done : List ℤ → ℕ → Type 0
  Done out k = (j : ℕ) → j < k → get_or out j (pos 0) ≡ get_or (values b s) j (pos 0)

  one_more : (out : List ℤ) (k : ℕ) (v : ℤ) → k < length out → v ≡ get_or (values b s) k (pos 0) → Done out k → Done (set out k v) (k + 1)
  one_more out k v l e d =
      below_more (λ (j : ℕ). get_or (set out k v) j (pos 0) ≡ get_or (values b s) j (pos 0)) k
      (λ j h. get_or-set_other out k j v (pos 0) (λ q. let w : k < k = subst (λ (x : ℕ). x < k) q h in omega arith) ∙ d j h)
      (get_or-set_same out k v (pos 0) l ∙ e)

  pub two_more : (out : List ℤ) (i : ℕ) (v w : ℤ) → i < 256 → length out ≡ 512 → v ≡ get_or (values b s) (2 * i) (pos 0) → w ≡ get_or (values b s) (2 * i + 1) (pos 0) → Done out (2 * i)
      → Done (set (set out (2 * i) v) (2 * i + 1) w) (2 * (i + 1))
  two_more out i v w l n e f d j h = one_more (set out (2 * i) v) (2 * i + 1) w (simp length-set (omega arith)) f (one_more out (2 * i) v (omega arith) e d) j (omega arith)

  pub all_done : (out : List ℤ) (k : ℕ) → length out ≡ 512 → 512 ≤ k → Done out k → out ≡ values b s
  all_done out k n l d = ext_get_or (pos 0) out (values b s) (n ∙ sym (length_values b s)) (λ i h. d i (omega arith))

  pub room : (i p : ℕ) → 1 ≤ b → b ≤ 32 → length s ≡ 64 * b → p ≡ b * (2 * i) → i < 256 → Room s (p + b) b
  room i p l u e f h =
      let most : 2 * i + 2 ≤ 512 = omega arith in
      record { low = l; high = u; whole = e; fits = omega (arith, mul-le-mul_left b most, mul-add b (2 * i) 2) }

  pub next_place : (k p : ℕ) (r : Pair) → p ≡ b * k → ReadTwo s p b r → r.cursor.bit ≡ b * (k + 2)
  next_place k p r e q = omega (arith, e, q.moved, mul-add b k 2)

  -- the same at turn i
  pub next_pair : (i p : ℕ) (r : Pair) → p ≡ b * (2 * i) → ReadTwo s p b r → r.cursor.bit ≡ b * (2 * (i + 1))
  next_pair i p r e q =
      let two : 2 * i + 2 ≡ 2 * (i + 1) = omega arith in
      next_place (2 * i) p r e q ∙ ap (λ (n : ℕ). b * n) two

pub ruleset turn = (room, all_done)
