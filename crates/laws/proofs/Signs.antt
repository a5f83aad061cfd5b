-- The signed reading of a code of b bits, and back, once over the width: half of the codes mean themselves, the
-- others 2 ^ b less, so that each number that b bits hold has one code.
use Prim.Native.Nat.{ℕ, zero, suc, ◌+◌, ◌-◌, ◌*◌, ◌^◌, ◌≤◌, ◌<◌}
use mathlib.Core.Path.{◌≡◌, refl, sym, ap, ap₂, ◌∙◌, subst}
use mathlib.Core.Bool.{Bool, true, false, ◌&&◌, cond}
use mathlib.Core.List.{List, [], ◌∷◌, map}
use native.Mathlib.Nat.{pow-suc}
use native.Mathlib.Omega.{arith}
use lib.IntN.{ℤ, pos, negsuc, neg_ℤ}
use lib.Signed.{mag}
use lib.Dec.{ltb}
use lib.Pow.{pow_pos}
use lib.ListN.{length, get_or, length-map, get_or-map}
use borrow.Author.Tests.{lt-ltb, le-ltb, ltb-true, ltb-false}
use lib.Arith.{comp_comp}
use Rattle.format.specs.Lists.{every}
use Rattle.format.specs.Numbers.{Below, value, code_of, holds}
use Rattle.format.specs.Packed.{codes_in, run_of, values, packing}
use Rattle.laws.proofs.Tests.{and_left, and_right}
use Rattle.laws.proofs.Digits.{unpack_pack, pack_unpack, codes_low, length_bytes}

-- b bits hold z, and each of vs
abbrev pub Holds : ℕ → ℤ → Type 0
Holds b z = mag z < 2 ^ (b - 1)

abbrev pub AllHold : ℕ → List ℤ → Type 0
AllHold b vs = (i : ℕ) → Holds b (get_or vs i (pos 0))

pub twice : (b : ℕ) → 1 ≤ b → 2 ^ b ≡ 2 ^ (b - 1) + 2 ^ (b - 1)
twice b h =
    let e : b ≡ suc (b - 1) = omega arith in
    let d : 2 ^ (b - 1) * 2 ≡ 2 ^ (b - 1) + 2 ^ (b - 1) = omega arith in
    ap (λ (x : ℕ). 2 ^ x) e ∙ pow-suc 2 (b - 1) ∙ d

-- − n
pub minus_is : (n : ℕ) → 1 ≤ n → neg_ℤ (pos n) ≡ negsuc (n - 1)
minus_is zero h = absurd (omega arith)
minus_is (suc n) h = let e : n ≡ suc n - 1 = omega arith in ap negsuc e

-- − (m − c), where c is below m
less : (c m : ℕ) → c < m → neg_ℤ (pos (m - c)) ≡ negsuc (m - suc c)
less c m h = let e : m - c - 1 ≡ m - suc c = omega arith in minus_is (m - c) (omega arith) ∙ ap negsuc e

-- a code's meaning, by the number that its bits are
pub value_is : (b c : ℕ) → c < 2 ^ b → value b c ≡ cond (ltb c (2 ^ (b - 1))) (pos c) (negsuc (2 ^ b - suc c))
value_is b c h = ap (cond (ltb c (2 ^ (b - 1))) (pos c)) (less c (2 ^ b) h)

pub value_pos : (b c : ℕ) → c < 2 ^ (b - 1) → value b c ≡ pos c
value_pos b c h = ap (λ (t : Bool). cond t (pos c) (neg_ℤ (pos (2 ^ b - c)))) (lt-ltb c (2 ^ (b - 1)) h)

pub value_neg : (b c : ℕ) → 2 ^ (b - 1) ≤ c → c < 2 ^ b → value b c ≡ negsuc (2 ^ b - suc c)
value_neg b c h l = ap (λ (t : Bool). cond t (pos c) (neg_ℤ (pos (2 ^ b - c)))) (le-ltb c (2 ^ (b - 1)) h) ∙ less c (2 ^ b) l

-- ---- the two invert each other

pub code_lt : (b : ℕ) → 1 ≤ b → (z : ℤ) → Holds b z → code_of b z < 2 ^ b
code_lt b l (pos n) h = omega (arith, twice b l)
code_lt b l (negsuc n) h = omega (arith, pow_pos b)

pub value_code : (b : ℕ) → 1 ≤ b → (z : ℤ) → Holds b z → value b (code_of b z) ≡ z
value_code b l (pos n) h = value_pos b n h
value_code b l (negsuc n) h =
    let e : 2 ^ b ≡ 2 ^ (b - 1) + 2 ^ (b - 1) = twice b l in
    let d : 2 ^ b - suc (2 ^ b - suc n) ≡ n = omega (arith, e) in
    value_neg b (2 ^ b - suc n) (omega (arith, e)) (omega (arith, pow_pos b)) ∙ ap negsuc d

-- the codes of numbers that b bits hold
codes_below : (b : ℕ) → 1 ≤ b → (vs : List ℤ) → AllHold b vs → Below (2 ^ b) (map (code_of b) vs)
codes_below b l vs h i = subst (λ (x : ℕ). x < 2 ^ b) (sym (get_or-map (code_of b) vs i (pos 0))) (code_lt b l (get_or vs i (pos 0)) (h i))

map_back : (b : ℕ) → 1 ≤ b → (vs : List ℤ) → AllHold b vs → map (value b) (map (code_of b) vs) ≡ vs
map_back b l [] h = refl
map_back b l (v ∷ vs) h = ap₂ (λ (x : ℤ) (xs : List ℤ). x ∷ xs) (value_code b l v (h 0)) (map_back b l vs (λ i. h (suc i)))

-- THE ROUND TRIP, once over the width
pub values_packing : (b : ℕ) → 1 ≤ b → (vs : List ℤ) → length vs ≡ 512 → AllHold b vs → values b (packing b vs) ≡ vs
unfolding values packing
values_packing b l vs e h =
    ap (map (value b)) (unpack_pack b (map (code_of b) vs) (length-map vs (code_of b) ∙ e) (codes_below b l vs h)) ∙ map_back b l vs h

code_back : (b c : ℕ) (t : Bool) → c < 2 ^ b → code_of b (cond t (pos c) (negsuc (2 ^ b - suc c))) ≡ c
code_back b c true h = refl
code_back b c false h = comp_comp h

pub code_value : (b c : ℕ) → c < 2 ^ b → code_of b (value b c) ≡ c
code_value b c h = ap (code_of b) (value_is b c h) ∙ code_back b c (ltb c (2 ^ (b - 1))) h

map_forth : (b : ℕ) (cs : List ℕ) → Below (2 ^ b) cs → map (code_of b) (map (value b) cs) ≡ cs
map_forth b [] h = refl
map_forth b (c ∷ cs) h = ap₂ (λ (x : ℕ) (xs : List ℕ). x ∷ xs) (code_value b c (h 0)) (map_forth b cs (λ i. h (suc i)))

pub packing_values : (b : ℕ) (s : List ℕ) → length s ≡ 64 * b → Below 256 s → packing b (values b s) ≡ s
unfolding values packing
packing_values b s e h = ap (run_of b) (map_forth b (codes_in b s) (codes_low b s)) ∙ pack_unpack b s e h

pub length_packing : (b : ℕ) (vs : List ℤ) → length (packing b vs) ≡ 64 * b
unfolding packing
length_packing b vs = length_bytes b (map (code_of b) vs)

pub every_holds : (b : ℕ) (vs : List ℤ) → every (holds b) vs ≡ true → AllHold b vs
unfolding every
every_holds b [] e i = pow_pos (b - 1)
every_holds b (v ∷ vs) e zero = ltb-true (mag v) (2 ^ (b - 1)) (and_left (holds b v) (every (holds b) vs) e)
every_holds b (v ∷ vs) e (suc i) = every_holds b vs (and_right (holds b v) (every (holds b) vs) e) i

holds_by : (b c : ℕ) (t : Bool) → 1 ≤ b → c < 2 ^ b → ltb c (2 ^ (b - 1)) ≡ t → Holds b (cond t (pos c) (negsuc (2 ^ b - suc c)))
holds_by b c true l h e = ltb-true c (2 ^ (b - 1)) e
holds_by b c false l h e = omega (arith, ltb-false c (2 ^ (b - 1)) e, twice b l)

pub value_holds : (b c : ℕ) → 1 ≤ b → c < 2 ^ b → Holds b (value b c)
value_holds b c l h = subst (Holds b) (sym (value_is b c h)) (holds_by b c (ltb c (2 ^ (b - 1))) l h refl)

-- what is read at a width is held by it
pub values_hold : (b : ℕ) (s : List ℕ) → 1 ≤ b → AllHold b (values b s)
unfolding values
values_hold b s l i =
    let vs = map (value b) (codes_in b s) in
    let e : get_or vs i (pos 0) ≡ value b (get_or (codes_in b s) i 0) = ap (get_or vs i) (sym (value_pos b 0 (pow_pos (b - 1)))) ∙ get_or-map (value b) (codes_in b s) i 0 in
    rw e (value_holds b (get_or (codes_in b s) i 0) l (codes_low b s i))

pub holds_every : (b : ℕ) (vs : List ℤ) → AllHold b vs → every (holds b) vs ≡ true
unfolding every
holds_every b [] h = refl
holds_every b (v ∷ vs) h = ap₂ (λ (x y : Bool). x && y) (lt-ltb (mag v) (2 ^ (b - 1)) (h 0)) (holds_every b vs (λ i. h (suc i)))
