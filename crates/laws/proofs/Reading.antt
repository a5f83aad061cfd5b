-- What code reads and what a loop over checks says: the laws that functions cite. A number's bytes are its digits to
-- 256, and one more check is the next of the definition's.
use Prim.Native.Nat.{ℕ, zero, suc, ◌+◌, ◌*◌, ◌^◌, ◌≤◌, ◌<◌}
use mathlib.Core.Path.{◌≡◌, refl, sym, ap, ◌∙◌, subst}
use mathlib.Core.Bool.{Bool, true, false}
use mathlib.Core.List.{List}
use native.Mathlib.Nat.{mul_right_comm, pow-suc, zero-lt-suc}
use native.Mathlib.Omega.{arith}
use native.Mathlib.Numerals.{add-one}
use lib.ListN.{length, get_or, drop}
use lib.Seq.{drop-cons, drop-drop}
use Rattle.format.specs.Lists.{from}
use Rattle.format.specs.Numbers.{num, Below, num_at}
use Rattle.format.specs.Blocks.{size_of, from_block}
use Rattle.format.specs.Refusals.{Checked, Fine, No, nowhere, refuse, ◌then◌, in_order}
use Rattle.format.specs.Places.{at_group, in_group}
use Rattle.format.specs.declared.refusals.Refusal.{Refusal}
use Rattle.format.specs.declared.refusals.Place.{Place}
use Rattle.laws.proofs.Each.{each_drop}
use Rattle.laws.proofs.Checks.{pass, order_refuses}
use Rattle.laws.proofs.Places.{fine_located, no_located}
use Rattle.laws.proofs.Digits.{num_take_lt}

-- ---- little-endian numbers, byte by byte
pub number_lt : (i n : ℕ) (s : List ℕ) → Below 256 s → num_at i n s < 256 ^ n
unfolding num_at from
number_lt i n s byte = num_take_lt 256 n (drop i s) (each_drop (λ x. x < 256) 0 (zero-lt-suc 255) i s byte)

number_more : (i n : ℕ) (s : List ℕ) → i < length s → num_at i (suc n) s ≡ num_at (i + 1) n s * 256 + get_or s i 0
unfolding num_at from num
number_more i n s h = rw (drop-cons s i 0 h, add-one)

number_none : (j : ℕ) (s : List ℕ) → num_at j 0 s ≡ 0
unfolding num_at from num
number_none j s = refl

pub number_2 : (i : ℕ) (s : List ℕ) → i + 2 ≤ length s → num_at i 2 s ≡ get_or s i 0 + 256 * get_or s (i + 1) 0
number_2 i s h =
    let a = number_more i 1 s (omega arith) in
    let b = number_more (i + 1) 0 s (omega arith) in
    let z = number_none (i + 1 + 1) s in
    omega arith

pub number_4 : (i : ℕ) (s : List ℕ) → i + 4 ≤ length s
    → num_at i 4 s ≡ get_or s i 0 + 256 * get_or s (i + 1) 0 + 65536 * get_or s (i + 2) 0 + 16777216 * get_or s (i + 3) 0
number_4 i s h =
    let a = number_more i 3 s (omega arith) in
    let b = number_more (i + 1) 2 s (omega arith) in
    let e2 : i + 1 + 1 ≡ i + 2 = omega arith in
    let c = number_2 (i + 2) s (omega arith) in
    let e3 : i + 2 + 1 ≡ i + 3 = omega arith in
    omega (arith, a, rw e2 at b, rw e3 at c)

-- a number of m + n bytes, from its parts
numbers_meet : (m n i : ℕ) (s : List ℕ) → i + m ≤ length s → num_at i (m + n) s ≡ num_at i m s + 256 ^ m * num_at (i + m) n s
numbers_meet zero n i s h =
    let e : i + 0 ≡ i = omega arith in
    let z : 0 + n ≡ n = omega arith in
    rw (e, z, number_none i s) (omega arith)
numbers_meet (suc m) n i s h =
    let a = number_more i (m + n) s (omega arith) in
    let b = number_more i m s (omega arith) in
    let e : i + 1 + m ≡ i + suc m = omega arith in
    let t : num_at (i + 1) (m + n) s ≡ num_at (i + 1) m s + 256 ^ m * num_at (i + suc m) n s = rw e at (numbers_meet m n (i + 1) s (omega arith)) in
    let p : 256 ^ suc m * num_at (i + suc m) n s ≡ 256 ^ m * num_at (i + suc m) n s * 256 = ap (λ (x : ℕ). x * num_at (i + suc m) n s) (pow-suc 256 m) ∙ mul_right_comm (256 ^ m) 256 (num_at (i + suc m) n s) in
    let q : suc m + n ≡ suc (m + n) = omega arith in
    rw q (omega (arith, a, b, t, p))

pub number_8 : (i : ℕ) (s : List ℕ) → i + 4 ≤ length s → num_at i 8 s ≡ num_at i 4 s + 4294967296 * num_at (i + 4) 4 s
number_8 i s h = numbers_meet 4 4 i s h

-- ---- a loop over checks: c have passed, and the next refuses or passes
pub order_stops : (check : ℕ → Checked) (c n : ℕ) (r : Refusal) (at : Place) (k : Checked) → c < n → in_order check c ≡ Fine → check c ≡ No r at → No r at ≡ (in_order check n then k)
unfolding ◌then◌
order_stops check c n r at k l p q = sym (ap (λ (x : Checked). x then k) (order_refuses check n r at (record { at = c; below = l; before = p; refuses = q })))

pub order_more : (check : ℕ → Checked) (c : ℕ) → in_order check c ≡ Fine → check c ≡ Fine → in_order check (c + 1) ≡ Fine
unfolding in_order ◌then◌
order_more check c p q = rw add-one (rw (p, q))

-- none is made yet, the next one refuses, all are made
pub order_none : (check : ℕ → Checked) → in_order check 0 ≡ Fine
unfolding in_order
order_none check = refl

pub order_zero : (check : ℕ → Checked) (n : ℕ) → n ≡ 0 → Fine ≡ in_order check n
unfolding in_order
order_zero check n e = rw e

module _ (check : ℕ → Checked) (groups g n : ℕ) (all : groups ≡ n) (fine : in_order check g ≡ Fine) where
  pub order_ends : (r : Refusal) (at : Place) → g < groups → check g ≡ No r at → No r at ≡ in_order check n
  order_ends r at l e = sym (order_refuses check n r at (record { at = g; below = omega arith; before = fine; refuses = e }))

  pub order_whole : g ≡ groups → Fine ≡ in_order check n
  order_whole e = sym (subst (λ (k : ℕ). in_order check k ≡ Fine) (e ∙ all) fine)

-- the same of groups, each by its number
module _ (check : ℕ → Checked) where
  abbrev pub groups_in : ℕ → Checked
  groups_in g = in_group g (check g)

  module _ (g : ℕ) (fine : in_order groups_in g ≡ Fine) where
    pub group_ends : (groups n : ℕ) → groups ≡ n → g < groups → (r : Refusal) (from at : Place) → check g ≡ No r from → at ≡ at_group g from → No r at ≡ in_order groups_in n
    group_ends groups n all l r from at e p = order_ends groups_in groups g n all fine r at l (no_located (at_group g) (check g) r from e ∙ ap (No r) (sym p))

    pub group_more : check g ≡ Fine → in_order groups_in (g + 1) ≡ Fine
    group_more e = order_more groups_in g fine (fine_located (at_group g) (check g) e)

-- and of one test of each
module _ (test : ℕ → Bool) (r : Refusal) where
  abbrev pub tests_in : ℕ → Checked
  tests_in g = in_group g (refuse (test g) r)

  module _ (g : ℕ) (fine : in_order tests_in g ≡ Fine) where
    pub test_ends : (groups n : ℕ) → groups ≡ n → g < groups → test g ≡ true → (at : Place) → at ≡ at_group g nowhere → No r at ≡ in_order tests_in n
    unfolding refuse
    test_ends groups n all l h at p = group_ends (λ i. refuse (test i) r) g fine groups n all l r nowhere at (rw h) p

    pub test_more : test g ≡ false → in_order tests_in (g + 1) ≡ Fine
    test_more h = group_more (λ i. refuse (test i) r) g fine (pass (test g) r h)

-- ---- the place of channel c's block: what is left is what lies from it on
pub rest_none : (depth : ℕ) (bs : List ℕ) → from_block depth bs 0 ≡ drop 0 bs
unfolding from_block
rest_none depth bs = refl

pub rest_more : (depth : ℕ) (bs : List ℕ) (c at n : ℕ) → from_block depth bs c ≡ drop at bs → n ≡ size_of depth (drop at bs) → from_block depth bs (c + 1) ≡ drop (at + n) bs
unfolding from_block
rest_more depth bs c at n e z = rw add-one (rw (e, ← z) (drop-drop n at bs))
