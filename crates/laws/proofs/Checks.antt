-- Checks in order: all pass exactly where each passes, and the first that refuses is the refusal.
use Rattle.std.specs.Prelude.{Ok, Err}
use Prim.Native.Nat.{ℕ, zero, suc, ◌+◌, ◌-◌, ◌<◌, ◌≤◌}
use mathlib.Core.Path.{◌≡◌, refl, sym, ap, ap₂, ◌∙◌, subst}
use mathlib.Core.Bool.{Bool, true, false, ◌||◌}
use mathlib.Core.Logic.{⊎_elim}
use native.Mathlib.Omega.{arith}
use native.Mathlib.Nat.{add-zero, add-suc}
use lib.Dec.{ltb, eqb}
use borrow.Author.Tests.{ltb-false, eq-eqb}
use Rattle.format.specs.Lists.{any_below}
use Rattle.format.specs.Refusals.{Checked, Fine, No, number, refuse, ◌then◌, in_order}
use Rattle.format.specs.declared.refusals.Refusal.{Refusal}
use Rattle.format.specs.declared.refusals.Place.{Place}
use Rattle.laws.proofs.Tests.{never, or_left, or_right}
use Rattle.laws.proofs.Parts.{below_suc}

-- ---- one check, and two

pub pass : (b : Bool) (r : Refusal) → b ≡ false → refuse b r ≡ Fine
unfolding refuse
pass b r e = rw e

pub passed : (b : Bool) (r : Refusal) → refuse b r ≡ Fine → b ≡ false
unfolding refuse
passed true r e = cc
passed false r e = refl

infixr 20 ◌and_then◌
pub ◌and_then◌ : {a b c : Checked} → a ≡ Fine → b ≡ c → (a then b) ≡ c
unfolding ◌then◌
◌and_then◌ {a} {b} {c} e f = rw (e, f)

-- the same first check, and the same after it where it passes
infixr 20 ◌then_same◌
pub ◌then_same◌ : {a b c d : Checked} → a ≡ b → (b ≡ Fine → c ≡ d) → (a then c) ≡ (b then d)
unfolding ◌then◌
◌then_same◌ {a} {b} {c} {d} e f = ap (λ (x : Checked). x then c) e ∙ by b f
  where
    by : (x : Checked) → (x ≡ Fine → c ≡ d) → (x then c) ≡ (x then d)
    by (Ok ok) g = g refl
    by (Err refused) g = refl

pub then_fine : (a : Checked) → (a then Fine) ≡ a
unfolding ◌then◌
then_fine (Ok ok) = refl
then_fine (Err refused) = refl

pub then_assoc : (a b c : Checked) → ((a then b) then c) ≡ (a then b then c)
unfolding ◌then◌
then_assoc (Ok ok) b c = refl
then_assoc (Err refused) b c = refl

pub first_fine : (a b : Checked) → (a then b) ≡ Fine → a ≡ Fine
unfolding ◌then◌
first_fine (Ok ok) b e = refl
first_fine (Err refused) b e = e

pub others_fine : (a b : Checked) → (a then b) ≡ Fine → b ≡ Fine
unfolding ◌then◌
others_fine (Ok ok) b e = e
others_fine (Err refused) b e = cc

-- what passed the check of the room has room
pub has_room : (a : Checked) (room m : ℕ) (r : Refusal) → (a then refuse (ltb room m) r) ≡ Fine → m ≤ room
has_room a room m r e = ltb-false room m (passed _ _ (others_fine a _ e))

-- ---- which refusal: x is not what c says, of any place
abbrev pub Unsaid : Refusal → Checked → Type 0
Unsaid x c = (at : Place) → c ≡ No x at → ⊥

-- one that is said is the same and at the same place, as checks say it
why_of : Refusal → Checked → Refusal
why_of x (Ok ok) = x
why_of x (Err refused) = refused.why

place_of : Place → Checked → Place
place_of at (Ok ok) = at
place_of at (Err refused) = refused.place

pub same_refusal : {x y : Refusal} {at there : Place} → No x at ≡ No y there → x ≡ y
unfolding why_of
same_refusal {x} e = ap (why_of x) e

pub same_place : {x y : Refusal} {at there : Place} → No x at ≡ No y there → at ≡ there
unfolding place_of
same_place {x} {y} {at} e = ap (place_of at) e

-- a check that refuses by another number
pub unsaid : (x r : Refusal) (b : Bool) → eqb (number r) (number x) ≡ false → Unsaid x (refuse b r)
unfolding refuse
unsaid x r b differ = by b
  where
    by : (t : Bool) → Unsaid x (refuse t r)
    by true at e = let q : r ≡ x = same_refusal e in never (sym (eq-eqb (number r) (number x) (ap number q)) ∙ differ)
    by false at e = let z : true ≡ false = cc in never z

infixr 20 ◌nor◌
pub ◌nor◌ : {x : Refusal} {a b : Checked} → Unsaid x a → Unsaid x b → Unsaid x (a then b)
unfolding ◌then◌
◌nor◌ {x} {a} {b} p q = by a p
  where
    by : (c : Checked) → Unsaid x c → Unsaid x (c then b)
    by (Ok ok) h = q
    by (Err refused) h = h

-- what one of them does not say the other one says
pub said_after_lem : (x : Refusal) (at : Place) (a b : Checked) → Unsaid x a → (a then b) ≡ No x at → (a ≡ Fine) × (b ≡ No x at)
unfolding ◌then◌
said_after_lem x at (Ok ok) b p e = (refl, e)
said_after_lem x at (Err refused) b p e = absurd (p at e)

pub said_before : (x : Refusal) (at : Place) (a b : Checked) → Unsaid x b → (a then b) ≡ No x at → a ≡ No x at
unfolding ◌then◌
said_before x at (Ok ok) b p e = absurd (p at e)
said_before x at (Err refused) b p e = e

-- ---- as many as there are: P n says that Q holds of each k below n

module _ (P Q : ℕ → Type 0) where
  all_below : P 0 → ((n : ℕ) → P n → Q n → P (suc n)) → (n : ℕ) → ((k : ℕ) → k < n → Q k) → P n
  all_below none more zero h = none
  all_below none more (suc n) h = more n (all_below none more n (λ k l. h k (omega arith))) (h n (omega arith))

  each_below : ((n : ℕ) → P (suc n) → P n × Q n) → (k n : ℕ) → k < n → P n → Q k
  each_below less k zero l p = absurd (omega arith)
  each_below less k (suc n) l p =
      ⊎_elim (λ (e : k ≡ n). subst Q (sym e) (less n p).1) (λ (h : k < n). each_below less k n h (less n p).0) (below_suc k n l)

-- checks
module _ (check : ℕ → Checked) where
  abbrev Fine-at : ℕ → Type 0
  Fine-at k = check k ≡ Fine

  abbrev Fine-below : ℕ → Type 0
  Fine-below n = in_order check n ≡ Fine

  pub in_order_lem : (n : ℕ) → ((k : ℕ) → k < n → check k ≡ Fine) → in_order check n ≡ Fine
  unfolding in_order
  in_order_lem = all_below Fine-below Fine-at refl (λ n p q. p and_then q)

  pub order_fine : (k n : ℕ) → k < n → in_order check n ≡ Fine → check k ≡ Fine
  unfolding in_order
  order_fine = each_below Fine-below Fine-at (λ n e. (first_fine (in_order check n) (check n) e, others_fine (in_order check n) (check n) e))

-- tests
module _ (p : ℕ → Bool) where
  abbrev Not-at : ℕ → Type 0
  Not-at k = p k ≡ false

  abbrev None-below : ℕ → Type 0
  None-below n = any_below p n ≡ false

  pub found_below : (k n : ℕ) → k < n → any_below p n ≡ false → p k ≡ false
  unfolding any_below
  found_below = each_below None-below Not-at (λ n e. (or_left (any_below p n) (p n) e, or_right (any_below p n) (p n) e))

-- ---- the first refusal

-- checks in order refuse as the first that refuses, and only so
pub record FirstRefuses (check : ℕ → Checked) (n : ℕ) (r : Refusal) (place : Place) : Type 0 where
  pub at : ℕ
  pub below : at < n
  pub before : in_order check at ≡ Fine
  pub refuses : check at ≡ No r place

pub order_refuses : (check : ℕ → Checked) (n : ℕ) (r : Refusal) (place : Place) → FirstRefuses check n r place → in_order check n ≡ No r place
unfolding in_order ◌then◌
order_refuses check zero r place f = let z = f.below in absurd (omega arith)
order_refuses check (suc n) r place f =
    ⊎_elim
    (λ (e : f.at ≡ n). ap₂ (λ (a b : Checked). a then b) (ap (in_order check) (sym e) ∙ f.before) (ap check (sym e) ∙ f.refuses))
    (λ (l : f.at < n). ap (λ (a : Checked). a then check n) (order_refuses check n r place (record { at = f.at; below = l; before = f.before; refuses = f.refuses })))
    (below_suc f.at n f.below)

pub refusal_first : (check : ℕ → Checked) (n : ℕ) (r : Refusal) (place : Place) → in_order check n ≡ No r place → FirstRefuses check n r place
unfolding in_order ◌then◌
refusal_first check zero r place e = let z : ◌≡◌ {A = ℕ} 0 1 = cc in absurd (omega arith)
refusal_first check (suc n) r place e = by (in_order check n) refl (refusal_first check n)
  where
    by : (c : Checked) → in_order check n ≡ c → ((r : Refusal) (place : Place) → in_order check n ≡ No r place → FirstRefuses check n r place) → FirstRefuses check (suc n) r place
    by (Ok ok) q i = record { at = n; below = omega arith; before = q; refuses = sym (ap (λ (a : Checked). a then check n) q) ∙ e }
    by (Err refused) q i =
        let y : Err refused ≡ No r place = sym (ap (λ (a : Checked). a then check n) q) ∙ e in
        let f = i r place (q ∙ y) in
        record { at = f.at; below = lt_suc f.at n f.below; before = f.before; refuses = f.refuses }
      where
        lt_suc : (a n : ℕ) → a < n → a < suc n
        lt_suc a n l = omega arith

-- checks that are the same below n
pub order_cong : (p q : ℕ → Checked) (n : ℕ) → ((k : ℕ) → k < n → p k ≡ q k) → in_order p n ≡ in_order q n
unfolding in_order
order_cong p q zero h = refl
order_cong p q (suc n) h = ap₂ (λ (a b : Checked). a then b) (order_cong p q n (λ k l. h k (omega arith))) (h n (omega arith))

-- the first m of them, and those behind them
pub order_add : (check : ℕ → Checked) (m n : ℕ) → in_order check (m + n) ≡ (in_order check m then in_order (λ k. check (m + k)) n)
unfolding in_order
order_add check m zero = ap (in_order check) (add-zero m) ∙ sym (then_fine (in_order check m))
order_add check m (suc n) =
    ap (in_order check) (add-suc m n) ∙ ap (λ (c : Checked). c then check (m + n)) (order_add check m n)
    ∙ then_assoc (in_order check m) (in_order (λ k. check (m + k)) n) (check (m + n))

-- some of them twice: the first m, and then those from a on, which is no later
pub order_twice : (check : ℕ → Checked) (a m n : ℕ) → a ≤ m → m ≤ a + n → (in_order check m then in_order (λ k. check (a + k)) n) ≡ in_order check (a + n)
unfolding ◌then◌
order_twice check a m n l q = by (in_order check m) refl
  where
    by : (c : Checked) → in_order check m ≡ c → (c then in_order (λ k. check (a + k)) n) ≡ in_order check (a + n)
    by (Ok ok) e = sym (order_add check a n ∙ (in_order_lem check a (λ k b. order_fine check k m (omega arith) e) and_then refl))
    by (Err refused) e =
        let d : a + n ≡ m + (a + n - m) = omega arith in
        sym (ap (in_order check) d ∙ order_add check m (a + n - m) ∙ ap (λ (c : Checked). c then in_order (λ k. check (m + k)) (a + n - m)) e)

-- tests that are the same below n
pub any_cong : (p q : ℕ → Bool) (n : ℕ) → ((k : ℕ) → k < n → p k ≡ q k) → any_below p n ≡ any_below q n
unfolding any_below
any_cong p q zero h = refl
any_cong p q (suc n) h = ap₂ (λ (a b : Bool). a || b) (any_cong p q n (λ k l. h k (omega arith))) (h n (omega arith))
