-- Laws of a chain of checks, and of the tests in it, in the form that a way out of a function asks for: the checks
-- before it passed, and the next one refuses or decides.
use Rattle.std.specs.Prelude.{Err}
use Prim.Native.Nat.{ℕ, ◌+◌, ◌<◌, ◌≤◌}
use mathlib.Core.Path.{◌≡◌, refl, sym, ◌∙◌, subst}
use mathlib.Core.Bool.{Bool, true, false, not, ◌&&◌, ◌||◌}
use mathlib.Core.List.{List}
use native.Mathlib.Omega.{arith}
use native.Mathlib.Numerals.{add-one}
use lib.Dec.{ltb, eqb}
use borrow.Author.Tests.{lt-ltb, le-ltb, eq-eqb, ne_eqb}
use Rattle.format.specs.Lists.{any_below}
use Rattle.format.specs.Refusals.{Checked, Fine, No, nowhere, refuse, ◌then◌, in_order}
use Rattle.format.specs.Answers.{refused_by, answered, filled}
use Rattle.format.specs.declared.refusals.Refusal.{Refusal}
use Rattle.format.specs.declared.refusals.Place.{Place}
use Rattle.format.specs.declared.refusals.RefusedAt.{RefusedAt}
use Rattle.format.specs.declared.answers.Outcome.{Outcome}
use Rattle.format.specs.declared.answers.Answer.{Answer}
use Rattle.laws.proofs.Tests.{never, and_no}
use Rattle.laws.proofs.Checks.{found_below, order_refuses}

-- ---- checks

module _ (r : Refusal) where
  -- a check whose test holds refuses, also before others
  pub stop : (b : Bool) → b ≡ true → No r nowhere ≡ refuse b r
  unfolding refuse
  stop b h = rw h

  pub stop_then : (b : Bool) (k : Checked) → b ≡ true → No r nowhere ≡ (refuse b r then k)
  unfolding refuse ◌then◌
  stop_then b k h = rw h

  -- a check whose test fails is passed
  pub pass : (b : Bool) → b ≡ false → Fine ≡ refuse b r
  unfolding refuse
  pass b h = rw h

  pub pass_then : (b : Bool) (k x : Checked) → b ≡ false → x ≡ k → x ≡ (refuse b r then k)
  unfolding refuse ◌then◌
  pass_then b k x h e = rw h e

-- ---- tests

pub not_yes : (b : Bool) → b ≡ true → not b ≡ false
not_yes b h = rw h

pub not_no : (b : Bool) → b ≡ false → not b ≡ true
not_no b h = rw h

pub and_both : (a b : Bool) → a ≡ true → b ≡ true → (a && b) ≡ true
and_both a b p q = simp (p, q)

pub first_no : (a b : Bool) → a ≡ false → (a && b) ≡ false
first_no a b p = simp p

-- a test that a callee answered: x is the callee's result, and y what its contract says that it is
pub flag_yes : (x y : Bool) → x ≡ y → x ≡ true → y ≡ true
flag_yes x y e h = sym e ∙ h

pub flag_no : (x y : Bool) → x ≡ y → x ≡ false → y ≡ false
flag_no x y e h = sym e ∙ h

-- a number that a callee answered
pub same_eqb : (x y n : ℕ) → x ≡ y → x ≡ n → eqb y n ≡ true
same_eqb x y n e h = eq-eqb y n (sym e ∙ h)

pub other_eqb : (x y n : ℕ) → x ≡ y → (x ≡ n → ⊥) → eqb y n ≡ false
other_eqb x y n e h = ne_eqb y n (λ q. h (e ∙ q))

pub ruleset flags = (flag_yes, flag_no, same_eqb, other_eqb)

pub ruleset chain = (stop, stop_then, pass, pass_then, lt-ltb, le-ltb, eq-eqb, ne_eqb, not_yes, not_no, and_both, first_no, and_no, arith)

-- ---- checks that are settled, before others

pub err_then : (a b : Checked) (e : RefusedAt) → a ≡ Err e → (a then b) ≡ Err e
unfolding ◌then◌
err_then a b e h = rw h

pub fine_then : (a b : Checked) → a ≡ Fine → (a then b) ≡ b
unfolding ◌then◌
fine_then a b h = rw h

-- ---- checks that a callee answered: k is its answer, a what its contract says that it is, b what is asked after
-- them

module _ (k a : Checked) (says : k ≡ a) where
  pub settled : (c : Checked) → k ≡ c → a ≡ c
  settled c e = sym says ∙ e

  pub stops_at : (b : Checked) (r : Refusal) (at : Place) → k ≡ No r at → No r at ≡ (a then b)
  unfolding ◌then◌
  stops_at b r at e = rw (← says, e)

  -- the same of what a `?` passes on
  pub stops_with : (b : Checked) (e : RefusedAt) → k ≡ Err e → Err e ≡ (a then b)
  unfolding ◌then◌
  stops_with b e h = rw (← says, h)

  pub passes_on : (b x : Checked) → k ≡ Fine → x ≡ b → x ≡ (a then b)
  unfolding ◌then◌
  passes_on b x fine e = rw (← says, fine) e

  -- an entry that they refuse
  module _ (b : Checked) (r : Refusal) (at : Place) (e : k ≡ No r at) where
    pub refuses : (o : Outcome) (x : Answer) → x ≡ refused_by r at → x ≡ answered (a then b) o
    unfolding ◌then◌
    refuses o x t = rw (← says, e) t

    pub keeps : {A : Type 0} (w before : List A) → before ≡ filled (a then b) w before
    unfolding ◌then◌
    keeps w before = rw (← says, e)

pub ruleset stages = (settled, stops_at, passes_on)

pub ruleset steps = (settled, stops_with, passes_on)

-- checks in order, one each turn of a loop: the first c have passed, k is what the next one says
module _ (check : ℕ → Checked) where
  pub turns_begin : in_order check 0 ≡ Fine
  unfolding in_order
  turns_begin = refl

  module _ (c : ℕ) (passed : in_order check c ≡ Fine) where
    pub turn_passes : (k : Checked) → k ≡ check c → k ≡ Fine → in_order check (c + 1) ≡ Fine
    unfolding in_order ◌then◌
    turn_passes k says fine = rw add-one (rw (passed, ← says, fine))

    pub turn_stops : (n : ℕ) (k : Checked) (e : RefusedAt) → c < n → k ≡ check c → k ≡ Err e → Err e ≡ in_order check n
    turn_stops n k e l says refused = sym (order_refuses check n e.why e.place (record { at = c; below = l; before = passed; refuses = sym says ∙ refused }))

    pub turn_stops_then : (n : ℕ) (k more : Checked) (e : RefusedAt) → c < n → k ≡ check c → k ≡ Err e → Err e ≡ (in_order check n then more)
    unfolding ◌then◌
    turn_stops_then n k more e l says refused = rw (← turn_stops n k e l says refused) refl

    pub turns_end : (n : ℕ) → c ≡ n → Fine ≡ in_order check n
    turns_end n e = sym (subst (λ (i : ℕ). in_order check i ≡ Fine) e passed)

    pub turns_end_then : (n : ℕ) (more x : Checked) → c ≡ n → x ≡ more → x ≡ (in_order check n then more)
    unfolding ◌then◌
    turns_end_then n more x e q = rw (← turns_end n e) q

pub ruleset turns = (turns_begin, turn_passes, turn_stops, turn_stops_then, turns_end, turns_end_then)

-- then its room: n is there, m is asked for
module _ (a : Checked) (fine : a ≡ Fine) (n m : ℕ) (r : Refusal) where
  pub room_short : n < m → (a then refuse (ltb n m) r) ≡ No r nowhere
  unfolding refuse ◌then◌
  room_short l = rw (fine, lt-ltb n m l)

  pub room_enough : m ≤ n → (a then refuse (ltb n m) r) ≡ Fine
  unfolding refuse ◌then◌
  room_enough l = rw (fine, le-ltb n m l)

pub ruleset ways = (settled, refuses, keeps, room_short, room_enough)

-- ---- the value of an either-or

pub first_yes : (a b : Bool) → a ≡ true → true ≡ (a || b)
first_yes a b p = rw p

pub second_says : (a b x : Bool) → a ≡ false → x ≡ b → x ≡ (a || b)
second_says a b x p e = rw p e

pub ruleset either = (first_yes, second_says, lt-ltb, le-ltb, eq-eqb, ne_eqb, arith)

-- ---- a loop over tests: none of the first k holds

pub any_none : (p : ℕ → Bool) → any_below p 0 ≡ false
unfolding any_below
any_none p = refl

pub any_more : (p : ℕ → Bool) (k : ℕ) → any_below p k ≡ false → p k ≡ false → any_below p (k + 1) ≡ false
unfolding any_below
any_more p k h e = rw add-one (simp (h, e))

-- one that holds is found
pub any_found : (p : ℕ → Bool) (k n : ℕ) → k < n → p k ≡ true → any_below p n ≡ true
any_found p k n l h = by (any_below p n) refl
  where
    by : (t : Bool) → any_below p n ≡ t → any_below p n ≡ true
    by true e = e
    by false e = never (sym h ∙ found_below p k n l e)
