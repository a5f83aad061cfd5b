-- The walk: its steps joined are the whole decode, which refuses exactly as the first refusing step; what each step
-- leaves, and what it says when it is asked again.
use Rattle.std.specs.Prelude.{Ok, Err}
use Prim.Native.Nat.{ℕ, zero, suc, ◌+◌, ◌≤◌, ◌<◌}
use mathlib.Core.Path.{◌≡◌, refl, sym, ap, ◌∙◌, subst}
use mathlib.Core.Bool.{Bool, true, false, cond}
use mathlib.Core.List.{List}
use mathlib.Core.Logic.{◌⊎◌, ⊎_elim, inl, inr}
use native.Mathlib.Omega.{arith}
use lib.ListN.{length, take}
use lib.IntN.{ℤ}
use borrow.Author.Tests.{ltb-true, ltb-false, le-ltb}
use Rattle.format.specs.Lists.{joined, over}
use Rattle.format.specs.Header.{fields_of, groups_of}
use Rattle.format.specs.Refusals.{Checked, Fine, No, ◌then◌, in_order}
use Rattle.format.specs.Answers.{answered_by, refused_by, read}
use Rattle.format.specs.Opening.{check_open, header_of, open_of}
use Rattle.format.specs.Decoding.{check_decode, decoded_of, decoded_count, check_room}
use Rattle.format.specs.Walking.{check_step, step_samples, step_count, has_group, check_step_into, check_walk, step_of, groups_passed, next_of, step_into}
use Rattle.format.specs.Promises.{Opens, Decodes, Steps, Advances}
use Rattle.format.specs.declared.refusals.Refusal.{Refusal}
use Rattle.format.specs.declared.refusals.Place.{Place}
use Rattle.format.specs.declared.refusals.Refusal.TheVariants.{OutputTooShort}
use Rattle.format.specs.declared.answers.Header.{Header}
use Rattle.format.specs.declared.answers.Outcome.TheVariants.{Opened, Finished}
use Rattle.format.specs.declared.answers.Answer.{Answer}
use Rattle.laws.proofs.Tests.{never}
use Rattle.laws.proofs.Parts.{below_suc, joined_cong}
use Rattle.laws.proofs.Checks.{◌and_then◌, ◌then_same◌, first_fine, in_order_lem, order_refuses}
use Rattle.promises.proofs.Outcomes.{Exactly, succeeds_fine, succeeds_as, read_fine, decodes_to_lem}
use Rattle.promises.proofs.WalkLaws.{steps_joined, steps_checked, step_opens, step_done, step_below, step_checked, step_long, step_over, step_leaves, step_moves, says_read, reads_or_ends, says_done, leaves_all, room_passes, any_room}
use Rattle.promises.proofs.Certain.{refused_exactly, refusals_keep}

abbrev pub done : Answer
done = answered_by Finished

-- A walk from the start over the file s, whose step at group g is lent `lent g`: `steps` steps that read, one group
-- after another, and the first that reads nothing.
pub record WholeWalk (s : List ℕ) (lent : ℕ → List ℤ) : Type 0 where
  pub steps : ℕ
  -- how many samples each read, and what it left
  pub count : ℕ → ℕ
  pub after : ℕ → List ℤ
  pub reads : (g : ℕ) → g < steps → Advances s g (lent g) (read (count g)) (after g) (g + 1)
  -- what the last says, what it leaves, and where it leaves the walk
  pub answer : Answer
  pub left : List ℤ
  pub next : ℕ
  pub last : Advances s steps (lent steps) answer left next
  pub ends : (n : ℕ) → answer ≡ read n → ⊥

-- the samples that its steps read, one after another
abbrev pub walked : (s : List ℕ) (lent : ℕ → List ℤ) → WholeWalk s lent → List ℤ
walked s lent w = joined (λ g. take (w.count g) (w.after g)) w.steps

-- room for every group that is there
abbrev pub EnoughRoom : List ℕ → (ℕ → List ℤ) → Type 0
EnoughRoom s lent = (g : ℕ) → g < groups_of (fields_of s).frames → (step_count s g).0 ≤ length (lent g)

-- ---- THE WHOLE DECODE
pub record WalkIsDecode : Type 0 where
  -- whatever is lent, a walk comes to a step that reads nothing
  pub every : (s : List ℕ) (lent : ℕ → List ℤ) → WholeWalk s lent
  -- once it says done, the steps' samples joined are the whole decode
  pub joins : (s : List ℕ) (lent : ℕ → List ℤ) (w : WholeWalk s lent) (out left : List ℤ) (r : Answer)
      → w.answer ≡ done → length (walked s lent w) ≤ length out → Decodes s out r left
      → (r ≡ read (length (walked s lent w))) × (left ≡ over (walked s lent w) out)
  -- with room for each group, it says done where the whole decode reads
  pub finishes : (s : List ℕ) (lent : ℕ → List ℤ) (w : WholeWalk s lent) (out left : List ℤ) (n : ℕ) → EnoughRoom s lent → Decodes s out (read n) left → w.answer ≡ done
  -- with room for each group, and for all of them, the whole decode refuses exactly as the first refusing step
  pub refuses : (s : List ℕ) (lent : ℕ → List ℤ) (w : WholeWalk s lent) (out left : List ℤ) (r : Answer) (x : Refusal) (at : Place)
      → EnoughRoom s lent → (decoded_count s).0 ≤ length out → Decodes s out r left
      → Exactly (r ≡ refused_by x at) (w.answer ≡ refused_by x at)

-- it comes to its end: the steps below n read, or one of them was the last
module _ (s : List ℕ) (lent : ℕ → List ℤ) where
  abbrev says : ℕ → Answer
  says g = step_of s g (length (lent g))

  abbrev Reads : ℕ → Type 0
  Reads g = says g ≡ read (step_count s g).0

  read_next : (g : ℕ) → Reads g → g + 1 ≡ next_of s g (length (lent g))
  unfolding next_of
  read_next g e = sym (ap (λ (a : Answer). g + groups_passed a.outcome) e)

  ends_at : (g : ℕ) → ((j : ℕ) → j < g → Reads j) → ((n : ℕ) → says g ≡ read n → ⊥) → WholeWalk s lent
  ends_at g all ends =
      record {
        steps = g;
        count = λ j. (step_count s j).0;
        after = λ j. step_into s j (lent j);
        reads = λ j l. ((sym (all j l), refl), read_next j (all j l));
        answer = says g;
        left = step_into s g (lent g);
        next = next_of s g (length (lent g));
        last = ((refl, refl), refl);
        ends = ends;
      }

  walks_to : (n : ℕ) → ((j : ℕ) → j < n → Reads j) ⊎ WholeWalk s lent
  walks_to zero = inl (λ j l. absurd (omega arith))
  walks_to (suc n) = ⊎_elim on inr (walks_to n)
    where
      on : ((j : ℕ) → j < n → Reads j) → ((j : ℕ) → j < suc n → Reads j) ⊎ WholeWalk s lent
      on all =
          ⊎_elim
          (λ (e : Reads n). inl (λ j l. ⊎_elim (λ (q : j ≡ n). subst Reads (sym q) e) (all j) (below_suc j n l)))
          (λ ends. inr (ends_at n all ends))
          (reads_or_ends s n (length (lent n)))

  walk : WholeWalk s lent
  walk =
      let n = groups_of (fields_of s).frames in
      ⊎_elim
      (λ (all : (j : ℕ) → j < suc n → Reads j).
      let l = step_below s n (lent n) (step_into s n (lent n)) (step_count s n).0 (sym (all n (omega arith)), refl) in
      absurd (omega arith))
      (λ (w : WholeWalk s lent). w)
      (walks_to (suc n))

-- what a walk tells of the whole decode
module _ (s : List ℕ) (lent : ℕ → List ℤ) (w : WholeWalk s lent) where
  abbrev groups : ℕ
  groups = groups_of (fields_of s).frames

  abbrev k : ℕ
  k = w.steps

  abbrev last_check : Checked
  last_check = check_walk s k (length (lent k))

  before_fine : in_order (check_step s) k ≡ Fine
  before_fine = in_order_lem (check_step s) k (λ g l. step_checked s g (lent g) (w.after g) (w.count g) (w.reads g l).0)

  steps_within : k ≤ groups
  steps_within = by k refl
    where
      by : (n : ℕ) → k ≡ n → n ≤ groups
      by zero e = omega arith
      by (suc g) e = let l : g < k = omega arith in step_below s g (lent g) (w.after g) (w.count g) (w.reads g l).0

  -- the last reads nothing: where its checks pass, no group is left
  not_left : last_check ≡ Fine → has_group s k ≡ false
  not_left fine = by (has_group s k) refl
    where
      by : (b : Bool) → has_group s k ≡ b → b ≡ false
      by false e = refl
      by true e = absurd (w.ends (step_count s k).0 (w.last.0.0 ∙ says_read s k (length (lent k)) fine e))

  -- then all were read
  module _ (none : has_group s k ≡ false) where
    all_steps : k ≡ groups
    unfolding has_group
    all_steps = omega (arith, steps_within, ltb-false k groups none)

    all_fine : in_order (check_step s) groups ≡ Fine
    all_fine = ap (in_order (check_step s)) (sym all_steps) ∙ before_fine

    all_samples : decoded_of s ≡ walked s lent w
    all_samples =
        steps_joined s ∙ ap (joined (step_samples s)) (sym all_steps)
        ∙ joined_cong (step_samples s) (λ g. take (w.count g) (w.after g)) k (λ g l. sym (step_leaves s g (lent g) (w.after g) (w.count g) (w.reads g l).0))

  joins : (out left : List ℤ) (r : Answer) → w.answer ≡ done → length (walked s lent w) ≤ length out → Decodes s out r left
      → (r ≡ read (length (walked s lent w))) × (left ≡ over (walked s lent w) out)
  joins out left r e room =
      let d : Steps s k (lent k) done w.left = rw e at w.last.0 in
      let none = step_done s k (lent k) w.left d in
      decodes_to_lem s (walked s lent w) out left r (steps_checked s ∙ (step_opens s k (lent k) w.left Finished refl d and_then all_fine none)) (all_samples none) room

  -- with room for each group, the whole decode refuses as the last step does, and else passes
  module _ (room : EnoughRoom s lent) where
    -- a group is left: its checks alone are the last step's, and refuse
    module _ (opens : check_open s ≡ Fine) (left : has_group s k ≡ true) where
      below : k < groups
      unfolding has_group
      below = ltb-true k groups left

      only_step : check_step_into s k (length (lent k)) ≡ check_step s k
      unfolding check_step_into
      only_step = room_passes (check_step s k) (length (lent k)) (step_count s k).0 OutputTooShort (room k below)

      as_step : last_check ≡ check_step s k
      unfolding check_walk
      as_step = opens and_then (ap (λ (b : Bool). cond b (check_step_into s k (length (lent k))) Fine) left ∙ only_step)

      refuses_there : in_order (check_step s) groups ≡ check_step s k
      refuses_there = by (check_step s k) refl
        where
          by : (c : Checked) → check_step s k ≡ c → in_order (check_step s) groups ≡ c
          by (Ok ok) e = never (sym left ∙ not_left (as_step ∙ e))
          by (Err refused) e = order_refuses (check_step s) groups refused.why refused.place (record { at = k; below = below; before = before_fine; refuses = e })

    same_checks : check_decode s ≡ last_check
    unfolding check_walk
    same_checks = steps_checked s ∙ (refl then_same by (has_group s k) refl)
      where
        by : (b : Bool) → has_group s k ≡ b → check_open s ≡ Fine → in_order (check_step s) groups ≡ cond b (check_step_into s k (length (lent k))) Fine
        by false e opens = all_fine e
        by true e opens = refuses_there opens e ∙ sym (only_step opens e)

    finishes : (out left : List ℤ) (n : ℕ) → Decodes s out (read n) left → w.answer ≡ done
    unfolding check_walk
    finishes out left n d =
        let fine : last_check ≡ Fine = sym same_checks ∙ read_fine s out left n d in
        says_done s k (lent k) w.left w.answer (first_fine (check_open s) _ fine) (not_left fine) w.last.0

    refuses : (out left : List ℤ) (r : Answer) (x : Refusal) (at : Place) → (decoded_count s).0 ≤ length out → Decodes s out r left → Exactly (r ≡ refused_by x at) (w.answer ≡ refused_by x at)
    unfolding check_room
    refuses out left r x at l d =
        let a = refused_exactly.decodes s out left r x at d in
        let b = refused_exactly.steps s k (lent k) w.left w.answer x at w.last.0 in
        let e = room_passes (check_decode s) (length out) (decoded_count s).0 OutputTooShort l ∙ same_checks in
        (λ q. b.1 (sym e ∙ a.0 q), λ q. a.1 (e ∙ b.0 q))

pub walk_is_decode : WalkIsDecode
walk_is_decode =
    record {
      every = walk;
      joins = joins;
      finishes = λ s lent w out left n room. finishes s lent w room out left n;
      refuses = λ s lent w out left r x at room. refuses s lent w room out left r x at;
    }

-- ---- EACH STEP
pub record EachStep : Type 0 where
  -- a step that reads leaves the group's samples in front of what lay after them, and goes on by one group
  pub gives : (s : List ℕ) (g : ℕ) (lent after : List ℤ) (n next : ℕ) → Advances s g lent (read n) after next
      → (n ≡ length (step_samples s g)) × (after ≡ over (step_samples s g) lent) × (next ≡ g + 1)
  -- a refused step changes nothing, and doesn't advance
  pub stays : (s : List ℕ) (g : ℕ) (lent after : List ℤ) (x : Refusal) (at : Place) (next : ℕ) → Advances s g lent (refused_by x at) after next → (after ≡ lent) × (next ≡ g)
  -- asked again, it answers the same
  pub again : (s : List ℕ) (g : ℕ) (lent after after' : List ℤ) (x : Refusal) (at : Place) (r : Answer) (next next' : ℕ)
      → Advances s g lent (refused_by x at) after next → Advances s next after r after' next' → (r ≡ refused_by x at) × (after' ≡ lent) × (next' ≡ g)
  -- whatever it is lent then, unless it wanted room
  pub again_anywhere : (s : List ℕ) (g : ℕ) (lent after lent' after' : List ℤ) (x : Refusal) (at : Place) (r : Answer) (next next' : ℕ) → (x ≡ OutputTooShort → ⊥)
      → Advances s g lent (refused_by x at) after next → Advances s next lent' r after' next' → (r ≡ refused_by x at) × (after' ≡ lent') × (next' ≡ g)
  -- done changes nothing either, and is said for ever
  pub done_again : (s : List ℕ) (g : ℕ) (lent after lent' after' : List ℤ) (r : Answer) (next next' : ℕ)
      → Advances s g lent done after next → Advances s next lent' r after' next' → (after ≡ lent) × (next ≡ g) × (r ≡ done) × (after' ≡ lent') × (next' ≡ g)
  -- done is said exactly where no group is left
  pub done_exactly : (s : List ℕ) (h : Header) (g : ℕ) (lent after : List ℤ) (r : Answer) (next : ℕ)
      → Opens s (answered_by (Opened h)) → Advances s g lent r after next → Exactly (r ≡ done) (h.groups ≤ g)
  -- on bytes that don't open every step refuses as opening does, also past the end
  pub unopened : (s : List ℕ) (g : ℕ) (lent after : List ℤ) (x : Refusal) (at : Place) (r : Answer) (next : ℕ)
      → Opens s (refused_by x at) → Advances s g lent r after next → (r ≡ refused_by x at) × (after ≡ lent) × (next ≡ g)

-- what a step does whose checks refuse
no_step : (s : List ℕ) (g : ℕ) (lent after : List ℤ) (x : Refusal) (at : Place) (r : Answer) (next : ℕ)
    → check_walk s g (length lent) ≡ No x at → Advances s g lent r after next → (r ≡ refused_by x at) × (after ≡ lent) × (next ≡ g)
no_step s g lent after x at r next e d =
    let q = (refused_exactly.steps s g lent after r x at d.0).1 e in
    let k = refusals_keep.advances s g lent after x at next (rw q at d) in
    (q, k.0, k.1)

-- and one where no group is left
done_step : (s : List ℕ) (g : ℕ) (lent after : List ℤ) (r : Answer) (next : ℕ)
    → check_open s ≡ Fine → has_group s g ≡ false → Advances s g lent r after next → (r ≡ done) × (after ≡ lent) × (next ≡ g)
done_step s g lent after r next opens none d =
    let q = says_done s g lent after r opens none d.0 in
    let e = step_moves s g lent after done next (rw q at d) in
    (q, leaves_all s g lent after r opens none d.0, omega arith)

-- bytes that open
module _ (s : List ℕ) (h : Header) (e : Opens s (answered_by (Opened h))) where
  opens_fine : check_open s ≡ Fine
  unfolding open_of
  opens_fine = succeeds_fine (check_open s) (Opened (header_of s)) (Opened h) refl e

  groups_there : h.groups ≡ groups_of (fields_of s).frames
  unfolding open_of header_of
  groups_there =
      let q = succeeds_as (check_open s) (Opened (header_of s)) (Opened h) refl e in
      let p : h ≡ header_of s = cc in
      ap (λ (x : Header). x.groups) p

  left_none : (g : ℕ) → Exactly (has_group s g ≡ false) (h.groups ≤ g)
  unfolding has_group
  left_none g = (λ q. omega (arith, groups_there, ltb-false g (groups_of (fields_of s).frames) q), λ l. le-ltb g (groups_of (fields_of s).frames) (omega (arith, groups_there)))

-- and that don't
unopened_refuses : (s : List ℕ) (g room : ℕ) (x : Refusal) (at : Place) → Opens s (refused_by x at) → check_walk s g room ≡ No x at
unfolding check_walk ◌then◌
unopened_refuses s g room x at e = ap (λ (o : Checked). o then cond (has_group s g) (check_step_into s g room) Fine) ((refused_exactly.opens s (refused_by x at) x at e).0 refl)

pub each_step : EachStep
each_step =
    record {
      gives = λ s g lent after n next d. (step_long s g lent after n d.0, step_over s g lent after n d.0, step_moves s g lent after (read n) next d);
      stays = refusals_keep.advances;
      again = λ s g lent after after' x at r next next' d d'.
          let k = refusals_keep.advances s g lent after x at next d in
          no_step s g lent after' x at r next' ((refused_exactly.steps s g lent after (refused_by x at) x at d.0).0 refl) (rw (k.0, k.1) at d');
      again_anywhere = λ s g lent after lent' after' x at r next next' other d d'.
          let k = refusals_keep.advances s g lent after x at next d in
          no_step s g lent' after' x at r next' (any_room s g (length lent) (length lent') x at other ((refused_exactly.steps s g lent after (refused_by x at) x at d.0).0 refl)) (rw k.1 at d');
      done_again = λ s g lent after lent' after' r next next' d d'.
          let opens = step_opens s g lent after Finished refl d.0 in
          let none = step_done s g lent after d.0 in
          let a = done_step s g lent after done next opens none d in
          let b = done_step s g lent' after' r next' opens none (rw a.2 at d') in
          (a.1, a.2, b.0, b.1, b.2);
      done_exactly = λ s h g lent after r next e d. (
        λ q. (left_none s h e g).0 (step_done s g lent after (rw q at d.0)),
        λ l. (done_step s g lent after r next (opens_fine s h e) ((left_none s h e g).1 l) d).0,
      );
      unopened = λ s g lent after x at r next e. no_step s g lent after x at r next (unopened_refuses s g (length lent) x at e);
    }
