-- The walk's steps joined are the whole decode, and it checks what they check, in order; what one step tells, by its
-- answer and by its checks.
use Rattle.std.specs.Prelude.{Ok, Err}
use Prim.Native.Nat.{ℕ, ◌+◌, ◌*◌, ◌≤◌, ◌<◌}
use mathlib.Core.Path.{◌≡◌, refl, sym, ap, ap₂, ◌∙◌}
use mathlib.Core.Bool.{Bool, true, false, cond}
use mathlib.Core.List.{List, []}
use mathlib.Core.Logic.{◌⊎◌, inl, inr}
use native.Mathlib.Omega.{arith}
use native.Mathlib.Nat.{mul_comm}
use lib.ListN.{length, take}
use lib.IntN.{ℤ}
use lib.Dec.{ltb}
use borrow.Author.Tests.{ltb-true, le-ltb}
use Rattle.format.specs.Lists.{joined, over}
use Rattle.format.specs.Header.{fields_of, groups_of, group_bytes}
use Rattle.format.specs.Refusals.{Checked, Fine, No, refuse, ◌then◌, in_order}
use Rattle.format.specs.Places.{at_group}
use Rattle.format.specs.Answers.{answered_by, refused_by, answered, filled, read}
use Rattle.format.specs.Opening.{format_of, check_open}
use Rattle.format.specs.Units.{active}
use Rattle.format.specs.Decoding.{check_group, check_decode, decoded_of}
use Rattle.format.specs.Walking.{check_step, step_samples, step_count, has_group, check_step_into, check_walk, step_of, groups_passed, next_of, step_into}
use Rattle.format.specs.Promises.{Steps, Advances}
use Rattle.format.specs.declared.units.Samples.{Samples}
use Rattle.format.specs.declared.refusals.Refusal.{Refusal}
use Rattle.format.specs.declared.refusals.Place.{Place}
use Rattle.format.specs.declared.refusals.Refusal.TheVariants.{OutputTooShort}
use Rattle.format.specs.declared.answers.Fields.{Fields}
use Rattle.format.specs.declared.answers.Outcome.{Outcome}
use Rattle.format.specs.declared.answers.Outcome.TheVariants.{Read, Finished}
use Rattle.format.specs.declared.answers.Answer.{Answer}
use Rattle.laws.proofs.Tests.{never}
use Rattle.laws.proofs.Checks.{same_refusal, pass, then_fine, first_fine, others_fine}
use Rattle.laws.proofs.Places.{located_fine}
use Rattle.laws.proofs.Opened.{opened_fields, some_channels}
use Rattle.laws.proofs.Lengths.{group_writes}
use Rattle.promises.proofs.Outcomes.{is_refused, succeeds_fine, succeeds_as, written_front}

-- decoding gives the steps' samples, one after another
pub steps_joined : (s : List ℕ) → decoded_of s ≡ joined (step_samples s) (groups_of (fields_of s).frames)
unfolding decoded_of step_samples
steps_joined s = refl

-- decoding refuses as opening does, and then as the first step that refuses
pub steps_checked : (s : List ℕ) → check_decode s ≡ (check_open s then in_order (check_step s) (groups_of (fields_of s).frames))
unfolding check_decode check_step
steps_checked s = refl

-- ---- from the answer: a step that succeeds
module _ (s : List ℕ) (g : ℕ) (lent after : List ℤ) (o : Outcome) (success : is_refused o ≡ false) (d : Steps s g lent (answered_by o) after) where
  passes : check_walk s g (length lent) ≡ Fine
  unfolding step_of
  passes = succeeds_fine (check_walk s g (length lent)) (cond (has_group s g) (Read (step_count s g)) Finished) o success d.0

  pub step_opens : check_open s ≡ Fine
  unfolding check_walk
  step_opens = first_fine _ _ passes

  says : (b : Bool) → has_group s g ≡ b → o ≡ cond b (Read (step_count s g)) Finished
  unfolding step_of
  says b e =
      succeeds_as (check_walk s g (length lent)) (cond (has_group s g) (Read (step_count s g)) Finished) o success d.0 ∙ ap (λ (t : Bool). cond t (Read (step_count s g)) Finished) e

  leaves : (b : Bool) → has_group s g ≡ b → after ≡ over (cond b (step_samples s g) []) lent
  unfolding step_into
  leaves b e = d.1 ∙ ap₂ (λ (c : Checked) (t : Bool). filled c (cond t (step_samples s g) []) lent) passes e

-- one that says done: no group is left
pub step_done : (s : List ℕ) (g : ℕ) (lent after : List ℤ) → Steps s g lent (answered_by Finished) after → has_group s g ≡ false
step_done s g lent after d = by (has_group s g) refl
  where
    by : (b : Bool) → has_group s g ≡ b → b ≡ false
    by false e = refl
    by true e = let q : Finished ≡ Read (step_count s g) = says s g lent after Finished refl d true e in cc

-- one that read n samples: group g is left, and they are its
module _ (s : List ℕ) (g : ℕ) (lent after : List ℤ) (n : ℕ) (d : Steps s g lent (read n) after) where
  abbrev h : Fields
  h = fields_of s

  abbrev o : Outcome
  o = Read (record { 0 = n })

  left : has_group s g ≡ true
  left = by (has_group s g) refl
    where
      by : (b : Bool) → has_group s g ≡ b → b ≡ true
      by true e = refl
      by false e = let q : o ≡ Finished = says s g lent after o refl d false e in cc

  pub step_below : g < groups_of h.frames
  unfolding has_group
  step_below = ltb-true g (groups_of h.frames) left

  pub step_checked : check_step s g ≡ Fine
  unfolding check_walk check_step_into
  step_checked =
      first_fine _ _ (sym (ap (λ (t : Bool). cond t (check_step_into s g (length lent)) Fine) left) ∙ others_fine (check_open s) _ (passes s g lent after o refl d))

  pub step_count_lem : n ≡ active h.frames g * h.channels
  step_count_lem =
      let q : o ≡ Read (step_count s g) = says s g lent after o refl d true left in
      let e : ◌≡◌ {A = Samples} (record { 0 = n }) (step_count s g) = cc in
      ap (λ (x : Samples). x.0) e

  pub step_long : n ≡ length (step_samples s g)
  unfolding step_samples check_step
  step_long =
      step_count_lem ∙ mul_comm (active h.frames g) h.channels
      ∙ sym (group_writes h (format_of s h) (group_bytes s h g) (some_channels h (opened_fields s (step_opens s g lent after o refl d))) (located_fine (at_group g) (check_group h (format_of s h) (group_bytes s h g)) step_checked) g)

  pub step_over : after ≡ over (step_samples s g) lent
  step_over = leaves s g lent after o refl d true left

  pub step_leaves : take n after ≡ step_samples s g
  step_leaves = written_front Fine n (step_samples s g) lent after refl step_long step_over

-- and where any step leaves the walk
pub step_moves : (s : List ℕ) (g : ℕ) (lent after : List ℤ) (r : Answer) (next : ℕ) → Advances s g lent r after next → next ≡ g + groups_passed r.outcome
unfolding next_of
step_moves s g lent after r next d = d.1 ∙ ap (λ (a : Answer). g + groups_passed a.outcome) (sym d.0.0)

-- ---- from the checks: where they pass and a group is left, the step reads it
pub says_read : (s : List ℕ) (g room : ℕ) → check_walk s g room ≡ Fine → has_group s g ≡ true → step_of s g room ≡ read (step_count s g).0
unfolding step_of
says_read s g room = ap₂ (λ (c : Checked) (b : Bool). answered c (cond b (Read (step_count s g)) Finished))

-- and otherwise nothing
pub reads_or_ends : (s : List ℕ) (g room : ℕ) → (step_of s g room ≡ read (step_count s g).0) ⊎ ((n : ℕ) → step_of s g room ≡ read n → ⊥)
unfolding step_of
reads_or_ends s g room = by (check_walk s g room) (has_group s g)
  where
    ends : (a : Answer) → groups_passed a.outcome ≡ 0 → (n : ℕ) → a ≡ read n → ⊥
    ends a none n e = let q = ap (λ (x : Answer). groups_passed x.outcome) e in omega arith

    by : (c : Checked) (b : Bool) → let a = answered c (cond b (Read (step_count s g)) Finished) in (a ≡ read (step_count s g).0) ⊎ ((n : ℕ) → a ≡ read n → ⊥)
    by (Ok ok) true = inl refl
    by (Ok ok) false = inr (ends (answered_by Finished) refl)
    by (Err refused) b = inr (ends (refused_by refused.why refused.place) refl)

-- where none is left, the step says done and leaves all as it was
module _ (s : List ℕ) (g : ℕ) (lent after : List ℤ) (r : Answer) (opens : check_open s ≡ Fine) (none : has_group s g ≡ false) (d : Steps s g lent r after) where
  pub says_done : r ≡ answered_by Finished
  unfolding step_of check_walk ◌then◌
  says_done = d.0 ∙ ap₂ (λ (o : Checked) (b : Bool). answered (o then cond b (check_step_into s g (length lent)) Fine) (cond b (Read (step_count s g)) Finished)) opens none

  pub leaves_all : after ≡ lent
  unfolding step_into check_walk ◌then◌ over
  leaves_all = d.1 ∙ ap₂ (λ (o : Checked) (b : Bool). filled (o then cond b (check_step_into s g (length lent)) Fine) (cond b (step_samples s g) []) lent) opens none

-- where there is room, only what comes before it is checked
pub room_passes : (c : Checked) (room m : ℕ) (x : Refusal) → m ≤ room → (c then refuse (ltb room m) x) ≡ c
room_passes c room m x l = ap (λ (k : Checked). c then k) (pass _ x (le-ltb room m l)) ∙ then_fine c

-- a refusal that is not for want of room is said in any room
pub any_room : (s : List ℕ) (g room room' : ℕ) (x : Refusal) (at : Place) → (x ≡ OutputTooShort → ⊥) → check_walk s g room ≡ No x at → check_walk s g room' ≡ No x at
unfolding check_walk check_step_into ◌then◌ refuse
any_room s g room room' x at other = by (check_open s) (has_group s g) (check_step s g) (ltb room (step_count s g).0) (ltb room' (step_count s g).0)
  where
    by : (o : Checked) (b : Bool) (c : Checked) (t t' : Bool) → (o then cond b (c then refuse t OutputTooShort) Fine) ≡ No x at → (o then cond b (c then refuse t' OutputTooShort) Fine) ≡ No x at
    by (Err refused) b c t t' e = e
    by (Ok ok) true (Err refused) t t' e = e
    by (Ok ok) true (Ok too) true t' e = let q : x ≡ OutputTooShort = sym (same_refusal e) in absurd (other q)
    by (Ok ok) true (Ok too) false t' e = let z : true ≡ false = cc in never z
    by (Ok ok) false c t t' e = e
