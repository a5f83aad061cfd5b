-- What a step's checks tell at each way out, and what it answers once they have passed.
use Rattle.std.specs.Prelude.{Ok, Err}
use Prim.Native.Nat.{ℕ, ◌+◌, ◌-◌, ◌*◌, ◌^◌, ◌≤◌, ◌<◌}
use mathlib.Core.Path.{◌≡◌, refl, sym, ap, ◌∙◌}
use mathlib.Core.Bool.{Bool, true, false, cond}
use mathlib.Core.List.{List}
use native.Mathlib.Nat.{zero-mul, zero-add}
use native.Mathlib.Omega.{arith}
use lib.ListN.{length, take, drop}
use lib.IntN.{ℤ}
use lib.Dec.{ltb}
use borrow.Author.Tests.{lt-ltb, le-ltb, ltb-true}
use Rattle.format.specs.Lists.{over}
use Rattle.format.specs.Numbers.{Below}
use Rattle.format.specs.Header.{fields_of, groups_of, entry, group_bytes}
use Rattle.format.specs.Refusals.{Checked, Fine, refuse, ◌then◌}
use Rattle.format.specs.Places.{at_group, in_group}
use Rattle.format.specs.Answers.{answered_by, refused_by, answered}
use Rattle.format.specs.Opening.{format_of, check_open}
use Rattle.format.specs.Decoding.{check_group, channels_of, woven, group_samples}
use Rattle.format.specs.Units.{samples_in, active}
use Rattle.format.specs.Walking.{check_step, step_samples, step_count, has_group, check_step_into, check_walk, step_of, groups_passed, next_of, step_into}
use Rattle.format.specs.declared.units.Frames.{Frames}
use Rattle.format.specs.declared.refusals.Refusal.TheVariants.{OutputTooShort}
use Rattle.format.specs.declared.refusals.RefusedAt.{RefusedAt}
use Rattle.format.specs.declared.settings.SampleFormat.{SampleFormat}
use Rattle.format.specs.declared.units.Samples.{Samples}
use Rattle.format.specs.declared.answers.Fields.{Fields}
use Rattle.format.specs.declared.answers.Outcome.TheVariants.{Read, Finished}
use Rattle.format.specs.declared.answers.Answer.{Answer}
use Rattle.laws.proofs.Checks.{first_fine, others_fine, has_room}
use Rattle.laws.proofs.Chain.{settled, stops_with, passes_on}
use Rattle.laws.proofs.Places.{located_fine}
use Rattle.laws.proofs.Reading.{number_lt}
use Rattle.laws.proofs.Opened.{opened_long}
use Rattle.lent_samples.specs.Lent.{placed, woven_from}
use Rattle.lent_samples.proofs.Weave.{woven_from_lem}
use Rattle.group.specs.Readable.{Readable}
use Rattle.opening.proofs.Groups.{channels_some, depth_8, depth_32, part_rises, part_within, part_is, part_checked}

-- ---- a group that is left, or not
module _ (s : List ℕ) (g : ℕ) (h : Fields) (reads : h ≡ fields_of s) where
  module _ (groups : ℕ) (all : groups ≡ groups_of h.frames) where
    last : groups ≡ groups_of (fields_of s).frames
    last = all ∙ ap (λ (x : Fields). groups_of x.frames) reads

    none_left : groups ≤ g → has_group s g ≡ false
    unfolding has_group
    none_left l = le-ltb g (groups_of (fields_of s).frames) (omega (arith, last))

    one_left : g < groups → has_group s g ≡ true
    unfolding has_group
    one_left l = lt-ltb g (groups_of (fields_of s).frames) (omega (arith, last))

  in_step : (n : Frames) (m : Samples) → n.0 ≡ active h.frames g → m ≡ samples_in n h.channels → m ≡ step_count s g
  in_step n m count counts = counts ∙ rw (count, reads) refl

-- what opening refuses a step refuses
pub walk_opened : (s : List ℕ) (g room : ℕ) (k : Checked) → k ≡ check_open s → (x : RefusedAt) → k ≡ Err x → Err x ≡ check_walk s g room
unfolding check_walk
walk_opened s g room k says x t = stops_with k (check_open s) says _ x t

-- ---- a step's checks, past opening's
module _ (s : List ℕ) (g room : ℕ) (opens : check_open s ≡ Fine) (h : Fields) (reads : h ≡ fields_of s) (groups : ℕ) (all : groups ≡ groups_of h.frames) where
  pub walk_done : groups ≤ g → Fine ≡ check_walk s g room
  unfolding check_walk ◌then◌
  walk_done l = rw (opens, none_left s g h reads groups all l)

  -- k is what the group's checks say, and q what they say of group g
  module _ (below : g < groups) (p e : ℕ) (starts : p ≡ h.start + entry s h g) (ends : e ≡ h.start + entry s h (g + 1))
      (f : SampleFormat) (format : f ≡ format_of s h) (k q : Checked) (checked : k ≡ check_group h f (take (e - p) (drop p s))) (placed : q ≡ in_group g k) where
    step_says : check_step s g ≡ q
    unfolding check_step
    step_says = rw (← reads, ← format) (ap (in_group g) (part_checked s h opens reads groups g p e all below starts ends f k k checked refl)) ∙ sym placed

    with_step : check_walk s g room ≡ (q then refuse (ltb room (step_count s g).0) OutputTooShort)
    unfolding check_walk check_step_into ◌then◌
    with_step = rw (opens, one_left s g h reads groups all below, step_says) refl

    pub walk_refuses : (x : RefusedAt) → q ≡ Err x → Err x ≡ check_walk s g room
    walk_refuses x t = stops_with q q refl _ x t ∙ sym with_step

    pub walk_passes : q ≡ Fine → (n : Frames) (m : Samples) → n.0 ≡ active h.frames g → m ≡ samples_in n h.channels
        → (x : Checked) → x ≡ refuse (ltb room m.0) OutputTooShort → x ≡ check_walk s g room
    walk_passes good n m count counts x t =
        passes_on q q refl _ x good (t ∙ ap (λ (y : Samples). refuse (ltb room y.0) OutputTooShort) (in_step s g h reads n m count counts)) ∙ sym with_step

pub ruleset walks = (settled, stops_with, opened_long, depth_32, part_rises, part_within, walk_opened, walk_done, walk_refuses, walk_passes)

-- ---- and its answer
placed_front : (xs s : List ℤ) → placed 0 xs s ≡ over xs s
unfolding placed over
placed_front xs s = rw zero-add refl

module _ (s : List ℕ) (g c : ℕ) (k : Checked) (says : k ≡ check_walk s g c) where
  pub step_refused : (room : ℕ) → c ≡ room → (x : RefusedAt) → k ≡ Err x → refused_by x.why x.place ≡ step_of s g room
  unfolding step_of
  step_refused room lent x t = rw (← lent, ← says, t)

  pub step_keeps : (out : List ℤ) → c ≡ length out → (x : RefusedAt) → k ≡ Err x → out ≡ step_into s g out
  unfolding step_into
  step_keeps out e x t = rw (← e, ← says, t)

  module _ (fine : k ≡ Fine) where
    pub step_opens : check_open s ≡ Fine
    unfolding check_walk
    step_opens = first_fine _ _ (sym says ∙ fine)

    pub step_fields : 32 ≤ length s
    step_fields = omega (arith, opened_long s step_opens)

    module _ (h : Fields) (reads : h ≡ fields_of s) (groups : ℕ) (all : groups ≡ groups_of h.frames) where
      pub step_done : (room : ℕ) → c ≡ room → groups ≤ g → answered_by Finished ≡ step_of s g room
      unfolding step_of
      step_done room lent l = rw (← lent, ← says, fine, none_left s g h reads groups all l)

      pub done_keeps : (out : List ℤ) → c ≡ length out → groups ≤ g → out ≡ step_into s g out
      unfolding step_into over
      done_keeps out e l = rw (← e, ← says, fine, none_left s g h reads groups all l) refl

      module _ (below : g < groups) where
        checks_fine : check_step_into s g c ≡ Fine
        unfolding check_walk
        checks_fine =
            let e = others_fine (check_open s) _ (sym says ∙ fine) in
            ap (λ (b : Bool). cond b (check_step_into s g c) Fine) (sym (one_left s g h reads groups all below)) ∙ e

        module _ (p e : ℕ) (starts : p ≡ h.start + entry s h g) (ends : e ≡ h.start + entry s h (g + 1)) where
          is_group : take (e - p) (drop p s) ≡ group_bytes s h g
          is_group = part_is s h step_opens reads groups g p e all below starts ends

          pub step_rises : p ≤ e
          step_rises = part_rises s h step_opens reads groups g p e all below starts ends

          pub step_within : e ≤ length s
          step_within = part_within s h step_opens reads groups g p e all below starts ends

          pub step_readable : (f : SampleFormat) → f ≡ format_of s h → Readable h f (take (e - p) (drop p s))
          unfolding check_step_into check_step
          step_readable f format = record {
            some = channels_some s h step_opens reads;
            least = omega (arith, depth_8 s h step_opens reads);
            most = depth_32 s h step_opens reads;
            fine = ap (check_group h f) is_group ∙ rw (format, reads) (located_fine (at_group g) _ (first_fine _ _ checks_fine));
          }

        module _ (n : Frames) (count : n.0 ≡ active h.frames g) where
          pub step_room : (room : ℕ) → c ≡ room → (0 + n.0) * h.channels ≤ room
          unfolding check_step_into
          step_room room lent = omega (arith, has_room (check_step s g) c (step_count s g).0 OutputTooShort checks_fine, ap (λ (x : Samples). x.0) (in_step s g h reads n (samples_in n h.channels) count refl), zero-add n.0)

          pub step_reads : (room : ℕ) → c ≡ room → (m : Samples) → m ≡ samples_in n h.channels → answered_by (Read m) ≡ step_of s g room
          unfolding step_of
          step_reads room lent m counts = rw (← lent, ← says, fine, one_left s g h reads groups all below) (ap (λ (x : Samples). answered_by (Read x)) (in_step s g h reads n m count counts))

          pub puts_group :
              (p e : ℕ) → p ≡ h.start + entry s h g → e ≡ h.start + entry s h (g + 1) → (f : SampleFormat) → f ≡ format_of s h → (out after : List ℤ) → c ≡ length out
              → after ≡ placed (0 * h.channels) (woven_from 0 n.0 (channels_of h f (take (e - p) (drop p s)))) out → after ≡ step_into s g out
          unfolding step_into step_samples group_samples
          puts_group p e starts ends f format out after lent put = rw (← lent, ← says, fine, one_left s g h reads groups all below)
              (put ∙ ap (λ (i : ℕ). placed i xs out) (zero-mul h.channels) ∙ placed_front xs out
              ∙ ap (λ (ys : List ℤ). over ys out) (sym (woven_from_lem n.0 (channels_of h f (take (e - p) (drop p s)))) ∙ ap (λ (b : List ℕ). woven n.0 (channels_of h f b)) (is_group p e starts ends) ∙ rw (count, format, reads) refl))
            where
              xs : List ℤ
              xs = woven_from 0 n.0 (channels_of h f (take (e - p) (drop p s)))

pub ruleset steps = (step_refused, step_keeps, step_opens, step_fields, step_done, done_keeps, step_rises, step_within, step_readable, step_room, step_reads, puts_group)

-- ---- where it leaves the walk, by a step's answer and how many groups it goes past
module _ (s : List ℕ) (g room n : ℕ) (a : Answer) (answers : a ≡ step_of s g room) (goes : n ≡ groups_passed a.outcome) where
  pub goes_on : g + n ≡ next_of s g room
  unfolding next_of
  goes_on = ap (λ (k : ℕ). g + k) (goes ∙ ap (λ (x : Answer). groups_passed x.outcome) answers)

  -- only past a group that is left
  pub next_fits : Below 256 s → g < 2 ^ 32 → g + n < 2 ^ 32
  unfolding step_of next_of has_group fields_of groups_of
  next_fits byte fits = let e = by (check_walk s g room) (has_group s g) refl in omega (arith, goes_on)
    where
      by : (c : Checked) (b : Bool) → has_group s g ≡ b → g + groups_passed (answered c (cond b (Read (step_count s g)) Finished)).outcome < 2 ^ 32
      by (Err refused) b e = omega (arith, fits)
      by (Ok ok) false e = omega (arith, fits)
      by (Ok ok) true e = omega (arith, ltb-true g (groups_of (fields_of s).frames) e, number_lt 16 4 s byte)

pub ruleset goes = (goes_on, next_fits)
