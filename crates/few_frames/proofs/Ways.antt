-- The checks of a few frames, as one chain, and what they tell once they have passed.
use Rattle.std.specs.Prelude.{Err}
use Prim.Native.Nat.{ℕ, ◌+◌, ◌-◌, ◌*◌, ◌/◌, ◌≤◌}
use mathlib.Core.Path.{◌≡◌, refl, sym, ap, ◌∙◌}
use mathlib.Core.Bool.{false}
use mathlib.Core.List.{List}
use native.Mathlib.Omega.{arith}
use lib.Dec.{ltb}
use lib.ListN.{length}
use lib.IntN.{ℤ}
use Rattle.format.specs.Header.{fields_of, group_bytes}
use Rattle.format.specs.Refusals.{Checked, Fine, refuse, ◌then◌, in_order}
use Rattle.format.specs.Places.{in_group}
use Rattle.format.specs.Answers.{answered, filled}
use Rattle.format.specs.Opening.{format_of, check_open}
use Rattle.format.specs.Decoding.{check_group}
use Rattle.format.specs.Walking.{check_step}
use Rattle.format.specs.FewFrames.{touched, check_frames, frames_count, check_frames_into, frames_at, read_frames_of, read_frames_into}
use Rattle.format.specs.declared.refusals.Refusal.TheVariants.{OutputTooShort, RangePastEnd}
use Rattle.format.specs.declared.refusals.RefusedAt.{RefusedAt}
use Rattle.format.specs.declared.settings.SampleFormat.{SampleFormat}
use Rattle.format.specs.declared.units.Frames.{Frames}
use Rattle.format.specs.declared.answers.Fields.{Fields}
use Rattle.format.specs.declared.answers.Outcome.TheVariants.{Read}
use Rattle.laws.proofs.Checks.{then_assoc, first_fine, has_room}
use Rattle.laws.proofs.Chain.{settled, stops_with, passes_on}
use Rattle.laws.proofs.Opened.{opened_long}
use Rattle.laws.proofs.FewFrames.{touched_none, touched_some, touched_within, frames_opens}

-- ---- how many groups are touched
pub some_touched : (first count : Frames) → (count.0 ≡ 0 → ⊥) → touched first count ≡ (first.0 + count.0 - 1) / 512 - first.0 / 512 + 1
some_touched first count some = let t = touched_some first count (omega arith) in omega arith

pub ruleset touches = (touched_none, some_touched)

-- ---- the checks
pub in_chain : (s : List ℕ) (first count : Frames) (room : ℕ)
    → check_frames_into s first count room
    ≡ (check_open s
    then refuse (ltb (fields_of s).frames.0 (first.0 + count.0)) RangePastEnd
    then in_order (λ k. check_step s (first.0 / 512 + k)) (touched first count)
    then refuse (ltb room (frames_count s count).0) OutputTooShort)
unfolding check_frames_into check_frames
in_chain s first count room = then_assoc _ _ _ ∙ ap (λ (k : Checked). check_open s then k) (then_assoc _ _ _)

-- the groups' checks, over the header and the format that opening found: k is what they say
module _ (s : List ℕ) (first count : Frames) (room : ℕ) (opens : check_open s ≡ Fine) (h : Fields) (reads : h ≡ fields_of s)
    (within : ltb h.frames.0 (first.0 + count.0) ≡ false) (f : SampleFormat) (format : f ≡ format_of s h)
    (n : ℕ) (t : n ≡ touched first count) (k : Checked)
    (says : k ≡ in_order (λ i. in_group (first.0 / 512 + i) (check_group h f (group_bytes s h (first.0 / 512 + i)))) n) where
  with_groups : check_frames_into s first count room ≡ (k then refuse (ltb room (frames_count s count).0) OutputTooShort)
  unfolding check_step ◌then◌ refuse
  with_groups = in_chain s first count room ∙ rw (opens, ← reads, within, says, format, t) refl

  pub groups_refuse : (e : RefusedAt) → k ≡ Err e → Err e ≡ check_frames_into s first count room
  groups_refuse e h = stops_with k k refl _ e h ∙ sym with_groups

  pub groups_pass : k ≡ Fine → (x : Checked) → x ≡ refuse (ltb room (frames_count s count).0) OutputTooShort → x ≡ check_frames_into s first count room
  groups_pass h x e = passes_on k k refl _ x h e ∙ sym with_groups

pub ruleset checks = (settled, stops_with, passes_on, in_chain, groups_refuse, groups_pass, opened_long, touched_within)

-- ---- once they have passed: the groups are fine, and there is room
module _ (s : List ℕ) (first count : Frames) (room : ℕ) (fine : check_frames_into s first count room ≡ Fine) where
  pub groups_fine : check_frames s first count ≡ Fine
  unfolding check_frames_into
  groups_fine = first_fine _ _ fine

  pub opens : check_open s ≡ Fine
  opens = frames_opens s first count groups_fine

  pub room_fine : count.0 * (fields_of s).channels ≤ room
  unfolding check_frames_into
  room_fine = has_room (check_frames s first count) room (frames_count s count).0 OutputTooShort fine

pub frames_answer : (s : List ℕ) (first count : Frames) (room : ℕ)
    → read_frames_of s first count room ≡ answered (check_frames_into s first count room) (Read (frames_count s count))
unfolding read_frames_of
frames_answer s first count room = refl

pub frames_put : (s : List ℕ) (first count : Frames) (lent : List ℤ)
    → read_frames_into s first count lent ≡ filled (check_frames_into s first count (length lent)) (frames_at s first count) lent
unfolding read_frames_into
frames_put s first count lent = refl

pub ruleset reads = (settled, groups_fine, opens, opened_long, room_fine, frames_answer, frames_put)
