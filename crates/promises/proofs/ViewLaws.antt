-- What reading a few frames depends on: of two files with one view all that is read of them is the same.
use Prim.Native.Nat.{ℕ, ◌+◌, ◌-◌, ◌*◌, ◌/◌, ◌%◌, ◌≤◌, ◌<◌}
use mathlib.Core.Path.{◌≡◌, refl, sym, ap, ap₂, ◌∙◌}
use mathlib.Core.Bool.{Bool, true, false, not, ◌&&◌, ◌||◌, cond}
use mathlib.Core.List.{List}
use native.Mathlib.Omega.{arith}
use lib.ListN.{length, take, drop}
use lib.Seq.{take-take, drop-drop}
use lib.IntN.{ℤ}
use lib.Dec.{ltb, eqb}
use borrow.Author.Tests.{ltb-false, eqb-false}
use Rattle.format.specs.Lists.{from, same}
use Rattle.format.specs.Numbers.{num, num_at}
use Rattle.format.specs.Header.{is_signature, signature, fields_of, groups_of, entry, group_bytes}
use Rattle.format.specs.Blocks.{block_mark, is_block, float_bit}
use Rattle.format.specs.Refusals.{Checked, Fine, refuse}
use Rattle.format.specs.Places.{in_group}
use Rattle.format.specs.Answers.{answered}
use Rattle.format.specs.Opening.{check_fields, check_offsets, bad_entry, check_table, check_first, format_of, check_open}
use Rattle.format.specs.Decoding.{check_group, channels_of, frame_of}
use Rattle.format.specs.Walking.{check_step}
use Rattle.format.specs.FewFrames.{range_end, IsAsked, group_of, touched, check_frames, check_frames_into, frame_at, frames_at, read_frames_of, read_frames_into, SameView}
use Rattle.format.specs.Boundary.{sample_bytes, host_read_frames_into}
use Rattle.format.specs.declared.refusals.Refusal.TheVariants.{TooShort, FileSignature, BlockSignature, LastEntry, FirstEntry, EntryBounds, OutputTooShort, RangePastEnd}
use Rattle.format.specs.declared.settings.SampleFormat.{SampleFormat}
use Rattle.format.specs.declared.settings.SampleFormat.TheVariants.{Pcm, Float}
use Rattle.format.specs.declared.units.Frames.{Frames}
use Rattle.format.specs.declared.answers.Fields.{Fields}
use Rattle.format.specs.declared.answers.Outcome.TheVariants.{Read}
use Rattle.laws.proofs.Parts.{from_take, from_same, joined_cong}
use Rattle.laws.proofs.Checks.{passed, ◌then_same◌, first_fine, order_cong}
use Rattle.laws.proofs.FewFrames.{touched_asked, frames_opens, frames_within}
use Rattle.promises.proofs.Outcomes.{filled_same}

-- ---- the header: numbers of the first 32 bytes
module _ (s t : List ℕ) (front : take 32 s ≡ take 32 t) where
  field_same : (i n : ℕ) → i + n ≤ 32 → num_at i n s ≡ num_at i n t
  unfolding num_at
  field_same i n l = ap (num 256) (sym (from_take i n 32 s l) ∙ ap (from i n) front ∙ from_take i n 32 t l)

  fields_same : fields_of s ≡ fields_of t
  unfolding fields_of
  fields_same =
      rw (
        field_same 8 2 (omega arith),
        field_same 10 2 (omega arith),
        field_same 12 4 (omega arith),
        field_same 16 4 (omega arith),
        field_same 20 4 (omega arith),
        field_same 24 4 (omega arith),
        field_same 28 4 (omega arith),
      )

  signed_same : is_signature s ≡ is_signature t
  unfolding is_signature
  signed_same =
      let e : take 8 s ≡ take 8 t = sym (take-take 8 32 s (omega arith)) ∙ ap (take 8) front ∙ take-take 8 32 t (omega arith) in
      ap (λ (x : List ℕ). same x (signature 0x31) || same x (signature 0x30)) e

-- a test of the first block, which is made only where there is a group
asked_same : (n : ℕ) (b c : Bool) → (0 < n → b ≡ c) → (not (eqb n 0) && b) ≡ (not (eqb n 0) && c)
asked_same n b c e = by (eqb n 0) refl
  where
    by : (t : Bool) → eqb n 0 ≡ t → (not t && b) ≡ (not t && c)
    by true q = refl
    by false q = let some = eqb-false n 0 q in e (omega arith)

module _ (s t : List ℕ) (first count : Frames) (v : SameView s t first count) where
  abbrev h : Fields
  h = fields_of s

  abbrev groups : ℕ
  groups = groups_of h.frames

  abbrev one_header : fields_of s ≡ fields_of t
  one_header = fields_same s t v.front

  -- ---- the table
  entry_same : (k : ℕ) → k ≤ groups → entry s h k ≡ entry t h k
  unfolding entry num_at
  entry_same k l = ap (num 256) (from_same (4 * k) 4 h.table (4 * (groups + 1)) s t (omega arith) v.table)

  bad_same : (g : ℕ) → g < groups → bad_entry s h g ≡ bad_entry t h g
  unfolding bad_entry
  bad_same g l =
      ap₂ (λ (x y : ℕ). ltb h.size y || (ltb y x || ltb (y - x) (80 * h.channels))) (entry_same g (omega arith)) (entry_same (g + 1) (omega arith))

  table_same : check_table s h ≡ check_table t h
  unfolding check_table
  table_same =
      ap (λ (x : ℕ). refuse (not (eqb x h.size)) LastEntry) (entry_same groups (omega arith))
      then_same λ a. refl
      then_same λ a. ap (λ (x : ℕ). refuse (not (eqb groups 0) && not (eqb x 0)) FirstEntry) (entry_same 0 (omega arith))
      then_same λ a. order_cong _ _ groups (λ g l. ap (λ (b : Bool). in_group g (refuse b EntryBounds)) (bad_same g l))

  -- ---- the first block
  block_same : 0 < groups → is_block (drop h.start s) ≡ is_block (drop h.start t)
  unfolding is_block from
  block_same some = ap (λ (x : List ℕ). same x block_mark) (v.mark some)

  first_same : check_first s h ≡ check_first t h
  unfolding check_first
  first_same = ap (λ (b : Bool). refuse b BlockSignature) (asked_same groups _ _ (λ some. ap not (block_same some)))

  float_same : 0 < groups → float_bit (drop h.start s) ≡ float_bit (drop h.start t)
  unfolding float_bit num_at from
  float_same some =
      ap (λ (x : List ℕ). eqb (num 256 (take 2 x) / 2 % 2) 1) (drop-drop 10 h.start s)
      ∙ ap (λ (x : List ℕ). eqb (num 256 x / 2 % 2) 1) (v.flags some)
      ∙ sym (ap (λ (x : List ℕ). eqb (num 256 (take 2 x) / 2 % 2) 1) (drop-drop 10 h.start t))

  format_same : format_of s h ≡ format_of t h
  unfolding format_of
  format_same = ap (λ (b : Bool). cond b Float Pcm) (asked_same groups _ _ float_same)

  -- ---- opening
  pub opens_same : check_open s ≡ check_open t
  unfolding check_open
  opens_same =
      ap (λ (n : ℕ). refuse (ltb n 120) TooShort) v.long
      then_same λ a. ap (λ (b : Bool). refuse (not b) FileSignature) (signed_same s t v.front)
      then_same λ a. ap check_fields one_header
      then_same λ a. ap₂ check_offsets one_header v.long
      then_same λ a. (table_same ∙ ap (check_table t) one_header)
      then_same λ a. first_same ∙ ap (check_first t) one_header

  -- ---- a group that is asked for, of a file which has the frames
  module _ (opens : check_open s ≡ Fine) (within : (range_end first count).0 ≤ h.frames.0) where
    group_same : (j : ℕ) → IsAsked first count j → group_bytes s h (group_of j) ≡ group_bytes t h (group_of j)
    group_same j asked = v.groups opens within j asked

    step_same : (j : ℕ) → IsAsked first count j → check_step s (group_of j) ≡ check_step t (group_of j)
    unfolding check_step
    step_same j asked =
        let g = group_of j in
        ap₂ (λ (f : SampleFormat) (b : List ℕ). in_group g (check_group h f b)) format_same (group_same j asked)
        ∙ ap (λ (x : Fields). in_group g (check_group x (format_of t x) (group_bytes t x g))) one_header

    touched_same : (k : ℕ) → k < touched first count → check_step s (group_of first.0 + k) ≡ check_step t (group_of first.0 + k)
    touched_same k l =
        let j = touched_asked first count k l in
        ap (check_step s) (sym j.2) ∙ step_same j.0 j.1 ∙ ap (check_step t) j.2

    frame_same : (j : ℕ) → IsAsked first count j → frame_at s j ≡ frame_at t j
    unfolding frame_at
    frame_same j asked =
        let g = group_of j in
        ap₂ (λ (f : SampleFormat) (b : List ℕ). frame_of (channels_of h f b) (j % 512)) format_same (group_same j asked)
        ∙ ap (λ (x : Fields). frame_of (channels_of x (format_of t x) (group_bytes t x g)) (j % 512)) one_header

    frames_same : frames_at s first count ≡ frames_at t first count
    unfolding frames_at
    frames_same = joined_cong _ _ count.0 (λ i l. frame_same (first.0 + i) (omega arith, omega arith))

  -- ---- so reading them answers the same, and leaves the same
  checks_same : check_frames s first count ≡ check_frames t first count
  unfolding check_frames
  checks_same =
      opens_same
      then_same λ opens. ap (λ (x : Fields). refuse (ltb x.frames.0 (range_end first count).0) RangePastEnd) one_header
      then_same λ past. order_cong _ _ (touched first count)
      (touched_same (opens_same ∙ opens) (let e = ap (λ (x : Fields). x.frames.0) one_header in omega (arith, ltb-false (fields_of t).frames.0 (range_end first count).0 (passed _ _ past))))

  pub into_same : (room : ℕ) → check_frames_into s first count room ≡ check_frames_into t first count room
  unfolding check_frames_into
  into_same room = checks_same then_same λ a. ap (λ (x : Fields). refuse (ltb room (count.0 * x.channels)) OutputTooShort) one_header

  -- the samples, where the checks pass
  pub contents_same : (room : ℕ) → check_frames_into t first count room ≡ Fine → frames_at s first count ≡ frames_at t first count
  unfolding check_frames_into
  contents_same room fine =
      let q = checks_same ∙ first_fine _ _ fine in
      frames_same (frames_opens s first count q) (frames_within s first count q)

  pub says_same : (room : ℕ) → read_frames_of s first count room ≡ read_frames_of t first count room
  unfolding read_frames_of
  says_same room = ap₂ (λ (c : Checked) (x : Fields). answered c (Read (record { 0 = count.0 * x.channels }))) (into_same room) one_header

  pub leaves_same : (lent : List ℤ) → read_frames_into s first count lent ≡ read_frames_into t first count lent
  unfolding read_frames_into
  leaves_same lent = filled_same (check_frames_into s first count (length lent)) _ _ _ lent (into_same (length lent)) (contents_same (length lent))

  pub host_leaves_same : (lent : List ℕ) → host_read_frames_into s first count lent ≡ host_read_frames_into t first count lent
  unfolding host_read_frames_into
  host_leaves_same lent =
      filled_same (check_frames_into s first count (length lent / 4)) _ _ _ lent (into_same (length lent / 4)) (λ fine. ap sample_bytes (contents_same (length lent / 4) fine))
