-- A few frames: what an answer tells of the checks and of the lent samples, and back; which groups decide; that they
-- are a cut of the whole decode; and that two ranges which meet are checked as one.
use Rattle.std.specs.Prelude.{Ok, Err}
use Prim.Native.Nat.{ℕ, ◌+◌, ◌-◌, ◌*◌, ◌/◌, ◌^◌, ◌≤◌, ◌<◌}
use mathlib.Core.Path.{◌≡◌, refl, sym, ap, ap₂, ◌∙◌}
use mathlib.Core.List.{List, ◌++◌}
use mathlib.Core.Bool.{Bool, true, false, not}
use mathlib.Core.Logic.{◌⊎◌, ⊎_elim, inl, inr}
use native.Mathlib.Omega.{arith}
use native.Mathlib.Nat.{add-mul, mul-le-mul_right}
use lib.ListN.{length, take}
use lib.IntN.{ℤ}
use lib.Dec.{ltb, eqb}
use borrow.Author.Tests.{lt-ltb, le-ltb, ltb-true}
use Rattle.format.specs.Lists.{every, from, over}
use Rattle.format.specs.Header.{fields_of, groups_of, group_bytes}
use Rattle.format.specs.Refusals.{Checked, Fine, No, number, nowhere, refuse, ◌then◌, in_order}
use Rattle.format.specs.Places.{at_group}
use Rattle.format.specs.Answers.{refused_by, answered, filled, read}
use Rattle.format.specs.Opening.{format_of, check_open}
use Rattle.format.specs.Decoding.{check_group, check_decode, decoded_of, check_room}
use Rattle.format.specs.Walking.{check_step}
use Rattle.format.specs.FewFrames.{range_end, IsAsked, group_of, touched, check_frames, frames_count, check_frames_into, frames_at, read_frames_of, read_frames_into}
use Rattle.format.specs.Boundary.{sample_bytes, result_of, host_read_frames, host_read_frames_into}
use Rattle.format.specs.Promises.{Decodes, ReadsFrames, HostDecodes, HostReadsFrames}
use Rattle.format.specs.declared.refusals.Refusal.{Refusal}
use Rattle.format.specs.declared.refusals.Place.{Place}
use Rattle.format.specs.declared.refusals.Refusal.TheVariants.{OutputTooShort, RangePastEnd}
use Rattle.format.specs.declared.units.Frames.{Frames}
use Rattle.format.specs.declared.units.Samples.{Samples}
use Rattle.format.specs.declared.answers.Outcome.TheVariants.{Read}
use Rattle.format.specs.declared.answers.Answer.{Answer}
use Rattle.laws.proofs.Tests.{never}
use Rattle.laws.proofs.Parts.{from_skip, from_front, from_take}
use Rattle.laws.proofs.Checks.{pass, ◌and_then◌, ◌then_same◌, then_fine, first_fine, others_fine, Unsaid, unsaid, ◌nor◌, said_after_lem, said_before, in_order_lem, order_fine, order_cong, order_twice}
use Rattle.laws.proofs.Chain.{room_short}
use Rattle.laws.proofs.Located.{refused_so, group_numbers, passes_unsaid, each_passes, open_passes, group_passes}
use Rattle.laws.proofs.Lengths.{decode_count}
use Rattle.laws.proofs.SampleBytes.{sample_bytes_from}
use Rattle.laws.proofs.FewFrames.{frames, touched_steps, touched_none, touched_some, none_or_some, touched_asked, frames_join, frames_all, checks_all, frames_long}
use Rattle.promises.proofs.Outcomes.{Exactly, succeeds_fine, succeeds_as, written_front, read_fine, read_count, samples_read}
use Rattle.promises.proofs.HostFiles.{host_decoded, host_count, host_read}
use Rattle.promises.proofs.WalkLaws.{steps_checked, room_passes}
use Rattle.promises.proofs.Certain.{refused_exactly}

-- ---- from the answer: n samples were read
module _ (s : List ℕ) (first count : Frames) (lent after : List ℤ) (n : ℕ) (d : ReadsFrames s first count lent (read n) after) where
  abbrev c : Checked
  c = check_frames_into s first count (length lent)

  range_passed : c ≡ Fine
  unfolding read_frames_of
  range_passed = succeeds_fine c (Read (frames_count s count)) (Read (record { 0 = n })) refl d.0

  pub range_fine : check_frames s first count ≡ Fine
  unfolding check_frames_into
  range_fine = first_fine _ _ range_passed

  pub range_count : n ≡ count.0 * (fields_of s).channels
  unfolding read_frames_of
  range_count =
      let e = succeeds_as c (Read (frames_count s count)) (Read (record { 0 = n })) refl d.0 in
      let q : ◌≡◌ {A = Samples} (record { 0 = n }) (frames_count s count) = cc in
      ap (λ (x : Samples). x.0) q

  pub range_left : take n after ≡ frames_at s first count
  unfolding read_frames_into
  range_left = written_front c n (frames_at s first count) lent after range_passed (range_count ∙ sym (frames_long s first count range_fine count.0 (omega arith))) d.1

-- ---- from the checks: where they pass and there is room, the frames are read
module _ (s : List ℕ) (first count : Frames) (lent after : List ℤ) (r : Answer) (room : (frames_count s count).0 ≤ length lent) (d : ReadsFrames s first count lent r after) where
  roomy : check_frames_into s first count (length lent) ≡ check_frames s first count
  unfolding check_frames_into
  roomy = room_passes (check_frames s first count) (length lent) (frames_count s count).0 OutputTooShort room

  pub range_reads : check_frames s first count ≡ Fine → (r ≡ read (frames_count s count).0) × (after ≡ over (frames_at s first count) lent)
  unfolding read_frames_of read_frames_into
  range_reads fine = (
    d.0 ∙ ap (λ (k : Checked). answered k (Read (frames_count s count))) (roomy ∙ fine),
    d.1 ∙ ap (λ (k : Checked). filled k (frames_at s first count) lent) (roomy ∙ fine),
  )

  -- and where they refuse, that is the answer
  pub range_refuses : (x : Refusal) (at : Place) → Exactly (r ≡ refused_by x at) (check_frames s first count ≡ No x at)
  range_refuses x at =
      let q = refused_exactly.reads_frames s first count lent after r x at d in
      (λ e. sym roomy ∙ q.0 e, λ e. q.1 (roomy ∙ e))

-- at the host boundary their bytes
pub host_range_reads : (s : List ℕ) (first count : Frames) (lent after : List ℕ) (r : ℕ) → 4 * (frames_count s count).0 ≤ length lent → HostReadsFrames s first count lent r after → check_frames s first count ≡ Fine
    → (r ≡ 4 * (frames_count s count).0) × (after ≡ over (sample_bytes (frames_at s first count)) lent)
unfolding host_read_frames host_read_frames_into read_frames_of check_frames_into
host_range_reads s first count lent after r room d fine =
    let e = room_passes (check_frames s first count) (length lent / 4) (frames_count s count).0 OutputTooShort (omega arith) ∙ fine in (
      d.0 ∙ ap (λ (k : Checked). result_of (answered k (Read (frames_count s count))).outcome) e,
      d.1 ∙ ap (λ (k : Checked). filled k (sample_bytes (frames_at s first count)) lent) e,
    )

-- ---- all frames are checked as the whole decode is
pub all_checks : (s : List ℕ) (room : ℕ) → check_frames_into s (frames 0) (fields_of s).frames room ≡ (check_decode s then check_room s room)
unfolding check_frames_into check_room
all_checks s room = ap (λ (c : Checked). c then refuse (ltb room (frames_count s (fields_of s).frames).0) OutputTooShort) (checks_all s)

-- ---- the groups of the frames that are asked for decide
module _ (s : List ℕ) (first count : Frames) (within : (range_end first count).0 ≤ (fields_of s).frames.0) where
  within_checks : check_frames s first count ≡ (check_open s then touched_steps s first count)
  unfolding check_frames
  within_checks = refl then_same λ a. pass _ RangePastEnd (le-ltb (fields_of s).frames.0 (range_end first count).0 within) and_then refl

  pub frames_pass : check_open s ≡ Fine → ((j : ℕ) → IsAsked first count j → check_step s (group_of j) ≡ Fine) → check_frames s first count ≡ Fine
  frames_pass opens all =
      within_checks ∙ (opens and_then in_order_lem _ (touched first count) (λ k l.
      let j = touched_asked first count k l in
      ap (check_step s) (sym j.2) ∙ all j.0 j.1))

  -- where the whole decode passes, they pass
  module _ (fine : check_decode s ≡ Fine) where
    pub cut_passes : check_frames s first count ≡ Fine
    unfolding groups_of
    cut_passes =
        let e = sym (steps_checked s) ∙ fine in
        frames_pass (first_fine _ _ e) (λ j asked.
        let l = asked.1 in
        order_fine (check_step s) (group_of j) (groups_of (fields_of s).frames) (omega arith) (others_fine (check_open s) _ e))

    -- and are a cut of what it gives
    pub cut_within : (frames_count s first).0 + (frames_count s count).0 ≤ length (decoded_of s)
    cut_within =
        let n = (fields_of s).channels in
        omega (arith, mul-le-mul_right n within, add-mul first.0 count.0 n, decode_count s fine)

    pub frames_cut : frames_at s first count ≡ from (frames_count s first).0 (frames_count s count).0 (decoded_of s)
    frames_cut =
        let all = (fields_of s).frames in
        let n = (fields_of s).channels in
        let rest = frames (all.0 - (range_end first count).0) in
        let front = frames_at s (frames 0) first in
        let cut = frames_at s first count in
        let back = frames_at s (range_end first count) rest in
        let a : length front ≡ first.0 * n = frames_long s (frames 0) all (checks_all s ∙ fine) first.0 (omega arith) in
        let b : length cut ≡ count.0 * n = frames_long s first count cut_passes count.0 (omega arith) in
        let z : 0 + first.0 ≡ first.0 = omega arith in
        let e : first.0 + (count.0 + (all.0 - (first.0 + count.0))) ≡ all.0 = omega arith in
        let whole : decoded_of s ≡ front ++ (cut ++ back) =
        sym (frames_all s) ∙ ap (λ (k : ℕ). frames_at s (frames 0) (frames k)) (sym e)
        ∙ frames_join s (frames 0) first (range_end count rest)
        ∙ ap (λ (k : ℕ). front ++ frames_at s (frames k) (range_end count rest)) z
        ∙ ap (λ (x : List ℤ). front ++ x) (frames_join s first count rest) in
        let i : first.0 * n + 0 ≡ first.0 * n = omega arith in
        sym (ap₂ (λ (k : ℕ) (x : List ℤ). from k (count.0 * n) x) (sym i) whole
        ∙ from_skip front (cut ++ back) (first.0 * n) 0 (count.0 * n) a
        ∙ from_front (count.0 * n) cut back b)

    -- in bytes too
    pub bytes_cut : sample_bytes (frames_at s first count) ≡ from (4 * (frames_count s first).0) (4 * (frames_count s count).0) (sample_bytes (decoded_of s))
    bytes_cut = ap sample_bytes frames_cut ∙ sample_bytes_from (frames_count s first).0 (frames_count s count).0 (decoded_of s) cut_within

-- where n samples were decoded, they are that cut of what was left
pub cut_left : (s : List ℕ) (out whole : List ℤ) (n : ℕ) (first count : Frames) → Decodes s out (read n) whole → (range_end first count).0 ≤ (fields_of s).frames.0
    → frames_at s first count ≡ from (frames_count s first).0 (frames_count s count).0 whole
cut_left s out whole n first count d within =
    let fine = read_fine s out whole n d in
    let l : (frames_count s first).0 + (frames_count s count).0 ≤ n = omega (arith, cut_within s first count within fine, read_count s out whole n d, decode_count s fine) in
    frames_cut s first count within fine ∙ ap (from _ _) (sym (samples_read s out whole n d)) ∙ from_take (frames_count s first).0 (frames_count s count).0 n whole l

-- at the host boundary of its bytes
pub host_cut_left : (s out whole : List ℕ) (n : ℕ) (first count : Frames) → HostDecodes s out n whole → n < 2 ^ 63 → (range_end first count).0 ≤ (fields_of s).frames.0
    → sample_bytes (frames_at s first count) ≡ from (4 * (frames_count s first).0) (4 * (frames_count s count).0) whole
host_cut_left s out whole n first count d short within =
    let fine = host_decoded s out whole n d short in
    let l : 4 * (frames_count s first).0 + 4 * (frames_count s count).0 ≤ n = omega (arith, cut_within s first count within fine, host_count s out whole n d short) in
    bytes_cut s first count within fine ∙ ap (from _ _) (sym (host_read s out whole n d short)) ∙ from_take (4 * (frames_count s first).0) (4 * (frames_count s count).0) n whole l

-- ---- two ranges that meet: the file is opened for either, and the group at the seam is checked in either
after_both : (o x a b : Checked) → x ≡ (a then b) → (o then x) ≡ ((o then a) then (o then b))
unfolding ◌then◌
after_both (Ok ok) x a b e = e
after_both (Err refused) x a b e = refl

module _ (s : List ℕ) (first count more : Frames) (within : (range_end first (range_end count more)).0 ≤ (fields_of s).frames.0) where
  abbrev next : Frames
  next = range_end first count

  abbrev both : Frames
  both = range_end count more

  -- how far on the second begins, counted in groups
  abbrev shift : ℕ
  shift = group_of next.0 - group_of first.0

  abbrev check : ℕ → Checked
  check k = check_step s (group_of first.0 + k)

  shift_least : shift ≤ touched first count
  shift_least = none_or_some count.0 (λ e. omega (arith, touched_none first count e)) (λ some. omega (arith, touched_some first count some))

  -- no more are asked for, or some
  none_more : more.0 ≡ 0 → touched_steps s first both ≡ (touched_steps s first count then touched_steps s next more)
  unfolding in_order
  none_more e =
      let z : both.0 ≡ count.0 = omega arith in
      ap (λ (n : ℕ). touched_steps s first (frames n)) z ∙ sym (ap (λ (n : ℕ). touched_steps s first count then in_order (λ k. check_step s (group_of next.0 + k)) n) (touched_none next more e) ∙ then_fine _)

  some_more : 0 < more.0 → touched_steps s first both ≡ (touched_steps s first count then touched_steps s next more)
  some_more some =
      let n = touched_some next more some in
      let t = touched_some first both (omega arith) in
      let e : touched first both ≡ shift + touched next more = omega arith in
      let l : touched first count ≤ shift + touched next more = none_or_some count.0 (λ z. omega (arith, touched_none first count z)) (λ z. omega (arith, touched_some first count z)) in
      ap (in_order check) e ∙ sym (order_twice check shift (touched first count) (touched next more) shift_least l)
      ∙ ap (λ (c : Checked). touched_steps s first count then c)
      (order_cong _ _ (touched next more) (λ k b. let g : group_of first.0 + (shift + k) ≡ group_of next.0 + k = omega arith in ap (check_step s) g))

  -- the range is checked as the first part, and then the second
  pub seam : check_frames s first (range_end count more) ≡ (check_frames s first count then check_frames s (range_end first count) more)
  seam =
      within_checks s first both within
      ∙ after_both (check_open s) _ _ _ (none_or_some more.0 none_more some_more)
      ∙ sym (ap₂ (λ (a b : Checked). a then b) (within_checks s first count (omega arith)) (within_checks s next more (omega arith)))

-- what two checks refuse, the first of them that refuses says
pub first_of_two : (a b : Checked) (x : Refusal) (at : Place) → Exactly ((a then b) ≡ No x at) ((a ≡ No x at) ⊎ ((a ≡ Fine) × (b ≡ No x at)))
unfolding ◌then◌
first_of_two (Ok ok) b x at = (λ e. inr (refl, e), ⊎_elim (λ (e : Fine ≡ No x at). let z : true ≡ false = cc in never z) (λ q. q.1))
first_of_two (Err refused) b x at = (inl, ⊎_elim (λ (e : No refused.why refused.place ≡ No x at). e) (λ q. let e = q.0 in let z : true ≡ false = cc in never z))

-- ---- by which number they refuse
module _ (s : List ℕ) (first count : Frames) where
  abbrev past : Bool
  past = ltb (fields_of s).frames.0 (range_end first count).0

  -- the checks of groups say no other number
  steps_unsaid : (x : Refusal) (test : ℕ → Bool) → every test group_numbers ≡ true → test (number x) ≡ false → Unsaid x (touched_steps s first count)
  unfolding check_step
  steps_unsaid x test all out =
      let h = fields_of s in
      passes_unsaid test x _ (each_passes test (λ k. check_group h (format_of s h) (group_bytes s h (group_of first.0 + k))) (λ k. at_group (group_of first.0 + k)) (touched first count) (λ k. group_passes test all h (format_of s h) _)) out

  -- 51
  pub past_so : (room : ℕ) (x : Refusal) (at : Place) → number x ≡ 51 → check_frames_into s first count room ≡ No x at → (check_open s ≡ Fine) × ((fields_of s).frames.0 < (range_end first count).0)
  unfolding check_frames_into check_frames every
  past_so room x at n e =
      let other : ℕ → Bool = λ m. not (eqb m 51) in
      let out : other (number x) ≡ false = ap other n in
      let inner = said_before x at (check_frames s first count) (refuse _ OutputTooShort) (unsaid x OutputTooShort _ (ap (eqb 50) n)) e in
      let opened = said_after_lem x at (check_open s) _ (passes_unsaid other x (check_open s) (open_passes other refl s) out) inner in
      let said = said_before x at (refuse past RangePastEnd) _ (steps_unsaid x other refl out) opened.1 in
      (opened.0, ltb-true _ _ (refused_so past RangePastEnd x at said).0)

  pub so_past : (room : ℕ) → check_open s ≡ Fine → (fields_of s).frames.0 < (range_end first count).0 → check_frames_into s first count room ≡ No RangePastEnd nowhere
  unfolding check_frames_into check_frames ◌then◌ refuse
  so_past room opens l = rw (opens, lt-ltb (fields_of s).frames.0 (range_end first count).0 l)

  -- 50
  pub short_so : (room : ℕ) (x : Refusal) (at : Place) → number x ≡ 50 → check_frames_into s first count room ≡ No x at → (check_frames s first count ≡ Fine) × (room < (frames_count s count).0)
  unfolding check_frames_into check_frames every
  short_so room x at n e =
      let other : ℕ → Bool = λ m. not (eqb m 50) in
      let out : other (number x) ≡ false = ap other n in
      let none : Unsaid x (check_frames s first count) =
      passes_unsaid other x (check_open s) (open_passes other refl s) out nor unsaid x RangePastEnd _ (ap (eqb 51) n) nor steps_unsaid x other refl out in
      let q = said_after_lem x at (check_frames s first count) (refuse (ltb room (frames_count s count).0) OutputTooShort) none e in
      (q.0, ltb-true _ _ (refused_so _ OutputTooShort x at q.1).0)

  pub so_short : (room : ℕ) → check_frames s first count ≡ Fine → room < (frames_count s count).0 → check_frames_into s first count room ≡ No OutputTooShort nowhere
  unfolding check_frames_into
  so_short room fine l = room_short (check_frames s first count) fine room (frames_count s count).0 OutputTooShort l
