-- A few frames: which groups they touch, that a group of theirs has passed, how many samples they are, and that all
-- frames are the whole decode.
use Prim.Native.Nat.{ℕ, zero, suc, ◌+◌, ◌-◌, ◌*◌, ◌/◌, ◌%◌, ◌≤◌, ◌<◌, min}
use mathlib.Core.Path.{◌≡◌, refl, sym, ap, ap₂, ◌∙◌}
use mathlib.Core.List.{List, ◌++◌}
use native.Mathlib.Omega.{arith}
use native.Mathlib.Nat.{mul-suc, mul_comm}
use lib.ListN.{length}
use lib.IntN.{ℤ}
use lib.Dec.{ltb}
use borrow.Author.Tests.{ltb-false, le-ltb, eq-eqb, ne_eqb}
use Rattle.format.specs.Lists.{joined}
use Rattle.format.specs.Header.{fields_of, groups_of, group_bytes}
use Rattle.format.specs.Units.{active}
use Rattle.format.specs.Refusals.{Checked, Fine, in_order}
use Rattle.format.specs.Places.{at_group}
use Rattle.format.specs.Opening.{format_of, check_open}
use Rattle.format.specs.Decoding.{check_group, channels_of, frame_of, woven, group_samples, check_decode, decoded_of}
use Rattle.format.specs.Walking.{check_step}
use Rattle.format.specs.FewFrames.{range_end, IsAsked, group_of, touched, check_frames, frame_at, frames_at}
use Rattle.format.specs.declared.refusals.Refusal.TheVariants.{RangePastEnd}
use Rattle.format.specs.declared.units.Frames.{Frames}
use Rattle.format.specs.declared.answers.Fields.{Fields}
use Rattle.laws.proofs.Parts.{length_below, joined_add, joined_cong}
use Rattle.laws.proofs.Channels.{frame_length}
use Rattle.laws.proofs.Checks.{pass, passed, ◌then_same◌, ◌and_then◌, first_fine, others_fine, order_fine, order_cong}
use Rattle.laws.proofs.Places.{located_fine}
use Rattle.laws.proofs.Opened.{some_channels, opened_fields}
use Rattle.laws.proofs.Lengths.{channels_count}

-- so many frames
abbrev pub frames : ℕ → Frames
frames n = record { 0 = n }

-- the checks of the groups touched, in order
abbrev pub touched_steps : List ℕ → Frames → Frames → Checked
touched_steps s first count = in_order (λ k. check_step s (group_of first.0 + k)) (touched first count)

-- ---- the groups touched
pub touched_none : (first count : Frames) → count.0 ≡ 0 → touched first count ≡ 0
unfolding touched
touched_none first count e = rw (eq-eqb count.0 0 e)

pub touched_some : (first count : Frames) → 0 < count.0 → touched first count ≡ (first.0 + count.0 + 511) / 512 - first.0 / 512
unfolding touched groups_of
touched_some first count l = rw (ne_eqb count.0 0 (λ e. omega arith))

pub none_or_some : (n : ℕ) {A : Type 0} → (n ≡ 0 → A) → (0 < n → A) → A
none_or_some zero a b = a refl
none_or_some (suc n) a b = b (omega arith)

-- a frame that is asked for lies in one of them
pub asked_touched : (first count : Frames) (j : ℕ) → IsAsked first count j → (k : ℕ) × (k < touched first count) × (group_of j ≡ group_of first.0 + k)
asked_touched first count j asked =
    let a = asked.0 in
    let b = asked.1 in
    let t = touched_some first count (omega arith) in
    (j / 512 - first.0 / 512, omega arith, omega arith)

-- each of them holds a frame that is asked for
pub touched_asked : (first count : Frames) (k : ℕ) → k < touched first count → (j : ℕ) × IsAsked first count j × (group_of j ≡ group_of first.0 + k)
touched_asked first count k l =
    none_or_some count.0 (λ e. let t = touched_none first count e in absurd (omega arith))
    (λ some. let t = touched_some first count some in by k t l some)
  where
    by : (k : ℕ) → touched first count ≡ (first.0 + count.0 + 511) / 512 - first.0 / 512 → k < touched first count → 0 < count.0 → (j : ℕ) × IsAsked first count j × (group_of j ≡ group_of first.0 + k)
    by zero t l some = (first.0, (omega arith, omega arith), omega arith)
    by (suc k) t l some = (512 * (first.0 / 512 + suc k), (omega arith, omega arith), omega arith)

-- they are groups of a file which has these frames
pub touched_within : (first count all : Frames) → (range_end first count).0 ≤ all.0 → group_of first.0 + touched first count ≤ groups_of all
unfolding groups_of
touched_within first count all l =
    none_or_some count.0 (λ e. omega (arith, touched_none first count e)) (λ some. omega (arith, touched_some first count some))

-- all frames touch all groups
pub touched_all : (all : Frames) → touched (frames 0) all ≡ groups_of all
unfolding groups_of
touched_all all =
    none_or_some all.0 (λ e. omega (arith, touched_none (frames 0) all e)) (λ some. omega (arith, touched_some (frames 0) all some))

-- ---- one range behind another
pub frames_join : (s : List ℕ) (first count more : Frames) → frames_at s first (range_end count more) ≡ frames_at s first count ++ frames_at s (range_end first count) more
unfolding frames_at
frames_join s first count more =
    joined_add (λ i. frame_at s (first.0 + i)) count.0 more.0
    ∙ ap (λ (xs : List ℤ). joined (λ i. frame_at s (first.0 + i)) count.0 ++ xs)
    (joined_cong (λ i. frame_at s (first.0 + (count.0 + i))) (λ i. frame_at s (first.0 + count.0 + i)) more.0
    (λ i l. let e : first.0 + (count.0 + i) ≡ first.0 + count.0 + i = omega arith in ap (frame_at s) e))

-- ---- part of a group: the n frames from the frame j on, where the group has as many from there
pub group_frames : (s : List ℕ) (j n : ℕ) → j % 512 + n ≤ 512
    → (let h = fields_of s in joined (λ i. frame_of (channels_of h (format_of s h) (group_bytes s h (group_of j))) (j % 512 + i)) n) ≡ frames_at s (frames j) (frames n)
unfolding frames_at frame_at
group_frames s j n l =
    let h = fields_of s in
    joined_cong _ _ n (λ i b.
    let g : j / 512 ≡ (j + i) / 512 = omega arith in
    let r : j % 512 + i ≡ (j + i) % 512 = omega arith in
    ap₂ (λ (k m : ℕ). frame_of (channels_of h (format_of s h) (group_bytes s h k)) m) g r)

-- ---- ALL FRAMES ARE THE WHOLE DECODE
module _ (s : List ℕ) where
  abbrev h : Fields
  h = fields_of s

  abbrev part : ℕ → List ℤ
  part g = group_samples h (format_of s h) g (group_bytes s h g)

  -- a group's samples are its active frames
  part_frames : (g : ℕ) → part g ≡ frames_at s (frames (min h.frames.0 (512 * g))) (frames (active h.frames g))
  unfolding group_samples woven active frames_at frame_at
  part_frames g =
      joined_cong _ _ (min 512 (h.frames.0 - 512 * g)) (λ i b.
      let k : g ≡ (min h.frames.0 (512 * g) + i) / 512 = omega arith in
      let r : i ≡ (min h.frames.0 (512 * g) + i) % 512 = omega arith in
      ap₂ (λ (k m : ℕ). frame_of (channels_of h (format_of s h) (group_bytes s h k)) m) k r)

  none_yet : (m : ℕ) → m ≡ 0 → joined part 0 ≡ frames_at s (frames 0) (frames m)
  unfolding frames_at joined
  none_yet m e = rw e

  next_part : (n : ℕ) → joined part n ≡ frames_at s (frames 0) (frames (min h.frames.0 (512 * n)))
      → joined part (suc n) ≡ frames_at s (frames 0) (range_end (frames (min h.frames.0 (512 * n))) (frames (active h.frames n)))
  unfolding joined
  next_part n q =
      let m = min h.frames.0 (512 * n) in
      let z : m ≡ 0 + m = omega arith in
      ap₂ (λ (x y : List ℤ). x ++ y) q (part_frames n ∙ ap (λ (k : ℕ). frames_at s (frames k) (frames (active h.frames n))) z)
      ∙ sym (frames_join s (frames 0) (frames m) (frames (active h.frames n)))

  so_far : (n : ℕ) → joined part n ≡ frames_at s (frames 0) (frames (min h.frames.0 (512 * n)))
  unfolding active
  so_far zero = none_yet (min h.frames.0 (512 * 0)) (omega arith)
  so_far (suc n) =
      let e : min h.frames.0 (512 * n) + min 512 (h.frames.0 - 512 * n) ≡ min h.frames.0 (512 * suc n) = omega (arith, mul-suc 512 n) in
      next_part n (so_far n) ∙ ap (λ (k : ℕ). frames_at s (frames 0) (frames k)) e

  pub frames_all : frames_at s (frames 0) h.frames ≡ decoded_of s
  unfolding decoded_of groups_of
  frames_all =
      let e : min h.frames.0 (512 * ((h.frames.0 + 511) / 512)) ≡ h.frames.0 = omega arith in
      sym (so_far ((h.frames.0 + 511) / 512) ∙ ap (λ (k : ℕ). frames_at s (frames 0) (frames k)) e)

  pub checks_all : check_frames s (frames 0) h.frames ≡ check_decode s
  unfolding check_frames check_decode check_step
  checks_all =
      let l : 0 + h.frames.0 ≤ h.frames.0 = omega arith in
      refl then_same λ opens.
      pass (ltb h.frames.0 (0 + h.frames.0)) RangePastEnd (le-ltb h.frames.0 (0 + h.frames.0) l)
      and_then (ap (in_order _) (touched_all h.frames) ∙ order_cong _ _ (groups_of h.frames) (λ k b. let e : 0 / 512 + k ≡ k = omega arith in ap (check_step s) e))

-- ---- what has passed
module _ (s : List ℕ) (first count : Frames) (fine : check_frames s first count ≡ Fine) where
  pub frames_opens : check_open s ≡ Fine
  unfolding check_frames
  frames_opens = first_fine _ _ fine

  pub frames_within : (range_end first count).0 ≤ (fields_of s).frames.0
  unfolding check_frames
  frames_within = ltb-false _ _ (passed _ _ (first_fine _ _ (others_fine (check_open s) _ fine)))

  -- the group of a frame that is asked for
  pub frame_passes : (j : ℕ) → IsAsked first count j → (let h = fields_of s in check_group h (format_of s h) (group_bytes s h (group_of j))) ≡ Fine
  unfolding check_frames check_step
  frame_passes j asked =
      let t = asked_touched first count j asked in
      let all = others_fine _ _ (others_fine (check_open s) _ fine) in
      let one = order_fine (λ k. check_step s (group_of first.0 + k)) t.0 (touched first count) t.1 all in
      located_fine (at_group (group_of j)) _ (ap (check_step s) t.2 ∙ one)

  frame_long : (j : ℕ) → IsAsked first count j → length (frame_at s j) ≡ (fields_of s).channels
  unfolding frame_at
  frame_long j asked =
      let h = fields_of s in
      frame_length (channels_of h (format_of s h) (group_bytes s h (group_of j))) (j % 512)
      ∙ channels_count h (format_of s h) (group_bytes s h (group_of j)) (some_channels h (opened_fields s frames_opens)) (frame_passes j asked)

  -- the first n of them are n × channels samples
  pub frames_long : (n : ℕ) → n ≤ count.0 → length (frames_at s first (frames n)) ≡ n * (fields_of s).channels
  unfolding frames_at
  frames_long n l =
      length_below (λ i. frame_at s (first.0 + i)) (fields_of s).channels n (λ i b. frame_long (first.0 + i) (omega arith, omega arith))
      ∙ mul_comm (fields_of s).channels n
