-- Document 02, L1: reading a few frames. They are that cut of the whole decode where it reads; two files with one view
-- read alike; neighbouring ranges are one; all frames are the decode; and no group but a touched one counts.
use Prim.Native.Nat.{ℕ, ◌+◌, ◌*◌, ◌/◌, ◌^◌, ◌≤◌, ◌<◌}
use mathlib.Core.Path.{◌≡◌, refl, sym, ap, ap₂, ◌∙◌, subst}
use mathlib.Core.List.{List, ◌++◌}
use mathlib.Core.Logic.{◌⊎◌, ⊎_elim, inl, inr}
use native.Mathlib.Omega.{arith}
use native.Mathlib.Nat.{add-mul}
use lib.ListN.{length, take}
use lib.IntN.{ℤ}
use Rattle.format.specs.Lists.{joined, from, over}
use Rattle.format.specs.Header.{fields_of, groups_of}
use Rattle.format.specs.Refusals.{Checked, Fine, No, nowhere}
use Rattle.format.specs.Answers.{refused_by, answered, filled, read}
use Rattle.format.specs.Opening.{check_open}
use Rattle.format.specs.Decoding.{decoded_count, decode_of, decode_into}
use Rattle.format.specs.Walking.{check_step}
use Rattle.format.specs.FewFrames.{range_end, IsAsked, group_of, check_frames, frames_count, check_frames_into, frames_at, read_frames_of, read_frames_into, table_bytes, first_signature, first_flags, SameView}
use Rattle.format.specs.Boundary.{sample_bytes, result_of, host_decode, host_decode_into, host_read_frames, host_read_frames_into}
use Rattle.format.specs.Promises.{Decodes, ReadsFrames, HostDecodes, HostReadsFrames}
use Rattle.format.specs.declared.refusals.Refusal.{Refusal}
use Rattle.format.specs.declared.refusals.Place.{Place}
use Rattle.format.specs.declared.refusals.Refusal.TheVariants.{OutputTooShort, RangePastEnd}
use Rattle.format.specs.declared.units.Frames.{Frames}
use Rattle.format.specs.declared.answers.Outcome.TheVariants.{Read}
use Rattle.format.specs.declared.answers.Answer.{Answer}
use Rattle.laws.proofs.Checks.{◌and_then◌, first_fine, others_fine}
use Rattle.laws.proofs.Over.{over_none}
use Rattle.laws.proofs.FewFrames.{frames, frames_join, frames_all, frames_within}
use Rattle.promises.proofs.Outcomes.{Exactly, read_fine, host_number}
use Rattle.promises.proofs.HostFiles.{host_decoded}
use Rattle.promises.proofs.Certain.{refused_exactly, frames_short}
use Rattle.promises.proofs.ViewLaws.{says_same, leaves_same, host_leaves_same}
use Rattle.promises.proofs.FewFramesLaws.{range_fine, range_count, range_left, range_reads, range_refuses, host_range_reads, all_checks, frames_pass, cut_passes, cut_left, host_cut_left, seam, first_of_two, past_so, so_past, short_so, so_short}

-- room for so many frames of the file
abbrev pub RoomFor : List ℕ → Frames → List ℤ → Type 0
RoomFor s count lent = (frames_count s count).0 ≤ length lent

-- ---- THE CUT

-- where the whole decode reads, any range of its frames, given room, is that cut of what it left
pub frames_are_the_cut : (s : List ℕ) (out whole : List ℤ) (n : ℕ) (first count : Frames) (lent after : List ℤ) (r : Answer)
    → Decodes s out (read n) whole
    → (range_end first count).0 ≤ (fields_of s).frames.0
    → RoomFor s count lent
    → ReadsFrames s first count lent r after
    → (r ≡ read (frames_count s count).0) × (after ≡ over (from (frames_count s first).0 (frames_count s count).0 whole) lent)
frames_are_the_cut s out whole n first count lent after r d within room e =
    let q = range_reads s first count lent after r room e (cut_passes s first count within (read_fine s out whole n d)) in
    (q.0, q.1 ∙ ap (λ (x : List ℤ). over x lent) (cut_left s out whole n first count d within))

-- at the host boundary, of its bytes; below 2 ^ 63 decoding's answer is a length
pub host_frames_are_the_cut : (s out whole : List ℕ) (n : ℕ) (first count : Frames) (lent after : List ℕ) (r : ℕ)
    → HostDecodes s out n whole
    → n < 2 ^ 63
    → (range_end first count).0 ≤ (fields_of s).frames.0
    → 4 * (frames_count s count).0 ≤ length lent
    → HostReadsFrames s first count lent r after
    → (r ≡ 4 * (frames_count s count).0) × (after ≡ over (from (4 * (frames_count s first).0) (4 * (frames_count s count).0) whole) lent)
host_frames_are_the_cut s out whole n first count lent after r d short within room e =
    let q = host_range_reads s first count lent after r room e (cut_passes s first count within (host_decoded s out whole n d short)) in
    (q.0, q.1 ∙ ap (λ (x : List ℕ). over x lent) (host_cut_left s out whole n first count d short within))

-- ---- THE VIEW

-- two files that agree on their length, their first 32 bytes, the table, the first block's signature and flags and the
-- groups touched get the same answer and the same samples, for one request and room; also where they don't open
pub view_decides : (s t : List ℕ) (first count : Frames) (lent after after' : List ℤ) (r r' : Answer)
    → SameView s t first count
    → ReadsFrames s first count lent r after
    → ReadsFrames t first count lent r' after'
    → (r ≡ r') × (after ≡ after')
view_decides s t first count lent after after' r r' v d e =
    (d.0 ∙ says_same s t first count v (length lent) ∙ sym e.0, d.1 ∙ leaves_same s t first count v lent ∙ sym e.1)

-- at the host boundary likewise
pub host_view_decides : (s t : List ℕ) (first count : Frames) (lent after after' : List ℕ) (r r' : ℕ)
    → SameView s t first count
    → HostReadsFrames s first count lent r after
    → HostReadsFrames t first count lent r' after'
    → (r ≡ r') × (after ≡ after')
unfolding host_read_frames
host_view_decides s t first count lent after after' r r' v d e = (
  d.0 ∙ ap (λ (a : Answer). result_of a.outcome) (says_same s t first count v _) ∙ sym e.0,
  d.1 ∙ host_leaves_same s t first count v lent ∙ sym e.1,
)

-- a file has its own view
pub view_of_itself : (s : List ℕ) (first count : Frames) → SameView s s first count
view_of_itself s first count =
    record { long = refl; front = refl; table = refl; mark = λ some. refl; flags = λ some. refl; groups = λ opens within j asked. refl }

-- where no frame is asked for, no group counts
pub view_of_none : (s t : List ℕ) (first count : Frames)
    → count.0 ≡ 0
    → length s ≡ length t
    → take 32 s ≡ take 32 t
    → (let fields = fields_of s in table_bytes fields s ≡ table_bytes fields t)
    → (let fields = fields_of s in 0 < groups_of fields.frames → first_signature fields s ≡ first_signature fields t)
    → (let fields = fields_of s in 0 < groups_of fields.frames → first_flags fields s ≡ first_flags fields t)
    → SameView s t first count
view_of_none s t first count none long front table mark flags =
    record { long = long; front = front; table = table; mark = mark; flags = flags; groups = λ opens within j asked. let a = asked.0 in let b = asked.1 in absurd (omega arith) }

-- ---- NEIGHBOURS

-- where two neighbouring ranges read, the range of both, given room, reads the samples of the one and then the other's
pub neighbours_join : (s : List ℕ) (first count more : Frames) (lent left lent' left' out after : List ℤ) (m n : ℕ) (r : Answer)
    → ReadsFrames s first count lent (read m) left
    → ReadsFrames s (range_end first count) more lent' (read n) left'
    → RoomFor s (range_end count more) out
    → ReadsFrames s first (range_end count more) out r after
    → (r ≡ read (m + n)) × (after ≡ over (take m left ++ take n left') out)
neighbours_join s first count more lent left lent' left' out after m n r d e room w =
    let next = range_end first count in
    let channels = (fields_of s).channels in
    let fine = range_fine s next more lent' left' n e in
    let within = frames_within s next more fine in
    let q = range_reads s first (range_end count more) out after r room w (seam s first count more (omega arith) ∙ (range_fine s first count lent left m d and_then fine)) in
    let size : (count.0 + more.0) * channels ≡ m + n =
    omega (arith, range_count s first count lent left m d, range_count s next more lent' left' n e, add-mul count.0 more.0 channels) in
    let samples = frames_join s first count more ∙ sym (ap₂ (λ (x y : List ℤ). x ++ y) (range_left s first count lent left m d) (range_left s next more lent' left' n e)) in
    (q.0 ∙ ap read size, q.1 ∙ ap (λ (x : List ℤ). over x out) samples)

-- and where that range reads, each of the two, given room, reads
pub neighbours_apart : (s : List ℕ) (first count more : Frames) (out after lent left lent' left' : List ℤ) (n : ℕ) (r r' : Answer)
    → ReadsFrames s first (range_end count more) out (read n) after
    → RoomFor s count lent
    → RoomFor s more lent'
    → ReadsFrames s first count lent r left
    → ReadsFrames s (range_end first count) more lent' r' left'
    → (r ≡ read (frames_count s count).0) × (r' ≡ read (frames_count s more).0)
neighbours_apart s first count more out after lent left lent' left' n r r' w room room' d e =
    let whole = range_fine s first (range_end count more) out after n w in
    let fine = sym (seam s first count more (frames_within s first (range_end count more) whole)) ∙ whole in
    ((range_reads s first count lent left r room d (first_fine _ _ fine)).0, (range_reads s (range_end first count) more lent' left' r' room' e (others_fine (check_frames s first count) _ fine)).0)

-- within the file's frames and given room for each, the range of both refuses exactly as the first of the two that
-- refuses
pub neighbours_refuse : (s : List ℕ) (first count more : Frames) (lent left lent' left' out after : List ℤ) (r r' both : Answer) (x : Refusal) (at : Place)
    → (range_end first (range_end count more)).0 ≤ (fields_of s).frames.0
    → RoomFor s count lent
    → RoomFor s more lent'
    → RoomFor s (range_end count more) out
    → ReadsFrames s first count lent r left
    → ReadsFrames s (range_end first count) more lent' r' left'
    → ReadsFrames s first (range_end count more) out both after
    → Exactly (both ≡ refused_by x at) ((r ≡ refused_by x at) ⊎ ((r ≡ read (frames_count s count).0) × (r' ≡ refused_by x at)))
neighbours_refuse s first count more lent left lent' left' out after r r' both x at within room room' roomy d e w =
    let next = range_end first count in
    let a = range_refuses s first count lent left r room d x at in
    let b = range_refuses s next more lent' left' r' room' e x at in
    let c = range_refuses s first (range_end count more) out after both roomy w x at in
    let t = first_of_two (check_frames s first count) (check_frames s next more) x at in
    let m = seam s first count more within in (
      λ q. ⊎_elim (λ (i : check_frames s first count ≡ No x at). inl (a.1 i)) (λ i. inr ((range_reads s first count lent left r room d i.0).0, b.1 i.1)) (t.0 (sym m ∙ c.0 q)),
      ⊎_elim (λ (i : r ≡ refused_by x at). c.1 (m ∙ t.1 (inl (a.0 i))))
          (λ i. c.1 (m ∙ t.1 (inr (range_fine s first count lent left (frames_count s count).0 (subst (λ (y : Answer). ReadsFrames s first count lent y left) i.0 d), b.0 i.1)))),
    )

-- ---- ALL FRAMES

-- all frames at once are the whole decode, on any bytes and in any room: the answer, and what is left
pub all_frames : (s : List ℕ) (lent after after' : List ℤ) (r r' : Answer)
    → ReadsFrames s (frames 0) (fields_of s).frames lent r after
    → Decodes s lent r' after'
    → (r ≡ r') × (after ≡ after')
unfolding read_frames_of read_frames_into decode_of decode_into
all_frames s lent after after' r r' d e = (
  d.0 ∙ ap (λ (c : Checked). answered c (Read (decoded_count s))) (all_checks s (length lent)) ∙ sym e.0,
  d.1 ∙ ap₂ (λ (c : Checked) (x : List ℤ). filled c x lent) (all_checks s (length lent)) (frames_all s) ∙ sym e.1,
)

-- at the host boundary likewise
pub host_all_frames : (s lent after after' : List ℕ) (r r' : ℕ)
    → HostReadsFrames s (frames 0) (fields_of s).frames lent r after
    → HostDecodes s lent r' after'
    → (r ≡ r') × (after ≡ after')
unfolding host_read_frames host_read_frames_into read_frames_of host_decode host_decode_into decode_of
host_all_frames s lent after after' r r' d e = (
  d.0 ∙ ap (λ (c : Checked). result_of (answered c (Read (decoded_count s))).outcome) (all_checks s (length lent / 4)) ∙ sym e.0,
  d.1 ∙ ap₂ (λ (c : Checked) (x : List ℤ). filled c (sample_bytes x) lent) (all_checks s (length lent / 4)) (frames_all s) ∙ sym e.1,
)

-- ---- THE OTHER GROUPS DO NOT COUNT

-- where the file opens, has the frames, and the group of each of them passes, they are read, whatever is elsewhere
pub touched_only : (s : List ℕ) (first count : Frames) (lent after : List ℤ) (r : Answer)
    → check_open s ≡ Fine
    → (range_end first count).0 ≤ (fields_of s).frames.0
    → ((j : ℕ) → IsAsked first count j → check_step s (group_of j) ≡ Fine)
    → RoomFor s count lent
    → ReadsFrames s first count lent r after
    → (r ≡ read (frames_count s count).0) × (after ≡ over (frames_at s first count) lent)
touched_only s first count lent after r opens within pass room d = range_reads s first count lent after r room d (frames_pass s first count within opens pass)

-- no frames: after opening nothing is read, and nothing changes
pub no_frames : (s : List ℕ) (first count : Frames) (lent after : List ℤ) (r : Answer)
    → check_open s ≡ Fine
    → first.0 ≤ (fields_of s).frames.0
    → count.0 ≡ 0
    → ReadsFrames s first count lent r after
    → (r ≡ read 0) × (after ≡ lent)
unfolding frames_at joined
no_frames s first count lent after r opens within none d =
    let zero : count.0 * (fields_of s).channels ≡ 0 = omega (arith, ap (λ (n : ℕ). n * (fields_of s).channels) none) in
    let q = touched_only s first count lent after r opens (omega arith) (λ j asked. let a = asked.0 in let b = asked.1 in absurd (omega arith)) (omega arith) d in
    (q.0 ∙ ap read zero, q.1 ∙ ap (λ (n : ℕ). over (frames_at s first (frames n)) lent) none ∙ sym (over_none lent))

-- ---- 51 AND 50

-- it refuses 51 exactly where the file opens and its frames end before the range
pub range_past_end_exactly : (s : List ℕ) (first count : Frames) (lent after : List ℤ) (r : Answer)
    → ReadsFrames s first count lent r after
    → Exactly (r ≡ refused_by RangePastEnd nowhere) ((check_open s ≡ Fine) × ((fields_of s).frames.0 < (range_end first count).0))
range_past_end_exactly s first count lent after r d =
    let q = refused_exactly.reads_frames s first count lent after r RangePastEnd nowhere d in
    (λ e. past_so s first count (length lent) RangePastEnd nowhere refl (q.0 e), λ e. q.1 (so_past s first count (length lent) e.0 e.1))

-- and 50 exactly where all else passes and there is too little room: it comes last
pub too_short_exactly : (s : List ℕ) (first count : Frames) (lent after : List ℤ) (r : Answer)
    → ReadsFrames s first count lent r after
    → Exactly (r ≡ refused_by OutputTooShort nowhere) ((check_frames s first count ≡ Fine) × (length lent < (frames_count s count).0))
too_short_exactly s first count lent after r d =
    let q = refused_exactly.reads_frames s first count lent after r OutputTooShort nowhere d in
    (λ e. short_so s first count (length lent) OutputTooShort nowhere refl (q.0 e), λ e. q.1 (so_short s first count (length lent) e.0 e.1))

-- at the host boundary 51 is its number; no slice is as long as 2 ^ 63
pub host_range_past_end_exactly : (s : List ℕ) (first count : Frames) (lent after : List ℕ) (r : ℕ)
    → length lent < 2 ^ 63
    → HostReadsFrames s first count lent r after
    → Exactly (r ≡ 2 ^ 63 + 51) ((check_open s ≡ Fine) × ((fields_of s).frames.0 < (range_end first count).0))
unfolding host_read_frames read_frames_of
host_range_past_end_exactly s first count lent after r short d =
    let c = check_frames_into s first count (length lent / 4) in
    let o = Read (frames_count s count) in (
      λ e. let x = host_number c o (frames_short s first count (length lent) short) 51 r d.0 e in past_so s first count (length lent / 4) x.0 x.1 x.2 x.3,
      λ e. d.0 ∙ ap (λ (k : Checked). result_of (answered k o).outcome) (so_past s first count (length lent / 4) e.0 e.1),
    )
