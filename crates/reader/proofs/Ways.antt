-- What decoding answers at each way out, from what the calls' contracts and the matches give.
use Rattle.std.specs.Prelude.{Err}
use Prim.Native.Nat.{ℕ, ◌+◌, ◌*◌, ◌≤◌}
use mathlib.Core.Path.{◌≡◌, refl, sym, ap, ◌∙◌}
use mathlib.Core.List.{List}
use native.Mathlib.Nat.{zero-add}
use native.Mathlib.Omega.{arith}
use lib.Dec.{ltb}
use lib.ListN.{length}
use lib.IntN.{ℤ}
use Rattle.format.specs.Lists.{over}
use Rattle.format.specs.Header.{fields_of, groups_of, group_bytes}
use Rattle.format.specs.Refusals.{Checked, Fine, refuse, ◌then◌, in_order}
use Rattle.format.specs.Places.{in_group}
use Rattle.format.specs.Answers.{answered_by, refused_by}
use Rattle.format.specs.Opening.{format_of, check_open}
use Rattle.format.specs.Decoding.{check_group, check_decode, check_room, decoded_count, decode_of, decode_into}
use Rattle.format.specs.FewFrames.{check_frames, frames_at}
use Rattle.format.specs.Units.{samples_in}
use Rattle.format.specs.declared.refusals.Refusal.TheVariants.{OutputTooShort}
use Rattle.format.specs.declared.refusals.RefusedAt.{RefusedAt}
use Rattle.format.specs.declared.settings.SampleFormat.{SampleFormat}
use Rattle.format.specs.declared.units.Samples.{Samples}
use Rattle.format.specs.declared.answers.Fields.{Fields}
use Rattle.format.specs.declared.answers.Answer.{Answer}
use Rattle.format.specs.declared.answers.Outcome.TheVariants.{Read}
use Rattle.laws.proofs.Checks.{first_fine, has_room, order_cong}
use Rattle.laws.proofs.Chain.{stops_with}
use Rattle.laws.proofs.Opened.{opened_long}
use Rattle.laws.proofs.FewFrames.{frames, frames_all, checks_all}

-- how many samples that is, by the header
count_is : (s : List ℕ) (h : Fields) → h ≡ fields_of s → (n : Samples) → n ≡ samples_in h.frames h.channels → n ≡ decoded_count s
count_is s h reads n counts = counts ∙ rw reads refl

-- the room's check, by the count that the header says
pub room_says : (s : List ℕ) (room : ℕ) (h : Fields) → h ≡ fields_of s → (n : Samples) → n ≡ samples_in h.frames h.channels
    → (x : Checked) → x ≡ refuse (ltb room n.0) OutputTooShort → x ≡ check_room s room
unfolding check_room
room_says s room h reads n counts x e = e ∙ ap (λ (m : Samples). refuse (ltb room m.0) OutputTooShort) (count_is s h reads n counts)

-- a file whose checks pass opens, so its fields are there
module _ (s : List ℕ) (fine : check_decode s ≡ Fine) where
  pub decode_opens : check_open s ≡ Fine
  unfolding check_decode
  decode_opens = first_fine _ _ fine

  pub decode_fields : 32 ≤ length s
  decode_fields = omega (arith, opened_long s decode_opens)

-- ---- the file's checks: a is what opening says
module _ (s : List ℕ) (a : Checked) (says : a ≡ check_open s) where
  pub open_refused : (e : RefusedAt) → a ≡ Err e → Err e ≡ check_decode s
  unfolding check_decode
  open_refused e t = stops_with a (check_open s) says _ e t

  -- k what the groups say
  pub groups_say : a ≡ Fine → (h : Fields) → h ≡ fields_of s → (groups : ℕ) → groups ≡ groups_of h.frames → (f : SampleFormat) → f ≡ format_of s h
      → (k : Checked) → k ≡ in_order (λ g. in_group (0 + g) (check_group h f (group_bytes s h (0 + g)))) groups → k ≡ check_decode s
  unfolding check_decode ◌then◌
  groups_say fine h reads groups all f format k checked =
      let each = order_cong (λ g. in_group (0 + g) (check_group h f (group_bytes s h (0 + g)))) (λ g. in_group g (check_group h f (group_bytes s h g))) groups (λ g l. rw zero-add) in
      rw (← says, fine, ← reads, ← format, ← all) (checked ∙ each)

-- ---- and the answer: k is what they say, c the room
module _ (s : List ℕ) (c : ℕ) (k : Checked) (says : k ≡ (check_decode s then check_room s c)) where
  pub decode_refused : (room : ℕ) → c ≡ room → (e : RefusedAt) → k ≡ Err e → (x : Answer) → x ≡ refused_by e.why e.place → x ≡ decode_of s room
  unfolding decode_of
  decode_refused room lent e t x q = rw (← lent, ← says, t) q

  pub decode_keeps : (out : List ℤ) → c ≡ length out → (e : RefusedAt) → k ≡ Err e → out ≡ decode_into s out
  unfolding decode_into
  decode_keeps out lent e t = rw (← lent, ← says, t)

  module _ (fine : k ≡ Fine) where
    pub decode_fine : check_decode s ≡ Fine
    decode_fine = first_fine _ _ (sym says ∙ fine)

    -- all frames, from the first on
    pub all_passes : (h : Fields) → h ≡ fields_of s → check_frames s (frames 0) h.frames ≡ Fine
    all_passes h reads = rw reads (checks_all s ∙ decode_fine)

    pub room_for_all : (h : Fields) → h ≡ fields_of s → (room : ℕ) → c ≡ room → h.frames.0 * h.channels ≤ room
    unfolding check_room
    room_for_all h reads room lent = rw reads (omega (arith, has_room (check_decode s) c (decoded_count s).0 OutputTooShort (sym says ∙ fine)))

    pub reads_all : (room : ℕ) → c ≡ room → (h : Fields) → h ≡ fields_of s → (n : Samples) → n ≡ samples_in h.frames h.channels
        → (x : Answer) → x ≡ answered_by (Read n) → x ≡ decode_of s room
    unfolding decode_of
    reads_all room lent h reads n counts x t = rw (← lent, ← says, fine) (t ∙ ap (λ (m : Samples). answered_by (Read m)) (count_is s h reads n counts))

    pub writes_all : (out after : List ℤ) → c ≡ length out → (h : Fields) → h ≡ fields_of s → after ≡ over (frames_at s (frames 0) h.frames) out → after ≡ decode_into s out
    unfolding decode_into
    writes_all out after lent h reads t = rw (← lent, ← says, fine) (t ∙ ap (λ (xs : List ℤ). over xs out) (rw reads (frames_all s)))
