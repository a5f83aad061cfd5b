-- Outcomes read backwards: from what was answered, what the checks said and what lent memory holds. No success is a
-- refusal, so that either tells which it was.
use Rattle.std.specs.Prelude.{Ok, Err}
use Prim.Native.Nat.{ℕ, ◌+◌, ◌*◌, ◌/◌, ◌^◌, ◌≤◌, ◌<◌}
use mathlib.Core.Path.{◌≡◌, refl, sym, ap, ap₂, ◌∙◌}
use mathlib.Core.Bool.{Bool, true, false}
use mathlib.Core.List.{List}
use native.Mathlib.Omega.{arith}
use lib.ListN.{length, take, drop}
use lib.Seq.{take_at}
use lib.IntN.{ℤ}
use borrow.Author.Tests.{le-ltb}
use Rattle.format.specs.Lists.{over}
use Rattle.format.specs.Header.{fields_of}
use Rattle.format.specs.Refusals.{Checked, Fine, No, number, ◌then◌}
use Rattle.format.specs.Answers.{answered_by, refused_by, answered, filled, read, wrote}
use Rattle.format.specs.Decoding.{check_decode, decoded_of, decoded_count, check_room, decode_of, decode_into}
use Rattle.format.specs.declared.units.Samples.{Samples}
use Rattle.format.specs.declared.refusals.Refusal.{Refusal}
use Rattle.format.specs.declared.refusals.Place.{Place}
use Rattle.format.specs.declared.answers.Outcome.{Outcome}
use Rattle.format.specs.declared.answers.Outcome.TheVariants.{Opened, Read, Finished, Wrote, Refused, Matches, Differs}
use Rattle.format.specs.declared.answers.Answer.{Answer}
use Rattle.laws.proofs.Tests.{never}
use Rattle.format.specs.Boundary.{sample_bytes, result_of, host_decode, host_decode_into}
use Rattle.format.specs.Promises.{Decodes, HostDecodes}
use Rattle.laws.proofs.Checks.{pass, ◌and_then◌, first_fine}
use Rattle.laws.proofs.Lengths.{decode_count}

-- A exactly when B
abbrev pub Exactly : Type 0 → Type 0 → Type 0
Exactly A B = (A → B) × (B → A)

abbrev pub is_refused : Outcome → Bool
is_refused (Refused r) = true
is_refused (Opened h) = false
is_refused (Read n) = false
is_refused Finished = false
is_refused (Wrote n) = false
is_refused Matches = false
is_refused Differs = false

-- ---- what succeeds was not refused, and is what success says
module _ (c : Checked) (o x : Outcome) (success : is_refused x ≡ false) (e : answered_by x ≡ answered c o) where
  told : (k : Checked) → c ≡ k → x ≡ (answered k o).outcome
  told k q = ap (λ (a : Answer). a.outcome) (e ∙ ap (λ (y : Checked). answered y o) q)

  pub succeeds_fine : c ≡ Fine
  succeeds_fine = by c refl
    where
      by : (k : Checked) → c ≡ k → k ≡ Fine
      by (Ok ok) q = refl
      by (Err refused) q = never (sym (ap is_refused (told (No refused.why refused.place) q)) ∙ success)

  pub succeeds_as : x ≡ o
  succeeds_as = told Fine succeeds_fine

-- ---- what is refused is what the checks refuse, and exactly that
module _ (o : Outcome) (success : is_refused o ≡ false) (r : Refusal) where
  -- by its number alone: of some place
  outcome_no : (c : Checked) → Refused r ≡ (answered c o).outcome → (at : Place) × (c ≡ No r at)
  outcome_no (Ok ok) e = never (ap is_refused e ∙ success)
  outcome_no (Err refused) e = let q : refused.why ≡ r = cc in (refused.place, ap (λ (y : Refusal). No y refused.place) q)

  refused_no : (at : Place) (c : Checked) → refused_by r at ≡ answered c o → c ≡ No r at
  refused_no at c e =
      let n = outcome_no c (ap (λ (a : Answer). a.outcome) e) in
      let same : refused_by r at ≡ refused_by r n.0 = e ∙ ap (λ (k : Checked). answered k o) n.1 in
      n.1 ∙ ap (λ (a : Answer). No r (record { group = a.group; channel = a.channel })) (sym same)

pub exactly_no : (c : Checked) (o : Outcome) → is_refused o ≡ false → (r : Refusal) (at : Place) (a : Answer) → a ≡ answered c o → Exactly (a ≡ refused_by r at) (c ≡ No r at)
exactly_no c o success r at a e = (λ q. refused_no o success r at c (sym q ∙ e), λ q. e ∙ ap (λ (k : Checked). answered k o) q)

pub exactly_number : (c : Checked) (o : Outcome) → is_refused o ≡ false → (r : Refusal) (a : Answer) → a ≡ answered c o
    → Exactly (a.outcome ≡ Refused r) ((at : Place) × (c ≡ No r at))
exactly_number c o success r a e = (
  λ q. outcome_no o success r c (sym q ∙ ap (λ (x : Answer). x.outcome) e),
  λ q. ap (λ (x : Answer). x.outcome) (e ∙ ap (λ (k : Checked). answered k o) q.1),
)

-- and then nothing changes
pub no_keeps : {A : Type 0} (c : Checked) (r : Refusal) (at : Place) (w before after : List A) → c ≡ No r at → after ≡ filled c w before → after ≡ before
no_keeps {A} c r at w before after e p = p ∙ ap (λ (k : Checked). filled k w before) e

pub refused_keeps : {A : Type 0} (c : Checked) (o : Outcome) (r : Refusal) (at : Place) (w before after : List A) → is_refused o ≡ false → refused_by r at ≡ answered c o → after ≡ filled c w before → after ≡ before
refused_keeps {A} c o r at w before after success e = no_keeps c r at w before after (refused_no o success r at c e)

-- the same checks, and where they pass the same contents
pub filled_same : {A : Type 0} (c d : Checked) (w v before : List A) → c ≡ d → (d ≡ Fine → w ≡ v) → filled c w before ≡ filled d v before
filled_same {A} c d w v before e q = ap (λ (k : Checked). filled k w before) e ∙ by d q
  where
    by : (k : Checked) → (k ≡ Fine → w ≡ v) → filled k w before ≡ filled k v before
    by (Ok ok) f = ap (λ (x : List A). over x before) (f refl)
    by (Err refused) f = refl

-- what was written lies at the front
pub written_front : {A : Type 0} (c : Checked) (n : ℕ) (w before after : List A) → c ≡ Fine → n ≡ length w → after ≡ filled c w before → take n after ≡ w
unfolding over
written_front {A} c n w before after fine l p =
    ap (take n) (p ∙ ap (λ (k : Checked). filled k w before) fine) ∙ take_at w (drop (length w) before) n (sym l)

-- ---- an answer that n bytes were written, of m
module _ (c : Checked) (m n : ℕ) (e : wrote n ≡ answered c (Wrote m)) where
  pub wrote_fine : c ≡ Fine
  wrote_fine = succeeds_fine c (Wrote m) (Wrote n) refl e

  pub wrote_length : n ≡ m
  wrote_length = let q = succeeds_as c (Wrote m) (Wrote n) refl e in cc

-- ---- an answer that n samples of the file f were read
module _ (f : List ℕ) (lent after : List ℤ) (n : ℕ) (d : Decodes f lent (read n) after) where
  abbrev c : Checked
  c = check_decode f then check_room f (length lent)

  pub read_passed : c ≡ Fine
  unfolding decode_of
  read_passed = succeeds_fine c (Read (decoded_count f)) (Read (record { 0 = n })) refl d.0

  pub read_fine : check_decode f ≡ Fine
  read_fine = first_fine _ _ read_passed

  pub read_count : n ≡ (fields_of f).frames.0 * (fields_of f).channels
  unfolding decode_of
  read_count =
      let e = succeeds_as c (Read (decoded_count f)) (Read (record { 0 = n })) refl d.0 in
      let q : ◌≡◌ {A = Samples} (record { 0 = n }) (decoded_count f) = cc in
      ap (λ (x : Samples). x.0) q

  -- they are what it decodes to
  pub samples_read : take n after ≡ decoded_of f
  unfolding decode_into
  samples_read = written_front c n (decoded_of f) lent after read_passed (read_count ∙ decode_count f read_fine) d.1

-- ---- a file that decodes to s, into enough room
module _ (f : List ℕ) (s : List ℤ) (fine : check_decode f ≡ Fine) (gives : decoded_of f ≡ s) (room : ℕ) (enough : length s ≤ room) where
  count_is : (fields_of f).frames.0 * (fields_of f).channels ≡ length s
  count_is = decode_count f fine ∙ ap length gives

  pub all_fine : (check_decode f then check_room f room) ≡ Fine
  unfolding check_room
  all_fine = fine and_then pass _ _ (le-ltb room ((fields_of f).frames.0 * (fields_of f).channels) (omega (arith, count_is)))

  -- says how many they are
  pub reads_all : decode_of f room ≡ read (length s)
  unfolding decode_of
  reads_all = ap₂ (λ (c : Checked) (k : ℕ). answered c (Read (record { 0 = k }))) all_fine count_is

-- and writes them: whatever is lent that has room
pub decodes_to_lem : (f : List ℕ) (s out after : List ℤ) (r : Answer) → check_decode f ≡ Fine → decoded_of f ≡ s → length s ≤ length out → Decodes f out r after → (r ≡ read (length s)) × (after ≡ over s out)
unfolding decode_into
decodes_to_lem f s out after r fine gives room d =
    (d.0 ∙ reads_all f s fine gives (length out) room, d.1 ∙ ap₂ (λ (c : Checked) (w : List ℤ). filled c w out) (all_fine f s fine gives (length out) room) gives)

-- at the host boundary their bytes
pub host_decodes_to : (f : List ℕ) (s : List ℤ) (out after : List ℕ) (r : ℕ) → check_decode f ≡ Fine → decoded_of f ≡ s → length s ≤ length out / 4 → HostDecodes f out r after
    → (r ≡ 4 * length s) × (after ≡ over (sample_bytes s) out)
unfolding host_decode host_decode_into
host_decodes_to f s out after r fine gives room d = (
  d.0 ∙ ap (λ (a : Answer). result_of a.outcome) (reads_all f s fine gives (length out / 4) room),
  d.1 ∙ ap₂ (λ (c : Checked) (w : List ℤ). filled c (sample_bytes w) out) (all_fine f s fine gives (length out / 4) room) gives,
)

-- ---- at the host boundary a refusal is a number from 2 ^ 63 on, and a length below it: no slice is as long as that
module _ (c : Checked) (o : Outcome) where
  pub host_fine : (n : ℕ) → n ≡ result_of (answered c o).outcome → n < 2 ^ 63 → c ≡ Fine
  host_fine n = by c
    where
      by : (k : Checked) → n ≡ result_of (answered k o).outcome → n < 2 ^ 63 → k ≡ Fine
      by (Ok ok) e l = refl
      by (Err refused) e l = absurd (omega arith)

  pub host_length : (n : ℕ) → n ≡ result_of (answered c o).outcome → n < 2 ^ 63 → n ≡ result_of o
  host_length n e l = e ∙ ap (λ (k : Checked). result_of (answered k o).outcome) (host_fine n e l)

  pub host_refused : (c ≡ Fine → result_of o < 2 ^ 63) → 2 ^ 63 ≤ result_of (answered c o).outcome → (r : Refusal) × (at : Place) × (c ≡ No r at)
  host_refused = by c
    where
      by : (k : Checked) → (k ≡ Fine → result_of o < 2 ^ 63) → 2 ^ 63 ≤ result_of (answered k o).outcome → (r : Refusal) × (at : Place) × (k ≡ No r at)
      by (Ok ok) few l = let q = few refl in absurd (omega arith)
      by (Err refused) few l = (refused.why, refused.place, refl)

  -- the number says by which the checks refuse
  pub host_number : (c ≡ Fine → result_of o < 2 ^ 63) → (n r : ℕ) → r ≡ result_of (answered c o).outcome → r ≡ 2 ^ 63 + n → (x : Refusal) × (at : Place) × (number x ≡ n) × (c ≡ No x at)
  host_number few n r e q =
      let x = host_refused few (omega arith) in
      let t : r ≡ 2 ^ 63 + number x.0 = e ∙ ap (λ (k : Checked). result_of (answered k o).outcome) x.2 in
      (x.0, x.1, omega arith, x.2)
