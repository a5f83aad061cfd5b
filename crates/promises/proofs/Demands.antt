-- The demands, each one theorem over what the functions promise (format, Promises): `Encodes p mode s lent r after`
-- says that a call which encodes the samples s with the settings p into `lent` answers r and leaves `after` there;
-- `Decodes`, `Reencodes` likewise.
use Prim.Native.Nat.{ℕ, ◌/◌, ◌^◌, ◌≤◌, ◌<◌}
use mathlib.Core.Path.{◌≡◌, refl, sym, ap, ◌∙◌, subst}
use mathlib.Core.List.{List}
use native.Mathlib.Omega.{arith}
use lib.ListN.{length, take}
use lib.IntN.{ℤ}
use Rattle.format.specs.Lists.{over}
use Rattle.format.specs.Numbers.{Below}
use Rattle.format.specs.Header.{fields_of}
use Rattle.format.specs.Units.{active}
use Rattle.format.specs.Refusals.{Checked, Fine, ◌then◌}
use Rattle.format.specs.Answers.{answered_by, refused_by, answered, read, wrote}
use Rattle.format.specs.Opening.{header_of, open_of}
use Rattle.format.specs.Decoding.{check_decode, decoded_of}
use Rattle.format.specs.Encoding.{encoded_file, check_encoder, check_samples, check_encode_into, encode_of}
use Rattle.format.specs.Reencoding.{reencoded_file, check_reencode_into, reencode_of}
use Rattle.format.specs.Promises.{Opens, Decodes, Encodes, Reencodes}
use Rattle.format.specs.declared.refusals.Place.{Place}
use Rattle.format.specs.declared.refusals.Refusal.TheVariants.{ParityDiffers, WidthTooSmall}
use Rattle.format.specs.declared.settings.PcmSpec.{PcmSpec}
use Rattle.format.specs.declared.settings.StereoMode.{StereoMode}
use Rattle.format.specs.declared.settings.StereoMode.TheVariants.{MidSide}
use Rattle.format.specs.declared.answers.Outcome.TheVariants.{Opened, Wrote, Refused}
use Rattle.format.specs.declared.answers.Answer.{Answer}
use Rattle.laws.proofs.Checks.{first_fine}
use Rattle.promises.proofs.Outcomes.{Exactly, exactly_no, exactly_number, samples_read, decodes_to_lem}
use Rattle.promises.proofs.RoundTrip as RoundTrip
use Rattle.promises.proofs.MidSums.{NoneLeaves}
use Rattle.promises.proofs.Refile as Refile
use Rattle.promises.proofs.Again.{says_same, leaves_same}
use Rattle.promises.proofs.Files.{encode_ok, file_written, reencode_ok, new_file, template_written}
use Rattle.promises.proofs.ParityLaws.{Some, odd_frame, FirstOdd, parity_so, so_parity, parity_some, some_parity}
use Rattle.promises.proofs.Misfits.{fresh, coding_at, Misfit, misfit_so, so_misfit, misfit_new, misfit_below}

-- a rate is a number of 32 bits, as its type says
abbrev pub Rate32 : PcmSpec → Type 0
Rate32 p = p.sample_rate < 2 ^ 32

-- ---- 1. THERE AND BACK

-- where encoding says that it wrote n bytes, decoding these n bytes into room for the samples says how many there
-- are, and leaves them there
pub there_and_back : (p : PcmSpec) (mode : StereoMode) (s : List ℤ) (lent file : List ℕ) (n : ℕ) (out after : List ℤ) (r : Answer)
    → Rate32 p
    → Encodes p mode s lent (wrote n) file
    → length s ≤ length out
    → Decodes (take n file) out r after
    → (r ≡ read (length s)) × (after ≡ over s out)
there_and_back p mode s lent file n out after r rate e room d =
    let ok = encode_ok p mode s lent file n e in
    decodes_to_lem (encoded_file p mode s) s out after r (RoundTrip.decodes p mode s ok rate) (RoundTrip.gives_back p mode s ok rate) room
    (subst (λ (f : List ℕ). Decodes f out r after) (file_written p mode s lent file n e) d)

-- ---- 2. PARITY

-- stereo MidSide refuses 35 exactly when 30 to 33 pass and some frame's two samples differ in parity
pub parity_exactly : (p : PcmSpec) (s : List ℤ) (lent after : List ℕ) (r : Answer)
    → p.channels ≡ 2
    → Encodes p MidSide s lent r after
    → Exactly (r.outcome ≡ Refused ParityDiffers) (((check_encoder p then check_samples p s) ≡ Fine) × Some (odd_frame s) (length s / 2))
unfolding encode_of
parity_exactly p s lent after r two e =
    let q = exactly_number (check_encode_into p MidSide s (length lent)) (Wrote (length (encoded_file p MidSide s))) refl ParityDiffers r e.0 in
    (λ x. let n = q.0 x in parity_some p s two (length lent) ParityDiffers n.0 refl n.1, λ x. q.1 (some_parity p s two (length lent) x.0 x.1))

-- and it names group g exactly when 30 to 33 pass and g is the group of the first frame whose two samples differ
pub parity_group : (p : PcmSpec) (s : List ℤ) (lent after : List ℕ) (g : ℕ) (r : Answer)
    → p.channels ≡ 2
    → Encodes p MidSide s lent r after
    → Exactly (r ≡ refused_by ParityDiffers (record { group = g; channel = 0 })) (((check_encoder p then check_samples p s) ≡ Fine) × FirstOdd s g)
unfolding encode_of
parity_group p s lent after g r two e =
    let at : Place = record { group = g; channel = 0 } in
    let q = exactly_no (check_encode_into p MidSide s (length lent)) (Wrote (length (encoded_file p MidSide s))) refl ParityDiffers at r e.0 in
    (λ x. let n = parity_so p s two (length lent) ParityDiffers at refl (q.0 x) in (n.0, n.2), λ x. q.1 (so_parity p s two (length lent) g x.0 x.1))

-- ---- 3. LAW ONE: the new file decodes to the samples

-- where re-encoding says that it wrote n bytes, decoding these into room for the samples says how many there are,
-- and leaves them there
pub law_one : (p : PcmSpec) (s : List ℤ) (t lent file : List ℕ) (n : ℕ) (out after : List ℤ) (r : Answer)
    → Reencodes p s t lent (wrote n) file
    → length s ≤ length out
    → Decodes (take n file) out r after
    → (r ≡ read (length s)) × (after ≡ over s out)
law_one p s t lent file n out after r e room d =
    let ok = reencode_ok p s t lent file n e in
    decodes_to_lem (reencoded_file s t) s out after r (Refile.decodes p s t ok) (Refile.gives_back p s t ok) room
    (subst (λ (f : List ℕ). Decodes f out r after) (new_file p s t lent file n e) d)

-- ---- 4. LAW TWO: the new file serves as template exactly as the old one did

-- of any samples z with any settings q, whether they are accepted or not, and any room: with the new file the same
-- is answered and left as with t
pub law_two : (p : PcmSpec) (s : List ℤ) (t lent file : List ℕ) (n : ℕ) (q : PcmSpec) (z : List ℤ) (room after after' : List ℕ) (r r' : Answer)
    → Reencodes p s t lent (wrote n) file
    → Reencodes q z t room r after
    → Reencodes q z (take n file) room r' after'
    → (r ≡ r') × (after ≡ after')
law_two p s t lent file n q z room after after' r r' e old new =
    let ok = reencode_ok p s t lent file n e in
    let moved : Reencodes q z (reencoded_file s t) room r' after' = subst (λ (f : List ℕ). Reencodes q z f room r' after') (new_file p s t lent file n e) new in
    (old.0 ∙ sym (says_same p s t ok q z (length room)) ∙ sym moved.0, old.1 ∙ sym (leaves_same p s t ok q z room) ∙ sym moved.1)

-- ---- 5. LAW THREE: a template with its own samples is itself

-- t decodes to m samples, is accepted with them, and no mid plus side or mid minus side of its active frames leaves
-- 32 bits: then t is written, whole
pub law_three : (p : PcmSpec) (t lent file : List ℕ) (n : ℕ) (out own : List ℤ) (m : ℕ)
    → Below 256 t
    → Decodes t out (read m) own
    → Reencodes p (take m own) t lent (wrote n) file
    → NoneLeaves t
    → (n ≡ length t) × (file ≡ over t lent)
law_three p t lent file n out own m byte d e none = template_written p (take m own) t lent file n e byte (samples_read t out own m d) none

-- the premise is exact: where t comes back, no sum leaves 32 bits
pub law_three_only : (p : PcmSpec) (s : List ℤ) (t lent file : List ℕ) (n : ℕ)
    → Reencodes p s t lent (wrote n) file
    → take n file ≡ t
    → NoneLeaves t
law_three_only p s t lent file n e back = Refile.kept_stays p s t (reencode_ok p s t lent file n e) (sym (new_file p s t lent file n e) ∙ back)

-- ---- 6. ACCEPTED TEMPLATES OPEN AND DECODE

-- where samples are accepted with t, opening t says its header, and decoding it into as much room says that it has
-- as many samples
pub templates_decode : (p : PcmSpec) (s : List ℤ) (t lent file : List ℕ) (n : ℕ)
    → Reencodes p s t lent (wrote n) file
    → ((r : Answer) → Opens t r → r ≡ answered_by (Opened (header_of t)))
    × ((out after : List ℤ) (r : Answer) → length s ≤ length out → Decodes t out r after → r ≡ read (length s))
unfolding open_of check_decode
templates_decode p s t lent file n e =
    let ok = reencode_ok p s t lent file n e in
    let fine = Refile.template_decodes p s t ok in
    let long = Refile.template_count p s t ok in (
      λ r o. o ∙ ap (λ (c : Checked). answered c (Opened (header_of t))) (first_fine _ _ fine),
      λ out after r room d. (decodes_to_lem t (decoded_of t) out after r fine refl (omega arith) d).0 ∙ ap read long,
    )

-- ---- 11. WHICH VALUE DID NOT FIT

-- re-encoding refuses 36 in a group and channel with the place k exactly when, in the order group, channel, place, the
-- first value that its block's width does not hold is there at k, and nothing is refused before it
pub misfit_exactly : (p : PcmSpec) (s : List ℤ) (t lent after : List ℕ) (at : Place) (k : ℕ) (r : Answer)
    → Reencodes p s t lent r after
    → Exactly (r ≡ refused_by (WidthTooSmall k) at) (Misfit p s t at k)
unfolding reencode_of
misfit_exactly p s t lent after at k r e =
    let q = exactly_no (check_reencode_into p s t (length lent)) (Wrote (length t)) refl (WidthTooSmall k) at r e.0 in
    (λ x. misfit_so p s t at k (length lent) (q.0 x), λ m. q.1 (so_misfit p s t at k (length lent) m))

-- it is the place of a new value, that of an active sample and never the last difference; so it is below 512
pub misfit_place : (p : PcmSpec) (s : List ℤ) (t : List ℕ) (at : Place) (k : ℕ)
    → Misfit p s t at k
    → (k < fresh (coding_at p s t at.group at.channel) (active (fields_of t).frames at.group)) × (k < 512)
misfit_place p s t at k m = (misfit_new p s t at k m, misfit_below p s t at k m)
