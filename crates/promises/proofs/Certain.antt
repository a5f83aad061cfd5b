-- When a call refuses, that what is allowed is one outcome, and that a refusal changes nothing: for every public
-- function, over what it promises.
use Prim.Native.Nat.{ℕ, ◌*◌, ◌/◌, ◌^◌, ◌≤◌, ◌<◌}
use mathlib.Core.Path.{◌≡◌, refl, sym, ◌∙◌}
use mathlib.Core.Bool.{Bool, true, false, cond}
use mathlib.Core.List.{List, []}
use native.Mathlib.Omega.{arith}
use lib.ListN.{length}
use lib.IntN.{ℤ}
use Rattle.format.specs.Lists.{same}
use Rattle.format.specs.Numbers.{Below}
use Rattle.format.specs.Refusals.{Checked, Fine, No, ◌then◌}
use Rattle.format.specs.Answers.{refused_by, answered, filled}
use Rattle.format.specs.Opening.{check_open, header_of, open_of}
use Rattle.format.specs.Decoding.{check_decode, decoded_of, decoded_count, check_room, decode_of, decode_into}
use Rattle.format.specs.Walking.{step_samples, step_count, has_group, check_walk, step_of, step_into}
use Rattle.format.specs.FewFrames.{check_frames, frames_count, check_frames_into, frames_at, read_frames_of, read_frames_into}
use Rattle.format.specs.Peaks.{summary_of, check_peaks, check_peaks_into, build_peaks_of, build_peaks_into, verdict, compare_peaks_of, pair_count, pair_number, pairs_read, pairs_from, check_summary, check_peak, read_peak_of, read_peak_into, check_all_peaks, read_peaks_of, read_peaks_into}
use Rattle.format.specs.Encoding.{encoded_file, check_encode, check_encode_into, encode_of, encode_into}
use Rattle.format.specs.Reencoding.{reencoded_file, check_reencode, check_reencode_into, reencode_of, reencode_into}
use Rattle.format.specs.Boundary.{samples_from, sample_bytes, mode_of, check_mode, check_bytes, result_of, host_decode, host_decode_into, host_read_frames, host_read_frames_into, host_peaks, host_peak, host_peak_into, host_peaks_all, host_peaks_all_into, check_host_encode, host_encode, host_encode_into, check_host_reencode, host_reencode, host_reencode_into}
use Rattle.format.specs.Promises.{Opens, Decodes, Steps, Advances, ReadsFrames, BuildsPeaks, ComparesPeaks, ReadsPeak, ReadsPeaks, Encodes, Reencodes, HostOpens, HostDecodes, HostReadsFrames, HostEncodes, HostReencodes, HostDecodeRefuses, HostReencodeRefuses}
use Rattle.format.specs.Promises.{HostBuildsPeaks, HostComparesPeaks, HostReadsPeak, HostReadsPeaks}
use Rattle.format.specs.declared.units.Frames.{Frames}
use Rattle.format.specs.declared.units.Samples.{Samples}
use Rattle.format.specs.declared.refusals.Refusal.{Refusal}
use Rattle.format.specs.declared.refusals.Place.{Place}
use Rattle.format.specs.declared.refusals.Refusal.TheVariants.{OutputTooShort}
use Rattle.format.specs.declared.settings.PcmSpec.{PcmSpec}
use Rattle.format.specs.declared.settings.StereoMode.{StereoMode}
use Rattle.format.specs.declared.answers.Outcome.{Outcome}
use Rattle.format.specs.declared.answers.Outcome.TheVariants.{Opened, Read, Finished, Wrote}
use Rattle.format.specs.declared.answers.Answer.{Answer}
use Rattle.lent_samples.specs.Lent.{bytes_behind}
use Rattle.lent_samples.proofs.Outcome.{same_bytes}
use Rattle.laws.proofs.Checks.{others_fine, has_room}
use Rattle.promises.proofs.Outcomes.{Exactly, is_refused, exactly_no, no_keeps, refused_keeps, host_refused}
use Rattle.promises.proofs.WalkLaws.{step_moves}

-- ---- each refusal has its exact condition: what the checks say, which stand in document 01's order

pub record RefusedExactly : Type 0 where
  pub opens : (s : List ℕ) (r : Answer) (x : Refusal) (at : Place) → Opens s r → Exactly (r ≡ refused_by x at) (check_open s ≡ No x at)
  pub decodes : (s : List ℕ) (lent after : List ℤ) (r : Answer) (x : Refusal) (at : Place) → Decodes s lent r after → Exactly (r ≡ refused_by x at) ((check_decode s then check_room s (length lent)) ≡ No x at)
  pub steps : (s : List ℕ) (g : ℕ) (lent after : List ℤ) (r : Answer) (x : Refusal) (at : Place) → Steps s g lent r after → Exactly (r ≡ refused_by x at) (check_walk s g (length lent) ≡ No x at)
  pub reads_frames : (s : List ℕ) (first count : Frames) (lent after : List ℤ) (r : Answer) (x : Refusal) (at : Place) → ReadsFrames s first count lent r after
      → Exactly (r ≡ refused_by x at) (check_frames_into s first count (length lent) ≡ No x at)
  pub builds_peaks : (s lent after : List ℕ) (r : Answer) (x : Refusal) (at : Place) → BuildsPeaks s lent r after → Exactly (r ≡ refused_by x at) (check_peaks_into s (length lent) ≡ No x at)
  pub compares_peaks : (b s : List ℕ) (r : Answer) (x : Refusal) (at : Place) → ComparesPeaks b s r → Exactly (r ≡ refused_by x at) (check_peaks s ≡ No x at)
  pub reads_peak : (s : List ℕ) (g c : ℕ) (lent after : List ℤ) (r : Answer) (x : Refusal) (at : Place) → ReadsPeak s g c lent r after
      → Exactly (r ≡ refused_by x at) (check_peak s g c (length lent) ≡ No x at)
  pub reads_peaks : (s : List ℕ) (lent after : List ℤ) (r : Answer) (x : Refusal) (at : Place) → ReadsPeaks s lent r after → Exactly (r ≡ refused_by x at) (check_all_peaks s (length lent) ≡ No x at)
  pub encodes : (p : PcmSpec) (mode : StereoMode) (s : List ℤ) (lent after : List ℕ) (r : Answer) (x : Refusal) (at : Place) → Encodes p mode s lent r after
      → Exactly (r ≡ refused_by x at) (check_encode_into p mode s (length lent) ≡ No x at)
  pub reencodes : (p : PcmSpec) (s : List ℤ) (t lent after : List ℕ) (r : Answer) (x : Refusal) (at : Place) → Reencodes p s t lent r after
      → Exactly (r ≡ refused_by x at) (check_reencode_into p s t (length lent) ≡ No x at)

left_or_done : (b : Bool) (n : Samples) → is_refused (cond b (Read n) Finished) ≡ false
left_or_done true n = refl
left_or_done false n = refl

yes_or_no : (b : Bool) → is_refused (verdict b) ≡ false
yes_or_no true = refl
yes_or_no false = refl

pub refused_exactly : RefusedExactly
unfolding open_of decode_of step_of read_frames_of build_peaks_of compare_peaks_of read_peak_of read_peaks_of encode_of reencode_of
refused_exactly =
    record {
      opens = λ s r x at e. exactly_no (check_open s) (Opened (header_of s)) refl x at r e;
      decodes = λ s lent after r x at e. exactly_no (check_decode s then check_room s (length lent)) (Read (decoded_count s)) refl x at r e.0;
      steps = λ s g lent after r x at e.
          exactly_no (check_walk s g (length lent)) (cond (has_group s g) (Read (step_count s g)) Finished) (left_or_done (has_group s g) (step_count s g)) x at r e.0;
      reads_frames = λ s first count lent after r x at e. exactly_no (check_frames_into s first count (length lent)) (Read (frames_count s count)) refl x at r e.0;
      builds_peaks = λ s lent after r x at e. exactly_no (check_peaks_into s (length lent)) (Wrote (length (summary_of s))) refl x at r e.0;
      compares_peaks = λ b s r x at e. exactly_no (check_peaks s) (verdict (same b (summary_of s))) (yes_or_no (same b (summary_of s))) x at r e;
      reads_peak = λ s g c lent after r x at e. exactly_no (check_peak s g c (length lent)) (Read (pairs_read 1)) refl x at r e.0;
      reads_peaks = λ s lent after r x at e. exactly_no (check_all_peaks s (length lent)) (Read (pairs_read (pair_count s))) refl x at r e.0;
      encodes = λ p mode s lent after r x at e. exactly_no (check_encode_into p mode s (length lent)) (Wrote (length (encoded_file p mode s))) refl x at r e.0;
      reencodes = λ p s t lent after r x at e. exactly_no (check_reencode_into p s t (length lent)) (Wrote (length t)) refl x at r e.0;
    }

-- ---- 7. ONE OUTCOME

-- two outcomes that the promise allows are equal, in the answer and in all that is lent
abbrev pub One : {R A : Type 0} → (R → A → Type 0) → Type 0
One {R} {A} P = (r r' : R) (after after' : A) → P r after → P r' after' → (r ≡ r') × (after ≡ after')

-- what a function over `Stored` promises where samples are lent as bytes: P of the samples, and that the bytes behind
-- the last whole one stay
abbrev pub InBytes : (List ℤ → Answer → List ℤ → Type 0) → List ℕ → Answer → List ℕ → Type 0
InBytes P bytes r after = P (samples_from bytes) r (samples_from after) × (bytes_behind after ≡ bytes_behind bytes)

abbrev pub OneInBytes : (List ℤ → Answer → List ℤ → Type 0) → List ℕ → Type 0
OneInBytes P bytes =
    (r r' : Answer) (after after' : List ℕ) → Below 256 after → Below 256 after' → InBytes P bytes r after → InBytes P bytes r' after' → (r ≡ r') × (after ≡ after')

equations : {R A : Type 0} (x : R) (y : A) → One (λ (r : R) (after : A). (r ≡ x) × (after ≡ y))
equations x y r r' after after' p q = (p.0 ∙ sym q.0, p.1 ∙ sym q.1)

in_bytes : (P : List ℤ → Answer → List ℤ → Type 0) → ((lent : List ℤ) → One (P lent)) → (bytes : List ℕ) → OneInBytes P bytes
in_bytes P one bytes r r' after after' h h' p q =
    let e = one (samples_from bytes) r r' (samples_from after) (samples_from after') p.0 q.0 in
    (e.0, same_bytes after after' h h' e.1 (p.1 ∙ sym q.1))

pub record OneOutcome : Type 1 where
  -- a function that lends nothing promises r ≡ x: open, check_open, ncw_open, the functions of format
  pub equation : {R : Type 0} (x r r' : R) → r ≡ x → r' ≡ x → r ≡ r'
  pub opens : (s : List ℕ) (r r' : Answer) → Opens s r → Opens s r' → r ≡ r'
  pub host_opens : (s : List ℕ) (r r' : ℕ) → HostOpens s r → HostOpens s r' → r ≡ r'
  pub decodes : (s : List ℕ) (lent : List ℤ) → One (Decodes s lent)
  pub steps : (s : List ℕ) (g : ℕ) (lent : List ℤ) → One (Steps s g lent)
  -- and in the next group's number
  pub advances : (s : List ℕ) (g : ℕ) (lent : List ℤ) (r r' : Answer) (after after' : List ℤ) (next next' : ℕ)
      → Advances s g lent r after next → Advances s g lent r' after' next' → (r ≡ r') × (after ≡ after') × (next ≡ next')
  pub reads_frames : (s : List ℕ) (first count : Frames) (lent : List ℤ) → One (ReadsFrames s first count lent)
  pub builds_peaks : (s lent : List ℕ) → One (BuildsPeaks s lent)
  pub compares_peaks : (b s : List ℕ) (r r' : Answer) → ComparesPeaks b s r → ComparesPeaks b s r' → r ≡ r'
  pub reads_peak : (s : List ℕ) (g c : ℕ) (lent : List ℤ) → One (ReadsPeak s g c lent)
  pub reads_peaks : (s : List ℕ) (lent : List ℤ) → One (ReadsPeaks s lent)
  pub encodes : (p : PcmSpec) (mode : StereoMode) (s : List ℤ) (lent : List ℕ) → One (Encodes p mode s lent)
  pub reencodes : (p : PcmSpec) (s : List ℤ) (t lent : List ℕ) → One (Reencodes p s t lent)
  pub host_decodes : (s lent : List ℕ) → One (HostDecodes s lent)
  pub host_reads_frames : (s : List ℕ) (first count : Frames) (lent : List ℕ) → One (HostReadsFrames s first count lent)
  pub host_builds_peaks : (s lent : List ℕ) → One (HostBuildsPeaks s lent)
  pub host_compares_peaks : (b s : List ℕ) (r r' : ℕ) → HostComparesPeaks b s r → HostComparesPeaks b s r' → r ≡ r'
  pub host_reads_peak : (s : List ℕ) (g c : ℕ) (lent : List ℕ) → One (HostReadsPeak s g c lent)
  pub host_reads_peaks : (s lent : List ℕ) → One (HostReadsPeaks s lent)
  pub host_encodes : (b : List ℕ) (p : PcmSpec) (mode : ℕ) (lent : List ℕ) → One (HostEncodes b p mode lent)
  pub host_reencodes : (b : List ℕ) (p : PcmSpec) (t lent : List ℕ) → One (HostReencodes b p t lent)
  -- the words of what decoding and re-encoding would refuse, and where
  pub host_decode_refuses : (s : List ℕ) (room r r' : ℕ) → HostDecodeRefuses s room r → HostDecodeRefuses s room r' → r ≡ r'
  pub host_reencode_refuses : (b : List ℕ) (p : PcmSpec) (t : List ℕ) (room r r' : ℕ) → HostReencodeRefuses b p t room r → HostReencodeRefuses b p t room r' → r ≡ r'
  -- samples that are lent as bytes: decode_lent, decode_group_lent, read_frames_lent, and the pairs of a summary.
  -- Behind numbers nothing lies, so where numbers are lent, the lines above speak of these functions too
  pub decodes_lent : (s bytes : List ℕ) → OneInBytes (Decodes s) bytes
  pub steps_lent : (s : List ℕ) (g : ℕ) (bytes : List ℕ) → OneInBytes (Steps s g) bytes
  pub reads_frames_lent : (s : List ℕ) (first count : Frames) (bytes : List ℕ) → OneInBytes (ReadsFrames s first count) bytes
  pub reads_peak_lent : (s : List ℕ) (g c : ℕ) (bytes : List ℕ) → OneInBytes (ReadsPeak s g c) bytes
  pub reads_peaks_lent : (s bytes : List ℕ) → OneInBytes (ReadsPeaks s) bytes

pub one_outcome_each : OneOutcome
one_outcome_each =
    record {
      equation = λ x r r' p q. p ∙ sym q;
      opens = λ s r r' p q. p ∙ sym q;
      host_opens = λ s r r' p q. p ∙ sym q;
      decodes = λ s lent. equations _ _;
      steps = λ s g lent. equations _ _;
      advances = λ s g lent r r' after after' next next' p q. (p.0.0 ∙ sym q.0.0, p.0.1 ∙ sym q.0.1, p.1 ∙ sym q.1);
      reads_frames = λ s first count lent. equations _ _;
      builds_peaks = λ s lent. equations _ _;
      compares_peaks = λ b s r r' p q. p ∙ sym q;
      reads_peak = λ s g c lent. equations _ _;
      reads_peaks = λ s lent. equations _ _;
      encodes = λ p mode s lent. equations _ _;
      reencodes = λ p s t lent. equations _ _;
      host_decodes = λ s lent. equations _ _;
      host_reads_frames = λ s first count lent. equations _ _;
      host_builds_peaks = λ s lent. equations _ _;
      host_compares_peaks = λ b s r r' p q. p ∙ sym q;
      host_reads_peak = λ s g c lent. equations _ _;
      host_reads_peaks = λ s lent. equations _ _;
      host_encodes = λ b p mode lent. equations _ _;
      host_reencodes = λ b p t lent. equations _ _;
      host_decode_refuses = λ s room r r' p q. p ∙ sym q;
      host_reencode_refuses = λ b p t room r r' e q. e ∙ sym q;
      decodes_lent = λ s. in_bytes (Decodes s) (λ lent. equations _ _);
      steps_lent = λ s g. in_bytes (Steps s g) (λ lent. equations _ _);
      reads_frames_lent = λ s first count. in_bytes (ReadsFrames s first count) (λ lent. equations _ _);
      reads_peak_lent = λ s g c. in_bytes (ReadsPeak s g c) (λ lent. equations _ _);
      reads_peaks_lent = λ s. in_bytes (ReadsPeaks s) (λ lent. equations _ _);
    }

-- ---- 8. REFUSALS CHANGE NOTHING

-- where the answer is a refusal, what is lent stays as it was
abbrev pub Keeps : {A : Type 0} → (Answer → List A → Type 0) → List A → Type 0
Keeps {A} P lent = (x : Refusal) (at : Place) (after : List A) → P (refused_by x at) after → after ≡ lent

abbrev pub KeepsInBytes : (List ℤ → Answer → List ℤ → Type 0) → List ℕ → Type 0
KeepsInBytes P bytes = (x : Refusal) (at : Place) (after : List ℕ) → Below 256 bytes → Below 256 after → InBytes P bytes (refused_by x at) after → after ≡ bytes

-- a host is told of a refusal by a number from 2 ^ 63 on; no slice is as long as that
abbrev pub HostKeeps : (ℕ → List ℕ → Type 0) → List ℕ → Type 0
HostKeeps P lent = length lent < 2 ^ 63 → (r : ℕ) (after : List ℕ) → 2 ^ 63 ≤ r → P r after → after ≡ lent

pub record RefusalsKeep : Type 0 where
  pub decodes : (s : List ℕ) (lent : List ℤ) → Keeps (Decodes s lent) lent
  pub steps : (s : List ℕ) (g : ℕ) (lent : List ℤ) → Keeps (Steps s g lent) lent
  -- and the walk stays where it is
  pub advances : (s : List ℕ) (g : ℕ) (lent after : List ℤ) (x : Refusal) (at : Place) (next : ℕ) → Advances s g lent (refused_by x at) after next → (after ≡ lent) × (next ≡ g)
  pub reads_frames : (s : List ℕ) (first count : Frames) (lent : List ℤ) → Keeps (ReadsFrames s first count lent) lent
  pub builds_peaks : (s lent : List ℕ) → Keeps (BuildsPeaks s lent) lent
  pub reads_peak : (s : List ℕ) (g c : ℕ) (lent : List ℤ) → Keeps (ReadsPeak s g c lent) lent
  pub reads_peaks : (s : List ℕ) (lent : List ℤ) → Keeps (ReadsPeaks s lent) lent
  pub encodes : (p : PcmSpec) (mode : StereoMode) (s : List ℤ) (lent : List ℕ) → Keeps (Encodes p mode s lent) lent
  pub reencodes : (p : PcmSpec) (s : List ℤ) (t lent : List ℕ) → Keeps (Reencodes p s t lent) lent
  pub host_decodes : (s lent : List ℕ) → HostKeeps (HostDecodes s lent) lent
  pub host_reads_frames : (s : List ℕ) (first count : Frames) (lent : List ℕ) → HostKeeps (HostReadsFrames s first count lent) lent
  pub host_builds_peaks : (s lent : List ℕ) → HostKeeps (HostBuildsPeaks s lent) lent
  pub host_reads_peak : (s : List ℕ) (g c : ℕ) (lent : List ℕ) → HostKeeps (HostReadsPeak s g c lent) lent
  pub host_reads_peaks : (s lent : List ℕ) → HostKeeps (HostReadsPeaks s lent) lent
  pub host_encodes : (b : List ℕ) (p : PcmSpec) (mode : ℕ) (lent : List ℕ) → HostKeeps (HostEncodes b p mode lent) lent
  pub host_reencodes : (b : List ℕ) (p : PcmSpec) (t lent : List ℕ) → HostKeeps (HostReencodes b p t lent) lent
  -- samples that are lent as bytes
  pub decodes_lent : (s bytes : List ℕ) → KeepsInBytes (Decodes s) bytes
  pub steps_lent : (s : List ℕ) (g : ℕ) (bytes : List ℕ) → KeepsInBytes (Steps s g) bytes
  pub reads_frames_lent : (s : List ℕ) (first count : Frames) (bytes : List ℕ) → KeepsInBytes (ReadsFrames s first count) bytes
  pub reads_peak_lent : (s : List ℕ) (g c : ℕ) (bytes : List ℕ) → KeepsInBytes (ReadsPeak s g c) bytes
  pub reads_peaks_lent : (s bytes : List ℕ) → KeepsInBytes (ReadsPeaks s) bytes

decode_keeps : (s : List ℕ) (lent : List ℤ) → Keeps (Decodes s lent) lent
unfolding decode_of decode_into
decode_keeps s lent x at after d = refused_keeps (check_decode s then check_room s (length lent)) (Read (decoded_count s)) x at (decoded_of s) lent after refl d.0 d.1

step_keeps : (s : List ℕ) (g : ℕ) (lent : List ℤ) → Keeps (Steps s g lent) lent
unfolding step_of step_into
step_keeps s g lent x at after d =
    refused_keeps (check_walk s g (length lent)) (cond (has_group s g) (Read (step_count s g)) Finished) x at (cond (has_group s g) (step_samples s g) []) lent after
    (left_or_done (has_group s g) (step_count s g)) d.0 d.1

frames_keep : (s : List ℕ) (first count : Frames) (lent : List ℤ) → Keeps (ReadsFrames s first count lent) lent
unfolding read_frames_of read_frames_into
frames_keep s first count lent x at after d =
    refused_keeps (check_frames_into s first count (length lent)) (Read (frames_count s count)) x at (frames_at s first count) lent after refl d.0 d.1

build_keeps : (s lent : List ℕ) → Keeps (BuildsPeaks s lent) lent
unfolding build_peaks_of build_peaks_into
build_keeps s lent x at after d = refused_keeps (check_peaks_into s (length lent)) (Wrote (length (summary_of s))) x at (summary_of s) lent after refl d.0 d.1

peak_keeps : (s : List ℕ) (g c : ℕ) (lent : List ℤ) → Keeps (ReadsPeak s g c lent) lent
unfolding read_peak_of read_peak_into
peak_keeps s g c lent x at after d = refused_keeps (check_peak s g c (length lent)) (Read (pairs_read 1)) x at (pairs_from s (pair_number s g c) 1) lent after refl d.0 d.1

peaks_keep : (s : List ℕ) (lent : List ℤ) → Keeps (ReadsPeaks s lent) lent
unfolding read_peaks_of read_peaks_into
peaks_keep s lent x at after d =
    refused_keeps (check_all_peaks s (length lent)) (Read (pairs_read (pair_count s))) x at (pairs_from s 0 (pair_count s)) lent after refl d.0 d.1

encode_keeps : (p : PcmSpec) (mode : StereoMode) (s : List ℤ) (lent : List ℕ) → Keeps (Encodes p mode s lent) lent
unfolding encode_of encode_into
encode_keeps p mode s lent x at after e = refused_keeps (check_encode_into p mode s (length lent)) (Wrote (length (encoded_file p mode s))) x at (encoded_file p mode s) lent after refl e.0 e.1

reencode_keeps : (p : PcmSpec) (s : List ℤ) (t lent : List ℕ) → Keeps (Reencodes p s t lent) lent
unfolding reencode_of reencode_into
reencode_keeps p s t lent x at after e = refused_keeps (check_reencode_into p s t (length lent)) (Wrote (length t)) x at (reencoded_file s t) lent after refl e.0 e.1

-- at the boundary, with the checks c, the outcome o of success and what it writes
host_keeps : (c : Checked) (o : Outcome) (w lent : List ℕ) → (length lent < 2 ^ 63 → c ≡ Fine → result_of o < 2 ^ 63)
    → HostKeeps (λ (r : ℕ) (after : List ℕ). (r ≡ result_of (answered c o).outcome) × (after ≡ filled c w lent)) lent
host_keeps c o w lent few short r after l p =
    let e = p.0 in
    let x = host_refused c o (few short) (omega arith) in
    no_keeps c x.0 x.1 w lent after x.2 p.1

-- what is written has room, so its length is below 2 ^ 63
pub decode_short : (s : List ℕ) (room : ℕ) → room < 2 ^ 63 → (check_decode s then check_room s (room / 4)) ≡ Fine → result_of (Read (decoded_count s)) < 2 ^ 63
unfolding check_room
decode_short s room short fine = let q = has_room (check_decode s) (room / 4) (decoded_count s).0 OutputTooShort fine in omega arith

pub frames_short : (s : List ℕ) (first count : Frames) (room : ℕ) → room < 2 ^ 63 → check_frames_into s first count (room / 4) ≡ Fine → result_of (Read (frames_count s count)) < 2 ^ 63
unfolding check_frames_into
frames_short s first count room short fine = let q = has_room (check_frames s first count) (room / 4) (frames_count s count).0 OutputTooShort fine in omega arith

pub build_short : (s : List ℕ) (room : ℕ) → room < 2 ^ 63 → check_peaks_into s room ≡ Fine → result_of (Wrote (length (summary_of s))) < 2 ^ 63
unfolding check_peaks_into
build_short s room short fine = let q = has_room (check_peaks s) room (length (summary_of s)) OutputTooShort fine in omega arith

pub pairs_short : (s : List ℕ) (room : ℕ) → room < 2 ^ 63 → check_all_peaks s (room / 4) ≡ Fine → result_of (Read (pairs_read (pair_count s))) < 2 ^ 63
unfolding check_all_peaks
pairs_short s room short fine = let q = has_room (check_summary s) (room / 4) (2 * pair_count s) OutputTooShort fine in omega arith

pub reencode_short : (b : List ℕ) (p : PcmSpec) (t : List ℕ) (room : ℕ) → room < 2 ^ 63 → check_host_reencode b p t room ≡ Fine → result_of (Wrote (length t)) < 2 ^ 63
unfolding check_host_reencode check_reencode_into
reencode_short b p t room short fine =
    let q = has_room (check_reencode p (samples_from b) t) room (length t) OutputTooShort (others_fine (check_bytes b) _ fine) in omega arith

host_decode_keeps : (s lent : List ℕ) → HostKeeps (HostDecodes s lent) lent
unfolding host_decode host_decode_into decode_of
host_decode_keeps s lent =
    host_keeps (check_decode s then check_room s (length lent / 4)) (Read (decoded_count s)) (sample_bytes (decoded_of s)) lent (decode_short s (length lent))

host_frames_keep : (s : List ℕ) (first count : Frames) (lent : List ℕ) → HostKeeps (HostReadsFrames s first count lent) lent
unfolding host_read_frames host_read_frames_into read_frames_of
host_frames_keep s first count lent =
    host_keeps (check_frames_into s first count (length lent / 4)) (Read (frames_count s count)) (sample_bytes (frames_at s first count)) lent (frames_short s first count (length lent))

host_build_keeps : (s lent : List ℕ) → HostKeeps (HostBuildsPeaks s lent) lent
unfolding host_peaks build_peaks_of build_peaks_into
host_build_keeps s lent = host_keeps (check_peaks_into s (length lent)) (Wrote (length (summary_of s))) (summary_of s) lent (build_short s (length lent))

host_peak_keeps : (s : List ℕ) (g c : ℕ) (lent : List ℕ) → HostKeeps (HostReadsPeak s g c lent) lent
unfolding host_peak host_peak_into read_peak_of
host_peak_keeps s g c lent =
    host_keeps (check_peak s g c (length lent / 4)) (Read (pairs_read 1)) (sample_bytes (pairs_from s (pair_number s g c) 1)) lent (λ short fine. omega arith)

host_peaks_keep : (s lent : List ℕ) → HostKeeps (HostReadsPeaks s lent) lent
unfolding host_peaks_all host_peaks_all_into read_peaks_of
host_peaks_keep s lent =
    host_keeps (check_all_peaks s (length lent / 4)) (Read (pairs_read (pair_count s))) (sample_bytes (pairs_from s 0 (pair_count s))) lent (pairs_short s (length lent))

host_encode_keeps : (b : List ℕ) (p : PcmSpec) (mode : ℕ) (lent : List ℕ) → HostKeeps (HostEncodes b p mode lent) lent
unfolding host_encode host_encode_into check_host_encode check_encode_into
host_encode_keeps b p mode lent =
    let file = encoded_file p (mode_of mode) (samples_from b) in
    host_keeps (check_host_encode b p mode (length lent)) (Wrote (length file)) file lent
    (λ short fine.
    let q = has_room (check_encode p (mode_of mode) (samples_from b)) (length lent) (length file) OutputTooShort (others_fine (check_bytes b) _ (others_fine (check_mode mode) _ fine)) in
    omega arith)

host_reencode_keeps : (b : List ℕ) (p : PcmSpec) (t lent : List ℕ) → HostKeeps (HostReencodes b p t lent) lent
unfolding host_reencode host_reencode_into
host_reencode_keeps b p t lent =
    host_keeps (check_host_reencode b p t (length lent)) (Wrote (length t)) (reencoded_file (samples_from b) t) lent (reencode_short b p t (length lent))

keeps_in_bytes : (P : List ℤ → Answer → List ℤ → Type 0) → ((lent : List ℤ) → Keeps (P lent) lent) → (bytes : List ℕ) → KeepsInBytes P bytes
keeps_in_bytes P keeps bytes x at after h h' p = same_bytes after bytes h' h (keeps (samples_from bytes) x at (samples_from after) p.0) p.1

pub refusals_keep : RefusalsKeep
refusals_keep =
    record {
      decodes = decode_keeps;
      steps = step_keeps;
      advances = λ s g lent after x at next d. let e = step_moves s g lent after (refused_by x at) next d in (step_keeps s g lent x at after d.0, omega arith);
      reads_frames = frames_keep;
      builds_peaks = build_keeps;
      reads_peak = peak_keeps;
      reads_peaks = peaks_keep;
      encodes = encode_keeps;
      reencodes = reencode_keeps;
      host_decodes = host_decode_keeps;
      host_reads_frames = host_frames_keep;
      host_builds_peaks = host_build_keeps;
      host_reads_peak = host_peak_keeps;
      host_reads_peaks = host_peaks_keep;
      host_encodes = host_encode_keeps;
      host_reencodes = host_reencode_keeps;
      decodes_lent = λ s. keeps_in_bytes (Decodes s) (decode_keeps s);
      steps_lent = λ s g. keeps_in_bytes (Steps s g) (step_keeps s g);
      reads_frames_lent = λ s first count. keeps_in_bytes (ReadsFrames s first count) (frames_keep s first count);
      reads_peak_lent = λ s g c. keeps_in_bytes (ReadsPeak s g c) (peak_keeps s g c);
      reads_peaks_lent = λ s. keeps_in_bytes (ReadsPeaks s) (peaks_keep s);
    }
