-- The host's number of an outcome: which it is, and that it fits.
use Rattle.std.specs.Prelude.{Ok, Err}
use Prim.Native.Nat.{ℕ, ◌+◌, ◌*◌, ◌^◌, ◌<◌}
use mathlib.Core.Path.{◌≡◌, refl, sym, ap, ◌∙◌}
use mathlib.Core.List.{List}
use mathlib.Core.Bool.{Bool, true, false}
use native.Mathlib.Omega.{arith}
use lib.ListN.{length}
use lib.IntN.{ℤ}
use mir.Syntax.{w64}
use mir.Val.{Fits}
use Rattle.format.specs.Lists.{same}
use Rattle.format.specs.Numbers.{Below}
use Rattle.format.specs.Header.{fields_of}
use Rattle.format.specs.Units.{samples_in}
use Rattle.format.specs.Refusals.{Checked, Fine, number, ◌then◌}
use Rattle.format.specs.Answers.{answered}
use Rattle.format.specs.Opening.{check_open, header_of, open_of}
use Rattle.format.specs.Decoding.{check_decode, check_room, decode_of}
use Rattle.format.specs.FewFrames.{check_frames_into, read_frames_of}
use Rattle.format.specs.Peaks.{summary_of, check_peaks, check_peaks_into, build_peaks_of, verdict, compare_peaks_of, pair_count, check_summary, check_peak, pairs_read, read_peak_of, check_all_peaks, read_peaks_of}
use Rattle.format.specs.Encoding.{encoded_file, check_encode_into, encode_of}
use Rattle.format.specs.Reencoding.{check_reencode_into, reencode_of}
use Rattle.format.specs.Boundary.{samples_from, result_of}
use Rattle.format.specs.declared.units.Frames.{Frames}
use Rattle.format.specs.declared.units.Samples.{Samples}
use Rattle.format.specs.declared.refusals.Refusal.{Refusal}
use Rattle.format.specs.declared.refusals.Refusal.TheVariants.{OutputTooShort}
use Rattle.format.specs.declared.settings.PcmSpec.{PcmSpec}
use Rattle.format.specs.declared.settings.StereoMode.{StereoMode}
use Rattle.format.specs.declared.answers.Header.{Header}
use Rattle.format.specs.declared.answers.Answer.{Answer}
use Rattle.format.specs.declared.answers.Outcome.{Outcome}
use Rattle.format.specs.declared.answers.Outcome.TheVariants.{Opened, Read, Wrote, Refused}
use Rattle.format.proofs.UnitLaws.{product_below}
use Rattle.laws.proofs.Tests.{never}
use Rattle.laws.proofs.Reading.{number_lt}
use Rattle.laws.proofs.Checks.{has_room}
use Rattle.lent_samples.proofs.Laws.{length_lent}

-- ---- which it is
module _ (o : Outcome) where
  pub opened_is : (h : Header) (n : Samples) → o ≡ Opened h → n ≡ samples_in h.frames h.channels → 4 * n.0 ≡ result_of o
  opened_is h n e p = ap (λ (m : Samples). 4 * m.0) p ∙ sym (ap result_of e)

  pub read_is : (n : Samples) → o ≡ Read n → 4 * n.0 ≡ result_of o
  read_is n e = sym (ap result_of e)

  pub refused_is : (r : Refusal) (k : ℕ) → o ≡ Refused r → k ≡ number r → 2 ^ 63 + k ≡ result_of o
  refused_is r k e p = ap (λ (m : ℕ). 2 ^ 63 + m) p ∙ sym (ap result_of e)

-- ---- that it fits: frames and channels are of 32 and 16 bits
counts_lt : (frames channels : ℕ) → frames < 2 ^ 32 → channels < 2 ^ 16 → 4 * (frames * channels) < 2 ^ 64
counts_lt frames channels f c = omega (arith, product_below (2 ^ 32) (2 ^ 16) (omega arith) f c)

pub opened_fits : (f : Frames) (channels : ℕ) (n : Samples) → n ≡ samples_in f channels → f.0 < 2 ^ 32 → channels < 2 ^ 16 → Fits w64 (4 * n.0)
opened_fits f channels n e h c = record { fits = omega (arith, ap (λ (m : Samples). m.0) e, counts_lt f.0 channels h c) }

pub read_fits : (o : Outcome) (n : Samples) → ((m : Samples) → o ≡ Read m → 4 * m.0 < 2 ^ 64) → o ≡ Read n → Fits w64 (4 * n.0)
read_fits o n few e = record { fits = few n e }

-- what is answered counts samples that were read only where it is so on success
fine_reads_few : (k : Checked) (o : Outcome) (n : Samples) → (k ≡ Fine → o ≡ Read n → 4 * n.0 < 2 ^ 64) → (answered k o).outcome ≡ Read n → 4 * n.0 < 2 ^ 64
fine_reads_few (Ok ok) o n few q = few refl q
fine_reads_few (Err refused) o n few q = let none : true ≡ false = cc in never none

reads_few : (k : Checked) (o : Outcome) (n : Samples) → (o ≡ Read n → 4 * n.0 < 2 ^ 64) → (answered k o).outcome ≡ Read n → 4 * n.0 < 2 ^ 64
reads_few k o n few = fine_reads_few k o n (λ fine. few)

pub refused_reads_none : (r : Refusal) (n : Samples) → Refused r ≡ Read n → 4 * n.0 < 2 ^ 64
refused_reads_none r n q = let none : true ≡ false = cc in never none

pub open_reads_none : (s : List ℕ) (a : Answer) → a ≡ open_of s → (n : Samples) → a.outcome ≡ Read n → 4 * n.0 < 2 ^ 64
unfolding open_of
open_reads_none s a e n p = reads_few (check_open s) (Opened (header_of s)) n (λ q. let none : true ≡ false = cc in never none) (sym (ap (λ (x : Answer). x.outcome) e) ∙ p)

-- so many frames of a file, each a sample of each channel
frames_few : (s : List ℕ) (count : Frames) (k : Checked) (a : Answer) → count.0 < 4294967296 → Below 256 s → a ≡ answered k (Read (samples_in count (fields_of s).channels))
    → (n : Samples) → a.outcome ≡ Read n → 4 * n.0 < 2 ^ 64
unfolding fields_of
frames_few s count k a fits byte e n p = reads_few k (Read (samples_in count (fields_of s).channels)) n few (sym (ap (λ (x : Answer). x.outcome) e) ∙ p)
  where
    few : Read (samples_in count (fields_of s).channels) ≡ Read n → 4 * n.0 < 2 ^ 64
    few q =
        let e : samples_in count (fields_of s).channels ≡ n = cc in
        omega (arith, counts_lt count.0 (fields_of s).channels fits (number_lt 8 2 s byte), ap (λ (m : Samples). m.0) e)

pub decode_reads_few : (s : List ℕ) (room : ℕ) (a : Answer) → Below 256 s → a ≡ decode_of s room → (n : Samples) → a.outcome ≡ Read n → 4 * n.0 < 2 ^ 64
unfolding decode_of fields_of
decode_reads_few s room a byte e = frames_few s (fields_of s).frames (check_decode s then check_room s room) a (number_lt 16 4 s byte) byte e

pub frames_read_few : (s : List ℕ) (first count : Frames) (room : ℕ) (a : Answer) → count.0 < 4294967296 → Below 256 s → a ≡ read_frames_of s first count room
    → (n : Samples) → a.outcome ≡ Read n → 4 * n.0 < 2 ^ 64
unfolding read_frames_of
frames_read_few s first count room a fits byte e = frames_few s count (check_frames_into s first count room) a fits byte e

-- pairs, as many samples as two for each: one, or as many as there is room for in bytes
pub peak_reads_few : (s : List ℕ) (g c room : ℕ) (a : Answer) → a ≡ read_peak_of s g c room → (n : Samples) → a.outcome ≡ Read n → 4 * n.0 < 2 ^ 64
unfolding read_peak_of
peak_reads_few s g c room a e n p = reads_few (check_peak s g c room) (Read (pairs_read 1)) n few (sym (ap (λ (x : Answer). x.outcome) e) ∙ p)
  where
    few : Read (pairs_read 1) ≡ Read n → 4 * n.0 < 2 ^ 64
    few q = let m : pairs_read 1 ≡ n = cc in omega (arith, ap (λ (x : Samples). x.0) m)

pub peaks_read_few : (s b : List ℕ) (a : Answer) → length b < 2 ^ 64 → a ≡ read_peaks_of s (length (samples_from b)) → (n : Samples) → a.outcome ≡ Read n → 4 * n.0 < 2 ^ 64
unfolding read_peaks_of check_all_peaks
peaks_read_few s b a long e n p =
    fine_reads_few (check_all_peaks s (length (samples_from b))) (Read (pairs_read (pair_count s))) n few (sym (ap (λ (x : Answer). x.outcome) e) ∙ p)
  where
    few : check_all_peaks s (length (samples_from b)) ≡ Fine → Read (pairs_read (pair_count s)) ≡ Read n → 4 * n.0 < 2 ^ 64
    few fine q =
        let m : pairs_read (pair_count s) ≡ n = cc in
        omega (arith, ap (λ (x : Samples). x.0) m, has_room (check_summary s) (length (samples_from b)) (2 * pair_count s) OutputTooShort fine, length_lent b)

-- a comparison answers yes or no
pub compare_reads_none : (b s : List ℕ) (a : Answer) → a ≡ compare_peaks_of b s → (n : Samples) → a.outcome ≡ Read n → 4 * n.0 < 2 ^ 64
unfolding compare_peaks_of
compare_reads_none b s a e n p = reads_few (check_peaks s) (verdict (same b (summary_of s))) n (by (same b (summary_of s))) (sym (ap (λ (x : Answer). x.outcome) e) ∙ p)
  where
    by : (t : Bool) → verdict t ≡ Read n → 4 * n.0 < 2 ^ 64
    by true q = let none : true ≡ false = cc in never none
    by false q = let none : true ≡ false = cc in never none

-- a writer answers what it wrote
wrote_reads_none : (k : Checked) (w : ℕ) (a : Answer) → a ≡ answered k (Wrote w) → (n : Samples) → a.outcome ≡ Read n → 4 * n.0 < 2 ^ 64
wrote_reads_none k w a e n q = reads_few k (Wrote w) n (λ r. let none : true ≡ false = cc in never none) (sym (ap (λ (x : Answer). x.outcome) e) ∙ q)

pub build_reads_none : (s : List ℕ) (room : ℕ) (a : Answer) → a ≡ build_peaks_of s room → (n : Samples) → a.outcome ≡ Read n → 4 * n.0 < 2 ^ 64
unfolding build_peaks_of
build_reads_none s room = wrote_reads_none (check_peaks_into s room) (length (summary_of s))

pub encode_reads_none :
    (p : PcmSpec) (mode : StereoMode) (s : List ℤ) (room : ℕ) (a : Answer) → a ≡ encode_of p mode s room → (n : Samples) → a.outcome ≡ Read n → 4 * n.0 < 2 ^ 64
unfolding encode_of
encode_reads_none p mode s room = wrote_reads_none (check_encode_into p mode s room) (length (encoded_file p mode s))

pub reencode_reads_none :
    (p : PcmSpec) (s : List ℤ) (t : List ℕ) (room : ℕ) (a : Answer) → a ≡ reencode_of p s t room → (n : Samples) → a.outcome ≡ Read n → 4 * n.0 < 2 ^ 64
unfolding reencode_of
reencode_reads_none p s t room = wrote_reads_none (check_reencode_into p s t room) (length t)
