-- Document 02, L7, "Peaks beside the file".
use Rattle.std.specs.Prelude.{ℕ, zero, suc, ◌+◌, ◌*◌, List, [], ◌∷◌, ◌++◌, Bool, not, cond, length, take, get_or, ℤ}
use Rattle.std.specs.Prelude.{pos, ltb, eqb}
use Rattle.std.specs.Int.Signed.{le_z}
use Rattle.format.specs.Lists.{joined, same}
use Rattle.format.specs.SevenBits.{seven, seven_value, check_seven, past, folded, unfolded}
use Rattle.format.specs.Header.{fields_of, groups_of, group_bytes}
use Rattle.format.specs.Units.{active}
use Rattle.format.specs.Refusals.{Checked, refuse, ◌then◌, in_order}
use Rattle.format.specs.Answers.{answered, filled}
use Rattle.format.specs.Opening.{format_of}
use Rattle.format.specs.Decoding.{is_float, channels_of, check_decode}
use Rattle.format.specs.declared.refusals.Refusal.TheVariants.{ZeroChannels, OutputTooShort, BytesBehind}
use Rattle.format.specs.declared.refusals.Refusal.TheVariants.{PeaksCrossed, FloatFile, PairPastEnd}
use Rattle.format.specs.declared.units.Frames.{Frames}
use Rattle.format.specs.declared.units.Samples.{Samples}
use Rattle.format.specs.declared.answers.Peak.{Peak}
use Rattle.format.specs.declared.answers.Fields.{Fields}
use Rattle.format.specs.declared.answers.Outcome.{Outcome}
use Rattle.format.specs.declared.answers.Outcome.TheVariants.{Read, Wrote, Matches, Differs}
use Rattle.format.specs.declared.answers.Answer.{Answer}
use Rattle.format.specs.declared.settings.SampleFormat.{SampleFormat}

-- ------------------------------------------------------------------------------------------------------------------

-- ---- the smallest and the largest of samples

abbrev pub lesser : ℤ → ℤ → ℤ
lesser x y = cond (le_z x y) x y

abbrev pub greater : ℤ → ℤ → ℤ
greater x y = cond (le_z x y) y x

-- of x and all of the list the one that `pick` keeps, from the front on
unfoldable pub picked : (ℤ → ℤ → ℤ) → ℤ → List ℤ → ℤ
picked pick x [] = x
picked pick x (y ∷ ys) = picked pick (pick x y) ys

unfoldable pub extreme : (ℤ → ℤ → ℤ) → List ℤ → ℤ
extreme pick [] = pos 0
extreme pick (x ∷ xs) = picked pick x xs

abbrev pub peak_of : List ℤ → Peak
peak_of samples = record { smallest = extreme lesser samples; largest = extreme greater samples }

-- ---- the summary: frames, channels, then for each group and each channel the pair

unfoldable pub pair_bytes : Peak → List ℕ
pair_bytes peak = seven (folded peak.smallest) ++ seven (folded peak.largest)

unfoldable pub summary_bytes : Frames → ℕ → (ℕ → ℕ → Peak) → List ℕ
summary_bytes frames channels peak =
    let group : ℕ → List ℕ = λ g. joined (λ c. pair_bytes (peak g c)) channels in
    seven frames.0 ++ (seven channels ++ joined group (groups_of frames))

-- of channel c of a group whose first n frames are active: no padding counts
unfoldable pub channel_peak : Fields → SampleFormat → ℕ → List ℕ → ℕ → Peak
channel_peak fields format n group c = peak_of (take n (get_or (channels_of fields format group) c []))

unfoldable pub peak_at : List ℕ → ℕ → ℕ → Peak
peak_at file g c =
    let fields = fields_of file in
    channel_peak fields (format_of file fields) (active fields.frames g) (group_bytes file fields g) c

unfoldable pub summary_of : List ℕ → List ℕ
summary_of file = let fields = fields_of file in summary_bytes fields.frames fields.channels (peak_at file)

-- ---- building it, and checking bytes against a file

-- 66 after decoding's refusals
unfoldable pub check_peaks : List ℕ → Checked
check_peaks file =
    check_decode file  -- 1, 2, 10 to 15, 1, 16 to 19, 3; 1, 3, 20, 21, 4, 1, 22
    then refuse (is_float (format_of file (fields_of file))) FloatFile  -- 66

-- and before 50
unfoldable pub check_peaks_into : List ℕ → ℕ → Checked
check_peaks_into file room =
    check_peaks file
    then refuse (ltb room (length (summary_of file))) OutputTooShort  -- 50

unfoldable pub build_peaks_of : List ℕ → ℕ → Answer
build_peaks_of file room = answered (check_peaks_into file room) (Wrote (length (summary_of file)))

unfoldable pub build_peaks_into : List ℕ → List ℕ → List ℕ
build_peaks_into file lent = filled (check_peaks_into file (length lent)) (summary_of file) lent

-- yes exactly when the bytes are the summary of that file
abbrev pub verdict : Bool → Outcome
verdict same = cond same Matches Differs

unfoldable pub compare_peaks_of : List ℕ → List ℕ → Answer
compare_peaks_of summary file = answered (check_peaks file) (verdict (same summary (summary_of file)))

-- ---- reading one: `s` are its bytes

abbrev pub summary_frames : List ℕ → Frames
summary_frames s = record { 0 = seven_value s }

abbrev pub summary_channels : List ℕ → ℕ
summary_channels s = seven_value (past s 1)

unfoldable pub pair_count : List ℕ → ℕ
pair_count s = groups_of (summary_frames s) * summary_channels s

-- the number of the pair of group g and channel c: groups in order, channels within
unfoldable pub pair_number : List ℕ → ℕ → ℕ → ℕ
pair_number s g c = g * summary_channels s + c

-- its bytes from pair k on
unfoldable pub from_pair : List ℕ → ℕ → List ℕ
from_pair s zero = past s 2
from_pair s (suc k) = past (from_pair s k) 2

-- the pair with which t begins
unfoldable pub pair_of : List ℕ → Peak
pair_of t = record { smallest = unfolded (seven_value t); largest = unfolded (seven_value (past t 1)) }

-- two numbers, one after the other
unfoldable pub check_two : List ℕ → Checked
check_two t = check_seven t then check_seven (past t 1)

unfoldable pub check_pair : List ℕ → Checked
check_pair t =
    check_two t  -- 60, 62, 61; 60, 62, 61
    then refuse (not (le_z (pair_of t).smallest (pair_of t).largest)) PeaksCrossed  -- 64

-- by number read in order, 10 right after the channels, 64 right after each pair; then 63
unfoldable pub check_summary : List ℕ → Checked
check_summary s =
    check_two s  -- 60, 62, 61; 60, 62, 61
    then refuse (eqb (summary_channels s) 0) ZeroChannels  -- 10
    then in_order (λ k. check_pair (from_pair s k)) (pair_count s)  -- 60, 62, 61; 60, 62, 61; 64
    then refuse (not (eqb (length (from_pair s (pair_count s))) 0)) BytesBehind  -- 63

-- 67 past the last group, past the last channel; a pair takes the room of two samples
unfoldable pub check_peak : List ℕ → ℕ → ℕ → ℕ → Checked
check_peak s g c room =
    check_summary s
    then refuse (not (ltb g (groups_of (summary_frames s)))) PairPastEnd  -- 67
    then refuse (not (ltb c (summary_channels s))) PairPastEnd  -- 67
    then refuse (ltb room 2) OutputTooShort  -- 50

-- a pair as two samples: the smallest, the largest
abbrev pub pair_samples : Peak → List ℤ
pair_samples peak = peak.smallest ∷ peak.largest ∷ []

-- the n pairs from pair k on
unfoldable pub pairs_from : List ℕ → ℕ → ℕ → List ℤ
pairs_from s k n = joined (λ i. pair_samples (pair_of (from_pair s (k + i)))) n

abbrev pub pairs_read : ℕ → Samples
pairs_read n = record { 0 = 2 * n }

-- the pair of group g and channel c: the answer, and what the lent samples then hold
unfoldable pub read_peak_of : List ℕ → ℕ → ℕ → ℕ → Answer
read_peak_of s g c room = answered (check_peak s g c room) (Read (pairs_read 1))

unfoldable pub read_peak_into : List ℕ → ℕ → ℕ → List ℤ → List ℤ
read_peak_into s g c lent = filled (check_peak s g c (length lent)) (pairs_from s (pair_number s g c) 1) lent

-- all pairs
unfoldable pub check_all_peaks : List ℕ → ℕ → Checked
check_all_peaks s room =
    check_summary s
    then refuse (ltb room (pairs_read (pair_count s)).0) OutputTooShort  -- 50

unfoldable pub read_peaks_of : List ℕ → ℕ → Answer
read_peaks_of s room = answered (check_all_peaks s room) (Read (pairs_read (pair_count s)))

unfoldable pub read_peaks_into : List ℕ → List ℤ → List ℤ
read_peaks_into s lent = filled (check_all_peaks s (length lent)) (pairs_from s 0 (pair_count s)) lent
