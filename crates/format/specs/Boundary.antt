-- Document 01, "What must change shape": the host boundary, on numbers and byte slices.
use Rattle.std.specs.Prelude.{ℕ, ◌+◌, ◌*◌, ◌/◌, ◌%◌, ◌^◌, List, Bool, not, cond, length, get_or, ℤ, pos, ltb, eqb, Ok}
use Rattle.std.specs.Prelude.{Err}
use Rattle.format.specs.Lists.{tab, joined}
use Rattle.format.specs.Numbers.{le, num_at, value, code_of}
use Rattle.format.specs.Units.{samples_in}
use Rattle.format.specs.Refusals.{Checked, number, told, refuse, ◌then◌}
use Rattle.format.specs.Answers.{answered, filled}
use Rattle.format.specs.Opening.{open_of}
use Rattle.format.specs.Decoding.{check_decode, decoded_of, check_room, decode_of}
use Rattle.format.specs.FewFrames.{check_frames_into, frames_at, read_frames_of}
use Rattle.format.specs.Peaks.{build_peaks_of, compare_peaks_of, pair_count, pair_number, pairs_from}
use Rattle.format.specs.Peaks.{check_peak, read_peak_of, check_all_peaks, read_peaks_of}
use Rattle.format.specs.Encoding.{encoded_file, check_encode_into}
use Rattle.format.specs.Reencoding.{reencoded_file, check_reencode_into}
use Rattle.format.specs.declared.refusals.Refusal.TheVariants.{UnknownMode, SampleBytes}
use Rattle.format.specs.declared.refusals.Told.{Told}
use Rattle.format.specs.declared.refusals.Told.TheVariants.{Nothing, Bits, Misfit}
use Rattle.format.specs.declared.units.Frames.{Frames}
use Rattle.format.specs.declared.settings.PcmSpec.{PcmSpec}
use Rattle.format.specs.declared.settings.StereoMode.{StereoMode}
use Rattle.format.specs.declared.settings.StereoMode.TheVariants.{Auto, Direct, MidSide}
use Rattle.format.specs.declared.answers.Outcome.{Outcome}
use Rattle.format.specs.declared.answers.Outcome.TheVariants.{Opened, Read, Finished, Wrote, Refused}
use Rattle.format.specs.declared.answers.Outcome.TheVariants.{Matches, Differs}

-- ------------------------------------------------------------------------------------------------------------------

-- samples as 4 little-endian bytes; 1 to 3 bytes after the last whole sample are no sample
unfoldable pub samples_from : List ℕ → List ℤ
samples_from bytes = tab (length bytes / 4) (λ i. value 32 (num_at (4 * i) 4 bytes))

unfoldable pub sample_bytes : List ℤ → List ℕ
sample_bytes samples = joined (λ i. le 4 (code_of 32 (get_or samples i (pos 0)))) (length samples)

-- modes 0 Auto, 1 Direct, 2 MidSide; a mode's number is its word
unfoldable pub is_mode : ℕ → Bool
is_mode word = ltb word 3

unfoldable pub mode_of : ℕ → StereoMode
mode_of word = cond (eqb word 0) Auto (cond (eqb word 1) Direct MidSide)

unfoldable pub check_mode : ℕ → Checked
check_mode word = refuse (not (is_mode word)) UnknownMode  -- 38

unfoldable pub check_bytes : List ℕ → Checked
check_bytes bytes = refuse (not (eqb (length bytes % 4) 0)) SampleBytes  -- 39

-- the length in bytes (for opening, what decoding would write), or 2 ^ 63 plus the refusal number
abbrev pub result_of : Outcome → ℕ
result_of (Opened header) = 4 * (samples_in header.frames header.channels).0
result_of (Read count) = 4 * count.0
result_of (Wrote size) = size
result_of (Refused refusal) = 2 ^ 63 + number refusal
result_of Finished = 0
result_of Matches = 1  -- document 02, L7: yes
result_of Differs = 0

-- ---- opening, decoding

unfoldable pub host_open : List ℕ → ℕ
host_open file = result_of (open_of file).outcome

-- for samples coming out room is counted in bytes: as many samples as fit
unfoldable pub host_decode : List ℕ → ℕ → ℕ
host_decode file room = result_of (decode_of file (room / 4)).outcome

unfoldable pub host_decode_into : List ℕ → List ℕ → List ℕ
host_decode_into file lent =
    filled (check_decode file then check_room file (length lent / 4)) (sample_bytes (decoded_of file)) lent

-- document 02, L1: room as for decoding
unfoldable pub host_read_frames : List ℕ → Frames → Frames → ℕ → ℕ
host_read_frames file first count room = result_of (read_frames_of file first count (room / 4)).outcome

unfoldable pub host_read_frames_into : List ℕ → Frames → Frames → List ℕ → List ℕ
host_read_frames_into file first count lent =
    filled (check_frames_into file first count (length lent / 4)) (sample_bytes (frames_at file first count)) lent

-- document 02, L7: a summary is bytes; a pair is two samples, and so 8 bytes
unfoldable pub host_peaks : List ℕ → ℕ → ℕ
host_peaks file room = result_of (build_peaks_of file room).outcome

unfoldable pub host_peak : List ℕ → ℕ → ℕ → ℕ → ℕ
host_peak summary g c room = result_of (read_peak_of summary g c (room / 4)).outcome

unfoldable pub host_peak_into : List ℕ → ℕ → ℕ → List ℕ → List ℕ
host_peak_into summary g c lent =
    let pair = pairs_from summary (pair_number summary g c) 1 in
    filled (check_peak summary g c (length lent / 4)) (sample_bytes pair) lent

unfoldable pub host_peaks_all : List ℕ → ℕ → ℕ
host_peaks_all summary room = result_of (read_peaks_of summary (room / 4)).outcome

unfoldable pub host_peaks_all_into : List ℕ → List ℕ → List ℕ
host_peaks_all_into summary lent =
    let pairs = pairs_from summary 0 (pair_count summary) in
    filled (check_all_peaks summary (length lent / 4)) (sample_bytes pairs) lent

unfoldable pub host_peaks_check : List ℕ → List ℕ → ℕ
host_peaks_check summary file = result_of (compare_peaks_of summary file).outcome

-- ---- encoding: 38 then 39 before all other checks

unfoldable pub check_host_encode : List ℕ → PcmSpec → ℕ → ℕ → Checked
check_host_encode bytes spec word room =
    check_mode word  -- 38
    then check_bytes bytes  -- 39
    then check_encode_into spec (mode_of word) (samples_from bytes) room  -- 30 to 37, 50

unfoldable pub host_encode : List ℕ → PcmSpec → ℕ → ℕ → ℕ
host_encode bytes spec word room =
    let file = encoded_file spec (mode_of word) (samples_from bytes) in
    result_of (answered (check_host_encode bytes spec word room) (Wrote (length file))).outcome

unfoldable pub host_encode_into : List ℕ → PcmSpec → ℕ → List ℕ → List ℕ
host_encode_into bytes spec word lent =
    let file = encoded_file spec (mode_of word) (samples_from bytes) in
    filled (check_host_encode bytes spec word (length lent)) file lent

-- ---- re-encoding: 39 before all other checks

unfoldable pub check_host_reencode : List ℕ → PcmSpec → List ℕ → ℕ → Checked
check_host_reencode bytes spec template room =
    check_bytes bytes  -- 39
    then check_reencode_into spec (samples_from bytes) template room  -- 30 to 33, 1, 2, 40 to 46, 50

unfoldable pub host_reencode : List ℕ → PcmSpec → List ℕ → ℕ → ℕ
host_reencode bytes spec template room =
    result_of (answered (check_host_reencode bytes spec template room) (Wrote (length template))).outcome

unfoldable pub host_reencode_into : List ℕ → PcmSpec → List ℕ → List ℕ → List ℕ
host_reencode_into bytes spec template lent =
    filled (check_host_reencode bytes spec template (length lent)) (reencoded_file (samples_from bytes) template) lent

-- ---- document 02, L6: what a call of so much room, in bytes, refuses, and where; nothing is written

-- the place that 36 tells
abbrev pub misfit_told : Told → ℕ
misfit_told (Misfit place) = place
misfit_told (Bits bits) = 0
misfit_told Nothing = 0

-- 0 where nothing is refused; otherwise the number, that place, the channel and the group, in 8, 16, 16 and 24 bits
abbrev pub refusal_word : Checked → ℕ
refusal_word (Ok ok) = 0
refusal_word (Err refused) =
    let place = refused.place in
    number refused.why + 2 ^ 8 * misfit_told (told refused.why) + 2 ^ 24 * place.channel + 2 ^ 40 * place.group

unfoldable pub host_decode_refusal : List ℕ → ℕ → ℕ
host_decode_refusal file room = refusal_word (check_decode file then check_room file (room / 4))

unfoldable pub host_reencode_refusal : List ℕ → PcmSpec → List ℕ → ℕ → ℕ
host_reencode_refusal bytes spec template room = refusal_word (check_host_reencode bytes spec template room)
