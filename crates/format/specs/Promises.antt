-- Document 01, "What the promises are held to": what each public function promises of its answer and of what it leaves
-- in lent memory. `lent` is what it is lent, `after` what that then holds.
use Rattle.std.specs.Prelude.{ℕ, ◌≡◌, List, length, ℤ}
use Rattle.format.specs.Opening.{open_of}
use Rattle.format.specs.Decoding.{decode_of, decode_into}
use Rattle.format.specs.Walking.{step_of, next_of, step_into}
use Rattle.format.specs.FewFrames.{read_frames_of, read_frames_into}
use Rattle.format.specs.Peaks.{build_peaks_of, build_peaks_into, compare_peaks_of}
use Rattle.format.specs.Peaks.{read_peak_of, read_peak_into, read_peaks_of, read_peaks_into}
use Rattle.format.specs.Encoding.{encode_of, encode_into}
use Rattle.format.specs.Reencoding.{reencode_of, reencode_into}
use Rattle.format.specs.Boundary.{host_open, host_decode, host_decode_into, host_read_frames, host_read_frames_into}
use Rattle.format.specs.Boundary.{host_peaks, host_peak, host_peak_into, host_peaks_all, host_peaks_all_into}
use Rattle.format.specs.Boundary.{host_peaks_check, host_encode, host_encode_into}
use Rattle.format.specs.Boundary.{host_reencode, host_reencode_into, host_decode_refusal, host_reencode_refusal}
use Rattle.format.specs.declared.units.Frames.{Frames}
use Rattle.format.specs.declared.settings.PcmSpec.{PcmSpec}
use Rattle.format.specs.declared.settings.StereoMode.{StereoMode}
use Rattle.format.specs.declared.answers.Answer.{Answer}

-- ------------------------------------------------------------------------------------------------------------------

-- opening the file
abbrev pub Opens : List ℕ → Answer → Type 0
Opens file answer = answer ≡ open_of file

-- decoding the file
abbrev pub Decodes : List ℕ → List ℤ → Answer → List ℤ → Type 0
Decodes file lent answer after = (answer ≡ decode_of file (length lent)) × (after ≡ decode_into file lent)

-- group g of it alone
abbrev pub Steps : List ℕ → ℕ → List ℤ → Answer → List ℤ → Type 0
Steps file g lent answer after = (answer ≡ step_of file g (length lent)) × (after ≡ step_into file g lent)

-- a step of a walk that stands at group g, which leaves it at `next`
abbrev pub Advances : List ℕ → ℕ → List ℤ → Answer → List ℤ → ℕ → Type 0
Advances file g lent answer after next = Steps file g lent answer after × (next ≡ next_of file g (length lent))

-- reading so many of its frames, from the frame `first` on
abbrev pub ReadsFrames : List ℕ → Frames → Frames → List ℤ → Answer → List ℤ → Type 0
ReadsFrames file first count lent answer after =
    (answer ≡ read_frames_of file first count (length lent)) × (after ≡ read_frames_into file first count lent)

-- building its summary
abbrev pub BuildsPeaks : List ℕ → List ℕ → Answer → List ℕ → Type 0
BuildsPeaks file lent answer after =
    (answer ≡ build_peaks_of file (length lent)) × (after ≡ build_peaks_into file lent)

-- checking a summary against the file
abbrev pub ComparesPeaks : List ℕ → List ℕ → Answer → Type 0
ComparesPeaks summary file answer = answer ≡ compare_peaks_of summary file

-- reading a summary for group g and channel c
abbrev pub ReadsPeak : List ℕ → ℕ → ℕ → List ℤ → Answer → List ℤ → Type 0
ReadsPeak summary g c lent answer after =
    (answer ≡ read_peak_of summary g c (length lent)) × (after ≡ read_peak_into summary g c lent)

-- for all of them
abbrev pub ReadsPeaks : List ℕ → List ℤ → Answer → List ℤ → Type 0
ReadsPeaks summary lent answer after =
    (answer ≡ read_peaks_of summary (length lent)) × (after ≡ read_peaks_into summary lent)

-- encoding the samples with the settings
abbrev pub Encodes : PcmSpec → StereoMode → List ℤ → List ℕ → Answer → List ℕ → Type 0
Encodes spec mode samples lent answer after =
    (answer ≡ encode_of spec mode samples (length lent)) × (after ≡ encode_into spec mode samples lent)

-- re-encoding them with the template
abbrev pub Reencodes : PcmSpec → List ℤ → List ℕ → List ℕ → Answer → List ℕ → Type 0
Reencodes spec samples template lent answer after =
    (answer ≡ reencode_of spec samples template (length lent)) × (after ≡ reencode_into spec samples template lent)

-- ---- the host boundary: the answer is a number, samples are bytes, and a mode is its word

abbrev pub HostOpens : List ℕ → ℕ → Type 0
HostOpens file answer = answer ≡ host_open file

abbrev pub HostDecodes : List ℕ → List ℕ → ℕ → List ℕ → Type 0
HostDecodes file lent answer after = (answer ≡ host_decode file (length lent)) × (after ≡ host_decode_into file lent)

abbrev pub HostReadsFrames : List ℕ → Frames → Frames → List ℕ → ℕ → List ℕ → Type 0
HostReadsFrames file first count lent answer after =
    (answer ≡ host_read_frames file first count (length lent)) × (after ≡ host_read_frames_into file first count lent)

abbrev pub HostBuildsPeaks : List ℕ → List ℕ → ℕ → List ℕ → Type 0
HostBuildsPeaks file lent answer after =
    (answer ≡ host_peaks file (length lent)) × (after ≡ build_peaks_into file lent)

abbrev pub HostComparesPeaks : List ℕ → List ℕ → ℕ → Type 0
HostComparesPeaks summary file answer = answer ≡ host_peaks_check summary file

abbrev pub HostReadsPeak : List ℕ → ℕ → ℕ → List ℕ → ℕ → List ℕ → Type 0
HostReadsPeak summary g c lent answer after =
    (answer ≡ host_peak summary g c (length lent)) × (after ≡ host_peak_into summary g c lent)

abbrev pub HostReadsPeaks : List ℕ → List ℕ → ℕ → List ℕ → Type 0
HostReadsPeaks summary lent answer after =
    (answer ≡ host_peaks_all summary (length lent)) × (after ≡ host_peaks_all_into summary lent)

abbrev pub HostEncodes : List ℕ → PcmSpec → ℕ → List ℕ → ℕ → List ℕ → Type 0
HostEncodes bytes spec word lent answer after =
    (answer ≡ host_encode bytes spec word (length lent)) × (after ≡ host_encode_into bytes spec word lent)

abbrev pub HostReencodes : List ℕ → PcmSpec → List ℕ → List ℕ → ℕ → List ℕ → Type 0
HostReencodes bytes spec template lent answer after =
    (answer ≡ host_reencode bytes spec template (length lent)) × (after ≡ host_reencode_into bytes spec template lent)

-- what these two would refuse in so much room, and where
abbrev pub HostDecodeRefuses : List ℕ → ℕ → ℕ → Type 0
HostDecodeRefuses file room answer = answer ≡ host_decode_refusal file room

abbrev pub HostReencodeRefuses : List ℕ → PcmSpec → List ℕ → ℕ → ℕ → Type 0
HostReencodeRefuses bytes spec template room answer = answer ≡ host_reencode_refusal bytes spec template room
