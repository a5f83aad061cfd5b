-- When what opening answers is what was recorded.
use Rattle.std.specs.Prelude.{ℕ, ◌+◌, ◌*◌, ◌^◌, Bool, false, ◌&&◌, List, eqb}
use Rattle.format.specs.Opening.{open_of}
use Rattle.format.specs.Boundary.{host_open}
use Rattle.format.specs.Units.{bits_in}
use Rattle.format.specs.declared.settings.SampleFormat.{SampleFormat}
use Rattle.format.specs.declared.settings.SampleFormat.TheVariants.{Pcm, Float}
use Rattle.format.specs.declared.answers.Header.{Header}
use Rattle.format.specs.declared.answers.Outcome.{Outcome}
use Rattle.format.specs.declared.answers.Outcome.TheVariants as outcome
use Rattle.replay_list.specs.Said.{said_by, is_said}
use Rattle.replay_list.specs.declared.answers.Recorded.{Recorded}
use Rattle.replay_list.specs.declared.answers.Said.{Said}
use Rattle.replay_list.specs.declared.answers.Verdict.{Verdict}
use Rattle.replay_reading.specs.declared.Opened.{Opened}
use Rattle.replay_reading.specs.declared.RecordedOpening.{RecordedOpening}
use Rattle.replay_reading.specs.declared.RecordedOpening.TheVariants.{Opens, Refuses}

-- the number of a sample format in the list
abbrev pub number_of : SampleFormat → ℕ
number_of Pcm = 0
number_of Float = 1

-- every number of the header is the recorded one
unfoldable pub is_header : Header → Opened → Bool
is_header h want =
    eqb h.channels want.channels
    && eqb h.rate want.rate
    && eqb h.frames.0 want.frames
    && eqb h.table want.table
    && eqb h.start want.start
    && eqb h.size want.size
    && eqb h.groups want.groups
    && eqb (bits_in h.depth) want.depth
    && eqb (number_of h.format) want.format

-- the file opens, with that header
abbrev pub is_opened : Outcome → Opened → Bool
is_opened (outcome.Opened h) want = is_header h want
is_opened (outcome.Read n) want = false
is_opened outcome.Finished want = false
is_opened (outcome.Wrote n) want = false
is_opened (outcome.Refused r) want = false
is_opened outcome.Matches want = false
is_opened outcome.Differs want = false

-- the host boundary's number is what decoding would write: 4 bytes for each sample
unfoldable pub is_length : ℕ → Opened → Bool
is_length result want = eqb result (4 * (want.frames * want.channels))

-- that refusal was said, and the host boundary's number is 2 ^ 63 more than the refusal's
unfoldable pub is_refused : Said → ℕ → Recorded → Bool
is_refused said result want = is_said said want && eqb result (2 ^ 63 + want.number)

-- ---- opening, asked of the entry and of the host boundary

-- both answer as recorded
abbrev pub both_open : List ℕ → RecordedOpening → Bool
both_open file (Opens want) = is_opened (open_of file).outcome want && is_length (host_open file) want
both_open file (Refuses want) = is_refused (said_by (open_of file)) (host_open file) want

-- the number that was recorded: 0 where the file opens
abbrev pub opening_number : RecordedOpening → ℕ
opening_number (Opens want) = 0
opening_number (Refuses want) = want.number

-- that, and nothing is written
abbrev pub opening_verdict : List ℕ → RecordedOpening → Verdict
opening_verdict file want = record { is_same = both_open file want; number = opening_number want; length = 0 }
