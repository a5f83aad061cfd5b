-- What reading a file, some of its frames, or the pairs of a summary leaves in a room that is filled before and changed
-- at a place after, and when that is as recorded.
use Rattle.std.specs.Prelude.{ℕ, Bool, true, ◌&&◌, List, length, ℤ, eqb}
use Rattle.format.specs.Decoding.{decode_of, decode_into}
use Rattle.format.specs.FewFrames.{read_frames_of, read_frames_into}
use Rattle.format.specs.Peaks.{read_peak_of, read_peak_into, read_peaks_of, read_peaks_into}
use Rattle.format.specs.Boundary.{host_decode, host_decode_into, host_decode_refusal, host_read_frames}
use Rattle.format.specs.Boundary.{host_read_frames_into}
use Rattle.format.specs.Boundary.{host_peak, host_peak_into, host_peaks_all, host_peaks_all_into}
use Rattle.replay_list.specs.Room.{marked, spoiled_at}
use Rattle.replay_list.specs.Said.{said_by, said_by_host, word_of, is_recorded}
use Rattle.replay_list.specs.Bytes.{marked_bytes, spoiled_bytes, is_answered}
use Rattle.replay_list.specs.declared.answers.Recorded.{Recorded}
use Rattle.replay_list.specs.declared.answers.Said.{Said}
use Rattle.replay_reading.specs.declared.Way.{Way}
use Rattle.replay_reading.specs.declared.Way.TheVariants.{Decode, Range, Pair, Pairs}

-- ---- what a call says and leaves in its room, by the way: decoding the whole file, or reading some frames; where the
-- bytes are a summary's, reading the pair of a group and a channel, or all pairs

-- the entry, given so many samples of room
abbrev pub entry_says : Way → List ℕ → ℕ → Said
entry_says Decode file room = said_by (decode_of file room)
entry_says (Range first count) file room = said_by (read_frames_of file first count room)
entry_says (Pair g c) file room = said_by (read_peak_of file g c room)
entry_says Pairs file room = said_by (read_peaks_of file room)

abbrev pub entry_puts : Way → List ℕ → List ℤ → List ℤ
entry_puts Decode file room = decode_into file room
entry_puts (Range first count) file room = read_frames_into file first count room
entry_puts (Pair g c) file room = read_peak_into file g c room
entry_puts Pairs file room = read_peaks_into file room

-- the host boundary, given so many bytes
abbrev pub host_says : Way → List ℕ → Recorded → ℕ → Said
host_says Decode file want room = said_by_host (host_decode file room) want
host_says (Range first count) file want room = said_by_host (host_read_frames file first count room) want
host_says (Pair g c) file want room = said_by_host (host_peak file g c room) want
host_says Pairs file want room = said_by_host (host_peaks_all file room) want

abbrev pub host_puts : Way → List ℕ → List ℕ → List ℕ
host_puts Decode file room = host_decode_into file room
host_puts (Range first count) file room = host_read_frames_into file first count room
host_puts (Pair g c) file room = host_peak_into file g c room
host_puts Pairs file room = host_peaks_all_into file room

-- it tells what it refuses in so many bytes of room, and where, as recorded; of frames and of pairs it tells no more
-- than its number, and that counts as recorded
abbrev pub host_tells : Way → List ℕ → ℕ → Recorded → Bool
host_tells Decode file room want = eqb (host_decode_refusal file room) (word_of want)
host_tells (Range first count) file room want = true
host_tells (Pair g c) file room want = true
host_tells Pairs file room want = true

-- ---- the entry reads into a room of samples

-- it answers as recorded
abbrev pub entry_reads : Way → List ℕ → ℕ → Recorded → List ℤ → Bool
entry_reads way file spoiled want room =
    let lent = marked (length room) in
    is_recorded (entry_says way file (length lent)) want (spoiled_at spoiled (entry_puts way file lent))

-- what is in the room then
abbrev pub left_by_entry : Way → List ℕ → ℕ → List ℤ → List ℤ
left_by_entry way file spoiled room = spoiled_at spoiled (entry_puts way file (marked (length room)))

-- ---- the host boundary reads into a room of bytes

-- it answers as recorded, and tells what it refuses
abbrev pub host_reads : Way → List ℕ → ℕ → Recorded → List ℕ → Bool
host_reads way file spoiled want room =
    let lent = marked_bytes room in
    let said = host_says way file want (length lent) in
    is_answered said (host_puts way file lent) spoiled want && host_tells way file (length room) want

-- what is in the room then
abbrev pub left_by_host : Way → List ℕ → ℕ → List ℕ → List ℕ
left_by_host way file spoiled room = spoiled_bytes spoiled (host_puts way file (marked_bytes room))

-- ---- both do, each in a room of its own

abbrev pub both_read : Way → List ℕ → ℕ → Recorded → List ℤ → List ℕ → Bool
both_read way file spoiled want words bytes =
    entry_reads way file spoiled want words && host_reads way file spoiled want bytes
