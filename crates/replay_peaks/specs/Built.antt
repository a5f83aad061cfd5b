-- What building a summary leaves in a room that is filled before and changed at a place after, and when that is as
-- recorded.
use Rattle.std.specs.Prelude.{ℕ, Bool, ◌&&◌, List, length}
use Rattle.format.specs.Peaks.{build_peaks_of, build_peaks_into}
use Rattle.format.specs.Boundary.{host_peaks}
use Rattle.replay_list.specs.Said.{said_by, said_by_host}
use Rattle.replay_list.specs.Bytes.{marked_bytes, spoiled_bytes, is_answered}
use Rattle.replay_list.specs.declared.answers.Recorded.{Recorded}

-- the entry answers as recorded
abbrev pub entry_builds : List ℕ → ℕ → Recorded → List ℕ → Bool
entry_builds file spoiled want room =
    let lent = marked_bytes room in
    is_answered (said_by (build_peaks_of file (length lent))) (build_peaks_into file lent) spoiled want

-- the host boundary does
abbrev pub host_builds : List ℕ → ℕ → Recorded → List ℕ → Bool
host_builds file spoiled want room =
    let lent = marked_bytes room in
    is_answered (said_by_host (host_peaks file (length lent)) want) (build_peaks_into file lent) spoiled want

-- what is in the room then, of either
abbrev pub left_built : List ℕ → ℕ → List ℕ → List ℕ
left_built file spoiled room = spoiled_bytes spoiled (build_peaks_into file (marked_bytes room))

-- both do, one after the other in one room
abbrev pub both_build : List ℕ → ℕ → Recorded → List ℕ → Bool
both_build file spoiled want room =
    entry_builds file spoiled want room && host_builds file spoiled want (left_built file spoiled room)
