-- A room of bytes, four to a sample: filled, and changed at a place. What lies behind its last whole sample stays.
use Rattle.std.specs.Prelude.{ℕ, ◌/◌, Bool, List, length}
use Rattle.format.specs.Lists.{over}
use Rattle.format.specs.Boundary.{samples_from, sample_bytes}
use Rattle.replay_list.specs.Room.{marked, spoiled_at}
use Rattle.replay_list.specs.Said.{is_recorded}
use Rattle.replay_list.specs.declared.answers.Recorded.{Recorded}
use Rattle.replay_list.specs.declared.answers.Said.{Said}

-- the room, filled
unfoldable pub marked_bytes : List ℕ → List ℕ
marked_bytes room = over (sample_bytes (marked (length room / 4))) room

-- the room with another sample at a place; past its end nothing changes
unfoldable pub spoiled_bytes : ℕ → List ℕ → List ℕ
spoiled_bytes place room = over (sample_bytes (spoiled_at place (samples_from room))) room

-- a call said this and wrote that into the room, which is then changed at a place: that is as recorded
abbrev pub is_answered : Said → List ℕ → ℕ → Recorded → Bool
is_answered said written spoiled want = is_recorded said want (samples_from (spoiled_bytes spoiled written))
