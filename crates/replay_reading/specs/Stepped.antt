-- What a step of a walk leaves in a room that is filled before and changed at a place after; when it is as recorded.
use Rattle.std.specs.Prelude.{ℕ, Bool, ◌&&◌, List, length, ℤ, eqb}
use Rattle.format.specs.Walking.{step_of, step_into, next_of}
use Rattle.replay_list.specs.Room.{marked, spoiled_at}
use Rattle.replay_list.specs.Said.{said_by, is_recorded}
use Rattle.replay_list.specs.declared.answers.Recorded.{Recorded}

-- what a step of a walk that stands at a group leaves there
abbrev pub stepped_words : List ℕ → ℕ → ℕ → List ℤ → List ℤ
stepped_words file group spoiled room = spoiled_at spoiled (step_into file group (marked (length room)))

-- it answers as recorded, and after it the walk stands at the recorded group
abbrev pub steps_to : List ℕ → ℕ → ℕ → Recorded → ℕ → List ℤ → Bool
steps_to file group spoiled want next room =
    let many = length (marked (length room)) in
    is_recorded (said_by (step_of file group many)) want (stepped_words file group spoiled room)
    && eqb (next_of file group many) next
