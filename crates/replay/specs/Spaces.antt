-- What is kept of a room at the start of a space.
use Rattle.std.specs.Prelude.{ℕ, cond, List, length, take, nat_le}
use Rattle.format.specs.Lists.{over}

-- the first n bytes of the room, where the space holds them; otherwise the space stays as it is
unfoldable pub kept : List ℕ → List ℕ → ℕ → List ℕ
kept space room n =
    let run = take n room in
    cond (nat_le (length run) (length space)) (over run space) space
