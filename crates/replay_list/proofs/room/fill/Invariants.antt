-- The loop's invariant: as many samples are lent as before, below i each is its place's mark, and the rest stays.
use Rattle.std.proofs.Common.{◌≡◌, ℕ, ◌<◌, length, slice_index_or, pos}
use Rattle.replay_list.specs.Room.{mark_of}
use Rattle.replay_list.proofs.room.fill.Given as goal

abbrev pub invariant-loop-i : goal.invariant-loop-i
invariant-loop-i g l =
    let s = g.E.Stored.samples l.room in
    (length s ≡ length (g.E.Stored.samples l.initial.room))
    × ((k : ℕ) → k < l.i → slice_index_or s k (pos 0) ≡ mark_of k)
    × (g.E.Stored.rest l.room ≡ g.E.Stored.rest l.initial.room)
