-- The loop's invariant: the sum is that of the first i samples, and below the prime, so that no product wraps.
use Rattle.std.proofs.Common.{◌≡◌, ◌<◌, take}
use Rattle.replay_list.specs.Room.{sum_of}
use Rattle.replay_list.proofs.room.checksum.Given as goal

abbrev pub invariant-loop-i : goal.invariant-loop-i
invariant-loop-i g l =
    (l.sum < 4294967291)
    × (l.sum ≡ sum_of (take l.i (g.E.Stored.samples l.room)))
