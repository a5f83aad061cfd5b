-- The loop's invariant: the places from `start` to i have their marks, so that those from i on decide.
use Rattle.std.proofs.Common.{◌≡◌}
use Rattle.replay_list.specs.Room.{is_kept}
use Rattle.replay_list.proofs.room.is_kept.Given as goal

abbrev pub invariant-loop-i : goal.invariant-loop-i
invariant-loop-i g l =
    let s = g.E.Stored.samples l.room in
    is_kept l.i s ≡ is_kept l.start s
