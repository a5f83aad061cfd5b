-- The loop's invariant: i numbers lie at the front of the part, and the state and the last number are theirs.
use Rattle.std.proofs.Common.{◌≡◌}
use Rattle.format.specs.Lists.{over}
use Rattle.replay_list.specs.Drawn.{state_at, number_at, drawn}
use Rattle.replay_list.proofs.drawing.fill.Given as goal

abbrev pub invariant-loop-i : goal.invariant-loop-i
invariant-loop-i l =
    (l.x ≡ state_at l.fn.d l.i)
    × (l.number ≡ number_at l.fn.d l.i)
    × (l.part ≡ over (drawn l.fn.d l.i) l.initial.part)
