-- The loop's invariant: the pairs before i are left and right, those from i on mid and side.
use Prim.Native.Nat.{◌≤◌}
use Rattle.format.specs.MidSide.{left, right}
use Rattle.stereo.proofs.Pairs.{Split}
use Rattle.stereo.proofs.left_right.Given as goal

abbrev pub invariant-loop-i : goal.invariant-loop-i
invariant-loop-i l =
    (l.i ≤ 512)
    × Split (left l.format) (right l.format) 512 l.initial.d l.d l.i
