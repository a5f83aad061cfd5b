-- The loop's invariant: the pairs before i are mid and side, those from i on left and right, of equal parity.
use Prim.Native.Nat.{◌≤◌}
use Rattle.format.specs.Encoding.{mid, side}
use Rattle.stereo.proofs.Pairs.{Split}
use Rattle.stereo.proofs.Rows.{YetEven}
use Rattle.stereo.proofs.mid_side.Given as goal

abbrev pub invariant-loop-i : goal.invariant-loop-i
invariant-loop-i l =
    (l.i ≤ 512)
    × Split mid side 512 l.initial.m l.m l.i
    × YetEven 512 l.m l.i
