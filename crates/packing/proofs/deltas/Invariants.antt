-- The loop's invariant: the differences before i are stored, and the last, which no turn stores, is 0.
use Rattle.packing.proofs.Sweeps.{Stored}
use Rattle.packing.proofs.deltas.Given as goal

abbrev pub invariant-loop-i : goal.invariant-loop-i
invariant-loop-i l = Stored l.values 511 l.out l.i
