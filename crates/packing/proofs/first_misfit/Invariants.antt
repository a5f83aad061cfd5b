-- The loop's invariant: the values before i are held, so that the first misfit is the first of those from i on.
use Rattle.packing.proofs.Widths.{FromHere}
use Rattle.packing.proofs.first_misfit.Given as goal

abbrev pub invariant-loop-i : goal.invariant-loop-i
invariant-loop-i l = FromHere l.values l.bits l.i
