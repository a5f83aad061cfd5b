-- The loop's invariant: with m in place of the values before the turn's the same widths hold all; m has 31 bits at most.
use Rattle.std.proofs.Common.{◌^◌, ◌<◌}
use Rattle.packing.proofs.Widths.{SoFar}
use Rattle.packing.proofs.folded_bits.Given as goal

abbrev pub invariant-loop-x : goal.invariant-loop-x
invariant-loop-x l = (l.m < 2 ^ 31) × SoFar l.values l.m l.x-index
