-- The loop's invariant: the channels before c have passed, and the next block begins at `at`.
use mathlib.Core.Path.{◌≡◌}
use Rattle.format.specs.Refusals.{Fine, in_order}
use Rattle.group.proofs.Places.{Begins}
use Rattle.reencode_group.proofs.Checking.{first_of, each_in}
use Rattle.reencode_group.proofs.check_channels.Given as goal

abbrev pub invariant-loop-c : goal.invariant-loop-c
invariant-loop-c l = record {
  begins : Begins l.depth l.bs l.c l.at;
  passed : in_order (each_in l.depth (first_of l.depth l.n l.a) l.bs) l.c ≡ Fine;
}
