-- The loop's invariant: channel c's block begins at `at`, and the new ones before it are written.
use mathlib.Core.Path.{◌≡◌}
use lib.ListN.{length}
use Rattle.format.specs.Lists.{over}
use Rattle.group.proofs.Places.{Begins}
use Rattle.reencode_group.proofs.Writing.{new_before}
use Rattle.reencode_group.proofs.reencode_channels.Given as goal

abbrev pub invariant-loop-c : goal.invariant-loop-c
invariant-loop-c l = record {
  begins : Begins l.depth l.bs l.c l.at;
  so_far : l.at ≡ length (new_before l.depth l.n l.bs l.a l.c);
  written : l.out ≡ over (new_before l.depth l.n l.bs l.a l.c) l.initial.out;
}
