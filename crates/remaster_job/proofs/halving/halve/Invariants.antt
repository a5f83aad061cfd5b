-- The loop's invariant: the first i are halved.
use Rattle.std.proofs.Common.{◌≡◌}
use Rattle.remaster_job.proofs.Halves.{so_far}
use Rattle.remaster_job.proofs.halving.halve.Given as goal

abbrev pub invariant-loop-i : goal.invariant-loop-i
invariant-loop-i l = l.new ≡ so_far l.old l.initial.new l.i
