-- The loop's invariant: what was found so far, and the samples from i on, decide for all.
use mathlib.Core.Path.{◌≡◌}
use mathlib.Core.Bool.{◌&&◌}
use lib.ListN.{drop}
use Rattle.format.specs.Lists.{every}
use Rattle.lent_samples.proofs.Taken.{between}
use Rattle.lent_samples.proofs.taking.all_within.Given as goal

abbrev pub invariant-loop-i : goal.invariant-loop-i
invariant-loop-i g l =
    let p = between l.lowest l.highest in
    let s = g.E.Stored.samples l.lent in
    (l.ok && every p (drop l.i s)) ≡ every p s
