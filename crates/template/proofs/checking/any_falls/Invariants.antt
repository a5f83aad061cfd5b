-- The loop's invariant: no entry before k falls.
use mathlib.Core.Path.{◌≡◌}
use mathlib.Core.Bool.{false}
use Rattle.format.specs.Lists.{any_below}
use Rattle.template.proofs.Stages.{falls}
use Rattle.template.proofs.checking.any_falls.Given as goal

abbrev pub invariant-loop-k : goal.invariant-loop-k
invariant-loop-k l = any_below (falls l.t l.h) l.k ≡ false
