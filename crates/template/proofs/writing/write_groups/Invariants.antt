-- The loop's invariant: the first g groups lie in their places.
use mathlib.Core.Path.{◌≡◌}
use Rattle.template.proofs.Filling.{laid}
use Rattle.template.proofs.writing.write_groups.Given as goal

abbrev pub invariant-loop-g : goal.invariant-loop-g
invariant-loop-g g l = l.out ≡ laid (g.E.Stored.samples l.samples) l.t l.initial.out l.g
