-- The loop's invariant: what is left begins with pair i.
use mathlib.Core.Path.{◌≡◌}
use Rattle.format.specs.Peaks.{from_pair}
use Rattle.summary.proofs.putting.from_pair.Given as goal

abbrev pub invariant-loop : goal.invariant-loop
invariant-loop l = l.pairs ≡ from_pair l.s l.counter
