-- The loop's invariant: what is left begins with pair k, and the first k have passed their checks.
use mathlib.Core.Path.{◌≡◌}
use Rattle.format.specs.Refusals.{Fine, in_order}
use Rattle.format.specs.Peaks.{from_pair, check_pair}
use Rattle.summary.proofs.checking.check_pairs.Given as goal

abbrev pub invariant-loop : goal.invariant-loop
invariant-loop l =
    let k = l.counter in
    (l.pairs ≡ from_pair l.s k) × (in_order (λ k'. check_pair (from_pair l.s k')) k ≡ Fine)
