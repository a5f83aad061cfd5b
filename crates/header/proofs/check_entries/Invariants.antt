-- The loop's invariant: no entry below k is bad.
use mathlib.Core.Path.{◌≡◌}
use Rattle.format.specs.Refusals.{Fine, refuse, in_order}
use Rattle.format.specs.Places.{in_group}
use Rattle.format.specs.Opening.{bad_entry}
use Rattle.format.specs.declared.refusals.Refusal.TheVariants.{EntryBounds}
use Rattle.header.proofs.check_entries.Given as goal

abbrev pub invariant-loop-k : goal.invariant-loop-k
invariant-loop-k l = in_order (λ k. in_group k (refuse (bad_entry l.s l.h k) EntryBounds)) l.k ≡ Fine
