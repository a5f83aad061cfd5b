-- The loop's invariant: no group before g has a frame that differs.
use mathlib.Core.Path.{◌≡◌}
use Rattle.format.specs.Refusals.{Fine, refuse, in_order}
use Rattle.format.specs.Places.{in_group}
use Rattle.format.specs.declared.refusals.Refusal.TheVariants.{ParityDiffers}
use Rattle.writer.proofs.Groups.{differs}
use Rattle.writer.proofs.checking.check_parity.Given as goal

abbrev pub invariant-loop-g : goal.invariant-loop-g
invariant-loop-g g l = in_order (λ k. in_group k (refuse (differs (g.E.Stored.samples l.samples) k) ParityDiffers)) l.g ≡ Fine
