-- The loop's invariant: the groups before g have passed.
use mathlib.Core.Path.{◌≡◌}
use Rattle.format.specs.Header.{group_bytes}
use Rattle.format.specs.Refusals.{Fine, in_order}
use Rattle.format.specs.Places.{in_group}
use Rattle.format.specs.Encoding.{group_in}
use Rattle.format.specs.Reencoding.{check_reencode_group}
use Rattle.template.proofs.checking.check_groups.Given as goal

abbrev pub invariant-loop-g : goal.invariant-loop-g
invariant-loop-g g l =
    in_order (λ k. in_group k (check_reencode_group l.h.depth l.h.channels (group_bytes l.t l.h k) (group_in l.h.channels (g.E.Stored.samples l.samples) k))) l.g ≡ Fine
