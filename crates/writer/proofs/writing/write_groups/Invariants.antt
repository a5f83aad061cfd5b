-- The loop's invariant: the first g entries and groups lie in their places, and `at` is where group g begins.
use Prim.Native.Nat.{◌≤◌}
use mathlib.Core.Path.{◌≡◌}
use lib.ListN.{length}
use Rattle.format.specs.Lists.{joined}
use Rattle.format.specs.Header.{groups_of}
use Rattle.format.specs.Encoding.{encoded_group_at}
use Rattle.writer.proofs.Filling.{laid}
use Rattle.writer.proofs.writing.write_groups.Given as goal

abbrev pub invariant-loop-g : goal.invariant-loop-g
invariant-loop-g g l =
    (l.at ≡ length (joined (encoded_group_at l.p l.mode (g.E.Stored.samples l.samples)) l.g))
    × (l.at ≤ length (joined (encoded_group_at l.p l.mode (g.E.Stored.samples l.samples)) (groups_of l.frames)))
    × (l.out ≡ laid (encoded_group_at l.p l.mode (g.E.Stored.samples l.samples)) l.initial.out l.groups l.g l.g)
