-- The loop's invariant: `size` is the length of the groups before g, so it stays far below 2^53.
use Prim.Native.Nat.{◌*◌, ◌≤◌}
use mathlib.Core.Path.{◌≡◌}
use lib.ListN.{length}
use Rattle.format.specs.Lists.{joined}
use Rattle.format.specs.Encoding.{encoded_group_at}
use Rattle.writer.proofs.sizing.data_size.Given as goal

abbrev pub invariant-loop-g : goal.invariant-loop-g
invariant-loop-g g l =
    (l.size ≡ length (joined (encoded_group_at l.p l.mode (g.E.Stored.samples l.samples)) l.g))
    × (l.size ≤ 135266304 * l.g)
