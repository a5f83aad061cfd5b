-- The loop's invariant: the first 2 * i samples are stored, x is the next, and the cursor stands at its difference.
use Rattle.std.proofs.Common.{◌≡◌, ◌*◌, length}
use Rattle.format.specs.Packed.{values}
use Rattle.block.proofs.Sweeps.{Summed}
use Rattle.block.proofs.rebuild.Given as goal

abbrev pub invariant-loop-i : goal.invariant-loop-i
invariant-loop-i l =
    (length l.out ≡ 512)
    × (l.cursor.bit ≡ l.bits * (2 * l.i))
    × Summed l.base (values l.bits l.run) l.out l.x (2 * l.i)
