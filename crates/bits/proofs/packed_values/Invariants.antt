-- The loop's invariant: the first 2 * i values are stored, and the cursor stands at the next one's code.
use Rattle.std.proofs.Common.{◌≡◌, ◌*◌, length}
use Rattle.bits.proofs.Run.{Done}
use Rattle.bits.proofs.packed_values.Given as goal

abbrev pub invariant-loop-i : goal.invariant-loop-i
invariant-loop-i l =
    (length l.out ≡ 512)
    × (l.cursor.bit ≡ l.bits * (2 * l.i))
    × Done l.bits l.run l.out (2 * l.i)
