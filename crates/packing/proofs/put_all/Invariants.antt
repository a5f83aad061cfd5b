-- The loop's invariant: the codes of the values before the turn's are put, and the run is still bytes, as many as before.
use Rattle.std.proofs.Common.{◌≡◌, ◌*◌, length}
use Rattle.format.specs.Numbers.{Below}
use Rattle.packing.proofs.Run.{Done}
use Rattle.packing.proofs.put_all.Given as goal

abbrev pub invariant-loop-x : goal.invariant-loop-x
invariant-loop-x l =
    (length l.run ≡ 64 * l.bits)
    × Below 256 l.run
    × Done l.bits l.fn.values l.run l.cursor l.x-index
