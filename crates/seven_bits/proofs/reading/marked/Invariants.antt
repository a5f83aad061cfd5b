-- The loop's invariant: k bytes are passed, all with the high bit set, and those in front of the rest make up the count.
use Prim.Native.Nat.{◌+◌, ◌-◌}
use mathlib.Core.Path.{◌≡◌}
use lib.ListN.{drop}
use Rattle.format.specs.SevenBits.{marked}
use Rattle.seven_bits.proofs.reading.marked.Given as goal

abbrev pub invariant-loop-k : goal.invariant-loop-k
invariant-loop-k l = l.k + marked (4 - l.k) (drop l.k l.s) ≡ marked 4 l.s
