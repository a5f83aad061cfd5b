-- The loop's invariant: the value is what lies from group k on.
use Prim.Native.Nat.{◌≤◌}
use mathlib.Core.Path.{◌≡◌}
use lib.ListN.{drop}
use Rattle.format.specs.Numbers.{num}
use Rattle.format.specs.SevenBits.{seven_length}
use Rattle.seven_bits.proofs.Laws.{lows}
use Rattle.seven_bits.proofs.reading.number_at.Given as goal

abbrev pub invariant-loop-k : goal.invariant-loop-k
invariant-loop-k l = (l.k ≤ seven_length l.s) × (l.value ≡ num 128 (drop l.k (lows l.s)))
