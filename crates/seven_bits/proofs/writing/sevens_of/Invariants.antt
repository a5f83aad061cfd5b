-- The loop's invariant: k groups are written, zeros lie behind, and what is left makes the others, in ever fewer bits.
use Prim.Native.Nat.{◌-◌, ◌*◌, ◌^◌, ◌≤◌, ◌<◌}
use mathlib.Core.Path.{◌≡◌}
use mathlib.Core.List.{◌++◌}
use lib.ListN.{length, take, drop, replicate}
use Rattle.format.specs.SevenBits.{seven_in, seven}
use Rattle.seven_bits.proofs.writing.sevens_of.Given as goal

abbrev pub invariant-loop-rest : goal.invariant-loop-rest
invariant-loop-rest l =
    (l.k ≤ 4)
    × (length l.bytes ≡ 5)
    × (l.rest < 2 ^ (32 - 7 * l.k))
    × (seven l.n ≡ take l.k l.bytes ++ seven_in (4 - l.k) l.rest)
    × (drop l.k l.bytes ≡ drop l.k (replicate 5 0))

abbrev pub decreases-loop-rest : goal.decreases-loop-rest
decreases-loop-rest l = l.rest
