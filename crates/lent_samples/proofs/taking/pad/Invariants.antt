-- The loop's invariant: up to k it is padded.
use mathlib.Core.Path.{◌≡◌}
use mathlib.Core.List.{◌++◌}
use Prim.Native.Nat.{◌-◌}
use lib.ListN.{length, take, replicate}
use Rattle.lent_samples.proofs.taking.pad.Given as goal

abbrev pub invariant-loop-k : goal.invariant-loop-k
invariant-loop-k l =
    record {
      long : length l.out ≡ 512;
      padded : take l.k l.out ≡ take l.n l.initial.out ++ replicate (l.k - l.n) l.last;
    }
