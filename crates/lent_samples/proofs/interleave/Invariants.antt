-- The loop's invariant: k frames are put, and nothing else has changed.
use mathlib.Core.Path.{◌≡◌}
use Prim.Native.Nat.{◌*◌}
use Rattle.lent_samples.specs.Lent.{placed, woven_from}
use Rattle.lent_samples.proofs.interleave.Given as goal

abbrev pub invariant-loop-k : goal.invariant-loop-k
invariant-loop-k g l =
    let e = g.E.Stored in
    record {
      puts : e.samples l.lent ≡ placed (l.part.first * 2) (woven_from l.part.skip l.k l.a) (e.samples l.initial.lent);
      keeps : e.rest l.lent ≡ e.rest l.initial.lent;
    }
