-- The loop's invariant: i pairs are put one behind another, what is left begins with the next one, and nothing else has
-- changed.
use Prim.Native.Nat.{◌+◌}
use mathlib.Core.Path.{◌≡◌}
use Rattle.format.specs.Lists.{over}
use Rattle.format.specs.Peaks.{from_pair, pairs_from}
use Rattle.summary.proofs.putting.put_pairs.Given as goal

abbrev pub invariant-loop-i : goal.invariant-loop-i
invariant-loop-i g l =
    let e = g.E.Stored in
    record {
      pairs : l.pairs ≡ from_pair l.s (l.k + l.i);
      puts : e.samples l.lent ≡ over (pairs_from l.s l.k l.i) (e.samples l.initial.lent);
      keeps : e.rest l.lent ≡ e.rest l.initial.lent;
    }
