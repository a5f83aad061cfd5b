-- The loop's invariant: k elements of the run lie at their places, and nothing else has changed.
use mathlib.Core.Path.{◌≡◌}
use Rattle.lent_samples.specs.Lent.{channel_put}
use Rattle.lent_samples.proofs.put_strided.Given as goal

abbrev pub invariant-loop-k : goal.invariant-loop-k
invariant-loop-k g l =
    let e = g.E.Stored in
    record {
      puts : e.samples l.lent ≡ channel_put (record { first = l.part.first; skip = l.part.skip; count = l.k }) l.channels l.c l.run (e.samples l.initial.lent);
      keeps : e.rest l.lent ≡ e.rest l.initial.lent;
    }
