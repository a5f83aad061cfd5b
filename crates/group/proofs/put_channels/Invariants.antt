-- The loop's invariant: `at` is where channel c's block begins, the channels before it are put, and nothing else has changed.
use mathlib.Core.Path.{◌≡◌}
use Rattle.format.specs.Decoding.{coded}
use Rattle.lent_samples.proofs.Weave.{channels_put}
use Rattle.group.proofs.Places.{Begins}
use Rattle.group.proofs.put_channels.Given as goal

abbrev pub invariant-loop-c : goal.invariant-loop-c
invariant-loop-c g l =
    let e = g.E.Stored in
    record {
      begins : Begins l.h.depth l.bs l.c l.at;
      puts : e.samples l.lent ≡ channels_put l.part.first l.part.skip l.part.count l.h.channels (coded l.h.depth l.h.channels l.bs) l.c (e.samples l.initial.lent);
      keeps : e.rest l.lent ≡ e.rest l.initial.lent;
    }
