-- The loop's invariant: the blocks before channel c are written, up to `at`.
use mathlib.Core.Path.{◌≡◌}
use lib.ListN.{length}
use Rattle.format.specs.Lists.{over}
use Rattle.lent_samples.specs.Lent.{frames_from}
use Rattle.encode_group.proofs.Blocks.{blocks_before}
use Rattle.encode_group.proofs.encode_channels.Given as goal

abbrev pub invariant-loop-c : goal.invariant-loop-c
invariant-loop-c g l =
    (l.at ≡ length (blocks_before l.p.bits_per_sample 0 l.p.channels (frames_from l.p.channels l.first l.n (g.E.Stored.samples l.samples)) l.c))
    × (length l.out ≡ length l.initial.out)
    × (l.out ≡ over (blocks_before l.p.bits_per_sample 0 l.p.channels (frames_from l.p.channels l.first l.n (g.E.Stored.samples l.samples)) l.c) l.initial.out)
