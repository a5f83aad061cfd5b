-- The loop's invariant: `size` is the length of the blocks before channel c.
use mathlib.Core.Path.{◌≡◌}
use Prim.Native.Nat.{◌≤◌, ◌*◌}
use lib.ListN.{length}
use Rattle.lent_samples.specs.Lent.{frames_from}
use Rattle.encode_group.proofs.Blocks.{blocks_before}
use Rattle.encode_group.proofs.channels_size.Given as goal

abbrev pub invariant-loop-c : goal.invariant-loop-c
invariant-loop-c g l =
    (l.size ≡ length (blocks_before l.p.bits_per_sample 0 l.p.channels (frames_from l.p.channels l.first l.n (g.E.Stored.samples l.samples)) l.c))
    × (l.size ≤ l.c * 2064)
