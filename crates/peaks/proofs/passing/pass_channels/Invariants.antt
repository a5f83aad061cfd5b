-- The loop's invariant: what is left begins with channel c's block, and the pass went over the pairs of the channels
-- before it.
use mathlib.Core.Path.{◌≡◌}
use Rattle.std.specs.Prelude.{Some}
use Rattle.format.specs.Blocks.{from_block}
use Rattle.peaks.specs.Passes.{found, left}
use Rattle.peaks.proofs.Channels.{block_pairs}
use Rattle.peaks.proofs.passing.pass_channels.Given as goal

abbrev pub invariant-loop : goal.invariant-loop
invariant-loop l =
    let c = l.counter in
    (l.blocks ≡ from_block l.h.depth l.bs c)
    × (found l.pass l.start (block_pairs l.h l.n l.bs c) l.held ≡ Some l.at)
    × (l.out ≡ left l.pass l.start (block_pairs l.h l.n l.bs c) l.initial.out)
