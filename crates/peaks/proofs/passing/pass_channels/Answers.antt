-- The next channel's pair and those behind it are the rest of the group's.
use mathlib.Core.Path.{sym, ap, ◌∙◌}
use native.Mathlib.Omega.{arith}
use borrow.Author.Rules.{rules}
use Rattle.std.proofs.lemmas.Grind.{common_steps}
use Rattle.format.specs.Blocks.{samples_of}
use Rattle.peaks.proofs.Composed.{runs, halts, halts_left}
use Rattle.peaks.proofs.Channels.{blocks_around}
use Rattle.peaks.proofs.passing.pass_channels.Goals as goal

pub pass_peak-requires : goal.pass_peak-requires
pass_peak-requires c =
    let x = c.args in
    let e = blocks_around x.h x.format x.n x.bs.now c.requires.0 c.requires.1 c.loop.counter (search rules) in
    (grind (arith, common_steps), grind (arith, runs, e))

pub returns-in_err-at : goal.returns-in_err-at
returns-in_err-at c =
    let x = c.args in
    let i = c.loop.invariant in
    let p = c.pass_peak.ensures in
    let run = c.read_block-run.ensures ∙ ap (samples_of x.h.depth) i.0 in
    let e = blocks_around x.h x.format x.n x.bs.now c.requires.0 c.requires.1 c.loop.counter (search rules) in
    let stop = sym p.0 ∙ c.in_err-at.was in
    rw (c.from_residual.ensures, e, ← run) (halts _ _ _ _ _ _ _ i.1 stop, halts_left _ _ _ _ _ _ _ i.1 stop _ _ _ i.2 p.1)
