-- The next group's pairs and those behind it are the rest of the file's.
use Prim.Native.Nat.{◌<◌}
use mathlib.Core.Path.{sym, ◌∙◌}
use native.Mathlib.Omega.{arith}
use Rattle.format.specs.Header.{groups_of}
use Rattle.peaks.proofs.Composed.{runs, halts, halts_left}
use Rattle.peaks.proofs.Groups.{groups_around, group_is, group_frames, group_reads}
use Rattle.peaks.proofs.passing.pass_groups.Goals as goal

pub pass_group-requires : goal.pass_group-requires
pass_group-requires c =
    let x = c.args in
    let w = c.requires in
    let l : c.loop-g.g < groups_of x.h.frames = omega (arith, c.groups-g-end.ensures.0) in
    let e = groups_around x.file.now x.h x.format c.loop-g.g l in
    rw (c.offset_of-a.ensures, c.offset_of-e.ensures, group_is x.file.now x.h x.format w.0 w.1 c.loop-g.g l) (
      group_reads x.file.now x.h x.format w.0 w.1 c.loop-g.g l w.2,
      rw c.active-n.ensures.0 (group_frames x.file.now x.h x.format w.0 w.1 c.loop-g.g l),
      c.active-n.ensures.1,
      rw c.active-n.ensures.0 (grind (arith, runs, e)),
    )

pub returns-in_err-at : goal.returns-in_err-at
returns-in_err-at c =
    let x = c.args in
    let w = c.requires in
    let i = c.loop-g.invariant in
    let l : c.loop-g.g < groups_of x.h.frames = omega (arith, c.groups-g-end.ensures.0) in
    let p = rw (c.active-n.ensures.0, c.offset_of-a.ensures, c.offset_of-e.ensures, group_is x.file.now x.h x.format w.0 w.1 c.loop-g.g l) at c.pass_group.ensures in
    let stop = sym p.0 ∙ c.in_err-at.was in
    rw (c.from_residual.ensures, groups_around x.file.now x.h x.format c.loop-g.g l) (halts _ _ _ _ _ _ _ i.0 stop, halts_left _ _ _ _ _ _ _ i.0 stop _ _ _ i.1 p.1)
