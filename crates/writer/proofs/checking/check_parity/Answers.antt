-- A group that differs ends the loop.
use native.Mathlib.Omega.{arith}
use Rattle.std.proofs.lemmas.Result.{err_from_is_err_and}
use Rattle.laws.proofs.Chain.{turn_stops}
use Rattle.group.proofs.Frames.{group_frames}
use Rattle.writer.proofs.checking.check_parity.Goals as goal

pub returns-in_err-in_group : goal.returns-in_err-in_group
returns-in_err-in_group g c =
    let p = err_from_is_err_and c.from_residual.result c.from_residual.ensures.1 in
    let h = group_frames _ _ _ c.requires c.loop-g.g _ c.active-n.ensures.0 in
    rw (p.1, p.2) (turn_stops _ _ c.loop-g.invariant _ _ _ (omega arith) (rw (← h, ← c.frames_parity-is_equal.ensures, ← c.refuse.ensures.says) c.in_group.ensures) c.in_err-in_group.was)
