use Rattle.std.proofs.lemmas.Result.{err_from_is_err_and}
use Rattle.laws.proofs.Chain.{settled}
use Rattle.few_frames.proofs.Ways.{groups_refuse}
use Rattle.few_frames.proofs.checking.check_frames.Goals as goal

pub returns-in_err-check_groups : goal.returns-in_err-check_groups
returns-in_err-check_groups c =
    let p = err_from_is_err_and c.from_residual-in_err-check_groups.result c.from_residual-in_err-check_groups.ensures.1 in
    rw (p.1, p.2) (groups_refuse _ _ _ _ (settled _ _ c.check_open.ensures _ c.in_ok-check_open.was) _ c.read_fields-h.ensures
    c.in_ok-refuse.ensures.passes _ c.format_of-format.ensures _ c.touched.ensures _ c.check_groups.ensures _ c.in_err-check_groups.was)
