use Rattle.std.proofs.lemmas.Result.{err_from_is_err_and}
use Rattle.format.specs.Reencoding.{check_same}
use Rattle.laws.proofs.Chain.{stops_with}
use Rattle.template.proofs.checking.check_same.Goals as goal

pub returns-in_err-refuse : goal.returns-in_err-refuse
unfolding check_same
returns-in_err-refuse c =
    let p = err_from_is_err_and c.from_residual.result c.from_residual.ensures.1 in
    rw (p.1, p.2) (stops_with _ _ c.refuse.ensures.says _ _ c.in_err-refuse.was)
