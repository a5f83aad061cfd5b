use Rattle.std.proofs.Common.{arith, ap, ◌∙◌}
use Rattle.std.proofs.lemmas.Result.{err_from_is_err_and}
use Rattle.format.specs.Peaks.{check_pair}
use Rattle.laws.proofs.Chain.{turn_stops_then}
use Rattle.summary.proofs.checking.check_pairs.Goals as goal

pub returns-in_err-check_pair : goal.returns-in_err-check_pair
returns-in_err-check_pair c =
    let p = err_from_is_err_and c.from_residual.result c.from_residual.ensures.1 in
    let i = c.loop.invariant in
    rw (p.1, p.2) (turn_stops_then _ _ i.1 _ _ _ _ (omega arith) (c.check_pair.ensures ∙ ap check_pair i.0) c.in_err-check_pair.was)
