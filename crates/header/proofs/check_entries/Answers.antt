use Rattle.std.proofs.Common.{arith}
use Rattle.std.proofs.lemmas.Result.{err_from_is_err_and}
use Rattle.laws.proofs.Chain.{turn_stops}
use Rattle.header.proofs.check_entries.Goals as goal

pub returns-in_err-in_group : goal.returns-in_err-in_group
returns-in_err-in_group c =
    let p = err_from_is_err_and c.from_residual.result c.from_residual.ensures.1 in
    rw (p.1, p.2) (turn_stops _ _ c.loop-k.invariant _ _ _ (omega arith) (rw (← c.bad_entry.ensures, ← c.refuse.ensures.says) c.in_group.ensures) c.in_err-in_group.was)
