-- Opening's refusal comes first; then what the groups say, over the header and the format that opening found.
use native.Mathlib.Omega.{arith}
use Rattle.std.proofs.lemmas.Result.{err_from_is_err_and}
use Rattle.laws.proofs.Chain.{settled}
use Rattle.laws.proofs.Opened.{opened_long}
use Rattle.reader.proofs.Ways.{open_refused, groups_say}
use Rattle.reader.proofs.checking.check_file.Goals as goal

pub returns-in_err-check_open : goal.returns-in_err-check_open
returns-in_err-check_open c =
    let p = err_from_is_err_and c.from_residual.result c.from_residual.ensures.1 in
    rw (p.1, p.2) (open_refused _ _ c.check_open.ensures _ c.in_err-check_open.was)

pub read_fields-h-requires : goal.read_fields-h-requires
read_fields-h-requires c = omega (arith, opened_long _ (settled _ _ c.check_open.ensures _ c.in_ok-check_open.was))

pub format_of-requires : goal.format_of-requires
format_of-requires c = (settled _ _ c.check_open.ensures _ c.in_ok-check_open.was, c.read_fields-h.ensures)

pub check_groups-requires : goal.check_groups-requires
check_groups-requires c = (settled _ _ c.check_open.ensures _ c.in_ok-check_open.was, c.read_fields-h.ensures, omega arith)

pub returns : goal.returns
returns c =
    groups_say _ _ c.check_open.ensures c.in_ok-check_open.was _ c.read_fields-h.ensures _ c.groups.ensures.0 _ c.format_of.ensures _ c.check_groups.ensures
