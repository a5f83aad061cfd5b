use native.Mathlib.Omega.{arith}
use Rattle.std.proofs.lemmas.Result.{err_from_is_err_and}
use Rattle.laws.proofs.Chain.{turn_passes, turn_stops}
use Rattle.template.proofs.Groups.{some_channel, few_channels, some_bits, few_bits, entry_there, entry_next, part_rises, part_within, frames_some, frames_inside, part_checked}
use Rattle.template.proofs.checking.check_groups.Goals as goal

pub entry_at-requires : goal.entry_at-requires
entry_at-requires g c = search entry_there

pub entry_at-requires-in-loop-g : goal.entry_at-requires-in-loop-g
entry_at-requires-in-loop-g g c = search entry_next

pub slice_bounds-check_reencode_group-count : goal.slice_bounds-check_reencode_group-count
slice_bounds-check_reencode_group-count g c = search part_rises

pub slice_bounds-check_reencode_group-start : goal.slice_bounds-check_reencode_group-start
slice_bounds-check_reencode_group-start g c = search part_rises

pub slice_bounds-check_reencode_group-end : goal.slice_bounds-check_reencode_group-end
slice_bounds-check_reencode_group-end g c = search part_within

pub check_reencode_group-requires : goal.check_reencode_group-requires
check_reencode_group-requires g c = ((search frames_some, omega arith, search frames_inside), search some_channel, search few_channels, search some_bits, search few_bits)

pub returns-in_err-in_group : goal.returns-in_err-in_group
returns-in_err-in_group g c =
    let p = err_from_is_err_and c.from_residual.result c.from_residual.ensures.1 in
    rw (p.1, p.2) (turn_stops _ _ c.loop-g.invariant _ _ _ (omega arith) (search part_checked) c.in_err-in_group.was)

pub loop-g-preserved : goal.loop-g-preserved
loop-g-preserved g c = turn_passes _ _ c.loop-g.invariant _ (search part_checked) c.in_ok-in_group.was
