use Rattle.std.proofs.lemmas.Result.{err_from_is_err_and}
use Rattle.opening.proofs.Groups.{depth_32}
use Rattle.groups.proofs.Run.{group_fits, next_fits, run_rises, run_within, run_stops, run_more}
use Rattle.groups.proofs.checking.check_groups.Goals as goal

pub overflow_add-g : goal.overflow_add-g
overflow_add-g c =
    record { fits = group_fits _ _ c.requires.0 c.requires.1 _ _ c.requires.2 _ c.loop-k-test.true (λ i. (c.type_inv.file i).fits) }

pub overflow_add-g-in-loop-k : goal.overflow_add-g-in-loop-k
overflow_add-g-in-loop-k c =
    record { fits = next_fits _ _ c.requires.0 c.requires.1 _ _ c.requires.2 _ c.loop-k-test.true (λ i. (c.type_inv.file i).fits) }

pub slice_bounds-check_group-count : goal.slice_bounds-check_group-count
slice_bounds-check_group-count c = search run_rises

pub slice_bounds-check_group-start : goal.slice_bounds-check_group-start
slice_bounds-check_group-start c = search run_rises

pub slice_bounds-check_group-end : goal.slice_bounds-check_group-end
slice_bounds-check_group-end c = search run_within

pub check_group-requires : goal.check_group-requires
check_group-requires c = search depth_32

pub returns-in_err-in_group : goal.returns-in_err-in_group
returns-in_err-in_group c =
    let p = err_from_is_err_and c.from_residual.result c.from_residual.ensures.1 in
    rw (p.1, p.2)
    (run_stops _ _ c.requires.0 c.requires.1 _ _ c.requires.2 _ c.loop-k-test.true _ _ c.offset_of-a.ensures c.offset_of-e.ensures
    _ _ c.check_group.ensures _ c.in_group.ensures c.loop-k.invariant _ c.in_err-in_group.was)

pub loop-k-preserved : goal.loop-k-preserved
loop-k-preserved c =
    run_more _ _ c.requires.0 c.requires.1 _ _ c.requires.2 _ c.loop-k-test.true _ _ c.offset_of-a.ensures c.offset_of-e.ensures
    _ _ c.check_group.ensures _ c.in_group.ensures c.loop-k.invariant c.in_ok-in_group.was
