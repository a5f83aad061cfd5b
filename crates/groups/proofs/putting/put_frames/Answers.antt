use mathlib.Core.Path.{refl, ◌∙◌}
use native.Mathlib.Omega.{arith}
use borrow.Author.Rules.{rules}
use Rattle.groups.proofs.Written.{none_yet, opens, at_fits, after_fits, group_there, end_there, rises, ends_within, readable, no_more, more_fits, part_in, nearer, part_room, one_more, all_put}
use Rattle.groups.proofs.putting.put_frames.Goals as goal

pub loop-done-init : goal.loop-done-init
loop-done-init g c = record { within = search rules; puts = none_yet _ _ _; keeps = refl }

pub overflow_add-at : goal.overflow_add-at
overflow_add-at g c =
    record { fits = at_fits _ _ _ _ _ c.requires.0 c.requires.1 c.requires.2 _ c.loop-done-test.true (λ i. (c.type_inv.file i).fits) }

pub offset_of-a-requires : goal.offset_of-a-requires
offset_of-a-requires g c =
    (search opens, search rules, search group_there)

pub overflow_add-g : goal.overflow_add-g
overflow_add-g g c =
    record { fits = after_fits _ _ _ _ _ c.requires.0 c.requires.1 c.requires.2 _ c.loop-done-test.true (λ i. (c.type_inv.file i).fits) }

pub offset_of-e-requires : goal.offset_of-e-requires
offset_of-e-requires g c = (search opens, search rules, search end_there)

pub slice_bounds-put_group-count : goal.slice_bounds-put_group-count
slice_bounds-put_group-count g c =
    rises _ _ _ _ _ c.requires.0 c.requires.1 c.requires.2 _ c.loop-done-test.true _ _ c.offset_of-a.ensures c.offset_of-e.ensures

pub slice_bounds-put_group-start : goal.slice_bounds-put_group-start
slice_bounds-put_group-start g c =
    rises _ _ _ _ _ c.requires.0 c.requires.1 c.requires.2 _ c.loop-done-test.true _ _ c.offset_of-a.ensures c.offset_of-e.ensures

pub slice_bounds-put_group-end : goal.slice_bounds-put_group-end
slice_bounds-put_group-end g c =
    ends_within _ _ _ _ _ c.requires.0 c.requires.1 c.requires.2 _ c.loop-done-test.true _ _ c.offset_of-a.ensures c.offset_of-e.ensures

pub put_group-requires : goal.put_group-requires
put_group-requires g c =
    let t = c.loop-done-test.true in
    let a = c.offset_of-a.ensures in
    let e = c.offset_of-e.ensures in (
      readable _ _ _ _ _ c.requires.0 c.requires.1 c.requires.2 _ t _ _ a e,
      (
        part_in _ _ _ _ _ c.requires.0 c.requires.1 c.requires.2 _ t _ _ a e _ c.part_at-part.ensures,
        part_room _ _ _ _ _ c.requires.0 c.requires.1 c.requires.2 _ t _ _ a e _ c.part_at-part.ensures _ _ c.requires.3 c.loop-done.invariant.puts,
      ),
    )

pub overflow_add-done : goal.overflow_add-done
overflow_add-done g c =
    record { fits = more_fits _ _ _ _ _ c.requires.0 c.requires.1 c.requires.2 _ c.loop-done-test.true _ _ c.offset_of-a.ensures c.offset_of-e.ensures _ c.part_at-part.ensures (λ i. (c.type_inv.file i).fits) }

pub loop-done-smaller : goal.loop-done-smaller
loop-done-smaller g c =
    nearer _ _ _ _ _ c.requires.0 c.requires.1 c.requires.2 _ c.loop-done-test.true _ _ c.offset_of-a.ensures c.offset_of-e.ensures _ c.part_at-part.ensures

pub loop-done-preserved : goal.loop-done-preserved
loop-done-preserved g c =
    let i = c.loop-done.invariant in
    let t = c.loop-done-test.true in
    let a = c.offset_of-a.ensures in
    let e = c.offset_of-e.ensures in
    record {
      within = no_more _ _ _ _ _ c.requires.0 c.requires.1 c.requires.2 _ t _ _ a e _ c.part_at-part.ensures;
      puts = one_more _ _ _ _ _ c.requires.0 c.requires.1 c.requires.2 _ t _ _ a e _ c.part_at-part.ensures _ _ c.requires.3 i.puts _ c.put_group.ensures.puts;
      keeps = c.put_group.ensures.keeps ∙ i.keeps;
    }

pub returns : goal.returns
returns g c =
    let i = c.loop-done.invariant in
    record {
      puts = all_put _ _ _ _ _ c.requires.0 c.requires.1 c.requires.2 _ _ _ i.puts i.within (omega arith);
      keeps = i.keeps;
    }
