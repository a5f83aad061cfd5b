use mathlib.Core.Path.{◌∙◌}
use native.Mathlib.Omega.{arith}
use Rattle.walk.proofs.Ways.{step_readable, step_room, step_reads, puts_group}
use Rattle.walk.proofs.one_group.decode_group.Goals as goal

pub put_group-requires : goal.put_group-requires
put_group-requires g c = (search step_readable, (omega arith, search step_room))

pub returns-clause-steps : goal.returns-clause-steps
returns-clause-steps g c =
    let reads =
    step_reads _ _ _ _ c.check_walk.ensures c.in_default.is _ c.read_fields-h.ensures _ c.groups.ensures.0 c.if-groups-g.false
    _ c.active-active.ensures.0 _ c.count.ensures _ c.samples.ensures in
    let puts =
    puts_group _ _ _ _ c.check_walk.ensures c.in_default.is _ c.read_fields-h.ensures _ c.groups.ensures.0 c.if-groups-g.false
    _ c.active-active.ensures.0 _ _ c.offset_of-a.ensures c.offset_of-e.ensures _ c.format_of-format.ensures _ _ c.count.ensures c.put_group.ensures.puts in
    (c.of-2.ensures ∙ reads, puts)
