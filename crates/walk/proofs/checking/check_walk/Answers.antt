use Rattle.laws.proofs.Chain.{settled}
use Rattle.walk.proofs.Ways.{walk_passes}
use Rattle.walk.proofs.checking.check_walk.Goals as goal

pub returns : goal.returns
returns c =
    walk_passes _ _ _ (settled _ _ c.check_open.ensures _ c.in_ok-check_open.was) _ c.read_fields-h.ensures _ c.groups.ensures.0 c.if-groups-g.false
    _ _ c.offset_of-a.ensures c.offset_of-e.ensures _ c.format_of-format.ensures _ _ c.check_group.ensures c.in_group.ensures c.in_ok-in_group.was
    _ _ c.active.ensures.0 c.samples.ensures _ c.refuse.ensures.says
