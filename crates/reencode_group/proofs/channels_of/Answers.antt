-- Two channels are split; one is taken alone, and stands in both places.
use Rattle.reencode_group.proofs.Apart.{apart_two}
use Rattle.reencode_group.proofs.channels_of.Goals as goal

pub returns-then-channels-eq2 : goal.returns-then-channels-eq2
returns-then-channels-eq2 g c = apart_two _ _ _ _ _ c.if-channels-eq2.true c.split.ensures
