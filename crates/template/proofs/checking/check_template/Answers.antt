-- What the samples' checks and the bounds leave.
use Rattle.laws.proofs.SampleChecks.{frames_ok, count_ok}
use Rattle.template.proofs.Groups.{some_channel}
use Rattle.template.proofs.Stages.{table_there}
use Rattle.template.proofs.checking.check_template.Goals as goal

pub frames_of-frames-requires : goal.frames_of-frames-requires
frames_of-frames-requires g c = (search some_channel, search frames_ok, search count_ok)

pub check_rising-requires : goal.check_rising-requires
check_rising-requires g c = table_there _ _ _ c.check_bounds.ensures c.in_ok-check_bounds.was
