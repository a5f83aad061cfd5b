-- Of equal parity both lose the same when they are halved, so the halves' difference is half of l - r.
use Rattle.stereo.proofs.Halving.{side_fits, side_is}
use Rattle.stereo.proofs.frame.side.Goals as goal

pub overflow_sub-result : goal.overflow_sub-result
overflow_sub-result c = search side_fits

pub returns : goal.returns
returns c = search side_is
