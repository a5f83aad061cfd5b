-- Of equal parity, l less half of l - r is half of l + r, which lies between the two and so fits.
use Rattle.stereo.proofs.Halving.{mid_fits, mid_is}
use Rattle.stereo.proofs.frame.mid.Goals as goal

pub overflow_sub-result : goal.overflow_sub-result
overflow_sub-result c = search mid_fits

pub returns : goal.returns
returns c = search mid_is
