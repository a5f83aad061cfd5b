-- Where the pattern that is tested is no NaN's, neither is: both are read, and the sum's pattern is settled.
-- Otherwise the bits of that one are.
use Rattle.stereo.proofs.Nans.{number_settled, nan_settled}
use Rattle.stereo.proofs.frame.float_sum.Goals as goal

pub returns-then-is_nan : goal.returns-then-is_nan
returns-then-is_nan c = search nan_settled

pub returns-else-is_nan : goal.returns-else-is_nan
returns-else-is_nan c = search number_settled
