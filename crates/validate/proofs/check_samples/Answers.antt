-- Samples that are incomplete frames are so by the definition's first test, and too many where that fails and its last
-- one holds.
use Rattle.std.proofs.Common.{arith}
use Rattle.format.specs.Units.{frames_in}
use Rattle.format.specs.Refusals.{refuse, ◌then◌}
use Rattle.format.specs.Encoding.{check_samples}
use Rattle.validate.proofs.check_samples.Goals as goal

pub returns-in_err-refuse : goal.returns-in_err-refuse
unfolding check_samples frames_in refuse ◌then◌
returns-in_err-refuse g c = grind arith

pub returns-in_err-refuse-2 : goal.returns-in_err-refuse-2
unfolding check_samples frames_in refuse ◌then◌
returns-in_err-refuse-2 g c = grind arith

pub returns : goal.returns
unfolding check_samples frames_in refuse ◌then◌
returns g c = grind arith
