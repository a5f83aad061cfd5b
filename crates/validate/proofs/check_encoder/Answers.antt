-- The depths that there are, are the four that the encoder lists.
use Rattle.std.proofs.Common.{arith}
use Rattle.format.specs.Lists.{is_in}
use Rattle.format.specs.Units.{is_depth, depth_word}
use Rattle.format.specs.Encoding.{check_encoder}
use Rattle.validate.proofs.check_encoder.Goals as goal

pub returns : goal.returns
unfolding check_encoder is_in is_depth depth_word
returns c = grind arith
