-- By the format: the sum that wraps, or the pattern of the sum of the floats whose patterns the samples are.
use Rattle.format.specs.Numbers.{plus}
use Rattle.format.specs.MidSide.{left, float_of}
use Rattle.stereo.specs.Patterns.{float_sum}
use Rattle.sample.proofs.Words.{called, on_bits}
use Rattle.stereo.proofs.frame.left.Goals as goal

pub returns-in-Pcm : goal.returns-in-Pcm
unfolding left
returns-in-Pcm c = rw c.in-Pcm.is (search (called plus))

pub returns-in-Float : goal.returns-in-Float
unfolding left float_of
returns-in-Float c = rw c.in-Float.is (search (on_bits float_sum))
