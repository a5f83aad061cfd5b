-- By the format: the difference that wraps, or the pattern of that of the floats whose patterns the samples are.
use Rattle.format.specs.Numbers.{minus}
use Rattle.format.specs.MidSide.{right, float_of}
use Rattle.stereo.specs.Patterns.{float_difference}
use Rattle.sample.proofs.Words.{called, on_bits}
use Rattle.stereo.proofs.frame.right.Goals as goal

pub returns-in-Pcm : goal.returns-in-Pcm
unfolding right
returns-in-Pcm c = rw c.in-Pcm.is (search (called minus))

pub returns-in-Float : goal.returns-in-Float
unfolding right float_of
returns-in-Float c = rw c.in-Float.is (search (on_bits float_difference))
