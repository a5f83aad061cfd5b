-- Only a NaN differs from itself, so the test finds exactly the NaNs; any other float has one pattern.
use Rattle.format.specs.MidSide.{pattern_of}
use Rattle.stereo.proofs.Nans.{differs, same}
use Rattle.stereo.proofs.frame.pattern_of.Goals as goal

pub float_to_bits-result : goal.float_to_bits-result
float_to_bits-result c = rw (same c.args.x c.if-x.false) tt

pub returns-then-x : goal.returns-then-x
unfolding pattern_of
returns-then-x c = rw (differs c.args.x c.if-x.true)

pub returns-else-x : goal.returns-else-x
unfolding pattern_of
returns-else-x c = rw (same c.args.x c.if-x.false)
