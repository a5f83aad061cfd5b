-- The definition.
use mathlib.Core.Path.{refl}
use Rattle.format.specs.MidSide.{quieted}
use Rattle.stereo.proofs.frame.quieted.Goals as goal

pub returns : goal.returns
unfolding quieted
returns c = refl
