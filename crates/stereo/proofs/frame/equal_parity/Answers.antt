-- The lowest of a sample's 32 bits is the parity of its absolute value, negative or not.
use Rattle.stereo.proofs.Halving.{same_bit}
use Rattle.stereo.proofs.frame.equal_parity.Goals as goal

pub returns : goal.returns
returns c = search same_bit
