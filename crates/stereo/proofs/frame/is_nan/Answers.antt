-- With the sign's bit off, the patterns above that of infinity are those of NaNs: `nan_bits_above`.
use mathlib.Core.Path.{sym}
use lib.Ieee.{binary32}
use lib.Ieee.Bits.{nan_bits_above}
use Rattle.stereo.proofs.frame.is_nan.Goals as goal

pub returns : goal.returns
returns c = sym (nan_bits_above binary32 c.args.x)
