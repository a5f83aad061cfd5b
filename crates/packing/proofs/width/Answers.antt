-- The folded bits stand for the values, so their leading zeros tell the least width.
use Rattle.std.proofs.Common.{arith}
use Rattle.laws.proofs.Widths.{width_zeros}
use Rattle.packing.proofs.width.Goals as goal

pub returns : goal.returns
returns c = let bits = c.folded_bits.ensures in omega (arith, width_zeros _ _ bits.1 bits.0)
