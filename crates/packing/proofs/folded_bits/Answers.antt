use Rattle.std.proofs.Common.{rules}
use lib.Bits.{or_lt}
use Rattle.packing.proofs.Widths.{mag_read, so_far_more, so_far_all}
use Rattle.packing.proofs.folded_bits.Goals as goal

pub returns : goal.returns
returns c = search (rules, so_far_all)

pub loop-x-preserved : goal.loop-x-preserved
loop-x-preserved c = (search (rules, or_lt 31), search (rules, so_far_more, mag_read))
