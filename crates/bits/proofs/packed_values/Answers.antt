use Rattle.std.proofs.Common.{length-set}
use Rattle.bits.proofs.Run.{first_value_pair, second_value, two_more, next_pair}
use Rattle.bits.proofs.packed_values.Goals as goal

pub loop-i-preserved : goal.loop-i-preserved
loop-i-preserved c = (simp length-set c.loop-i.invariant.0, search next_pair, search (two_more, first_value_pair, second_value))
