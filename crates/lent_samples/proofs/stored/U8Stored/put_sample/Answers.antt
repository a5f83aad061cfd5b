use native.Mathlib.Omega.{arith}
use Rattle.lent_samples.proofs.Laws.{length_lent, bytes_put, bytes_keep}
use Rattle.lent_samples.proofs.stored.U8Stored.put_sample.Goals as goal

pub overflow_mul-i : goal.overflow_mul-i
overflow_mul-i c = omega (arith, length_lent c.args.lent.now)

pub put_u32_le-requires : goal.put_u32_le-requires
put_u32_le-requires c = omega (arith, length_lent c.args.lent.now)

pub returns-clause-puts : goal.returns-clause-puts
returns-clause-puts c = let n = c.bits_of in bytes_put _ _ c.requires n.result c.put_u32_le.ensures _ c.ranges.v n.type_inv n.ensures

pub returns-clause-keeps : goal.returns-clause-keeps
returns-clause-keeps c = bytes_keep _ _ c.requires _ c.put_u32_le.ensures
