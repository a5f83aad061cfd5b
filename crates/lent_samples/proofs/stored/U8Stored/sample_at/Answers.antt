use native.Mathlib.Omega.{arith}
use Rattle.sample.proofs.Words.{given}
use Rattle.lent_samples.proofs.Laws.{length_lent, bytes_say}
use Rattle.lent_samples.proofs.stored.U8Stored.sample_at.Goals as goal

pub overflow_mul-i : goal.overflow_mul-i
overflow_mul-i c = omega (arith, length_lent c.args.lent.now)

pub read_u32_le-requires : goal.read_u32_le-requires
read_u32_le-requires c = omega (arith, length_lent c.args.lent.now)

pub returns : goal.returns
returns c = given c.of_bits.type_inv (bytes_say _ _ c.requires c.read_u32_le.ensures c.of_bits.ensures)
