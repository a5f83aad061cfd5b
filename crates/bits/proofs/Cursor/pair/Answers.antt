-- Two codes of at most 28 bits lie in one window of 57; of wider ones the second is read where the first ends.
use Rattle.std.proofs.Common.{arith}
use Rattle.bits.proofs.Steps.{first_is, second_is}
use Rattle.bits.proofs.Cursor.pair.Goals as goal

pub returns-then-bits-le28 : goal.returns-then-bits-le28
returns-then-bits-le28 c =
    let shown = c.window-w.ensures in
    record {
      first = first_is _ _ _ _ _ (omega arith) (omega arith) shown (omega arith) c.sign_extend.ensures;
      second = second_is _ _ _ _ _ (omega arith) (omega arith) shown (omega arith) (omega arith) c.sign_extend-then-bits-le28.ensures;
      moved = omega arith;
    }
