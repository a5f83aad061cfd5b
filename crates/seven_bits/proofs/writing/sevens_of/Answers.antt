use Prim.Native.Nat.{◌<◌}
use borrow.Author.Rules.{rules}
use native.Mathlib.Omega.{arith}
use Rattle.seven_bits.proofs.Turns.{left_less, left_room, zeros_turn, group_turn}
use Rattle.seven_bits.proofs.writing.sevens_of.Goals as goal

pub loop-rest-preserved : goal.loop-rest-preserved
loop-rest-preserved c =
    let l = c.loop-rest in
    let room : l.k < 4 = left_room l.k l.rest l.invariant.0 l.invariant.2 (omega arith) in
    (omega arith, search rules, search (rules, left_less), search (rules, group_turn), search (rules, zeros_turn))
