use native.Mathlib.Omega.{arith}
use borrow.Author.Rules.{part_to_end}
use Rattle.std.proofs.lemmas.Result.{err_from_is_err_and}
use Rattle.format.specs.Decoding.{check_group}
use Rattle.laws.proofs.Chain.{turn_stops_then}
use Rattle.group.proofs.check_group.Goals as goal

pub returns-in_err-in_channel : goal.returns-in_err-in_channel
unfolding check_group
returns-in_err-in_channel c =
    let p = err_from_is_err_and c.from_residual.result c.from_residual.ensures.1 in
    let i = c.loop-c.invariant in
    rw (p.1, p.2) (turn_stops_then _ _ i.2 _ _ _ _ (omega arith) (rw (i.1, ← part_to_end c.args.bs.now c.loop-c.at, ← c.check_block.ensures) c.in_channel.ensures) c.in_err-in_channel.was)
