use native.Mathlib.Omega.{arith}
use Rattle.sample.proofs.Words.{given}
use Rattle.lent_samples.proofs.Taken.{within_turn, within_done}
use Rattle.lent_samples.proofs.taking.all_within.Goals as goal

pub returns : goal.returns
returns g c =
    let high = c.highest-highest in
    let low = c.lowest-lowest in
    within_done _ _ c.loop-i.i _ (omega arith) (given low.type_inv low.ensures) (given high.type_inv high.ensures) c.loop-i.invariant

pub loop-i-preserved : goal.loop-i-preserved
loop-i-preserved g c =
    let got = c.sample_at in
    within_turn _ _ _ c.loop-i.i c.loop-i.ok (omega arith) got.type_inv got.ensures c.inside-o.ensures c.loop-i.invariant
