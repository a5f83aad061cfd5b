-- The tests before the channels are the definition's; the channels are those of the form that the group has.
use Rattle.std.proofs.lemmas.Result.{err_from_is_err_and}
use native.Mathlib.Omega.{arith}
use Rattle.format.specs.Reencoding.{check_reencode_group}
use Rattle.laws.proofs.Chain.{stops_with}
use Rattle.reencode_group.proofs.Checking.{not_stereo, parity_differs, both_checked, plain_checked}
use Rattle.reencode_group.proofs.check_reencode_group.Goals as goal

pub returns-in_err-refuse : goal.returns-in_err-refuse
unfolding check_reencode_group
returns-in_err-refuse g c =
    let p = err_from_is_err_and c.from_residual.result c.from_residual.ensures.1 in
    rw (p.1, p.2) (stops_with _ _ c.refuse.ensures.says _ _ c.in_err-refuse.was)

pub returns-in_err-refuse-2 : goal.returns-in_err-refuse-2
returns-in_err-refuse-2 g c =
    let p = err_from_is_err_and c.from_residual-in_err-refuse-2.result c.from_residual-in_err-refuse-2.ensures.1 in
    rw (p.1, p.2) (not_stereo _ _ _ _ _ _ _ c.in_ok-refuse.ensures.passes c.mid_bit.ensures c.if-mid_bit.true _ c.refuse-then-mid_bit.ensures.says _ c.in_err-refuse-2.was)

pub returns-in_err-refuse-3 : goal.returns-in_err-refuse-3
returns-in_err-refuse-3 g c =
    let p = err_from_is_err_and c.from_residual-in_err-refuse-3.result c.from_residual-in_err-refuse-3.ensures.1 in
    let a = c.channels_of-a in
    rw (p.1, p.2) (parity_differs _ _ _ _ _ _ _ c.in_ok-refuse.ensures.passes c.mid_bit.ensures a.result a.ensures (omega arith) (omega arith)
    c.if-mid_bit.true c.in_ok-refuse-2.ensures.passes _ c.parity.ensures _ c.refuse-then-mid_bit-2.ensures.says _ c.in_err-refuse-3.was)

pub returns-then-mid_bit : goal.returns-then-mid_bit
returns-then-mid_bit g c =
    let a = c.channels_of-a in
    both_checked _ _ _ _ _ _ _ c.in_ok-refuse.ensures.passes c.mid_bit.ensures a.result a.ensures (omega arith) (omega arith)
    c.if-mid_bit.true c.in_ok-refuse-2.ensures.passes _ c.parity.ensures _ _ c.in_ok-refuse-3.ensures.passes c.mid_side.ensures c.check_channels.ensures

pub returns : goal.returns
returns g c =
    let a = c.channels_of-a in
    plain_checked _ _ _ _ _ _ _ c.in_ok-refuse.ensures.passes c.mid_bit.ensures a.result a.ensures (omega arith) (omega arith) _ c.if-mid_bit.false c.check_channels-2.ensures
