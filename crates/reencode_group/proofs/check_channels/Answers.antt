use mathlib.Core.Path.{◌∙◌}
use native.Mathlib.Omega.{arith}
use Rattle.std.proofs.lemmas.Result.{err_from_is_err_and}
use Rattle.laws.proofs.Chain.{turns_begin, turn_passes, turn_stops_then, turns_end_then}
use Rattle.group.proofs.Places.{begins_first, begins_more}
use Rattle.reencode_group.proofs.Checking.{channel_says, channel_template, none_left}
use Rattle.reencode_group.proofs.check_channels.Goals as goal

pub loop-c-init : goal.loop-c-init
loop-c-init c = record { begins = begins_first _ _; passed = turns_begin _ }

pub returns-in_err-in_channel : goal.returns-in_err-in_channel
returns-in_err-in_channel c =
    let p = err_from_is_err_and c.from_residual.result c.from_residual.ensures.1 in
    let i = c.loop-c.invariant in
    rw (p.1, p.2) (turn_stops_then _ _ i.passed _ _ _ _ (omega arith)
    (channel_says _ _ _ _ _ _ i.begins.left _ _ c.check_reencode_block.ensures c.in_channel.ensures) c.in_err-in_channel.was)

pub size_of-at-requires : goal.size_of-at-requires
size_of-at-requires c =
    let i = c.loop-c.invariant in
    let t = channel_template _ _ _ _ _ _ i.begins.left _ _ c.check_reencode_block.ensures c.in_channel.ensures c.in_ok-in_channel.was in
    (t.head, omega arith)

pub loop-c-preserved : goal.loop-c-preserved
loop-c-preserved c =
    let i = c.loop-c.invariant in
    let e = c.check_reencode_block.ensures in
    let t = channel_template _ _ _ _ _ _ i.begins.left _ _ e c.in_channel.ensures c.in_ok-in_channel.was in
    record {
      begins = begins_more _ _ _ _ _ i.begins t.sized c.size_of-at.ensures.0;
      passed = turn_passes _ _ i.passed _ (channel_says _ _ _ _ _ _ i.begins.left _ _ e c.in_channel.ensures) c.in_ok-in_channel.was;
    }

pub returns : goal.returns
returns c =
    let i = c.loop-c.invariant in
    turns_end_then _ _ i.passed _ _ _ (omega arith) (c.refuse.ensures.says ∙ none_left _ _ _ _ i.begins _ (omega arith) _)
