-- The checks have passed for the channels that are written, so the blocks are the new group's.
use borrow.Author.Rules.{rules}
use Rattle.laws.proofs.Templates.{head_ok}
use Rattle.reencode_group.proofs.Writing.{order_ok, group_written, as_plain, as_even, as_both}
use Rattle.reencode_group.proofs.reencode_group.Goals as goal

pub mid_bit-requires : goal.mid_bit-requires
mid_bit-requires g c = search (rules, head_ok)

pub mid_side-requires : goal.mid_side-requires
mid_side-requires g c = search (rules, as_even)

pub reencode_channels-requires : goal.reencode_channels-requires
reencode_channels-requires g c =
    let o = order_ok _ _ _ _ c.requires.accepted.0 c.args.n c.mid_side.result (search (rules, as_both)) in
    search (rules, o)

pub reencode_channels-requires-else-mid_bit : goal.reencode_channels-requires-else-mid_bit
reencode_channels-requires-else-mid_bit g c =
    let o = order_ok _ _ _ _ c.requires.accepted.0 c.args.n c.channels_of-a.result (search (rules, as_plain)) in
    search (rules, o)

pub returns-then-mid_bit : goal.returns-then-mid_bit
returns-then-mid_bit g c =
    group_written _ _ _ _ c.requires.accepted.0 c.args.n c.mid_side.result (search (rules, as_both)) _ _ c.reencode_channels.ensures

pub returns-else-mid_bit : goal.returns-else-mid_bit
returns-else-mid_bit g c =
    group_written _ _ _ _ c.requires.accepted.0 c.args.n c.channels_of-a.result (search (rules, as_plain)) _ _ c.reencode_channels-else-mid_bit.ensures
