-- The pairs before i are mid and side, those from i on left and right, of equal parity.
use borrow.Author.Rules.{rules}
use Rattle.format.specs.Encoding.{mid_side}
use Rattle.stereo.proofs.Pairs.{row_long, split_none, split_turn, split_all}
use Rattle.stereo.proofs.Rows.{even_none, even_pair, even_turn}
use Rattle.stereo.proofs.mid_side.Goals as goal

pub loop-i-init : goal.loop-i-init
loop-i-init c = (search rules, search (rules, split_none, row_long), search (rules, even_none, row_long))

pub mid-requires : goal.mid-requires
mid-requires c = search (rules, even_pair)

pub side-requires : goal.side-requires
side-requires c = search (rules, even_pair)

pub loop-i-preserved : goal.loop-i-preserved
loop-i-preserved c = (search rules, search (rules, split_turn), search (rules, even_turn))

pub returns : goal.returns
unfolding mid_side
returns c = search (rules, split_all)
