-- The pairs before i are left and right, those from i on mid and side.
use borrow.Author.Rules.{rules}
use Rattle.format.specs.MidSide.{left_right}
use Rattle.stereo.proofs.Pairs.{row_long, split_none, split_turn, split_all}
use Rattle.stereo.proofs.left_right.Goals as goal

pub loop-i-init : goal.loop-i-init
loop-i-init c = (search rules, search (rules, split_none, row_long))

pub loop-i-preserved : goal.loop-i-preserved
loop-i-preserved c = (search rules, search (rules, split_turn))

pub returns : goal.returns
unfolding left_right
returns c = search (rules, split_all)
