-- All have equal parity where those before i have, which `even` says, and those from i on.
use mathlib.Core.Path.{refl}
use borrow.Author.Rules.{rules}
use Rattle.format.specs.Encoding.{parity}
use Rattle.stereo.proofs.Pairs.{row_long}
use Rattle.stereo.proofs.Rows.{even_more, even_all}
use Rattle.stereo.proofs.parity.Goals as goal

pub loop-i-init : goal.loop-i-init
unfolding parity
loop-i-init c = (search rules, search (rules, row_long), search (rules, row_long), refl)

pub loop-i-preserved : goal.loop-i-preserved
loop-i-preserved c = (search rules, search rules, search rules, search (rules, even_more))

pub returns : goal.returns
returns c = search (rules, even_all)
