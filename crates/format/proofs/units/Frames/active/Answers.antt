-- The difference is taken only where frames are left, and `min` is the two tests on it.
use borrow.Author.Rules.{rules}
use Rattle.format.specs.Units.{active}
use Rattle.format.proofs.units.Frames.active.Goals as goal

pub returns-then-all-before : goal.returns-then-all-before
unfolding active
returns-then-all-before c = search rules

pub returns-then-left : goal.returns-then-left
unfolding active
returns-then-left c = search rules

pub returns : goal.returns
unfolding active
returns c = search rules
