-- Rounding up adds 1 exactly where the division leaves a rest, which is what adding 511 first does.
use borrow.Author.Rules.{rules}
use Rattle.format.specs.Header.{groups_of}
use Rattle.format.proofs.units.Frames.groups.Goals as goal

pub returns-then-self-eq0 : goal.returns-then-self-eq0
unfolding groups_of
returns-then-self-eq0 c = search rules

pub returns-else-self-eq0 : goal.returns-else-self-eq0
unfolding groups_of
returns-else-self-eq0 c = search rules
