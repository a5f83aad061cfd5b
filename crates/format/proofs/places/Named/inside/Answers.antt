-- The definition's two questions, in its order.
use Rattle.format.specs.Places.{inside}
use Rattle.format.proofs.places.Named.inside.Goals as goal

pub returns-then-is_of_group : goal.returns-then-is_of_group
unfolding inside
returns-then-is_of_group c = rw (← c.is_of_group.ensures, c.if-is_of_group.true)

pub returns-then-is_of_block : goal.returns-then-is_of_block
unfolding inside
returns-then-is_of_block c = rw (← c.is_of_group.ensures, c.if-is_of_group.false, ← c.is_of_block.ensures, c.if-is_of_block.true)

pub returns : goal.returns
unfolding inside
returns c = rw (← c.is_of_group.ensures, c.if-is_of_group.false, ← c.is_of_block.ensures, c.if-is_of_block.false)
