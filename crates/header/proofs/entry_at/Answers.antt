-- Entry k is the four bytes that begin 4 * k past the table's offset, which is where they are read.
use Rattle.format.specs.Header.{entry}
use Rattle.header.proofs.entry_at.Goals as goal

pub returns : goal.returns
unfolding entry
returns c = c.read_u32_le.ensures
