-- Each field is read where the definition has it, and all seven lie in the first 32 bytes.
use Rattle.format.specs.Header.{fields_of}
use Rattle.header.proofs.read_fields.Goals as goal

pub returns : goal.returns
unfolding fields_of
returns c = cc
