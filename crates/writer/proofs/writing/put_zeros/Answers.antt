-- Bytes 32 to 119 are 88 of them.
use Rattle.writer.proofs.Heading.{zeros_put}
use Rattle.writer.proofs.writing.put_zeros.Goals as goal

pub returns : goal.returns
returns c = zeros_put c.args.out.now c.fill.new.self 32 88 c.requires (c.fill.ensures.after (λ y h. h))
