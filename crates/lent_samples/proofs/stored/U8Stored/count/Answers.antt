use mathlib.Core.Path.{sym}
use Rattle.lent_samples.proofs.Laws.{length_lent}
use Rattle.lent_samples.proofs.stored.U8Stored.count.Goals as goal

pub returns : goal.returns
returns c = sym (length_lent c.args.lent.now)
