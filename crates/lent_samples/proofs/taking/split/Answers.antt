-- Both channels are taken alike, and padded together.
use Rattle.lent_samples.proofs.Taken.{split_taken}
use Rattle.lent_samples.proofs.taking.split.Goals as goal

pub returns : goal.returns
returns g c = split_taken _ c.take_channel-l.ensures c.take_channel-r.ensures c.pad_both.ensures
