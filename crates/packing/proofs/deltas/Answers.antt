use Rattle.std.proofs.Common.{rules}
use Rattle.format.specs.Numbers.{minus}
use Rattle.sample.proofs.Words.{called}
use Rattle.packing.proofs.Sweeps.{stored_more}
use Rattle.packing.proofs.deltas.Goals as goal

pub loop-i-preserved : goal.loop-i-preserved
loop-i-preserved c = search (rules, stored_more, called minus)
