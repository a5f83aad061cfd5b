use Rattle.std.proofs.Common.{rules}
use Rattle.packing.proofs.Run.{code_is, done_none, done_more}
use Rattle.packing.proofs.put_all.Goals as goal

pub loop-x-init : goal.loop-x-init
loop-x-init c = (search rules, λ i. (c.type_inv.run i).fits, search done_none)

pub loop-x-preserved : goal.loop-x-preserved
loop-x-preserved c = (search rules, λ i. (c.type_inv.run i).fits, search (rules, done_more, code_is))
