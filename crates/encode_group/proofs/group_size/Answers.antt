-- Of two channels the length is that of either form, whichever the mode takes.
use borrow.Author.Rules.{rules}
use Rattle.encode_group.proofs.Groups.{size_mid, size_direct}
use Rattle.encode_group.proofs.group_size.Goals as goal

pub returns-then-takes_mid : goal.returns-then-takes_mid
returns-then-takes_mid g c = search (rules, size_mid)

pub returns-then-p-eq2 : goal.returns-then-p-eq2
returns-then-p-eq2 g c = search (rules, size_direct)
