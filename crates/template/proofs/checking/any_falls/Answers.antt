use mathlib.Core.Path.{sym}
use native.Mathlib.Omega.{arith}
use borrow.Author.Tests.{le-leb}
use Rattle.laws.proofs.Chain.{any_found}
use Rattle.template.proofs.checking.any_falls.Goals as goal

pub returns-then-entry_at : goal.returns-then-entry_at
returns-then-entry_at c = sym (any_found _ c.loop-k.k _ (omega arith) (le-leb _ _ (omega arith)))
