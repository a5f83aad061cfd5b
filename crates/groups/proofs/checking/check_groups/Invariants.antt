-- The loop's invariant: the first k of the groups have passed. A group's part lies within the file, since it opens.
use mathlib.Core.Path.{◌≡◌}
use Prim.Native.Nat.{◌+◌}
use Rattle.format.specs.Header.{group_bytes}
use Rattle.format.specs.Refusals.{Fine, in_order}
use Rattle.format.specs.Places.{in_group}
use Rattle.format.specs.Decoding.{check_group}
use Rattle.groups.proofs.checking.check_groups.Given as goal

abbrev pub invariant-loop-k : goal.invariant-loop-k
invariant-loop-k l =
    in_order (λ k'. in_group (l.first + k') (check_group l.h l.format (group_bytes l.file l.h (l.first + k')))) l.k ≡ Fine
