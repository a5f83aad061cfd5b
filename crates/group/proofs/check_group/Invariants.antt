-- The loop's invariant: the channels before c have passed, and `at` is where channel c's block begins.
use mathlib.Core.Path.{◌≡◌}
use Prim.Native.Nat.{◌≤◌}
use lib.ListN.{length, drop}
use Rattle.format.specs.Blocks.{from_block}
use Rattle.format.specs.Refusals.{Fine, in_order}
use Rattle.format.specs.Places.{in_channel}
use Rattle.format.specs.Decoding.{check_block}
use Rattle.group.proofs.check_group.Given as goal

abbrev pub invariant-loop-c : goal.invariant-loop-c
invariant-loop-c l =
    (l.at ≤ length l.bs)
    × (from_block l.h.depth l.bs l.c ≡ drop l.at l.bs)
    × (in_order (λ c. in_channel c (check_block l.h l.format c (from_block l.h.depth l.bs c))) l.c ≡ Fine)
