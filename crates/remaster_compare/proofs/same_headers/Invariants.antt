-- The loop's invariant: `at` is where the next block begins, and `same` is the count of the blocks that are passed.
use Rattle.std.proofs.Common.{◌≡◌}
use Rattle.remaster_compare.specs.Same.{count_of}
use Rattle.remaster_compare.specs.Kept.{place_of, is_kept}
use Rattle.remaster_compare.proofs.same_headers.Given as goal

abbrev pub invariant-loop-i : goal.invariant-loop-i
invariant-loop-i l =
    (l.at ≡ place_of l.depth l.old l.start l.i)
    × (l.same ≡ count_of (is_kept l.depth l.old l.new l.start) 0 l.i)
