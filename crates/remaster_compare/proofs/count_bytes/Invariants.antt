-- The loop's invariant: `same` is the count of the places from `start` on that are passed.
use Rattle.std.proofs.Common.{◌≡◌, ◌-◌, ◌≤◌}
use Rattle.remaster_compare.specs.Same.{same_byte, count_of}
use Rattle.remaster_compare.proofs.count_bytes.Given as goal

abbrev pub invariant-loop-i : goal.invariant-loop-i
invariant-loop-i l =
    (l.i - l.start ≤ l.end - l.start)
    × (l.same ≡ count_of (same_byte l.old l.new) l.start (l.i - l.start))
