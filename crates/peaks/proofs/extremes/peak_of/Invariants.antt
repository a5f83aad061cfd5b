-- The loop's invariant: the two are the smallest and the largest of the first sample and those that were looked at.
use mathlib.Core.Path.{◌≡◌}
use lib.IntN.{pos}
use lib.ListN.{get_or, take}
use Rattle.std.specs.Prelude.{fold}
use Rattle.std.specs.Int.{int_min, int_max}
use Rattle.peaks.proofs.extremes.peak_of.Given as goal

abbrev pub invariant-loop-x : goal.invariant-loop-x
invariant-loop-x l =
    (l.smallest ≡ fold int_min (get_or l.run 0 (pos 0)) (take l.x-index l.x-items))
    × (l.largest ≡ fold int_max (get_or l.run 0 (pos 0)) (take l.x-index l.x-items))
