-- The loop's invariant: `same` is the count of the samples that are passed.
use Rattle.std.proofs.Common.{◌≡◌}
use Rattle.remaster_compare.specs.Same.{same_sample, count_of}
use Rattle.remaster_compare.proofs.count_samples.Given as goal

abbrev pub invariant-loop-i : goal.invariant-loop-i
invariant-loop-i l = l.same ≡ count_of (same_sample l.a l.b) 0 l.i
