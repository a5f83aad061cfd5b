-- The loop's invariant: the pass went over the pairs of the groups before g.
use mathlib.Core.Path.{◌≡◌}
use Rattle.std.specs.Prelude.{Some}
use Rattle.peaks.specs.Passes.{found, left, file_pairs}
use Rattle.peaks.proofs.passing.pass_groups.Given as goal

abbrev pub invariant-loop-g : goal.invariant-loop-g
invariant-loop-g l =
    (found l.pass l.start (file_pairs l.file l.h l.format l.g) l.held ≡ Some l.at)
    × (l.out ≡ left l.pass l.start (file_pairs l.file l.h l.format l.g) l.initial.out)
