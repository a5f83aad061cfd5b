-- The loop's invariant: the first i samples that the bytes are, are taken.
use Rattle.std.proofs.Common.{◌≡◌, take}
use Rattle.format.specs.Boundary.{samples_from}
use Rattle.format.specs.Lists.{over}
use Rattle.replay_writing.proofs.take_samples.Given as goal

abbrev pub invariant-loop-i : goal.invariant-loop-i
invariant-loop-i l = l.words ≡ over (take l.i (samples_from l.bytes)) l.initial.words
