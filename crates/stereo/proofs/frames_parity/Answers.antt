-- Padding repeats the last frame, so padded frames change nothing of whether all have equal parity.
use mathlib.Core.Path.{ap, ◌∙◌}
use Rattle.format.specs.Encoding.{parity}
use Rattle.laws.proofs.Stereo.{parity_padded}
use Rattle.stereo.proofs.frames_parity.Goals as goal

pub returns : goal.returns
returns g c = c.parity.ensures ∙ ap parity c.split.ensures ∙ parity_padded _
