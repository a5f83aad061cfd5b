-- The definition's tests in its order; the division comes after the channels are seen not to be 0, the cast after the
-- frames are seen to fit 32 bits.
use Rattle.format.proofs.UnitLaws.{no_channels, no_frame, too_many, whole_frames, framing}
use Rattle.format.proofs.units.Samples.frames.Goals as goal

pub returns-then-channels-eq0 : goal.returns-then-channels-eq0
returns-then-channels-eq0 c = framing _ _ _ (search no_channels)

pub returns-then-n-c-ne0 : goal.returns-then-n-c-ne0
returns-then-n-c-ne0 c = framing _ _ _ (search no_frame)

pub returns-then-f-gt4294967295 : goal.returns-then-f-gt4294967295
returns-then-f-gt4294967295 c = framing _ _ _ (search too_many)

pub returns : goal.returns
returns c = framing _ _ _ (search whole_frames)
