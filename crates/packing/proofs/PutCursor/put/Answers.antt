-- The code stands above the bits that wait; where 32 or more then wait, the lowest 32 go to the bytes,
-- and the number that is written so far is the same.
use Rattle.packing.proofs.Steps.{put_short, put_long}
use Rattle.packing.proofs.PutCursor.put.Goals as goal

pub returns-then-have-lt32 : goal.returns-then-have-lt32
returns-then-have-lt32 c = search put_short

pub returns : goal.returns
returns c = search put_long
