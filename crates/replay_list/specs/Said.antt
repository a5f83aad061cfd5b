-- What an answer, or the number that the host boundary returns, says; and when that is as recorded.
use Rattle.std.specs.Prelude.{ℕ, ◌+◌, ◌-◌, ◌*◌, ◌/◌, ◌^◌, Bool, cond, ◌&&◌, List, length, take, ℤ, ◌==◌, nat_le, nat_lt}
use Rattle.format.specs.Numbers.{code_of}
use Rattle.format.specs.Refusals.{number, told}
use Rattle.format.specs.declared.refusals.Refusal.{Refusal}
use Rattle.format.specs.declared.refusals.Told.{Told}
use Rattle.format.specs.declared.refusals.Told.TheVariants.{Nothing, Bits, Misfit}
use Rattle.format.specs.declared.answers.Answer.{Answer}
use Rattle.format.specs.declared.answers.Outcome.{Outcome}
use Rattle.format.specs.declared.answers.Outcome.TheVariants.{Opened, Read, Finished, Wrote, Refused, Matches, Differs}
use Rattle.replay_list.specs.declared.answers.Recorded.{Recorded}
use Rattle.replay_list.specs.declared.answers.Said.{Said}
use Rattle.replay_list.specs.declared.answers.Verdict.{Verdict}
use Rattle.replay_list.specs.Room.{is_kept, sum_of}

-- the call was accepted, and wrote so many bytes
abbrev pub said_length : ℕ → Said
said_length bytes = record { number = 0; told = 0; group = 0; channel = 0; length = bytes }

-- the call was refused by a number, and told more
abbrev pub said_number : ℕ → ℕ → Said
said_number refusal more = record { number = refusal; told = more; group = 0; channel = 0; length = 0 }

-- and it named a group and a channel
abbrev pub said_at : Said → ℕ → ℕ → Said
said_at said group channel =
    record { number = said.number; told = said.told; group = group; channel = channel; length = said.length }

-- ---- what an answer says

-- what a refusal tells besides its number: the bits word, as 16 bits; the place of a value that does not fit; 0 where
-- it tells nothing
abbrev pub told_by : Told → ℕ
told_by (Bits b) = code_of 16 b
told_by (Misfit place) = place
told_by Nothing = 0

-- the number of the refusal, and what it tells
abbrev pub said_refused : Refusal → Said
said_refused r = said_number (number r) (told_by (told r))

-- 4 bytes for each sample; from 2 ^ 32 samples on, a length that no list has
abbrev pub said_samples : ℕ → Said
said_samples samples = said_length (cond (nat_lt samples (2 ^ 32)) (4 * samples) (2 ^ 64 - 1))

-- a walk that is done is 255; opening writes nothing, and says a length that no list has
abbrev pub said_outcome : Outcome → Said
said_outcome (Opened h) = said_length (2 ^ 64 - 1)
said_outcome (Read samples) = said_samples samples.0
said_outcome Finished = said_number 255 0
said_outcome (Wrote bytes) = said_length bytes
said_outcome (Refused r) = said_refused r
said_outcome Matches = said_length 1  -- yes
said_outcome Differs = said_length 0

-- that, and the group and the channel that the answer names
abbrev pub said_by : Answer → Said
said_by answer = said_at (said_outcome answer.outcome) answer.group answer.channel

-- the number of a refusal; from 2 ^ 32 on, a number that no refusal has
abbrev pub refusal_of : ℕ → ℕ
refusal_of n = cond (nat_lt n (2 ^ 32)) n (2 ^ 32 - 1)

-- what the host boundary's number says: below 2 ^ 63 a length, otherwise 2 ^ 63 plus a refusal's number. It tells
-- nothing besides, and names no place: what was recorded is given for these
unfoldable pub said_by_host : ℕ → Recorded → Said
said_by_host result want =
    let refused = said_at (said_number (refusal_of (result - 2 ^ 63)) want.told) want.group want.channel in
    cond (nat_lt result (2 ^ 63)) (said_length result) refused

-- ---- what was recorded

-- a refusal by a number, which told more, and named a group and a channel
abbrev pub recorded_refusal : ℕ → ℕ → ℕ → ℕ → Recorded
recorded_refusal refusal more group channel =
    record { number = refusal; told = more; group = group; channel = channel; length = 0; sum = 0 }

-- the place that was recorded of 36
abbrev pub misfit_of : Recorded → ℕ
misfit_of want = cond (want.number == 36) want.told 0

-- the word by which the host boundary is to tell that: 0 where the call was accepted, since all four are 0 then.
-- It does not tell 4's bits word
unfoldable pub word_of : Recorded → ℕ
word_of want = want.number + 2 ^ 8 * misfit_of want + 2 ^ 24 * want.channel + 2 ^ 40 * want.group

-- what was said was recorded: the number, what was told, the group, the channel and the length are the same
unfoldable pub is_said : Said → Recorded → Bool
is_said said want =
    (said.number == want.number)
    && said.told == want.told
    && said.group == want.group
    && said.channel == want.channel
    && said.length == want.length

-- how many words of 4 bytes hold so many bytes
unfoldable pub words_in : ℕ → ℕ
words_in bytes = (bytes + 3) / 4

-- that was recorded: what was said, the room has so many samples, of 4 bytes, their sum is the recorded one, and
-- behind them it holds what it was filled with. Of a length that is no multiple of 4 the last 1 to 3 bytes are summed
-- together with what the room was filled with behind them
unfoldable pub is_recorded : Said → Recorded → List ℤ → Bool
is_recorded said want room =
    let n = words_in want.length in
    is_said said want
    && nat_le n (length room)
    && sum_of (take n room) == want.sum
    && is_kept n room

-- whether an answer was as recorded, and of what was recorded the number and the length
abbrev pub verdict_of : Bool → Recorded → Verdict
verdict_of same want = record { is_same = same; number = want.number; length = want.length }
