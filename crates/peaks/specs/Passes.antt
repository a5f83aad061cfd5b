-- What a pass finds and leaves, of bytes that a summary holds.
use Rattle.std.specs.Prelude.{ℕ, ◌+◌, ◌≤◌, ◌<◌, ◌^◌, ◌≡◌, cond, Option, Some, None, List, length}
use Rattle.std.proofs.lemmas.List.Edits.{sets}
use Rattle.format.specs.Lists.{joined, from, same}
use Rattle.format.specs.Header.{group_bytes}
use Rattle.format.specs.Units.{active}
use Rattle.format.specs.Peaks.{pair_bytes, channel_peak}
use Rattle.format.specs.declared.settings.SampleFormat.{SampleFormat}
use Rattle.format.specs.declared.answers.Fields.{Fields}
use Rattle.peaks.specs.declared.pass.Pass.{Pass}
use Rattle.peaks.specs.declared.pass.Pass.TheVariants.{Measure, Write, Compare}

-- of the bytes b at the place `at`: the place behind them; where they are not what is held there, it stops
abbrev pub found : Pass → ℕ → List ℕ → List ℕ → Option ℕ
found Measure at b held = Some (at + length b)
found Write at b held = Some (at + length b)
found Compare at b held = cond (same b (from at (length b) held)) (Some (at + length b)) None

-- and what the lent bytes then hold
abbrev pub left : Pass → ℕ → List ℕ → List ℕ → List ℕ
left Measure at b out = out
left Write at b out = sets out at b
left Compare at b out = out

-- the place behind them is a number of 64 bits, and where they are written there is room for them
abbrev pub Fits : Pass → ℕ → List ℕ → List ℕ → Type 0
Fits pass at b out = (at + length b < 2 ^ 64) × (pass ≡ Write → at + length b ≤ length out)

abbrev pub Passes : Pass → ℕ → List ℕ → List ℕ → List ℕ → Option ℕ → List ℕ → Type 0
Passes pass at b held out answer after = (answer ≡ found pass at b held) × (after ≡ left pass at b out)

-- the pairs of a group, of whose frames the first n are active
unfoldable pub group_pairs : Fields → SampleFormat → ℕ → List ℕ → List ℕ
group_pairs h format n bs = joined (λ c. pair_bytes (channel_peak h format n bs c)) h.channels

-- and of the first k groups of a file
unfoldable pub file_pairs : List ℕ → Fields → SampleFormat → ℕ → List ℕ
file_pairs file h format k = joined (λ g. group_pairs h format (active h.frames g) (group_bytes file h g)) k
