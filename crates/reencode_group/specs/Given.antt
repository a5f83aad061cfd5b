-- What a template's group is given.
use Rattle.std.specs.Prelude.{ℕ, ◌≤◌, List, ℤ}
use Rattle.format.specs.declared.settings.PcmSpec.{PcmSpec}
use Rattle.lent_samples.specs.Lent.{GroupFits}

-- n frames of the samples s, from the frame `first` on, of one or two channels, at a depth of 1 to 32 bits
abbrev pub Given : PcmSpec → ℕ → ℕ → List ℤ → Type 0
Given p first n s =
    GroupFits p.channels first n s
    × (1 ≤ p.channels) × (p.channels ≤ 2)
    × (1 ≤ p.bits_per_sample) × (p.bits_per_sample ≤ 32)
