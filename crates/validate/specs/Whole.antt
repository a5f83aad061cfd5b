-- Samples that 31 and 33 leave.
use Rattle.std.specs.Prelude.{ℕ, ◌*◌, ◌/◌, ◌<◌, ◌≤◌, ◌≡◌, List, length, ℤ}

-- whole frames of so many channels, and not too many for 32 bits
abbrev pub WholeFrames : ℕ → List ℤ → Type 0
WholeFrames channels s =
    (1 ≤ channels) × (length s ≡ channels * (length s / channels)) × (length s / channels < 4294967296)
