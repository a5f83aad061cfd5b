-- A group of two channels, padded: both its lengths, and what a mode takes.
use Rattle.std.specs.Prelude.{ℕ, List, Bool, true, false, ◌&&◌, length, ℤ, ltb}
use Rattle.format.specs.Encoding.{blocks, mid_side, parity}
use Rattle.format.specs.declared.settings.StereoMode.{StereoMode}
use Rattle.format.specs.declared.settings.StereoMode.TheVariants.{Auto, Direct, MidSide}
use Rattle.encode_group.specs.declared.Sizes.{Sizes}

-- direct, and in mid/side
abbrev pub sizes_of : ℕ → List (List ℤ) → Sizes
sizes_of depth chans =
    record { direct = length (blocks depth 0 chans); mid_side = length (blocks depth 1 (mid_side chans)) }

-- Auto: where representable and strictly smaller
unfoldable pub auto_takes : ℕ → List (List ℤ) → Bool
auto_takes depth chans = parity chans && ltb (sizes_of depth chans).mid_side (sizes_of depth chans).direct

unfoldable pub takes_of : StereoMode → ℕ → List (List ℤ) → Bool
takes_of Direct depth chans = false
takes_of MidSide depth chans = true
takes_of Auto depth chans = auto_takes depth chans
