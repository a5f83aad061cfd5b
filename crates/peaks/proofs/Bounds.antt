-- How long a summary is at most, which is a number of 64 bits.
use Prim.Native.Nat.{ℕ, ◌+◌, ◌*◌, ◌^◌, ◌≤◌, ◌<◌}
use mathlib.Core.List.{List}
use native.Mathlib.Nat.{mul-le-mul}
use native.Mathlib.Omega.{arith}
use lib.ListN.{length}
use Rattle.format.specs.Numbers.{Below}
use Rattle.format.specs.Header.{fields_of, groups_of}
use Rattle.format.specs.Peaks.{peak_at, summary_of}
use Rattle.laws.proofs.Located.{channels_few, groups_few}
use Rattle.laws.proofs.Summaries.{summary_most}

pub summary_short : (s : List ℕ) → length (summary_of s) ≤ 10 * (groups_of (fields_of s).frames * (fields_of s).channels) + 10
unfolding summary_of
summary_short s = summary_most (fields_of s).frames (fields_of s).channels (peak_at s)

-- so many groups of so few channels
few : (g c : ℕ) → g ≤ 8388608 → c < 65536 → g * c ≤ 8388608 * 65536
few g c l m = let k : c ≤ 65536 = omega arith in mul-le-mul l k

pub summary_fits : (s : List ℕ) → Below 256 s → length (summary_of s) < 2 ^ 64
summary_fits s byte =
    let h = fields_of s in
    omega (arith, summary_short s, few (groups_of h.frames) h.channels (groups_few s byte) (channels_few s byte))
