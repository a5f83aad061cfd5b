-- Float sums on bit patterns.
use Rattle.std.specs.Prelude.{ℕ, cond}
use Rattle.std.specs.Float.Ieee as Ieee
use Rattle.std.specs.Float.{binary32}
use Rattle.std.specs.Float.Ieee.{nan_bits, of_bits}
use Rattle.format.specs.MidSide.{settled}

-- the one of the patterns m and s that a frame is lost by, if it is a NaN's: m if that is one, otherwise s
abbrev pub lost_by : ℕ → ℕ → ℕ
lost_by m s = cond (nan_bits binary32 m) m s

-- mid + side, and mid − side, of the floats with the patterns m and s, settled
abbrev pub float_sum : ℕ → ℕ → ℕ
float_sum m s = settled m s (Ieee.add binary32 (of_bits binary32 m) (of_bits binary32 s))

abbrev pub float_difference : ℕ → ℕ → ℕ
float_difference m s = settled m s (Ieee.sub binary32 (of_bits binary32 m) (of_bits binary32 s))
