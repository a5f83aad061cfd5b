-- What the checks 30 to 35 leave: settings and samples that can be written.
use Rattle.std.specs.Prelude.{ℕ, ◌*◌, ◌/◌, ◌<◌, ◌≤◌, ◌≡◌, List, true, false, not, ◌&&◌, length, ℤ, eqb}
use Rattle.format.specs.Lists.{every}
use Rattle.format.specs.Numbers.{holds}
use Rattle.format.specs.Header.{groups_of}
use Rattle.format.specs.Encoding.{unwoven, parity, group_in, is_mid_side, frames_of}
use Rattle.format.specs.declared.settings.PcmSpec.{PcmSpec}
use Rattle.format.specs.declared.settings.StereoMode.{StereoMode}

pub record Accepted (p : PcmSpec) (mode : StereoMode) (s : List ℤ) : Type 0 where
  pub some : 1 ≤ p.channels
  pub low : 1 ≤ p.bits_per_sample
  pub high : p.bits_per_sample ≤ 32
  pub whole : length s ≡ p.channels * (length s / p.channels)
  pub count : length s / p.channels < 4294967296
  pub hold : every (holds p.bits_per_sample) s ≡ true
  pub stereo : (is_mid_side mode && not (eqb p.channels 2)) ≡ false
  -- MidSide: the samples of every group's frames are of equal parity
  pub even : is_mid_side mode ≡ true → (g : ℕ) → g < groups_of (frames_of p s)
      → parity (unwoven p.channels (group_in p.channels s g)) ≡ true
