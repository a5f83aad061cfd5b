-- What can be written as a group.
use Rattle.std.specs.Prelude.{ℕ, ◌+◌, ◌*◌, ◌<◌, ◌≤◌, ◌≡◌, List, true, false, not, ◌&&◌, length, ℤ, eqb}
use Rattle.format.specs.Lists.{every}
use Rattle.format.specs.Numbers.{holds}
use Rattle.format.specs.Encoding.{unwoven, parity, is_mid_side}
use Rattle.format.specs.declared.settings.PcmSpec.{PcmSpec}
use Rattle.format.specs.declared.settings.StereoMode.{StereoMode}
use Rattle.lent_samples.specs.Lent.{frames_from}

-- n frames, from the frame `first` on, of samples that can be written so
pub record Writable (p : PcmSpec) (mode : StereoMode) (first n : ℕ) (s : List ℤ) : Type 0 where
  pub some : 0 < n
  pub most : n ≤ 512
  pub inside : (first + n) * p.channels ≤ length s
  pub channels : 1 ≤ p.channels
  pub low : 1 ≤ p.bits_per_sample
  pub high : p.bits_per_sample ≤ 32
  pub hold : every (holds p.bits_per_sample) s ≡ true
  pub stereo : (is_mid_side mode && not (eqb p.channels 2)) ≡ false
  -- MidSide: every frame has equal parity
  pub even : is_mid_side mode ≡ true → parity (unwoven p.channels (frames_from p.channels first n s)) ≡ true
