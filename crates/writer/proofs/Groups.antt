-- The groups of samples that can be written, as a loop over them meets them.
use Prim.Native.Nat.{ℕ, ◌*◌, ◌/◌, ◌<◌}
use mathlib.Core.Path.{◌≡◌, sym, ap, ◌∙◌}
use mathlib.Core.List.{List}
use mathlib.Core.Bool.{Bool, true, not}
use lib.IntN.{ℤ}
use lib.ListN.{length, length-drop}
use Rattle.format.specs.Header.{groups_of}
use Rattle.format.specs.Units.{active}
use Rattle.format.specs.Encoding.{unwoven, parity, encoded_group, group_in, encoded_group_at, is_mid_side, frames_of}
use Rattle.format.specs.declared.units.Frames.{Frames}
use Rattle.format.specs.declared.settings.PcmSpec.{PcmSpec}
use Rattle.format.specs.declared.settings.StereoMode.{StereoMode}
use Rattle.laws.proofs.Chain.{turns}
use Rattle.laws.proofs.Channels.{some_active, active_low}
use Rattle.laws.proofs.Parts.{one_more}
use Rattle.lent_samples.specs.Lent.{frames_from}
use Rattle.writer.specs.Accepted.{Accepted}
use Rattle.encode_group.specs.Writable.{Writable}
use borrow.Author.Rules.{part_to_end}
use Rattle.writer.proofs.Filling.{none_laid, entry_laid, laid_room, group_laid, all_laid}
use Rattle.group.proofs.Frames.{group_frames, group_inside}

-- ---- parity
abbrev pub differs : List ℤ → ℕ → Bool
differs s = λ g. not (parity (unwoven 2 (group_in 2 s g)))

-- group g is the n frames from the frame `first` on
pub frames_are : (s : List ℤ) (frames : Frames) (first n g : ℕ) → length s ≡ 2 * frames.0 → n ≡ active frames g → first ≡ 512 * g → frames_from 2 first n s ≡ group_in 2 s g
frames_are s frames first n g long count at = rw at (group_frames 2 frames s long g n count)

pub ruleset parities = (turns, some_active, group_inside, frames_are)

-- ---- group g of samples that can be written: the n frames from the frame `first` on
module _ (p : PcmSpec) (mode : StereoMode) (s : List ℤ) (frames : Frames) (g first n : ℕ) (good : Accepted p mode s) (whole : frames.0 ≡ length s / p.channels)
    (below : g < groups_of frames) (count : n ≡ active frames g) (at : first ≡ 512 * g) where
  samples_count : length s ≡ p.channels * frames.0
  samples_count = good.whole ∙ ap (λ (x : ℕ). p.channels * x) (sym whole)

  group_is : frames_from p.channels first n s ≡ group_in p.channels s g
  group_is = rw at (group_frames p.channels frames s samples_count g n count)

  group_even : is_mid_side mode ≡ true → parity (unwoven p.channels (frames_from p.channels first n s)) ≡ true
  group_even e =
      let here : g < groups_of (frames_of p s) = rw whole at below in
      rw group_is (good.even e g here)

  pub group_writable : Writable p mode first n s
  group_writable = record {
    some = rw count (some_active frames g below);
    most = rw count (active_low frames g);
    inside = rw (at, count) (group_inside p.channels frames s samples_count g below);
    channels = good.some;
    low = good.low;
    high = good.high;
    hold = good.hold;
    stereo = good.stereo;
    even = group_even;
  }

  pub group_bytes : encoded_group p mode (frames_from p.channels first n s) ≡ encoded_group_at p mode s g
  unfolding encoded_group_at
  group_bytes = ap (encoded_group p mode) group_is

pub ruleset sizes = (group_bytes, one_more)

pub ruleset turns_of_groups = (group_bytes, one_more, part_to_end, length-drop, none_laid, entry_laid, laid_room, group_laid, all_laid)
