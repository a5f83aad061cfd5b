-- What the checks before sizes answer at each way out, and what they tell once passed.
use Prim.Native.Nat.{ℕ, ◌/◌, ◌≤◌}
use mathlib.Core.Path.{◌≡◌, ◌∙◌}
use mathlib.Core.Bool.{Bool, false, not, ◌&&◌}
use mathlib.Core.List.{List}
use lib.ListN.{length}
use lib.IntN.{ℤ}
use lib.Dec.{eqb}
use borrow.Author.Tests.{not-false}
use Rattle.format.specs.Header.{groups_of}
use Rattle.format.specs.Refusals.{Checked, Fine, refuse, ◌then◌, in_order}
use Rattle.format.specs.Places.{at_group, in_group}
use Rattle.format.specs.Encoding.{unwoven, parity, group_in, check_encoder, check_samples, is_mid_side, frames_of, check_stereo}
use Rattle.format.specs.declared.refusals.Refusal.TheVariants.{NotStereo, ParityDiffers}
use Rattle.format.specs.declared.settings.PcmSpec.{PcmSpec}
use Rattle.format.specs.declared.settings.StereoMode.{StereoMode}
use Rattle.format.specs.declared.settings.StereoMode.TheVariants.{MidSide}
use Rattle.laws.proofs.Checks.{pass, passed, ◌and_then◌, first_fine, others_fine}
use Rattle.laws.proofs.Places.{located_at, located_all}
use Rattle.laws.proofs.Chain.{first_no, err_then, stages}
use Rattle.laws.proofs.Signs.{holds_every}
use Rattle.laws.proofs.SampleChecks.{encoder_ok, frames_ok, values_ok, count_ok}
use Rattle.writer.specs.Accepted.{Accepted}

-- ---- 34, 35
module _ (p : PcmSpec) (mode : StereoMode) (s : List ℤ) where
  differs : ℕ → Bool
  differs g = is_mid_side mode && not (parity (unwoven p.channels (group_in p.channels s g)))

  -- only MidSide asks
  pub unasked : is_mid_side mode ≡ false → check_stereo p mode s ≡ Fine
  unfolding check_stereo differs
  unasked e =
      pass _ NotStereo (first_no (is_mid_side mode) _ e)
      and_then located_all (λ g. refuse (differs g) ParityDiffers) at_group (groups_of (frames_of p s)) (λ g l. pass (differs g) ParityDiffers (first_no (is_mid_side mode) _ e))

  -- and it asks for two channels first, and then for parity
  pub asked : mode ≡ MidSide
      → check_stereo p mode s
      ≡ (refuse (not (eqb p.channels 2)) NotStereo
      then in_order (λ g. in_group g (refuse (not (parity (unwoven p.channels (group_in p.channels s g)))) ParityDiffers)) (groups_of (frames_of p s)))
  unfolding check_stereo is_mid_side
  asked e = rw e

  -- which of two channels is all
  pub parity_asked : mode ≡ MidSide → p.channels ≡ 2
      → check_stereo p mode s ≡ in_order (λ g. in_group g (refuse (not (parity (unwoven 2 (group_in 2 s g)))) ParityDiffers)) (groups_of (record { 0 = length s / 2 }))
  unfolding ◌then◌ refuse
  parity_asked e two = asked e ∙ rw two

pub ruleset asks = (unasked, asked, parity_asked, err_then)

-- ---- 30 to 35
abbrev pub check_input : PcmSpec → StereoMode → List ℤ → Checked
check_input p mode s = check_encoder p then check_samples p s then check_stereo p mode s

pub input_some : (p : PcmSpec) → check_encoder p ≡ Fine → 1 ≤ p.channels
input_some p fine = (encoder_ok p fine).some

pub ruleset inputs = (stages, input_some, frames_ok, count_ok)

-- what they leave
pub accepted : (p : PcmSpec) (mode : StereoMode) (s : List ℤ) → check_input p mode s ≡ Fine → Accepted p mode s
unfolding check_stereo differs
accepted p mode s fine =
    let rest = others_fine (check_encoder p) _ fine in
    let spec = encoder_ok p (first_fine _ _ fine) in
    let ok = first_fine (check_samples p s) _ rest in
    let both = others_fine (check_samples p s) _ rest in
    record {
      some = spec.some;
      low = spec.low;
      high = spec.high;
      whole = frames_ok p s ok;
      count = count_ok p s ok;
      hold = holds_every p.bits_per_sample s (values_ok p s ok spec.depth);
      stereo = passed _ _ (first_fine _ _ both);
      even = λ e g l. not-false _ (rw e at (passed _ _ (located_at (λ g. refuse (differs p mode s g) ParityDiffers) at_group g (groups_of (frames_of p s)) l (others_fine _ _ both))));
    }
