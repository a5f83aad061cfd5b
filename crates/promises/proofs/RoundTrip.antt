-- Encoding, then decoding, gives the samples back: every group does, and the table leads to each.
use Prim.Native.Nat.{ℕ, ◌<◌}
use mathlib.Core.Path.{◌≡◌, refl, ap, ◌∙◌, subst}
use mathlib.Core.Bool.{Bool, true, false, not, ◌&&◌}
use mathlib.Core.List.{List}
use native.Mathlib.Omega.{arith}
use lib.IntN.{ℤ}
use lib.Dec.{eqb}
use borrow.Author.Tests.{ltb-false, eqb-true, not-false}
use Rattle.format.specs.Header.{groups_of}
use Rattle.format.specs.Answers.{answered_by}
use Rattle.format.specs.Opening.{header_for, open_of}
use Rattle.format.specs.Decoding.{check_decode, decoded_of}
use Rattle.format.specs.Encoding.{parity, unwoven, group_in, is_mid_side, check_encoder, check_samples, check_stereo, encoded_group_at, encoded_file, check_size, check_encode, frames_of}
use Rattle.format.specs.declared.units.Frames.{Frames}
use Rattle.format.specs.Refusals.{Fine, refuse}
use Rattle.format.specs.Places.{at_group}
use Rattle.format.specs.declared.refusals.Refusal.TheVariants.{ParityDiffers}
use Rattle.format.specs.declared.settings.PcmSpec.{PcmSpec}
use Rattle.format.specs.declared.settings.StereoMode.{StereoMode}
use Rattle.format.specs.declared.settings.StereoMode.TheVariants.{MidSide}
use Rattle.format.specs.declared.settings.SampleFormat.TheVariants.{Pcm}
use Rattle.format.specs.declared.answers.Fields.{Fields}
use Rattle.format.specs.declared.answers.Outcome.TheVariants.{Opened}
use Rattle.laws.proofs.Checks.{first_fine, others_fine, passed}
use Rattle.laws.proofs.Places.{located_at}
use Rattle.laws.proofs.Channels.{group_length, group_holds, groups_joined}
use Rattle.promises.proofs.GroupCoding.{Group, group_codes}
use Rattle.promises.proofs.Laid.{Layout, open_says, decode_fine, decode_gives}
use Rattle.promises.proofs.FileLaws.{Small, first, total, head, assembled_layout}
use Rattle.laws.proofs.SampleChecks.{encoder_ok, frames_ok, values_ok, count_ok}

-- encoding accepts s
module _ (p : PcmSpec) (mode : StereoMode) (s : List ℤ) (ok : check_encode p mode s ≡ Fine) where
  abbrev frames : Frames
  frames = frames_of p s

  abbrev part : ℕ → List ℕ
  part = encoded_group_at p mode s

  abbrev pub h : Fields
  h = head p frames part

  -- ---- what passed
  pub writer_ok : check_encoder p ≡ Fine
  unfolding check_encode
  writer_ok = first_fine _ _ ok

  pub samples_ok : check_samples p s ≡ Fine
  unfolding check_encode
  samples_ok = first_fine _ _ (others_fine _ _ ok)

  stereo_ok : check_stereo p mode s ≡ Fine
  unfolding check_encode
  stereo_ok = first_fine _ _ (others_fine _ _ (others_fine _ _ ok))

  size_ok : check_size p mode s ≡ Fine
  unfolding check_encode
  size_ok = others_fine _ _ (others_fine _ _ (others_fine _ _ ok))

  total_ok : total p frames part < 4294967296
  unfolding check_size
  total_ok = let z = ltb-false 4294967295 (total p frames part) (passed _ _ size_ok) in omega arith

  abbrev odd : ℕ → Bool
  odd g = not (parity (unwoven p.channels (group_in p.channels s g)))

  pub mid_ok : (g : ℕ) → g < groups_of frames → mode ≡ MidSide → (p.channels ≡ 2) × (parity (unwoven p.channels (group_in p.channels s g)) ≡ true)
  unfolding check_stereo is_mid_side
  mid_ok g l e =
      let m : is_mid_side mode ≡ true = ap is_mid_side e in
      let a = subst (λ (b : Bool). (b && not (eqb p.channels 2)) ≡ false) m (passed _ _ (first_fine _ _ stereo_ok)) in
      let c = located_at (λ g. refuse (is_mid_side mode && odd g) ParityDiffers) at_group g (groups_of frames) l (others_fine _ _ stereo_ok) in
      let b = subst (λ (b : Bool). (b && odd g) ≡ false) m (passed _ ParityDiffers c) in
      (eqb-true p.channels 2 (not-false _ a), not-false _ b)

  -- ---- the file
  module _ (rate : p.sample_rate < 4294967296) where
    small : Small p frames (first p frames part) (total p frames part)
    unfolding groups_of
    small =
        let v = encoder_ok p writer_ok in
        let c = count_ok p s samples_ok in
        record {
          channels_16 = omega (arith, v.few);
          bits_16 = omega (arith, v.high);
          rate_32 = rate;
          frames_32 = c;
          start_32 = omega arith;
          size_32 = total_ok;
        }

    -- every group reads as its samples
    groups_ok : (g : ℕ) → g < groups_of frames → Group h g (group_in p.channels s g) (part g)
    unfolding encoded_group_at
    groups_ok g l =
        let v = encoder_ok p writer_ok in
        group_codes p mode h refl refl v.some v.low v.high g (group_in p.channels s g) (group_length p.channels frames s (frames_ok p s samples_ok) g)
        (group_holds p.bits_per_sample p.channels s g (values_ok p s samples_ok v.depth)) (mid_ok g l)

    pub layout : Layout (encoded_file p mode s) h part
    unfolding encoded_file
    layout = assembled_layout p frames part small

    -- opening says what it was made of
    pub opens : open_of (encoded_file p mode s) ≡ answered_by (Opened (header_for h Pcm))
    opens = let v = encoder_ok p writer_ok in open_says layout (group_in p.channels s) v.some v.depth v.rate groups_ok

    -- decoding accepts the file
    pub decodes : check_decode (encoded_file p mode s) ≡ Fine
    decodes = let v = encoder_ok p writer_ok in decode_fine layout (group_in p.channels s) v.some v.depth v.rate groups_ok

    -- and gives the samples
    pub gives_back : decoded_of (encoded_file p mode s) ≡ s
    gives_back =
        let v = encoder_ok p writer_ok in
        decode_gives layout (group_in p.channels s) v.some v.depth v.rate groups_ok ∙ groups_joined p.channels frames s (frames_ok p s samples_ok)
