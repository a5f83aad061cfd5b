-- What passed checks tell, for every writer: 30, of what it is given, and 31 to 33, whole frames, values that the
-- depth holds, and no more frames than 32 bits count.
use Prim.Native.Nat.{ℕ, ◌*◌, ◌/◌, ◌%◌, ◌≤◌, ◌<◌}
use mathlib.Core.Path.{◌≡◌, refl, sym, ap, ◌∙◌, fun_ext}
use mathlib.Core.Bool.{Bool, true, false, not}
use mathlib.Core.List.{List, [], ◌∷◌}
use mathlib.Core.Logic.{⊎_elim}
use native.Mathlib.Omega.{arith}
use native.Mathlib.Nat.{div-add-mod}
use lib.ListN.{length}
use lib.IntN.{ℤ}
use lib.Dec.{eqb}
use borrow.Author.Tests.{ltb-false, le-ltb, eqb-true, eqb-false, ne_eqb, not-false}
use Rattle.format.specs.Lists.{every, is_in}
use Rattle.format.specs.Units.{bits_in, within, is_depth, depth_of, depth_word}
use Rattle.format.specs.Encoding.{check_spec, check_encoder, check_samples}
use Rattle.format.specs.Reencoding.{check_reencoder}
use Rattle.format.specs.Refusals.{Fine, number}
use Rattle.format.specs.declared.units.Depth.{Depth}
use Rattle.format.specs.declared.units.Depth.TheVariants.{Eight, Sixteen, TwentyFour, ThirtyTwo}
use Rattle.format.specs.declared.refusals.Refusal.{Refusal}
use Rattle.format.specs.declared.settings.PcmSpec.{PcmSpec}
use Rattle.format.proofs.UnitLaws.{depth_bits, within_holds}
use Rattle.laws.proofs.Tests.{and_left, and_right, either}
use Rattle.laws.proofs.Checks.{pass, passed, ◌and_then◌, first_fine, others_fine, Unsaid, unsaid, ◌nor◌}
use Rattle.laws.proofs.Signs.{AllHold, every_holds}

-- ---- 30: settings of 1 to `most` channels, of one of these depths, and with a rate: what such a writer takes
pub record Taken (most : ℕ) (depths : List ℕ) (p : PcmSpec) : Type 0 where
  pub some : 1 ≤ p.channels
  pub few : p.channels ≤ most
  pub depth : is_in p.bits_per_sample depths ≡ true
  pub rate : 1 ≤ p.sample_rate

module _ (most : ℕ) (depths : List ℕ) (p : PcmSpec) where
  pub taken_fine : Taken most depths p → check_spec most depths p ≡ Fine
  unfolding check_spec
  taken_fine t =
      let some = t.some in
      let rate = t.rate in
      pass _ _ (ne_eqb p.channels 0 (λ e. omega arith))
      and_then pass _ _ (le-ltb most p.channels t.few)
      and_then pass _ _ (ap not t.depth)
      and_then pass _ _ (ne_eqb p.sample_rate 0 (λ e. omega arith))

  pub fine_taken : check_spec most depths p ≡ Fine → Taken most depths p
  unfolding check_spec
  fine_taken ok =
      let ok2 = others_fine _ _ ok in
      let ok3 = others_fine _ _ ok2 in
      let c = eqb-false p.channels 0 (passed _ _ (first_fine _ _ ok)) in
      let q = eqb-false p.sample_rate 0 (passed _ _ (others_fine _ _ ok3)) in
      record {
        some = omega arith;
        few = ltb-false most p.channels (passed _ _ (first_fine _ _ ok2));
        depth = not-false _ (passed _ _ (first_fine _ _ ok3));
        rate = omega arith;
      }

-- what follows of them, where the depths are depths
pub record Valid (most : ℕ) (p : PcmSpec) : Type 0 where
  pub some : 1 ≤ p.channels
  pub few : p.channels ≤ most
  pub low : 1 ≤ p.bits_per_sample
  pub high : p.bits_per_sample ≤ 32
  pub depth : is_depth p.bits_per_sample ≡ true
  pub rate : 1 ≤ p.sample_rate

-- what is listed among depths is one
listed : (b : ℕ) (ds : List ℕ) → every is_depth ds ≡ true → is_in b ds ≡ true → is_depth b ≡ true
unfolding every is_in
listed b [] all e = cc
listed b (d ∷ ds) all e =
    ⊎_elim
    (λ (q : eqb b d ≡ true). ap is_depth (eqb-true b d q) ∙ and_left (is_depth d) _ all)
    (λ (q : is_in b ds ≡ true). listed b ds (and_right (is_depth d) _ all) q)
    (either (eqb b d) (is_in b ds) e)

bits_range : (d : Depth) → (1 ≤ bits_in d) × (bits_in d ≤ 32)
bits_range Eight = omega arith
bits_range Sixteen = omega arith
bits_range TwentyFour = omega arith
bits_range ThirtyTwo = omega arith

pub valid : (most : ℕ) (depths : List ℕ) (p : PcmSpec) → check_spec most depths p ≡ Fine → every is_depth depths ≡ true → Valid most p
valid most depths p ok all =
    let t = fine_taken most depths p ok in
    let b = p.bits_per_sample in
    let d : is_depth b ≡ true = listed b depths all t.depth in
    let e = depth_bits b d in
    let r = bits_range (depth_of b) in
    record {
      some = t.some;
      few = t.few;
      low = omega arith;
      high = omega arith;
      depth = d;
      rate = t.rate;
    }

-- the two writers
pub encoder_ok : (p : PcmSpec) → check_encoder p ≡ Fine → Valid 8 p
unfolding check_encoder every is_depth depth_word
encoder_ok p ok = valid _ _ p ok refl

pub reencoder_ok : (p : PcmSpec) → check_reencoder p ≡ Fine → Valid 2 p
unfolding check_reencoder every is_depth depth_word
reencoder_ok p ok = valid _ _ p ok refl

-- ---- 31 to 33
module _ (p : PcmSpec) (s : List ℤ) (ok : check_samples p s ≡ Fine) where
  -- whole frames
  pub frames_ok : length s ≡ p.channels * (length s / p.channels)
  unfolding check_samples
  frames_ok =
      let z : length s % p.channels ≡ 0 = eqb-true (length s % p.channels) 0 (not-false _ (passed _ _ (first_fine _ _ ok))) in
      omega (arith, div-add-mod (length s) p.channels)

  -- values that the depth holds
  pub values_ok : is_depth p.bits_per_sample ≡ true → AllHold p.bits_per_sample s
  unfolding check_samples
  values_ok depth =
      let b = p.bits_per_sample in
      let d = depth_of b in
      let e : every (within d) s ≡ true = not-false _ (passed _ _ (first_fine _ _ (others_fine _ _ ok))) in
      rw (depth_bits b depth) at (every_holds (bits_in d) s (ap (λ (f : ℤ → Bool). every f s) (fun_ext (λ z. sym (within_holds d z))) ∙ e))

  -- at most 4,294,967,295 frames
  pub count_ok : length s / p.channels < 4294967296
  unfolding check_samples
  count_ok = let z = ltb-false 4294967295 (length s / p.channels) (passed _ _ (others_fine _ _ (others_fine _ _ ok))) in omega arith

-- ---- they refuse by no other number
module _ (x : Refusal) where
  pub spec_unsaid : eqb 30 (number x) ≡ false → (most : ℕ) (depths : List ℕ) (p : PcmSpec) → Unsaid x (check_spec most depths p)
  unfolding check_spec
  spec_unsaid e most depths p = unsaid x _ _ e nor unsaid x _ _ e nor unsaid x _ _ e nor unsaid x _ _ e

  pub samples_unsaid : eqb 31 (number x) ≡ false → eqb 32 (number x) ≡ false → eqb 33 (number x) ≡ false → (p : PcmSpec) (s : List ℤ) → Unsaid x (check_samples p s)
  unfolding check_samples
  samples_unsaid e f g p s = unsaid x _ _ e nor unsaid x _ _ f nor unsaid x _ _ g
