-- How much reading writes: a block is 512 samples, of each group the active ones are woven, and these add up to all
-- frames.
use Prim.Native.Nat.{ℕ, zero, suc, ◌+◌, ◌-◌, ◌*◌, ◌/◌, ◌≤◌, ◌<◌, min}
use mathlib.Core.Path.{◌≡◌, refl, sym, ap, ap₂, ◌∙◌}
use mathlib.Core.Bool.{Bool, true, false, cond}
use mathlib.Core.List.{List, [], ◌∷◌, map}
use native.Mathlib.Omega.{arith}
use native.Mathlib.Nat.{mul-suc, mul-zero, mul-add, mul_comm}
use lib.ListN.{length, get_or, take, drop, length-append, length-map}
use lib.IntN.{ℤ, pos}
use Rattle.format.specs.Refusals.{Fine}
use Rattle.format.specs.Lists.{tab, joined}
use Rattle.format.specs.Numbers.{value, plus}
use Rattle.format.specs.Packed.{codes_in, values, rebuilt, is_beyond}
use Rattle.format.specs.Header.{fields_of, groups_of, group_bytes}
use Rattle.format.specs.Blocks.{mid_bit, base_of, coding_of, decoded, samples_of, from_block}
use Rattle.format.specs.MidSide.{left_right}
use Rattle.format.specs.Opening.{format_of, check_open}
use Rattle.format.specs.Units.{active}
use Rattle.format.specs.Places.{at_group}
use Rattle.format.specs.Decoding.{check_group, coded, channels_of, woven, group_samples, check_decode, decoded_of}
use Rattle.format.specs.declared.packed.Coding.{Coding}
use Rattle.format.specs.declared.packed.Coding.TheVariants.{Differences, Raw, Beyond}
use Rattle.format.specs.declared.settings.SampleFormat.{SampleFormat}
use Rattle.format.specs.declared.units.Frames.{Frames}
use Rattle.format.specs.declared.answers.Fields.{Fields}
use Rattle.laws.proofs.Tests.{never}
use Rattle.laws.proofs.Parts.{length_tab, length_even}
use Rattle.laws.proofs.Digits.{length_codes}
use Rattle.laws.proofs.Checks.{first_fine, others_fine}
use Rattle.laws.proofs.Places.{located_at}
use Rattle.laws.proofs.Opened.{some_channels, opened_fields}
use Rattle.laws.proofs.Passed.{mid_two}

-- ---- a block's samples are 512
pub length_values : (b : ℕ) (s : List ℕ) → length (values b s) ≡ 512
unfolding values
length_values b s = length-map (codes_in b s) (value b) ∙ length_codes b s

pub length_rebuilt : (base : ℤ) (ds : List ℤ) → length (rebuilt base ds) ≡ length ds
unfolding rebuilt
length_rebuilt base [] = refl
length_rebuilt base (d ∷ ds) = ap suc (length_rebuilt (plus base d) ds)

decoded_512 : (base : ℤ) (run : List ℕ) (k : Coding) → is_beyond k ≡ false → length (decoded k base run) ≡ 512
unfolding decoded is_beyond
decoded_512 base run (Raw b) e = length_values b (take (64 * b) run)
decoded_512 base run (Differences b) e = length_rebuilt base (values b (take (64 * b) run)) ∙ length_values b (take (64 * b) run)
decoded_512 base run Beyond e = never e

pub samples_512 : (depth : ℕ) (r : List ℕ) → is_beyond (coding_of depth r) ≡ false → length (samples_of depth r) ≡ 512
unfolding samples_of
samples_512 depth r e = decoded_512 (base_of r) (drop 16 r) (coding_of depth r) e

-- ---- a group
length_two : (f : SampleFormat) (chans : List (List ℤ)) → length (left_right f chans) ≡ 2
unfolding left_right
length_two f chans = refl

module _ (h : Fields) (f : SampleFormat) (bs : List ℕ) (some : 1 ≤ h.channels) (fine : check_group h f bs ≡ Fine) where
  pub channels_count : length (channels_of h f bs) ≡ h.channels
  unfolding channels_of coded
  channels_count = by (mid_bit bs) refl
    where
      by : (t : Bool) → mid_bit bs ≡ t
          → length (cond t (left_right f (tab h.channels (λ c. samples_of h.depth (from_block h.depth bs c)))) (tab h.channels (λ c. samples_of h.depth (from_block h.depth bs c)))) ≡ h.channels
      by true e = length_two f (tab h.channels (λ c. samples_of h.depth (from_block h.depth bs c))) ∙ sym (mid_two h f bs fine some e)
      by false e = length_tab h.channels (λ c. samples_of h.depth (from_block h.depth bs c))

  pub group_writes : (g : ℕ) → length (group_samples h f g bs) ≡ h.channels * active h.frames g
  unfolding group_samples woven
  group_writes g = length_even (λ i. map (λ (ch : List ℤ). get_or ch i (pos 0)) (channels_of h f bs)) h.channels (λ i. length-map (channels_of h f bs) (λ (ch : List ℤ). get_or ch i (pos 0)) ∙ channels_count) (active h.frames g)

-- ---- and the whole decode: frames × channels
pub active_sum : (frames : Frames) (w : ℕ) (P : ℕ → List ℤ) (n : ℕ) → ((g : ℕ) → g < n → length (P g) ≡ w * active frames g) → length (joined P n) ≡ w * min frames.0 (512 * n)
unfolding active joined
active_sum frames w P zero h = let e : 0 ≡ min frames.0 (512 * 0) = omega arith in sym (mul-zero w) ∙ ap (λ (x : ℕ). w * x) e
active_sum frames w P (suc n) h =
    let e : min frames.0 (512 * n) + min 512 (frames.0 - 512 * n) ≡ min frames.0 (512 * suc n) = omega (arith, mul-suc 512 n) in
    length-append (joined P n) (P n) ∙ ap₂ (λ (x y : ℕ). x + y) (active_sum frames w P n (λ g q. h g (omega arith))) (h n (omega arith))
    ∙ sym (mul-add w (min frames.0 (512 * n)) (min 512 (frames.0 - 512 * n))) ∙ ap (λ (x : ℕ). w * x) e

module _ (s : List ℕ) (fine : check_decode s ≡ Fine) where
  pub decode_writes : length (decoded_of s) ≡ (fields_of s).channels * (fields_of s).frames.0
  unfolding decoded_of groups_of check_decode
  decode_writes =
      let h = fields_of s in
      let e : min h.frames.0 (512 * ((h.frames.0 + 511) / 512)) ≡ h.frames.0 = omega arith in
      active_sum h.frames h.channels (λ g. group_samples h (format_of s h) g (group_bytes s h g)) ((h.frames.0 + 511) / 512)
      (λ g l. group_writes h (format_of s h) (group_bytes s h g) (some_channels h (opened_fields s (first_fine _ _ fine))) (located_at (λ g. check_group h (format_of s h) (group_bytes s h g)) at_group g ((h.frames.0 + 511) / 512) l (others_fine (check_open s) _ fine)) g)
      ∙ ap (λ (x : ℕ). h.channels * x) e

  pub decode_count : (fields_of s).frames.0 * (fields_of s).channels ≡ length (decoded_of s)
  decode_count = mul_comm (fields_of s).frames.0 (fields_of s).channels ∙ sym decode_writes
