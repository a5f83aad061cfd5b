-- A group of samples, encoded in any mode, decodes to itself: mid/side is taken only where every frame has equal
-- parity, and padded frames are not read.
use Prim.Native.Nat.{ℕ, ◌*◌, ◌%◌, ◌≤◌, ◌<◌}
use mathlib.Core.Path.{◌≡◌, refl, sym, ap, ap₂, ◌∙◌, subst}
use mathlib.Core.Bool.{Bool, true, false, cond}
use mathlib.Core.List.{List, [], ◌++◌}
use native.Mathlib.Omega.{arith}
use lib.ListN.{length, get_or}
use lib.IntN.{ℤ}
use lib.Dec.{eqb}
use borrow.Author.Tests.{eqb-true}
use Rattle.format.specs.Refusals.{Fine}
use Rattle.format.specs.Lists.{joined}
use Rattle.format.specs.Blocks.{is_block, mid_bit, float_bit}
use Rattle.format.specs.MidSide.{left_right}
use Rattle.format.specs.Units.{active}
use Rattle.format.specs.Decoding.{check_group, coded, channels_of, woven, group_samples}
use Rattle.format.specs.Encoding.{encoded_block, mid_side, parity, unwoven, padded_channels, blocks, takes_mid, encoded_group}
use Rattle.format.specs.declared.settings.SampleFormat.TheVariants.{Pcm}
use Rattle.format.specs.declared.settings.PcmSpec.{PcmSpec}
use Rattle.format.specs.declared.settings.StereoMode.{StereoMode}
use Rattle.format.specs.declared.settings.StereoMode.TheVariants.{Auto, Direct, MidSide}
use Rattle.format.specs.declared.answers.Fields.{Fields}
use Rattle.laws.proofs.Tests.{and_left, and_right, never}
use Rattle.laws.proofs.Parts.{is_tab}
use Rattle.laws.proofs.Signs.{AllHold}
use Rattle.promises.proofs.BlockLaws.{Reads, block_reads}
use Rattle.laws.proofs.Channels.{Level, padded_channels_level, woven_padded, active_low}
use Rattle.laws.proofs.Stereo.{both_level, both_back, parity_padded}
use Rattle.promises.proofs.GroupLaws.{coded_is, group_fine, first_flags_lem, first_mark, first_pcm, group_long}

-- what reading says of a group's bytes: the samples xs, and nothing refused
pub record Group (h : Fields) (g : ℕ) (xs : List ℤ) (bs : List ℕ) : Type 0 where
  pub fine : check_group h Pcm bs ≡ Fine
  pub samples : group_samples h Pcm g bs ≡ xs
  pub mark : (t : List ℕ) → is_block (bs ++ t) ≡ true
  pub pcm : (t : List ℕ) → float_bit (bs ++ t) ≡ false
  pub long : 80 * h.channels ≤ length bs

-- ---- the blocks of channels of 512 samples
module _ (h : Fields) (g flags : ℕ) (chans : List (List ℤ)) (some : 1 ≤ h.channels) (low : 1 ≤ h.depth) (high : h.depth ≤ 32) (level : Level h.depth h.channels 512 chans)
    (small : flags < 2) (two : flags ≡ 1 → h.channels ≡ 2) where
  abbrev X : ℕ → List ℤ
  X c = get_or chans c []

  abbrev B : ℕ → List ℕ
  B c = encoded_block h.depth flags (X c)

  reads : (c : ℕ) → c < h.channels → Reads h.depth flags (X c) (B c)
  reads c l = block_reads h.depth flags low high (omega arith) (X c) (level.long c l) (level.hold c l)

  bytes_are : blocks h.depth flags chans ≡ joined B h.channels
  unfolding blocks
  bytes_are = ap (joined B) level.count

  chans_coded : coded h.depth h.channels (joined B h.channels) ≡ chans
  chans_coded = coded_is h (λ c. flags) X B reads ∙ is_tab [] h.channels X chans level.count (λ k p. refl)

  -- with what the channels become
  blocks_group : (xs : List ℤ) → woven (active h.frames g) (cond (eqb (flags % 2) 1) (left_right Pcm chans) chans) ≡ xs → Group h g xs (blocks h.depth flags chans)
  unfolding group_samples channels_of mid_bit
  blocks_group xs e =
      subst (Group h g xs) (sym bytes_are)
      (record {
        fine = group_fine h (λ c. flags) X B reads (λ c l. small) two;
        samples =
            ap₂ (λ (x : ℕ) (cs : List (List ℤ)). woven (active h.frames g) (cond (eqb (x % 2) 1) (left_right Pcm cs) cs)) (first_flags_lem h (λ c. flags) X B reads some) chans_coded ∙ e;
        mark = first_mark h (λ c. flags) X B reads some;
        pcm = first_pcm h (λ c. flags) X B reads some small;
        long = group_long h (λ c. flags) X B reads h.channels (omega arith);
      })

-- where mid/side is taken, it can be
pub mid_when : (mode : StereoMode) (n depth : ℕ) (s : List ℤ) → takes_mid mode n depth s ≡ true → (mode ≡ MidSide → (n ≡ 2) × (parity (unwoven n s) ≡ true))
    → (n ≡ 2) × (parity (unwoven n s) ≡ true)
unfolding takes_mid
mid_when Direct n depth s e ms = never (sym e)
mid_when MidSide n depth s e ms = ms refl
mid_when Auto n depth s e ms = (eqb-true n 2 (and_left _ _ e), and_left _ _ (and_right (eqb n 2) _ e))

-- the padded frames have the parity of the last
pub padded_even : (n : ℕ) (s : List ℤ) → n ≡ 2 → parity (unwoven n s) ≡ true → parity (padded_channels n s) ≡ true
padded_even n s two = subst (λ (x : ℕ). parity (unwoven x s) ≡ true → parity (padded_channels x s) ≡ true) (sym two) (λ e. parity_padded s ∙ e)

-- ---- the group of samples s, of a file with the numbers h
module _ (p : PcmSpec) (mode : StereoMode) (h : Fields) (ec : h.channels ≡ p.channels) (ed : h.depth ≡ p.bits_per_sample)
    (some : 1 ≤ h.channels) (low : 1 ≤ h.depth) (high : h.depth ≤ 32) (g : ℕ) (s : List ℤ) (l : length s ≡ h.channels * active h.frames g) (hold : AllHold h.depth s) where
  abbrev n : ℕ
  n = h.channels

  abbrev k : ℕ
  k = active h.frames g

  abbrev chans : List (List ℤ)
  chans = padded_channels n s

  few : k ≤ 512
  few = active_low h.frames g

  level : Level h.depth n 512 chans
  level = padded_channels_level n k some s l few h.depth hold

  direct : Group h g s (blocks h.depth 0 chans)
  direct = blocks_group h g 0 chans some low high level (omega arith) (λ e. absurd (omega arith)) s (woven_padded n k some few s l)

  both : n ≡ 2 → parity chans ≡ true → Group h g s (blocks h.depth 1 (mid_side chans))
  both two even =
      blocks_group h g 1 (mid_side chans) some low high (both_level h.depth n 512 high two chans level) (omega arith) (λ e. two) s
      (ap (woven k) (both_back h.depth n 512 high two chans level even) ∙ woven_padded n k some few s l)

  -- in every mode it reads as s; what MidSide asks was checked
  pub group_codes : (mode ≡ MidSide → (p.channels ≡ 2) × (parity (unwoven p.channels s) ≡ true)) → Group h g s (encoded_group p mode s)
  unfolding encoded_group
  group_codes ms =
      subst (λ (d : ℕ). Group h g s (cond (takes_mid mode p.channels d s) (blocks d 1 (mid_side (padded_channels p.channels s))) (blocks d 0 (padded_channels p.channels s)))) ed
      (subst (λ (k : ℕ). Group h g s (cond (takes_mid mode k h.depth s) (blocks h.depth 1 (mid_side (padded_channels k s))) (blocks h.depth 0 (padded_channels k s)))) ec
      (by (takes_mid mode n h.depth s) refl))
    where
      by : (t : Bool) → takes_mid mode n h.depth s ≡ t → Group h g s (cond t (blocks h.depth 1 (mid_side chans)) (blocks h.depth 0 chans))
      by true e =
          let q = mid_when mode n h.depth s e (λ m. let x = ms m in (ec ∙ x.0, subst (λ (k : ℕ). parity (unwoven k s) ≡ true) (sym ec) x.1)) in
          both q.0 (padded_even n s q.0 q.1)
      by false e = direct
