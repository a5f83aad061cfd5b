-- A group's blocks, one after another, are read back, over the channel count: each tells its length, so that the
-- next is found behind it.
use Prim.Native.Nat.{ℕ, zero, suc, ◌+◌, ◌*◌, ◌/◌, ◌%◌, ◌≤◌, ◌<◌}
use mathlib.Core.Path.{◌≡◌, refl, sym, ap, ◌∙◌}
use mathlib.Core.Bool.{Bool, true, false, not, ◌&&◌}
use mathlib.Core.List.{List, ◌++◌, append_assoc}
use native.Mathlib.Omega.{arith}
use lib.ListN.{length, drop, length-append}
use lib.Seq.{drop_at, drop-drop, drop-length}
use lib.IntN.{ℤ}
use lib.Dec.{ltb, eqb, eqb-suc-zero}
use borrow.Author.Tests.{le-ltb, eq-eqb}
use Rattle.format.specs.Refusals.{Fine}
use Rattle.format.specs.Lists.{tab, joined}
use Rattle.format.specs.Numbers.{num_at}
use Rattle.format.specs.Blocks.{is_block, mid_bit, float_bit, size_of, samples_of, from_block}
use Rattle.format.specs.Decoding.{is_float, check_block, check_group, coded}
use Rattle.format.specs.Places.{at_channel}
use Rattle.format.specs.declared.settings.SampleFormat.TheVariants.{Pcm}
use Rattle.format.specs.declared.answers.Fields.{Fields}
use Rattle.laws.proofs.Tests.{and_no}
use Rattle.laws.proofs.Parts.{around, tab_cong}
use Rattle.laws.proofs.Checks.{pass, ◌and_then◌}
use Rattle.laws.proofs.Places.{located_all}
use Rattle.promises.proofs.BlockLaws.{Reads}

-- flags 0 and 1 are not those of a float block
pub not_float : (flags : ℕ) → flags < 2 → eqb (flags / 2 % 2) 1 ≡ false
not_float flags l = let e : flags / 2 % 2 ≡ 0 = omega arith in ap (λ (x : ℕ). eqb x 1) e

-- the blocks B 0, B 1, .. of a group, with the samples X 0, X 1, ..
module _ (h : Fields) (flags : ℕ → ℕ) (X : ℕ → List ℤ) (B : ℕ → List ℕ) (reads : (c : ℕ) → c < h.channels → Reads h.depth (flags c) (X c) (B c)) where
  abbrev all : List ℕ
  all = joined B h.channels

  begins : (c : ℕ) → c < h.channels → (t : List ℕ) × (drop (length (joined B c)) all ≡ B c ++ t)
  begins c l =
      let i = around B c h.channels l in
      (i.0, ap (drop (length (joined B c))) i.1 ∙ drop_at (joined B c) (B c ++ i.0) (length (joined B c)) refl)

  -- what is left after c blocks
  pub rest_is : (c : ℕ) → c ≤ h.channels → from_block h.depth all c ≡ drop (length (joined B c)) all
  unfolding from_block joined
  rest_is zero l = refl
  rest_is (suc c) l =
      let b = begins c l in
      let z : size_of h.depth (drop (length (joined B c)) all) ≡ length (B c) = ap (size_of h.depth) b.1 ∙ (reads c l).size b.0 in
      ap (λ (r : List ℕ). drop (size_of h.depth r) r) (rest_is c (omega arith))
      ∙ ap (λ (n : ℕ). drop n (drop (length (joined B c)) all)) z
      ∙ drop-drop (length (B c)) (length (joined B c)) all
      ∙ ap (λ (n : ℕ). drop n all) (sym (length-append (joined B c) (B c)))

  -- begins with block c
  pub front : (c : ℕ) → c < h.channels → (t : List ℕ) × (from_block h.depth all c ≡ B c ++ t)
  front c l = let b = begins c l in (b.0, rest_is c (omega arith) ∙ b.1)

  -- the channels' samples
  pub coded_is : coded h.depth h.channels all ≡ tab h.channels X
  unfolding coded
  coded_is =
      tab_cong h.channels (λ c. samples_of h.depth (from_block h.depth all c)) X
      (λ c l. let f = front c l in ap (samples_of h.depth) f.1 ∙ (reads c l).samples f.0)

  -- nothing is refused: PCM, and flags 1 only for two channels
  module _ (small : (c : ℕ) → c < h.channels → flags c < 2) (two : flags 0 ≡ 1 → h.channels ≡ 2) where
    block_fine : (c : ℕ) → c < h.channels → (t : List ℕ) → check_block h Pcm c (B c ++ t) ≡ Fine
    unfolding check_block is_float float_bit mid_bit
    block_fine c l t =
        let r = reads c l in
        let n : length (B c ++ t) ≡ length (B c) + length t = length-append (B c) t in
        pass _ _ (le-ltb (length (B c ++ t)) 16 (omega (arith, r.long)))
        and_then pass _ _ (ap not (r.mark t))
        and_then pass _ _ (ap (λ (x : ℕ). eqb (x / 2 % 2) 1) (r.flags_word t) ∙ not_float (flags c) (small c l))
        and_then pass _ _ (ap (λ (x : ℕ). eqb c 0 && (eqb (x % 2) 1 && not (eqb h.channels 2))) (r.flags_word t) ∙ by c (flags c) (small c l) (λ z e. two (ap flags (sym z) ∙ e)))
        and_then pass _ _ (r.within t)
        and_then pass _ _ (ap (ltb (length (B c ++ t))) (r.size t) ∙ le-ltb (length (B c ++ t)) (length (B c)) (omega arith))
      where
        by : (c f : ℕ) → f < 2 → (c ≡ 0 → f ≡ 1 → h.channels ≡ 2) → (eqb c 0 && (eqb (f % 2) 1 && not (eqb h.channels 2))) ≡ false
        by c zero s w = and_no (eqb c 0) _ refl
        by zero (suc zero) s w = ap not (eq-eqb h.channels 2 (w refl refl))
        by (suc c) (suc zero) s w = ap (λ (b : Bool). b && not (eqb h.channels 2)) (eqb-suc-zero c)
        by c (suc (suc f)) s w = absurd (omega arith)

    pub group_fine : check_group h Pcm all ≡ Fine
    unfolding check_group
    group_fine =
        located_all (λ c. check_block h Pcm c (from_block h.depth all c)) at_channel h.channels (λ c l. let f = front c l in ap (check_block h Pcm c) f.1 ∙ block_fine c l f.0)
        and_then pass _ _ (ap (λ (r : List ℕ). not (eqb (length r) 0)) (rest_is h.channels (omega arith) ∙ drop-length all))

  -- the first block's mark and flags are the group's, whatever follows
  module _ (some : 1 ≤ h.channels) where
    pub first_flags_lem : num_at 10 2 all ≡ flags 0
    unfolding from_block
    first_flags_lem = let f = front 0 some in ap (num_at 10 2) f.1 ∙ (reads 0 some).flags_word f.0

    starts : (t : List ℕ) → (u : List ℕ) × (all ++ t ≡ B 0 ++ u)
    unfolding from_block
    starts t = let f = front 0 some in (f.0 ++ t, ap (λ (x : List ℕ). x ++ t) f.1 ∙ append_assoc (B 0) f.0 t)

    pub first_mark : (t : List ℕ) → is_block (all ++ t) ≡ true
    first_mark t = let b = starts t in ap is_block b.1 ∙ (reads 0 some).mark b.0

    pub first_pcm : flags 0 < 2 → (t : List ℕ) → float_bit (all ++ t) ≡ false
    unfolding float_bit
    first_pcm l t = let b = starts t in ap (λ (x : ℕ). eqb (x / 2 % 2) 1) (ap (num_at 10 2) b.1 ∙ (reads 0 some).flags_word b.0) ∙ not_float (flags 0) l

  -- a group has at least 80 bytes for each channel
  pub group_long : (c : ℕ) → c ≤ h.channels → 80 * c ≤ length (joined B c)
  unfolding joined
  group_long zero l = omega arith
  group_long (suc c) l = omega (arith, group_long c (omega arith), length-append (joined B c) (B c), (reads c l).long)
