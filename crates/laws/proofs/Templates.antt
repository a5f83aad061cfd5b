-- What passed checks of a template's block and group tell; the bits word stays, so that the new ones are as long.
use Prim.Native.Nat.{ℕ, zero, suc, ◌+◌, ◌*◌, ◌≤◌, ◌<◌}
use mathlib.Core.Path.{◌≡◌, refl, ap, ◌∙◌, subst}
use mathlib.Core.Bool.{Bool, true, false, cond, not, ◌&&◌}
use mathlib.Core.List.{List, [], ◌++◌}
use native.Mathlib.Omega.{arith}
use lib.ListN.{length, get_or, take, length-append, length-drop}
use lib.Seq.{length-take-le}
use lib.IntN.{ℤ}
use lib.Dec.{eqb}
use borrow.Author.Tests.{le-ltb, ltb-false, ne_eqb, eqb-true, eqb-false, not-false}
use Rattle.format.specs.Refusals.{Fine}
use Rattle.format.specs.Lists.{from, joined}
use Rattle.format.specs.Numbers.{num_at, code_of}
use Rattle.format.specs.Packed.{width_of, packing, is_beyond}
use Rattle.format.specs.declared.packed.Coding.{Coding}
use Rattle.format.specs.declared.packed.Coding.TheVariants.{Differences, Raw, Beyond}
use Rattle.format.specs.Blocks.{is_block, mid_bit, coding_of, size_of, from_block}
use Rattle.format.specs.Encoding.{unwoven, first_value, mid_side, parity}
use Rattle.format.specs.Places.{at_channel}
use Rattle.format.specs.Reencoding.{values_for, base_for, reencoded_block, check_template_block, check_reencode_block, active_in, check_reencode_group, reencoded_group}
use Rattle.format.specs.Fit.{check_fit}
use Rattle.laws.proofs.Tests.{asks_two}
use Rattle.laws.proofs.Parts.{length_from}
use Rattle.laws.proofs.Checks.{pass, ◌and_then◌, first_fine, others_fine, passed}
use Rattle.laws.proofs.Places.{located_at}
use Rattle.laws.proofs.Digits.{length_le}
use Rattle.laws.proofs.Signs.{AllHold, length_packing, every_holds}
use Rattle.laws.proofs.Misfits.{fine_fit}
use Rattle.laws.proofs.Channels.{unwoven_long}
use Rattle.laws.proofs.Stereo.{both_long}

-- ---- a template's block whose own checks pass: 1, 3, 44, 45, 4 and 1
pub record Template (depth : ℕ) (r : List ℕ) : Type 0 where
  pub head : 16 ≤ length r
  pub mark : is_block r ≡ true
  pub bits : 2 ≤ num_at 8 2 r
  pub flags : num_at 10 2 r < 2
  pub within : is_beyond (coding_of depth r) ≡ false
  pub sized : size_of depth r ≤ length r

module _ (depth : ℕ) (r : List ℕ) where
  pub template_told : check_template_block depth r ≡ Fine → Template depth r
  unfolding check_template_block
  template_told e =
      let e2 = others_fine _ _ e in
      let e3 = others_fine _ _ e2 in
      let e4 = others_fine _ _ e3 in
      let e5 = others_fine _ _ e4 in
      let e6 = others_fine _ _ e5 in
      let not0 = eqb-false (num_at 8 2 r) 0 (passed _ _ (first_fine _ _ e3)) in
      let not1 = eqb-false (num_at 8 2 r) 1 (passed _ _ (first_fine _ _ e4)) in
      let f = ltb-false 1 (num_at 10 2 r) (passed _ _ (first_fine _ _ e5)) in
      record {
        head = ltb-false (length r) 16 (passed _ _ (first_fine _ _ e));
        mark = not-false _ (passed _ _ (first_fine _ _ e2));
        bits = omega arith;
        flags = omega arith;
        within = passed _ _ (first_fine _ _ e6);
        sized = ltb-false (length r) (size_of depth r) (passed _ _ (others_fine _ _ e6));
      }

  template_fine : Template depth r → check_template_block depth r ≡ Fine
  unfolding check_template_block
  template_fine ok =
      pass _ _ (le-ltb (length r) 16 ok.head)
      and_then pass _ _ (ap not ok.mark)
      and_then pass _ _ (ne_eqb (num_at 8 2 r) 0 (λ e. omega (arith, ok.bits)))
      and_then pass _ _ (ne_eqb (num_at 8 2 r) 1 (λ e. omega (arith, ok.bits)))
      and_then pass _ _ (le-ltb 1 (num_at 10 2 r) (omega (arith, ok.flags)))
      and_then pass _ _ ok.within
      and_then pass _ _ (le-ltb (length r) (size_of depth r) ok.sized)

  -- with the active samples xs
  module _ (xs : List ℤ) where
    abbrev width : ℕ
    width = width_of (coding_of depth r)

    pub template_ok : check_reencode_block depth r xs ≡ Fine → Template depth r
    unfolding check_reencode_block
    template_ok e = template_told (first_fine _ _ e)

    fit_ok : check_reencode_block depth r xs ≡ Fine → AllHold width (values_for depth r xs)
    unfolding check_reencode_block
    fit_ok e = every_holds width (values_for depth r xs) (fine_fit width (values_for depth r xs) (others_fine _ _ e))

    -- only 36 is left to refuse
    pub fit_decides : Template depth r → check_reencode_block depth r xs ≡ check_fit width (values_for depth r xs)
    unfolding check_reencode_block
    fit_decides ok = template_fine ok and_then refl

pub base_4 : (k : Coding) (r : List ℕ) (xs : List ℤ) → 16 ≤ length r → length (base_for k r xs) ≡ 4
unfolding base_for
base_4 (Differences b) r xs h = length_le 4 (code_of 32 (first_value xs))
base_4 (Raw b) r xs h = length_from 4 4 r (omega arith)
base_4 Beyond r xs h = length_from 4 4 r (omega arith)

-- the new block is as long as it was
pub new_length : (depth : ℕ) (r : List ℕ) (xs : List ℤ) → 16 ≤ length r → length (reencoded_block depth r xs) ≡ size_of depth r
unfolding reencoded_block size_of
new_length depth r xs head =
    let c = coding_of depth r in
    let base = base_for c r xs in
    let pk = packing (width_of c) (values_for depth r xs) in
    length-append (take 4 r) (base ++ (from 8 8 r ++ pk))
    ∙ omega (
      arith,
      length-take-le 4 r (omega arith),
      base_4 c r xs head,
      length_from 8 8 r (omega arith),
      length-append base (from 8 8 r ++ pk),
      length-append (from 8 8 r) pk,
      length_packing (width_of c) (values_for depth r xs),
    )

-- ---- a template's group bs that 34 passed
module _ (n : ℕ) (bs : List ℕ) (stereo : (mid_bit bs && not (eqb n 2)) ≡ false) where
  -- of any k frames z the active samples are k a channel
  pub actives_long : (k : ℕ) → 1 ≤ n → (z : List ℤ) → length z ≡ n * k → (c : ℕ) → c < n → length (get_or (active_in n bs z) c []) ≡ k
  unfolding active_in
  actives_long k some z l = by (mid_bit bs) refl
    where
      each : (c : ℕ) → c < n → length (get_or (unwoven n z) c []) ≡ k
      each = unwoven_long n k some z l

      two : mid_bit bs ≡ true → n ≡ 2
      two = asks_two (mid_bit bs) n stereo

      by : (t : Bool) → mid_bit bs ≡ t → (c : ℕ) → c < n → length (get_or (cond t (mid_side (unwoven n z)) (unwoven n z)) c []) ≡ k
      by false m c q = each c q
      by true m c q = both_long (unwoven n z) k (λ d p. each d (omega (arith, two m))) c (omega (arith, two m))

-- ---- a template's group bs that passed with the samples s
module _ (depth n : ℕ) (bs : List ℕ) (s : List ℤ) (fine : check_reencode_group depth n bs s ≡ Fine) where
  -- what begins with the template's block of channel c
  abbrev r : ℕ → List ℕ
  r c = from_block depth bs c

  -- the active samples of the channels
  abbrev chans : List (List ℤ)
  chans = active_in n bs s

  -- ---- what passed
  pub head_ok : 12 ≤ length bs
  unfolding check_reencode_group
  head_ok = ltb-false (length bs) 12 (passed _ _ (first_fine _ _ fine))

  pub stereo_ok : (mid_bit bs && not (eqb n 2)) ≡ false
  unfolding check_reencode_group
  stereo_ok = passed _ _ (first_fine _ _ (others_fine _ _ fine))

  parity_ok : (mid_bit bs && not (parity (unwoven n s))) ≡ false
  unfolding check_reencode_group
  parity_ok = passed _ _ (first_fine _ _ (others_fine _ _ (others_fine _ _ fine)))

  pub two_ok : mid_bit bs ≡ true → n ≡ 2
  two_ok = asks_two (mid_bit bs) n stereo_ok

  pub even_ok : mid_bit bs ≡ true → parity (unwoven n s) ≡ true
  even_ok m = not-false _ (subst (λ (b : Bool). (b && not (parity (unwoven n s))) ≡ false) m parity_ok)

  blocks_fine : (c : ℕ) → c < n → check_reencode_block depth (r c) (get_or chans c []) ≡ Fine
  unfolding check_reencode_group
  blocks_fine c q =
      located_at (λ c. check_reencode_block depth (r c) (get_or chans c [])) at_channel c n q (first_fine _ _ (others_fine _ _ (others_fine _ _ (others_fine _ _ fine))))

  pub blocks_ok : (c : ℕ) → c < n → Template depth (r c)
  blocks_ok c q = template_ok depth (r c) (get_or chans c []) (blocks_fine c q)

  pub fits_ok : (c : ℕ) → c < n → AllHold (width_of (coding_of depth (r c))) (values_for depth (r c) (get_or chans c []))
  fits_ok c q = fit_ok depth (r c) (get_or chans c []) (blocks_fine c q)

  pub none_left : length (r n) ≡ 0
  unfolding check_reencode_group
  none_left = eqb-true (length (r n)) 0 (not-false _ (passed _ _ (others_fine _ _ (others_fine _ _ (others_fine _ _ (others_fine _ _ fine))))))

  -- ---- the active samples
  pub chans_plain : mid_bit bs ≡ false → chans ≡ unwoven n s
  unfolding active_in
  chans_plain = ap (λ (t : Bool). cond t (mid_side (unwoven n s)) (unwoven n s))

  pub chans_both : mid_bit bs ≡ true → chans ≡ mid_side (unwoven n s)
  unfolding active_in
  chans_both = ap (λ (t : Bool). cond t (mid_side (unwoven n s)) (unwoven n s))

  -- of any k frames z they are k a channel
  pub active_long : (k : ℕ) → 1 ≤ n → (z : List ℤ) → length z ≡ n * k → (c : ℕ) → c < n → length (get_or (active_in n bs z) c []) ≡ k
  active_long = actives_long n bs stereo_ok

  -- ---- the new blocks are as long as the template's
  abbrev B : ℕ → List ℕ
  B c = reencoded_block depth (r c) (get_or chans c [])

  length_so_far : (c : ℕ) → c ≤ n → length (joined B c) + length (r c) ≡ length bs
  unfolding joined from_block
  length_so_far zero q = omega arith
  length_so_far (suc c) q =
      let i = length_so_far c (omega arith) in
      let b = blocks_ok c q in
      let f = new_length depth (r c) (get_or chans c []) b.head in
      let z = b.sized in
      omega (arith, length-append (joined B c) (B c), length-drop (size_of depth (r c)) (r c))

  pub new_group_length : length (reencoded_group depth n bs s) ≡ length bs
  unfolding reencoded_group
  new_group_length = omega (arith, length_so_far n (omega arith), none_left)
