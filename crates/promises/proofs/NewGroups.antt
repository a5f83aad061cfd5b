-- A template's group with new samples decodes to those samples, and is as long as it was; with its own samples it
-- stays: each of its blocks does so.
use Prim.Native.Nat.{ℕ, zero, suc, ◌+◌, ◌*◌, ◌/◌, ◌%◌, ◌≤◌, ◌<◌}
use mathlib.Core.Path.{◌≡◌, refl, sym, ap, ap₂, ◌∙◌, subst}
use mathlib.Core.Bool.{Bool, true, false, cond, not, ◌&&◌}
use mathlib.Core.List.{List, [], ◌∷◌, ◌++◌, append-nil, append_assoc}
use native.Mathlib.Omega.{arith}
use lib.ListN.{length, get_or, take, drop, length-append, take-append-drop, get_or-append}
use lib.Seq.{ext_get_or, get_or-take, length-take-le, take-append-le, drop-length}
use lib.IntN.{ℤ, pos}
use mir.Syntax.{w32}
use mir.Val.{SFits}
use lib.Dec.{ltb, eqb, eqb-suc-zero}
use borrow.Author.Tests.{le-ltb}
use Rattle.format.specs.Lists.{tab, joined, same}
use Rattle.format.specs.Numbers.{num, num_at, Below}
use Rattle.format.specs.Packed.{width_of}
use Rattle.format.specs.Blocks.{block_mark, is_block, mid_bit, float_bit, coding_of, size_of, samples_of, from_block}
use Rattle.format.specs.MidSide.{left_right}
use Rattle.format.specs.Refusals.{Checked, Fine, refuse}
use Rattle.format.specs.Places.{at_channel, in_channel}
use Rattle.format.specs.Units.{active}
use Rattle.format.specs.Decoding.{is_float, check_block, check_group, coded, channels_of, woven, group_samples}
use Rattle.format.specs.Encoding.{unwoven, mid_side, parity}
use Rattle.format.specs.Reencoding.{values_for, reencoded_block, check_reencode_block, active_in, check_reencode_group, reencoded_group}
use Rattle.format.specs.declared.refusals.Refusal.TheVariants.{NotStereo, ParityDiffers, ShortGroup, TemplateBytesLeft}
use Rattle.format.specs.declared.settings.SampleFormat.TheVariants.{Pcm}
use Rattle.format.specs.declared.answers.Fields.{Fields}
use Rattle.laws.proofs.Templates as T
use Rattle.laws.proofs.Templates.{Template}
use Rattle.laws.proofs.Lengths.{samples_512}
use Rattle.laws.proofs.Parts.{length_tab, get_d_tab, joined_cong, from_within}
use Rattle.laws.proofs.Checks.{pass, ◌and_then◌, ◌then_same◌, order_cong}
use Rattle.laws.proofs.Places.{located_all}
use Rattle.laws.proofs.Signs.{AllHold}
use Rattle.laws.proofs.Each.{Each, each_tab}
use Rattle.laws.proofs.Wrap.{Fit, zero_fits}
use Rattle.promises.proofs.BlockLaws.{Reads, fit}
use Rattle.laws.proofs.Channels.{Level, unwoven_at, unwoven_level, woven_back, woven_at, each_woven, active_low}
use Rattle.promises.proofs.MidSums.{Stays}
use Rattle.laws.proofs.Stereo.{both_level, both_back, two_channels, both_fit, frame_same, both_kept, frames_stay}
use Rattle.promises.proofs.GroupLaws.{not_float, front, rest_is, coded_is, group_fine, first_flags_lem, first_mark, first_pcm, group_long}
use Rattle.promises.proofs.GroupCoding.{Group}
use Rattle.promises.proofs.NewBlocks.{new_samples, new_reads, block_same, check_same_lem}
use Rattle.promises.proofs.Bytes.{below_rest}
use Rattle.promises.proofs.Kept.{block_kept, samples_fit}

-- a template's group bs was accepted with the samples s
pub record Accepted (h : Fields) (g : ℕ) (bs : List ℕ) (s : List ℤ) : Type 0 where
  pub some : 1 ≤ h.channels
  pub low : 1 ≤ h.depth
  pub high : h.depth ≤ 32
  pub begun : 1 ≤ active h.frames g
  pub long : length s ≡ h.channels * active h.frames g
  pub hold : AllHold h.depth s
  pub fine : check_reencode_group h.depth h.channels bs s ≡ Fine

module _ {h : Fields} {g : ℕ} {bs : List ℕ} {s : List ℤ} (ok : Accepted h g bs s) where
  abbrev k : ℕ
  k = active h.frames g

  abbrev n : ℕ
  n = h.channels

  -- what begins with the template's block of channel c
  abbrev r : ℕ → List ℕ
  r c = from_block h.depth bs c

  -- the active samples of the channels
  abbrev chans : List (List ℤ)
  chans = active_in n bs s

  -- ---- what passed
  abbrev stereo_ok : (mid_bit bs && not (eqb n 2)) ≡ false
  stereo_ok = T.stereo_ok h.depth n bs s ok.fine

  abbrev two_ok : mid_bit bs ≡ true → n ≡ 2
  two_ok = T.two_ok h.depth n bs s ok.fine

  abbrev blocks_ok : (c : ℕ) → c < n → Template h.depth (r c)
  blocks_ok = T.blocks_ok h.depth n bs s ok.fine

  abbrev fits_ok : (c : ℕ) → c < n → AllHold (width_of (coding_of h.depth (r c))) (values_for h.depth (r c) (get_or chans c []))
  fits_ok = T.fits_ok h.depth n bs s ok.fine

  abbrev none_left : length (r n) ≡ 0
  none_left = T.none_left h.depth n bs s ok.fine

  -- ---- the active samples
  abbrev chans_plain : mid_bit bs ≡ false → chans ≡ unwoven n s
  chans_plain = T.chans_plain h.depth n bs s ok.fine

  abbrev chans_both : mid_bit bs ≡ true → chans ≡ mid_side (unwoven n s)
  chans_both = T.chans_both h.depth n bs s ok.fine

  plains : Level h.depth n k (unwoven n s)
  plains = unwoven_level n k ok.some s ok.long h.depth ok.hold

  level : Level h.depth n k chans
  level = by (mid_bit bs) refl
    where
      by : (t : Bool) → mid_bit bs ≡ t → Level h.depth n k chans
      by true m = subst (Level h.depth n k) (sym (chans_both m)) (both_level h.depth n k ok.high (two_ok m) (unwoven n s) plains)
      by false m = subst (Level h.depth n k) (sym (chans_plain m)) plains

  -- ---- the blocks
  abbrev B : ℕ → List ℕ
  B c = reencoded_block h.depth (r c) (get_or chans c [])

  abbrev X : ℕ → List ℤ
  X c = new_samples h.depth (r c) (get_or chans c [])

  abbrev flags : ℕ → ℕ
  flags c = num_at 10 2 (r c)

  chan_some : (c : ℕ) → c < n → 1 ≤ length (get_or chans c [])
  chan_some c q = omega (arith, level.long c q, ok.begun)

  chan_few : (c : ℕ) → c < n → length (get_or chans c []) ≤ 512
  chan_few c q = omega (arith, level.long c q, active_low h.frames g)

  chan_fit : (c : ℕ) → c < n → Fit (get_or chans c [])
  chan_fit c q = fit h.depth ok.high (get_or chans c []) (level.hold c q)

  reads : (c : ℕ) → c < n → Reads h.depth (flags c) (X c) (B c)
  reads c q = new_reads h.depth ok.low (r c) (get_or chans c []) (chan_some c q) (chan_few c q) (chan_fit c q) (blocks_ok c q) (fits_ok c q)

  -- ---- it decodes to the samples
  flags_mid : mid_bit (joined B n) ≡ mid_bit bs
  unfolding mid_bit from_block
  flags_mid = ap (λ (x : ℕ). eqb (x % 2) 1) (first_flags_lem h flags X B reads ok.some)

  -- sample i of channel c as it is coded
  new_at : (c i : ℕ) → c < n → i < k → get_or (get_or (tab n X) c []) i (pos 0) ≡ get_or (get_or chans c []) i (pos 0)
  new_at c i q p = ap (λ (x : List ℤ). get_or x i (pos 0)) (get_d_tab n X c [] q) ∙ get_or-append (get_or chans c []) _ (pos 0) i (omega (arith, level.long c q))

  new_long : (c i : ℕ) → c < n → i < k → i < length (get_or (tab n X) c [])
  new_long c i q p = omega (arith, ap length (get_d_tab n X c [] q), length-append (get_or chans c []) (drop (length (get_or chans c [])) (samples_of h.depth (r c))), level.long c q)

  woven_plain : mid_bit bs ≡ false → woven k (tab n X) ≡ s
  woven_plain m =
      woven_back n k s ok.long (tab n X) (length_tab n X)
      (λ c i q p. new_at c i q p ∙ ap (λ (x : List (List ℤ)). get_or (get_or x c []) i (pos 0)) (chans_plain m) ∙ unwoven_at n k ok.some s ok.long c i q p)

  woven_both : mid_bit bs ≡ true → woven k (left_right Pcm (tab n X)) ≡ s
  woven_both m =
      let two = two_ok m in
      woven_back n k s ok.long (left_right Pcm (tab n X)) (two_channels (tab n X) ∙ sym two)
      (λ c i q p.
      frame_same i (tab n X) chans (λ d u. new_long d i (omega arith) p) (λ d u. omega (arith, level.long d (omega arith))) (λ d u. new_at d i (omega arith) p) c (omega arith)
      ∙ ap (λ (x : List (List ℤ)). get_or (get_or (left_right Pcm x) c []) i (pos 0)) (chans_both m)
      ∙ ap (λ (x : List (List ℤ)). get_or (get_or x c []) i (pos 0)) (both_back h.depth n k ok.high two (unwoven n s) plains (T.even_ok h.depth n bs s ok.fine m))
      ∙ unwoven_at n k ok.some s ok.long c i q p)

  mid_bit_lem : flags 0 ≡ 1 → mid_bit bs ≡ true
  unfolding mid_bit from_block
  mid_bit_lem e = ap (λ (x : ℕ). eqb (x % 2) 1) e

  -- the new group reads as the samples
  pub new_group : Group h g s (reencoded_group h.depth n bs s)
  unfolding reencoded_group group_samples channels_of
  new_group =
      record {
        fine = group_fine h flags X B reads (λ c q. (blocks_ok c q).flags) (λ e. two_ok (mid_bit_lem e));
        samples = ap₂ (λ (t : Bool) (cs : List (List ℤ)). woven k (cond t (left_right Pcm cs) cs)) flags_mid (coded_is h flags X B reads) ∙ by (mid_bit bs) refl;
        mark = first_mark h flags X B reads ok.some;
        pcm = first_pcm h flags X B reads ok.some (blocks_ok 0 ok.some).flags;
        long = group_long h flags X B reads n (omega arith);
      }
    where
      by : (t : Bool) → mid_bit bs ≡ t → woven k (cond t (left_right Pcm (tab n X)) (tab n X)) ≡ s
      by true m = woven_both m
      by false m = woven_plain m

  -- ---- the template's group itself is read
  first_only : (c : ℕ) → (eqb c 0 && (mid_bit (r c) && not (eqb n 2))) ≡ false
  unfolding from_block
  first_only zero = stereo_ok
  first_only (suc c) = ap (λ (b : Bool). b && (mid_bit (r (suc c)) && not (eqb n 2))) (eqb-suc-zero c)

  block_accepts : (c : ℕ) → c < n → check_block h Pcm c (r c) ≡ Fine
  unfolding check_block is_float float_bit
  block_accepts c q =
      let b = blocks_ok c q in
      pass _ _ (le-ltb (length (r c)) 16 b.head)
      and_then pass _ _ (ap not b.mark)
      and_then pass _ _ (not_float (flags c) b.flags)
      and_then pass _ _ (first_only c)
      and_then pass _ _ b.within
      and_then pass _ _ (le-ltb (length (r c)) (size_of h.depth (r c)) b.sized)

  template_long : 16 ≤ length bs
  unfolding from_block
  template_long = (blocks_ok 0 ok.some).head

  -- the template's own group is read too
  pub template_group : Group h g (group_samples h Pcm g bs) bs
  unfolding check_group float_bit from_block is_block num_at
  template_group =
      record {
        fine = located_all (λ c. check_block h Pcm c (r c)) at_channel n block_accepts and_then pass _ _ (ap (λ (x : ℕ). not (eqb x 0)) none_left);
        samples = refl;
        mark = λ t. ap (λ (x : List ℕ). same x block_mark) (take-append-le 4 bs t (omega (arith, template_long))) ∙ (blocks_ok 0 ok.some).mark;
        pcm = λ t. ap (λ (x : List ℕ). eqb (num 256 x / 2 % 2) 1) (from_within 10 2 bs t (omega (arith, template_long))) ∙ not_float (num_at 10 2 bs) (blocks_ok 0 ok.some).flags;
        long = subst (λ (x : ℕ). 80 * n ≤ x) (T.new_group_length h.depth n bs s ok.fine) new_group.long;
      }

  -- ---- the new group as a template's, with other samples, as many
  module _ (z : List ℤ) (lz : length z ≡ length s) where
    abbrev others : List (List ℤ)
    others = active_in n bs z

    others_long : (c : ℕ) → c < n → length (get_or others c []) ≡ length (get_or chans c [])
    others_long c q = T.active_long h.depth n bs s ok.fine k ok.some z (lz ∙ ok.long) c q ∙ sym (level.long c q)

    others_same : active_in n (joined B n) z ≡ others
    unfolding active_in
    others_same = ap (λ (t : Bool). cond t (mid_side (unwoven n z)) (unwoven n z)) flags_mid

    -- what is the same for each block, whatever lies after it, is the same in the group
    in_group : {A : Type 0} (F : List ℕ → List ℤ → A) (c : ℕ) → c < n → ((t : List ℕ) → F (B c ++ t) (get_or others c []) ≡ F (r c) (get_or others c []))
        → F (from_block h.depth (joined B n) c) (get_or (active_in n (joined B n) z) c []) ≡ F (r c) (get_or others c [])
    in_group F c q e = let f = front h flags X B reads c q in ap₂ F f.1 (ap (λ (cs : List (List ℤ)). get_or cs c []) others_same) ∙ e f.0

    -- is refused as the template's
    pub group_checks_same : check_reencode_group h.depth n (reencoded_group h.depth n bs s) z ≡ check_reencode_group h.depth n bs z
    unfolding check_reencode_group reencoded_group
    group_checks_same =
        ap (λ (x : ℕ). refuse (ltb x 12) ShortGroup) (T.new_group_length h.depth n bs s ok.fine)
        then_same λ a. ap (λ (b : Bool). refuse (b && not (eqb n 2)) NotStereo) flags_mid
        then_same λ a. ap (λ (b : Bool). refuse (b && not (parity (unwoven n z))) ParityDiffers) flags_mid
        then_same λ a. order_cong _ _ n
        (λ c q. ap (λ (k : Checked). in_channel c k)
        (in_group (check_reencode_block h.depth) c q
        (λ t. check_same_lem h.depth ok.low (r c) (get_or chans c []) (chan_some c q) (chan_few c q) (chan_fit c q) (blocks_ok c q) (fits_ok c q) t (get_or others c []) (others_long c q))))
        then_same λ a. ap (λ (x : ℕ). refuse (not (eqb x 0)) TemplateBytesLeft) (ap length (rest_is h flags X B reads n (omega arith) ∙ drop-length (joined B n)) ∙ sym none_left)

    -- and gives the same
    pub group_same : reencoded_group h.depth n (reencoded_group h.depth n bs s) z ≡ reencoded_group h.depth n bs z
    unfolding reencoded_group
    group_same =
        joined_cong _ _ n
        (λ c q. in_group (reencoded_block h.depth) c q
        (λ t. block_same h.depth ok.low (r c) (get_or chans c []) (chan_some c q) (chan_few c q) (chan_fit c q) (blocks_ok c q) (fits_ok c q) t (get_or others c []) (others_long c q)))

  -- ---- with the template's own samples: S c are those of channel c as they are coded
  abbrev S : ℕ → List ℤ
  S c = samples_of h.depth (r c)

  read_plain : mid_bit bs ≡ false → channels_of h Pcm bs ≡ tab n S
  unfolding channels_of coded
  read_plain = ap (λ (t : Bool). cond t (left_right Pcm (tab n S)) (tab n S))

  read_both : mid_bit bs ≡ true → channels_of h Pcm bs ≡ left_right Pcm (tab n S)
  unfolding channels_of coded
  read_both = ap (λ (t : Bool). cond t (left_right Pcm (tab n S)) (tab n S))

  read_count : length (channels_of h Pcm bs) ≡ n
  read_count = by (mid_bit bs) refl
    where
      by : (t : Bool) → mid_bit bs ≡ t → length (channels_of h Pcm bs) ≡ n
      by true m = ap length (read_both m) ∙ two_channels (tab n S) ∙ sym (two_ok m)
      by false m = ap length (read_plain m) ∙ length_tab n S

  S-fit : (c : ℕ) → c < n → Fit (S c)
  S-fit c q = samples_fit h.depth (r c) ok.low ok.high (blocks_ok c q).within

  -- its samples are of 32 bits
  pub group_fit : Fit (group_samples h Pcm g bs)
  unfolding group_samples
  group_fit = each_woven (SFits w32) zero_fits k (channels_of h Pcm bs) (by (mid_bit bs) refl)
    where
      coded_fit : Each Fit [] (tab n S)
      coded_fit = each_tab Fit [] (λ i. zero_fits) n S S-fit

      by : (t : Bool) → mid_bit bs ≡ t → Each Fit [] (channels_of h Pcm bs)
      by true m = subst (Each Fit []) (sym (read_both m)) (both_fit (tab n S) coded_fit)
      by false m = subst (Each Fit []) (sym (read_plain m)) coded_fit

  module _ (byte : Below 256 bs) (own : s ≡ group_samples h Pcm g bs) (stay : mid_bit bs ≡ true → (i : ℕ) → i < k → Stays h.depth bs i) where
    own_at : (c i : ℕ) → c < n → i < k → get_or (get_or (unwoven n s) c []) i (pos 0) ≡ get_or (get_or (channels_of h Pcm bs) c []) i (pos 0)
    unfolding group_samples
    own_at c i q p = unwoven_at n k ok.some s ok.long c i q p ∙ ap (λ (x : List ℤ). get_or x (i * n + c) (pos 0)) own ∙ woven_at n k (channels_of h Pcm bs) read_count c i q p

    -- where the channels are as they are
    plain_own : mid_bit bs ≡ false → (c : ℕ) → c < n → get_or chans c [] ≡ take k (S c)
    plain_own m c q =
        let e = samples_512 h.depth (r c) (blocks_ok c q).within in
        ap (λ (cs : List (List ℤ)). get_or cs c []) (chans_plain m)
        ∙ ext_get_or (pos 0) (get_or (unwoven n s) c []) (take k (S c)) (plains.long c q ∙ sym (length-take-le k (S c) (omega (arith, active_low h.frames g))))
        (λ i p. let j : i < k = omega (arith, plains.long c q) in
        own_at c i q j ∙ ap (λ (cs : List (List ℤ)). get_or (get_or cs c []) i (pos 0)) (read_plain m)
        ∙ ap (λ (x : List ℤ). get_or x i (pos 0)) (get_d_tab n S c [] q) ∙ sym (get_or-take k (S c) i (pos 0) j))

    -- where they are mid and side
    both_own : mid_bit bs ≡ true → (c : ℕ) → c < n → get_or chans c [] ≡ take k (S c)
    both_own m c q =
        let two = two_ok m in
        ap (λ (cs : List (List ℤ)). get_or cs c []) (chans_both m)
        ∙ both_kept S k
        (λ d u. omega (arith, samples_512 h.depth (r d) (blocks_ok d (omega arith)).within, active_low h.frames g))
        (λ d u. S-fit d (omega arith))
        (stay m) (unwoven n s) (λ d u. plains.long d (omega arith))
        (λ d i u p. own_at d i (omega arith) p ∙ ap (λ (cs : List (List ℤ)). get_or (get_or cs d []) i (pos 0)) (read_both m ∙ ap (λ (x : ℕ). left_right Pcm (tab x S)) two))
        c (omega arith)

    chans_own : (c : ℕ) → c < n → get_or chans c [] ≡ take k (S c)
    chans_own c q = by (mid_bit bs) refl
      where
        by : (t : Bool) → mid_bit bs ≡ t → get_or chans c [] ≡ take k (S c)
        by true m = both_own m c q
        by false m = plain_own m c q

    block_own : (c : ℕ) → c < n → B c ≡ take (size_of h.depth (r c)) (r c)
    block_own c q =
        block_kept h.depth ok.low ok.high (r c) (below_rest bs byte h.depth c) (get_or chans c []) (chan_some c q) (blocks_ok c q)
        (chans_own c q ∙ ap (λ (x : ℕ). take x (S c)) (sym (level.long c q)))

    so_far : (c : ℕ) → c ≤ n → joined B c ++ r c ≡ bs
    unfolding joined from_block
    so_far zero q = refl
    so_far (suc c) q =
        let z = size_of h.depth (r c) in
        append_assoc (joined B c) (B c) (drop z (r c))
        ∙ ap (λ (x : List ℕ). joined B c ++ x) (ap (λ (x : List ℕ). x ++ drop z (r c)) (block_own c q) ∙ take-append-drop z (r c))
        ∙ so_far c (omega arith)

    -- the group stays
    pub group_kept : reencoded_group h.depth n bs s ≡ bs
    unfolding reencoded_group
    group_kept = sym (append-nil (joined B n)) ∙ ap (λ (x : List ℕ). joined B n ++ x) (sym (nothing (r n) none_left)) ∙ so_far n (omega arith)
      where
        nothing : (x : List ℕ) → length x ≡ 0 → x ≡ []
        nothing [] e = refl
        nothing (y ∷ x) e = absurd (omega arith)

  -- ---- the converse: a group that stays
  module _ (kept : reencoded_group h.depth n bs s ≡ bs) where
    -- has the new samples
    coded_kept : tab n S ≡ tab n X
    unfolding reencoded_group coded
    coded_kept = ap (coded h.depth n) (sym kept) ∙ coded_is h flags X B reads

    kept_at : (c i : ℕ) → c < n → i < k → get_or (S c) i (pos 0) ≡ get_or (get_or chans c []) i (pos 0)
    kept_at c i q p = ap (λ (x : List ℤ). get_or x i (pos 0)) (sym (get_d_tab n S c [] q) ∙ ap (λ (cs : List (List ℤ)). get_or cs c []) coded_kept) ∙ new_at c i q p

    -- so no sum leaves 32 bits
    pub group_stays : mid_bit bs ≡ true → (i : ℕ) → i < k → Stays h.depth bs i
    group_stays m i p =
        let two = two_ok m in
        rw (kept_at 0 i (omega arith) p, kept_at 1 i (omega arith) p, chans_both m)
        (frames_stay h.depth n k ok.high two (unwoven n s) plains (T.even_ok h.depth n bs s ok.fine m) i p)
