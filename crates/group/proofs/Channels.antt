-- The channels of a group that can be read, put where they belong.
use Prim.Native.Nat.{ℕ, ◌+◌, ◌*◌, ◌%◌, ◌<◌, ◌≤◌}
use mathlib.Core.Path.{◌≡◌, refl, sym, ap, ◌∙◌, subst}
use mathlib.Core.Bool.{Bool, true, false}
use mathlib.Core.List.{List, [], ◌∷◌}
use native.Mathlib.Numerals.{add-one}
use native.Mathlib.Omega.{arith}
use lib.Dec.{eqb}
use lib.IntN.{ℤ}
use lib.ListN.{length, get_or}
use Rattle.format.specs.Lists.{tab, from}
use Rattle.format.specs.Packed.{is_beyond}
use Rattle.format.specs.Blocks.{mid_bit, coding_of, size_of, samples_of, from_block}
use Rattle.format.specs.MidSide.{left_right}
use Rattle.format.specs.Decoding.{coded, channels_of}
use Rattle.format.specs.declared.settings.SampleFormat.{SampleFormat}
use Rattle.format.specs.declared.answers.Fields.{Fields}
use Rattle.laws.proofs.Parts.{length_tab, get_d_tab}
use Rattle.laws.proofs.Lengths.{samples_512}
use Rattle.laws.proofs.Passed.{header_there, bits_known, run_there, block_fine, mid_two}
use Rattle.block.specs.Read.{block_header, Whole}
use Rattle.block.specs.declared.BlockHeader.{BlockHeader}
use Rattle.lent_samples.specs.Lent.{placed, strided, woven_from}
use Rattle.lent_samples.proofs.Weave.{channels_put, all_put}
use Rattle.group.specs.Readable.{Readable}
use Rattle.group.proofs.Places.{part, part_is, Begins, begins_first, begins_more}

-- ---- no channel put, and one more
pub none_put : (first skip n C : ℕ) (chans : List (List ℤ)) (s : List ℤ) → s ≡ channels_put first skip n C chans 0 s
unfolding channels_put
none_put first skip n C chans s = refl

put_more : (first skip n C c : ℕ) (chans : List (List ℤ)) (s xs : List ℤ) → xs ≡ get_or chans c []
    → strided (channels_put first skip n C chans c s) (first * C + c) C (from skip n xs) ≡ channels_put first skip n C chans (c + 1) s
unfolding channels_put
put_more first skip n C c chans s xs e = rw add-one (rw e)

-- two channels, put
pub two_put : (C first skip n : ℕ) (s : List ℤ) → C ≡ 2 → {a b : List (List ℤ)} → a ≡ b → {t : List ℤ} → t ≡ placed (first * 2) (woven_from skip n a) s
    → t ≡ placed (first * C) (woven_from skip n b) s
two_put C first skip n s e p q = rw e (q ∙ ap (λ (x : List (List ℤ)). placed (first * 2) (woven_from skip n x) s) p)

module _ (h : Fields) (f : SampleFormat) (bs : List ℕ) (ok : Readable h f bs) where
  abbrev chans : List (List ℤ)
  chans = coded h.depth h.channels bs

  known : (c : ℕ) → c < h.channels → is_beyond (coding_of h.depth (from_block h.depth bs c)) ≡ false
  known c l = bits_known h f c (from_block h.depth bs c) (block_fine h f bs ok.fine c l)

  channel_is : (c : ℕ) → c < h.channels → get_or chans c [] ≡ samples_of h.depth (from_block h.depth bs c)
  unfolding coded
  channel_is c l = get_d_tab h.channels (λ c. samples_of h.depth (from_block h.depth bs c)) c [] l

  channel_512 : (c : ℕ) → c < h.channels → length (get_or chans c []) ≡ 512
  channel_512 c l = ap length (channel_is c l) ∙ samples_512 h.depth (from_block h.depth bs c) (known c l)

  channels_count : length chans ≡ h.channels
  unfolding coded
  channels_count = length_tab h.channels (λ c. samples_of h.depth (from_block h.depth bs c))

  module _ (c at : ℕ) (b : Begins h.depth bs c at) (l : c < h.channels) where
    here : from_block h.depth bs c ≡ part at bs
    here = b.left ∙ sym (part_is at bs)

    pub whole : Whole h.depth (part at bs)
    whole =
        let e = block_fine h f bs ok.fine c l in
        subst (Whole h.depth) here (record { some = ok.least; most = ok.most; header = header_there h f c _ e; known = bits_known h f c _ e; run = run_there h f c _ e })

    pub begins_next : (n : ℕ) → n ≡ size_of h.depth (part at bs) → Begins h.depth bs (c + 1) (at + n)
    begins_next n = begins_more h.depth bs c at n b whole.run

    pub samples_are : (xs : List ℤ) → xs ≡ samples_of h.depth (part at bs) → xs ≡ get_or chans c []
    samples_are xs e = e ∙ ap (samples_of h.depth) (sym here) ∙ sym (channel_is c l)

    pub put_turn : (first skip n : ℕ) (s xs : List ℤ) → xs ≡ samples_of h.depth (part at bs)
        → strided (channels_put first skip n h.channels chans c s) (first * h.channels + c) h.channels (from skip n xs) ≡ channels_put first skip n h.channels chans (c + 1) s
    put_turn first skip n s xs e = put_more first skip n h.channels c chans s xs (samples_are xs e)

  -- ---- without mid/side, which needs two channels, as they are coded
  pub plain : mid_bit bs ≡ false → channels_of h f bs ≡ chans
  unfolding channels_of
  plain e = rw e

  pub not_mid : (h.channels ≡ 2 → ⊥) → mid_bit bs ≡ false
  not_mid n = by (mid_bit bs) refl
    where
      by : (t : Bool) → mid_bit bs ≡ t → t ≡ false
      by true e = absurd (n (mid_two h f bs ok.fine ok.some e))
      by false e = refl

  pub all_channels : (h.channels ≡ 2 → ⊥) → (first skip n : ℕ) (s : List ℤ) → skip + n ≤ 512 → (first + n) * h.channels ≤ length s
      → channels_put first skip n h.channels chans h.channels s ≡ placed (first * h.channels) (woven_from skip n (channels_of h f bs)) s
  all_channels ne first skip n s k r = rw (plain (not_mid ne)) (all_put first skip n h.channels chans channel_512 k channels_count s r)

  -- ---- two channels
  pub first_whole : Whole h.depth bs
  first_whole = subst (Whole h.depth) (part_is 0 bs) (whole 0 0 (begins_first h.depth bs) ok.some)

  second_begins : Begins h.depth bs 1 (size_of h.depth bs)
  unfolding from_block
  second_begins = record { inside = first_whole.run; left = refl }

  module _ (two : h.channels ≡ 2) where
    pub second_whole : Whole h.depth (part (size_of h.depth bs) bs)
    second_whole = whole 1 (size_of h.depth bs) second_begins (omega arith)

    module _ (l r : List ℤ) (p : l ≡ samples_of h.depth bs) (q : r ≡ samples_of h.depth (part (size_of h.depth bs) bs)) where
      pair_is : l ∷ r ∷ [] ≡ chans
      unfolding coded tab from_block
      pair_is = rw (two, p, q, part_is (size_of h.depth bs) bs)

      module _ (b : BlockHeader) (t : Bool) (header : b ≡ block_header bs) (mid : t ≡ eqb (b.flags % 2) 1) where
        bit : mid_bit bs ≡ t
        unfolding mid_bit block_header
        bit = sym (mid ∙ ap (λ (x : BlockHeader). eqb (x.flags % 2) 1) header)

        pub pair_plain : t ≡ false → l ∷ r ∷ [] ≡ channels_of h f bs
        pair_plain e = pair_is ∙ sym (plain (bit ∙ e))

        pub pair_mid : t ≡ true → (d : List (List ℤ)) → d ≡ left_right f (l ∷ r ∷ []) → d ≡ channels_of h f bs
        unfolding channels_of
        pair_mid e d q = rw (bit, e) (q ∙ ap (left_right f) pair_is)

-- both blocks are whole, and the first one's bit 0 decides
pub ruleset pairs = (first_whole, second_whole, pair_mid, pair_plain)
