-- A group that encoding wrote, direct or as mid and side: no sum of its mid and side leaves 32 bits, and as a
-- template's it accepts its own samples, since the values that they give are those that it has.
use Prim.Native.Nat.{ℕ, zero, suc, ◌-◌, ◌*◌, ◌%◌, ◌≤◌, ◌<◌}
use mathlib.Core.Path.{◌≡◌, refl, sym, ap, ap₂, ◌∙◌, subst}
use mathlib.Core.Bool.{Bool, true, false, cond, not, ◌&&◌}
use mathlib.Core.List.{List, [], ◌++◌}
use native.Mathlib.Omega.{arith}
use lib.ListN.{length, get_or, take, drop, length-append}
use lib.Seq.{take_at, drop-length}
use lib.IntN.{ℤ, pos, negsuc, neg_ℤ}
use lib.Dec.{ltb, eqb}
use borrow.Author.Tests.{ltb-true, le-ltb, eq-eqb}
use Rattle.format.specs.Refusals.{Fine}
use Rattle.format.specs.Lists.{joined, pairwise}
use Rattle.format.specs.Numbers.{num_at, code_of}
use Rattle.format.specs.Packed.{width_of, values, packing}
use Rattle.format.specs.Blocks.{mid_bit, base_of, bits_of, coding_of, samples_of, from_block}
use Rattle.format.specs.Units.{active}
use Rattle.format.specs.Places.{at_channel}
use Rattle.format.specs.Fit.{check_fit}
use Rattle.format.specs.Encoding.{channel, unwoven, padded, padded_channels, differences, least_width, first_value, block_bytes, encoded_block, blocks, mid, side, mid_side, parity}
use Rattle.format.specs.Reencoding.{values_for, check_reencode_block, active_in, check_reencode_group}
use Rattle.format.specs.declared.answers.Fields.{Fields}
use Rattle.laws.proofs.Checks.{pass, ◌and_then◌}
use Rattle.laws.proofs.Places.{located_all}
use Rattle.laws.proofs.Digits.{num_le}
use Rattle.laws.proofs.Signs.{AllHold, minus_is, values_hold, holds_every}
use Rattle.laws.proofs.Widths.{width_low, width_some, width_most}
use Rattle.laws.proofs.Misfits.{fit_fine}
use Rattle.laws.proofs.Halves.{take_pairwise}
use Rattle.laws.proofs.Channels.{Level, channel_length, unwoven_is, padded_channels_is, padded_channels_level, active_low}
use Rattle.laws.proofs.Stereo.{both_level, frames_stay}
use Rattle.laws.proofs.Templates.{Template, fit_decides, actives_long}
use Rattle.promises.proofs.MidSums.{Stays}
use Rattle.promises.proofs.BlockLaws.{Reads, bits_read, block_reads}
use Rattle.promises.proofs.GroupLaws.{front, rest_is, first_flags_lem, group_long}
use Rattle.promises.proofs.GroupCoding.{padded_even}
use Rattle.promises.proofs.NewBlocks.{value_fits}
use Rattle.promises.proofs.Kept.{values_kept}

-- ---- a block

-- a template's block accepts samples that it holds at its front
own_fits : (depth : ℕ) (r : List ℕ) (xs : List ℤ) → 1 ≤ depth → depth ≤ 32 → 1 ≤ length xs → Template depth r → xs ≡ take (length xs) (samples_of depth r)
    → check_reencode_block depth r xs ≡ Fine
unfolding coding_of values_for samples_of base_of
own_fits depth r xs low high some ok own =
    let b = width_of (coding_of depth r) in
    let run = take (64 * b) (drop 16 r) in
    let wide = width_some depth (bits_of r) low ok.within in
    let narrow = width_most depth (bits_of r) high ok.within in
    fit_decides depth r xs ok
    ∙ ap (check_fit b) (values_kept (base_of r) (value_fits (num_at 4 4 r)) (drop 16 r) xs some (coding_of depth r) ok.within wide narrow own)
    ∙ fit_fine b (values b run) (holds_every b (values b run) (values_hold b run wide))

-- the bits word that encoding writes is neither 0 nor 1
bits_two : (depth flags : ℕ) (xs : List ℤ) (t : List ℕ) → 1 ≤ depth → depth ≤ 32 → 2 ≤ num_at 8 2 (encoded_block depth flags xs ++ t)
unfolding encoded_block
bits_two depth flags xs t low high = by (ltb width depth) refl
  where
    width : ℕ
    width = least_width (differences xs)

    read : (bits : ℤ) (run : List ℕ) → code_of 16 bits < 65536 → 2 ≤ code_of 16 bits → 2 ≤ num_at 8 2 (block_bytes (first_value xs) bits flags run ++ t)
    read bits run u m = rw (bits_read (first_value xs) bits flags run t, num_le 2 (code_of 16 bits) u) m

    by : (b : Bool) → ltb width depth ≡ b
        → 2 ≤ num_at 8 2 (cond b (block_bytes (first_value xs) (pos width) flags (packing width (differences xs))) (block_bytes (first_value xs) (neg_ℤ (pos depth)) flags (packing depth xs)) ++ t)
    by true e = read (pos width) (packing width (differences xs)) (omega (arith, ltb-true width depth e)) (width_low (differences xs))
    by false e = rw (minus_is depth low) (read (negsuc (depth - 1)) (packing depth xs) (omega arith) (omega arith))

-- ---- a group

-- what is asked where t holds
asked : (t b : Bool) → (t ≡ true → b ≡ true) → (t && not b) ≡ false
asked true b e = ap not (e refl)
asked false b e = refl

-- the channels of a group of n channels as they are coded: as mid and side, or as they are
abbrev pub coded_by : Bool → ℕ → List ℤ → List (List ℤ)
coded_by both n s = cond both (mid_side (padded_channels n s)) (padded_channels n s)

abbrev pub flags_by : Bool → ℕ
flags_by both = cond both 1 0

-- bs are the bytes of the group g of samples s, in a file with the numbers h; mid and side only where they can be
pub record Written (h : Fields) (g : ℕ) (s : List ℤ) (bs : List ℕ) : Type 0 where
  pub some : 1 ≤ h.channels
  pub low : 1 ≤ h.depth
  pub high : h.depth ≤ 32
  pub begun : 1 ≤ active h.frames g
  pub long : length s ≡ h.channels * active h.frames g
  pub hold : AllHold h.depth s
  pub both : Bool
  pub can : both ≡ true → (h.channels ≡ 2) × (parity (unwoven h.channels s) ≡ true)
  pub bytes : bs ≡ blocks h.depth (flags_by both) (coded_by both h.channels s)

module _ {h : Fields} {g : ℕ} {s : List ℤ} {bs : List ℕ} (w : Written h g s bs) where
  abbrev n : ℕ
  n = h.channels

  abbrev k : ℕ
  k = active h.frames g

  abbrev flags : ℕ → ℕ
  flags c = flags_by w.both

  -- the samples of the blocks, and the blocks
  abbrev X : ℕ → List ℤ
  X c = get_or (coded_by w.both n s) c []

  abbrev B : ℕ → List ℕ
  B c = encoded_block h.depth (flags_by w.both) (X c)

  plain : Level h.depth n 512 (padded_channels n s)
  plain = padded_channels_level n k w.some s w.long (active_low h.frames g) h.depth w.hold

  level : Level h.depth n 512 (coded_by w.both n s)
  level = by w.both w.can
    where
      by : (t : Bool) → (t ≡ true → (n ≡ 2) × (parity (unwoven n s) ≡ true)) → Level h.depth n 512 (coded_by t n s)
      by true c = both_level h.depth n 512 w.high (c refl).0 (padded_channels n s) plain
      by false c = plain

  small : flags 0 < 2
  small = by w.both
    where
      by : (t : Bool) → flags_by t < 2
      by true = omega arith
      by false = omega arith

  reads : (c : ℕ) → c < n → Reads h.depth (flags c) (X c) (B c)
  reads c q = block_reads h.depth (flags c) w.low w.high (omega (arith, small)) (X c) (level.long c q) (level.hold c q)

  joined_are : bs ≡ joined B n
  unfolding blocks
  joined_are = w.bytes ∙ ap (joined B) level.count

  -- from channel c's block on
  abbrev r : ℕ → List ℕ
  r c = from_block h.depth bs c

  begins : (c : ℕ) → c < n → (t : List ℕ) × (r c ≡ B c ++ t)
  begins c q = subst (λ (x : List ℕ). (t : List ℕ) × (from_block h.depth x c ≡ B c ++ t)) (sym joined_are) (front h flags X B reads c q)

  samples_are : (c : ℕ) → c < n → samples_of h.depth (r c) ≡ X c
  samples_are c q = let f = begins c q in ap (samples_of h.depth) f.1 ∙ (reads c q).samples f.0

  bit_is : mid_bit bs ≡ w.both
  unfolding mid_bit
  bit_is = ap mid_bit joined_are ∙ ap (λ (x : ℕ). eqb (x % 2) 1) (first_flags_lem h flags X B reads w.some) ∙ by w.both
    where
      by : (t : Bool) → eqb (flags_by t % 2) 1 ≡ t
      by true = refl
      by false = refl

  -- no mid plus side or mid minus side leaves 32 bits
  pub written_stays : mid_bit bs ≡ true → (i : ℕ) → i < k → Stays h.depth bs i
  written_stays m i p =
      let chans = padded_channels n s in
      let e : w.both ≡ true = sym bit_is ∙ m in
      let two = (w.can e).0 in
      let halves : (c : ℕ) → c < n → samples_of h.depth (r c) ≡ get_or (mid_side chans) c [] = λ c q. samples_are c q ∙ ap (λ (t : Bool). get_or (coded_by t n s) c []) e in
      rw (halves 0 (omega arith), halves 1 (omega arith))
      (frames_stay h.depth n 512 w.high two chans plain (padded_even n s two (w.can e).1) i (omega (arith, active_low h.frames g)))

  -- ---- as a template's group, with s

  -- the active samples are those at the front of the blocks
  plain_front : (c : ℕ) → c < n → get_or (unwoven n s) c [] ≡ take k (get_or (padded_channels n s) c [])
  unfolding padded
  plain_front c q =
      unwoven_is n k w.some s w.long c q
      ∙ sym (ap (take k) (padded_channels_is n k w.some s w.long (active_low h.frames g) c q) ∙ take_at (channel n s c) _ k (channel_length n k w.some s w.long c))

  both_front : n ≡ 2 → (c : ℕ) → c < n → get_or (mid_side (unwoven n s)) c [] ≡ take k (get_or (mid_side (padded_channels n s)) c [])
  unfolding mid_side
  both_front two c q = by c (omega arith)
    where
      pairs : (f : ℤ → ℤ → ℤ) → pairwise f (get_or (unwoven n s) 0 []) (get_or (unwoven n s) 1 []) ≡ take k (pairwise f (get_or (padded_channels n s) 0 []) (get_or (padded_channels n s) 1 []))
      pairs f = ap₂ (pairwise f) (plain_front 0 (omega arith)) (plain_front 1 (omega arith)) ∙ sym (take_pairwise f k _ _)

      by : (c : ℕ) → c < 2 → get_or (mid_side (unwoven n s)) c [] ≡ take k (get_or (mid_side (padded_channels n s)) c [])
      by zero u = pairs mid
      by (suc zero) u = pairs side
      by (suc (suc c)) u = absurd (omega arith)

  actives_front : (c : ℕ) → c < n → get_or (active_in n bs s) c [] ≡ take k (X c)
  unfolding active_in
  actives_front c q = ap (λ (t : Bool). get_or (cond t (mid_side (unwoven n s)) (unwoven n s)) c []) bit_is ∙ by w.both w.can
    where
      by : (t : Bool) → (t ≡ true → (n ≡ 2) × (parity (unwoven n s) ≡ true)) → get_or (cond t (mid_side (unwoven n s)) (unwoven n s)) c [] ≡ take k (get_or (coded_by t n s) c [])
      by true can = both_front (can refl).0 c q
      by false can = plain_front c q

  stereo_ok : (mid_bit bs && not (eqb n 2)) ≡ false
  stereo_ok = asked (mid_bit bs) (eqb n 2) (λ m. eq-eqb n 2 (w.can (sym bit_is ∙ m)).0)

  parity_ok : (mid_bit bs && not (parity (unwoven n s))) ≡ false
  parity_ok = asked (mid_bit bs) (parity (unwoven n s)) (λ m. (w.can (sym bit_is ∙ m)).1)

  template_ok : (c : ℕ) → c < n → Template h.depth (r c)
  template_ok c q =
      let f = begins c q in
      let t = f.0 in
      let b = reads c q in
      let a = length-append (B c) t in
      subst (Template h.depth) (sym f.1)
      (record {
        head = omega (arith, b.long);
        mark = b.mark t;
        bits = bits_two h.depth (flags c) (X c) t w.low w.high;
        flags = rw (b.flags_word t) small;
        within = b.within t;
        sized = omega (arith, b.size t);
      })

  block_accepts : (c : ℕ) → c < n → check_reencode_block h.depth (r c) (get_or (active_in n bs s) c []) ≡ Fine
  block_accepts c q =
      let xs = get_or (active_in n bs s) c [] in
      let long : length xs ≡ k = actives_long n bs stereo_ok k w.some s w.long c q in
      own_fits h.depth (r c) xs w.low w.high (omega (arith, w.begun)) (template_ok c q) (actives_front c q ∙ ap₂ take (sym long) (sym (samples_are c q)))

  none_left : r n ≡ []
  none_left = ap (λ (x : List ℕ). from_block h.depth x n) joined_are ∙ rest_is h flags X B reads n (omega arith) ∙ drop-length (joined B n)

  pub written_long : 12 ≤ length bs
  written_long = omega (arith, ap length joined_are, group_long h flags X B reads n (omega arith), w.some)

  -- nothing is refused
  pub written_accepts : check_reencode_group h.depth n bs s ≡ Fine
  unfolding check_reencode_group
  written_accepts =
      pass _ _ (le-ltb (length bs) 12 written_long)
      and_then pass _ _ stereo_ok
      and_then pass _ _ parity_ok
      and_then located_all (λ c. check_reencode_block h.depth (r c) (get_or (active_in n bs s) c [])) at_channel n block_accepts
      and_then pass _ _ (ap (λ (x : List ℕ). not (eqb (length x) 0)) none_left)
