-- NaNs in float mid/side: what a NaN's bits are once they are quiet, what is settled of a pair, and what a frame of a
-- mid/side group decodes to.
use Prim.Native.Nat.{ℕ, zero, suc, ◌+◌, ◌*◌, ◌/◌, ◌%◌, ◌^◌, ◌≤◌, ◌<◌, max}
use mathlib.Core.Path.{◌≡◌, refl, sym, ap, ap₂, ◌∙◌}
use mathlib.Core.Logic.{◌≢◌}
use mathlib.Core.Bool.{Bool, true, false, cond}
use mathlib.Core.List.{List, [], ◌∷◌, append-nil}
use native.Mathlib.Omega.{arith}
use native.Mathlib.Nat.{max-zero, div-one, zero-div, pow-suc}
use lib.ListN.{length, get_or, take, drop}
use lib.Seq.{take_at}
use lib.IntN.{ℤ, pos}
use lib.Bits.{bit_or, or_step, or_lt}
use lib.Pow.{shr-shr}
use lib.Ieee as Ieee
use lib.Ieee.{binary32, nan_bits}
use Rattle.format.specs.Refusals.{Fine}
use Rattle.format.specs.Lists.{joined, from, pairwise}
use Rattle.format.specs.Header.{fields_of, group_bytes}
use Rattle.format.specs.Blocks.{mid_bit, samples_of, from_block}
use Rattle.format.specs.MidSide.{pattern_of, quieted, settled, left, right, left_right}
use Rattle.format.specs.Opening.{format_of, check_open}
use Rattle.format.specs.Decoding.{check_group, coded, channels_of, frame_of}
use Rattle.format.specs.FewFrames.{group_of, frame_at}
use Rattle.format.specs.declared.settings.SampleFormat.{SampleFormat}
use Rattle.format.specs.declared.answers.Fields.{Fields}
use Rattle.laws.proofs.Parts.{get_d_tab, behind}
use Rattle.laws.proofs.Signs.{Holds}
use Rattle.laws.proofs.Halves.{pairwise_at}
use Rattle.laws.proofs.Opened.{some_channels, opened_fields, depth_least, depth_most}
use Rattle.laws.proofs.Passed.{bits_known, block_fine, mid_two}
use Rattle.laws.proofs.Lengths.{samples_512}
use Rattle.promises.proofs.MidSums.{mid_at, side_at}
use Rattle.promises.proofs.Kept.{samples_fit}

-- ---- bit i of a number, from the lowest on
abbrev pub bit : ℕ → ℕ → ℕ
bit i n = n / 2 ^ i % 2

bit_suc : (i n : ℕ) → bit (suc i) n ≡ bit i (n / 2)
bit_suc i n =
    let e : suc i ≡ 1 + i = omega arith in
    ap (λ (k : ℕ). n / 2 ^ k % 2) e ∙ ap (λ (x : ℕ). x % 2) (sym (shr-shr n 1 i))

bit_or_lem : (i a b : ℕ) → bit i (bit_or a b) ≡ max (bit i a) (bit i b)
bit_or_lem zero a b = omega (arith, or_step a b, div-one (bit_or a b), div-one a, div-one b)
bit_or_lem (suc i) a b =
    let e : bit_or a b / 2 ≡ bit_or (a / 2) (b / 2) = omega (arith, or_step a b) in
    bit_suc i (bit_or a b) ∙ ap (bit i) e ∙ bit_or_lem i (a / 2) (b / 2) ∙ ap₂ max (sym (bit_suc i a)) (sym (bit_suc i b))

-- 2 ^ k has bit k alone
other_bit : (i k : ℕ) → i ≢ k → bit i (2 ^ k) ≡ 0
other_bit zero zero d = absurd (d refl)
other_bit zero (suc k) d = omega (arith, pow-suc 2 k, div-one (2 ^ suc k))
other_bit (suc i) zero d = bit_suc i 1 ∙ ap (λ (x : ℕ). x % 2) (zero-div (2 ^ i))
other_bit (suc i) (suc k) d =
    let e : 2 ^ suc k / 2 ≡ 2 ^ k = omega (arith, pow-suc 2 k) in
    bit_suc i (2 ^ suc k) ∙ ap (bit i) e ∙ other_bit i k (λ q. d (ap suc q))

-- ---- a NaN's bits once they are quiet
pub quieted_keeps : (x i : ℕ) → i ≢ 22 → bit i (quieted x) ≡ bit i x
unfolding quieted
quieted_keeps x i d = bit_or_lem i x (2 ^ 22) ∙ ap (max (bit i x)) (other_bit i 22 d) ∙ max-zero (bit i x)

pub quieted_sets : (x : ℕ) → bit 22 (quieted x) ≡ 1
unfolding quieted
quieted_sets x = let e : max (bit 22 x) 1 ≡ 1 = omega arith in bit_or_lem 22 x (2 ^ 22) ∙ e

pub quieted_lt : (x : ℕ) → x < 2 ^ 32 → quieted x < 2 ^ 32
unfolding quieted
quieted_lt x h = or_lt 32 x (2 ^ 22) h (omega arith)

-- ---- what is settled of the patterns m and s, whatever the result is
module _ (m s : ℕ) (r : Ieee.Float) where
  pub settled_mid : nan_bits binary32 m ≡ true → settled m s r ≡ quieted m
  unfolding settled
  settled_mid e = rw e

  pub settled_side : nan_bits binary32 m ≡ false → nan_bits binary32 s ≡ true → settled m s r ≡ quieted s
  unfolding settled
  settled_side e f = rw (e, f)

  pub settled_neither : nan_bits binary32 m ≡ false → nan_bits binary32 s ≡ false → settled m s r ≡ pattern_of r
  unfolding settled
  settled_neither e f = rw (e, f)

-- ---- a frame of a group that is mid and side
module _ (h : Fields) (f : SampleFormat) (bs : List ℕ) (some : 1 ≤ h.channels) (fine : check_group h f bs ≡ Fine) (sided : mid_bit bs ≡ true) (i : ℕ) (l : i < 512) where
  block_512 : (c : ℕ) → c < 2 → length (samples_of h.depth (from_block h.depth bs c)) ≡ 512
  block_512 c q = samples_512 h.depth _ (bits_known h f c _ (block_fine h f bs fine c (omega (arith, mid_two h f bs fine some sided))))

  coded_is : (c : ℕ) → c < 2 → get_or (coded h.depth h.channels bs) c [] ≡ samples_of h.depth (from_block h.depth bs c)
  unfolding coded
  coded_is c q = get_d_tab h.channels (λ c. samples_of h.depth (from_block h.depth bs c)) c [] (omega (arith, mid_two h f bs fine some sided))

  pub frame_sides : frame_of (channels_of h f bs) i ≡ left f (mid_at h.depth bs i) (side_at h.depth bs i) ∷ right f (mid_at h.depth bs i) (side_at h.depth bs i) ∷ []
  unfolding channels_of left_right
  frame_sides =
      let chans = coded h.depth h.channels bs in
      let at : (op : ℤ → ℤ → ℤ) → get_or (pairwise op (get_or chans 0 []) (get_or chans 1 [])) i (pos 0) ≡ op (mid_at h.depth bs i) (side_at h.depth bs i) = λ op.
      ap₂ (λ (x y : List ℤ). get_or (pairwise op x y) i (pos 0)) (coded_is 0 (omega arith)) (coded_is 1 (omega arith))
      ∙ pairwise_at op _ _ i (pos 0) (pos 0) (omega (arith, block_512 0 (omega arith))) (omega (arith, block_512 1 (omega arith))) in
      ap (λ (b : Bool). frame_of (cond b (left_right f chans) chans) i) sided ∙ ap₂ (λ (x y : ℤ). x ∷ y ∷ []) (at (left f)) (at (right f))

-- ---- and of a file that opens: frame j, in such a group
module _ (s : List ℕ) (opens : check_open s ≡ Fine) (j : ℕ) where
  abbrev h : Fields
  h = fields_of s

  abbrev f : SampleFormat
  f = format_of s h

  abbrev bs : List ℕ
  bs = group_bytes s h (group_of j)

  some : 1 ≤ h.channels
  some = some_channels h (opened_fields s opens)

  module _ (passes : check_group h f bs ≡ Fine) (sided : mid_bit bs ≡ true) where
    pub sides_two : h.channels ≡ 2
    sides_two = mid_two h f bs passes some sided

    pub sides_frame : frame_at s j ≡ left f (mid_at h.depth bs (j % 512)) (side_at h.depth bs (j % 512)) ∷ right f (mid_at h.depth bs (j % 512)) (side_at h.depth bs (j % 512)) ∷ []
    unfolding frame_at
    sides_frame = frame_sides h f bs some passes sided (j % 512) (omega arith)

    -- mid and side are numbers of 32 bits
    block_holds : (c : ℕ) → c < 2 → Holds 32 (get_or (samples_of h.depth (from_block h.depth bs c)) (j % 512) (pos 0))
    block_holds c q =
        let ok = opened_fields s opens in
        (samples_fit h.depth _ (omega (arith, depth_least h ok)) (depth_most h ok) (bits_known h f c _ (block_fine h f bs passes c (omega (arith, sides_two)))) (j % 512)).sfits

    pub mid_of_32 : Holds 32 (mid_at h.depth bs (j % 512))
    mid_of_32 = block_holds 0 (omega arith)

    pub side_of_32 : Holds 32 (side_at h.depth bs (j % 512))
    side_of_32 = block_holds 1 (omega arith)

-- ---- one of many frames that lie one behind another, of two samples each
pub nth_frame : (P : ℕ → List ℤ) (n k : ℕ) → k < n → length (joined P k) ≡ 2 * k → length (P k) ≡ 2 → from (2 * k) 2 (joined P n) ≡ P k
unfolding from
nth_frame P n k l before two =
    let b = behind P k n [] l in
    ap₂ (λ (i : ℕ) (xs : List ℤ). take 2 (drop i xs)) (sym before) (sym (append-nil (joined P n))) ∙ ap (take 2) b.1 ∙ take_at (P k) b.0 2 two
