-- A block that was written is read back, over the depth, the width and the flags: the width holds what is packed, and
-- the differences, summed from the base, are the samples.
use Prim.Native.Nat.{ℕ, zero, suc, ◌+◌, ◌-◌, ◌*◌, ◌≤◌, ◌<◌}
use mathlib.Core.Path.{◌≡◌, refl, sym, ap, ap₂, ◌∙◌}
use mathlib.Core.Bool.{Bool, true, false, cond}
use mathlib.Core.List.{List, [], ◌∷◌, ◌++◌}
use native.Mathlib.Omega.{arith}
use native.Mathlib.Nat.{lt_of_lt_of_le}
use lib.ListN.{length, get_or, drop}
use lib.Seq.{take_at}
use lib.IntN.{ℤ, pos, negsuc, neg_ℤ}
use lib.Dec.{ltb}
use lib.Pow.{pow_mono}
use borrow.Author.Tests.{ltb-true, le-leb}
use Rattle.format.specs.Lists.{from, same}
use Rattle.format.specs.Numbers.{num, digits, le, num_at, value, code_of}
use Rattle.format.specs.Packed.{coding, width_of, values, packing, rebuilt, is_beyond}
use Rattle.format.specs.declared.packed.Coding.{Coding}
use Rattle.format.specs.declared.packed.Coding.TheVariants.{Differences, Raw}
use Rattle.format.specs.Blocks.{block_mark, is_block, base_of, bits_of, coding_of, size_of, decoded, samples_of}
use Rattle.format.specs.Encoding.{differences, least_width, first_value, block_bytes, encoded_block}
use Rattle.laws.proofs.Digits.{num_le}
use Rattle.laws.proofs.Widths.{width_low, width_every}
use Rattle.laws.proofs.Signs.{Holds, AllHold, minus_is, code_lt, value_code, values_packing, length_packing, every_holds}
use Rattle.laws.proofs.Wrap.{Fit, rebuilt_back}

-- ---- the width

width_holds : (ds : List ℤ) → least_width ds < 32 → AllHold (least_width ds) ds
width_holds ds h = every_holds (least_width ds) ds (width_every ds h)

pub length_differences : (xs : List ℤ) → length (differences xs) ≡ length xs
unfolding differences
length_differences [] = refl
length_differences (x ∷ []) = refl
length_differences (x ∷ y ∷ xs) = ap suc (length_differences (y ∷ xs))

-- what a depth holds is of 32 bits
pub fit : (depth : ℕ) → depth ≤ 32 → (xs : List ℤ) → AllHold depth xs → Fit xs
fit depth u xs h i = record { sfits = lt_of_lt_of_le (h i) (pow_mono {j = 31} (omega arith)) }

-- ---- what a block's bytes say
module _ (base bits : ℤ) (flags : ℕ) (run : List ℕ) where
  pub block_length : length (block_bytes base bits flags run) ≡ 16 + length run
  unfolding block_bytes block_mark le digits
  block_length = omega arith

  -- with anything after them
  module _ (t : List ℕ) where
    base_read : num_at 4 4 (block_bytes base bits flags run ++ t) ≡ num 256 (le 4 (code_of 32 base))
    unfolding num_at from block_bytes block_mark le digits
    base_read = refl

    pub bits_read : num_at 8 2 (block_bytes base bits flags run ++ t) ≡ num 256 (le 2 (code_of 16 bits))
    unfolding num_at from block_bytes block_mark le digits
    bits_read = refl

    flags_read : num_at 10 2 (block_bytes base bits flags run ++ t) ≡ num 256 (le 2 flags)
    unfolding num_at from block_bytes block_mark le digits
    flags_read = refl

    run_read : drop 16 (block_bytes base bits flags run ++ t) ≡ run ++ t
    unfolding block_bytes block_mark le digits
    run_read = refl

    mark_read : is_block (block_bytes base bits flags run ++ t) ≡ true
    unfolding is_block same block_bytes block_mark
    mark_read = refl

    pub flags_are : flags < 65536 → num_at 10 2 (block_bytes base bits flags run ++ t) ≡ flags
    flags_are h = flags_read ∙ num_le 2 flags h

    base_is : Holds 32 base → base_of (block_bytes base bits flags run ++ t) ≡ base
    unfolding base_of
    base_is h = ap (value 32) (base_read ∙ num_le 4 (code_of 32 base) (code_lt 32 (omega arith) base h)) ∙ value_code 32 (omega arith) base h

    pub bits_are : Holds 16 bits → bits_of (block_bytes base bits flags run ++ t) ≡ bits
    unfolding bits_of
    bits_are h = ap (value 16) (bits_read ∙ num_le 2 (code_of 16 bits) (code_lt 16 (omega arith) bits h)) ∙ value_code 16 (omega arith) bits h

-- ---- what reading says of bs, whatever lies after it: the samples xs, and nothing refused
pub record Reads (depth flags : ℕ) (xs : List ℤ) (bs : List ℕ) : Type 0 where
  pub long : 80 ≤ length bs
  pub size : (t : List ℕ) → size_of depth (bs ++ t) ≡ length bs
  pub mark : (t : List ℕ) → is_block (bs ++ t) ≡ true
  pub flags_word : (t : List ℕ) → num_at 10 2 (bs ++ t) ≡ flags
  pub within : (t : List ℕ) → is_beyond (coding_of depth (bs ++ t)) ≡ false
  pub samples : (t : List ℕ) → samples_of depth (bs ++ t) ≡ xs

coding_differences : (depth b : ℕ) → 1 ≤ b → b ≤ 32 → coding depth (pos b) ≡ Differences b
unfolding coding
coding_differences depth zero l u = absurd (omega arith)
coding_differences depth (suc n) l u = rw (le-leb (suc n) 32 u)

coding_raw : (depth b : ℕ) → 1 ≤ b → b ≤ 32 → coding depth (negsuc (b - 1)) ≡ Raw b
unfolding coding
coding_raw depth b l u = let e : suc (b - 1) ≡ b = omega arith in rw (e, le-leb b 32 u)

module _ (depth flags : ℕ) (low : 1 ≤ depth) (high : depth ≤ 32) (small : flags < 65536) (xs : List ℤ) (l : length xs ≡ 512) (h : AllHold depth xs) where
  head_holds : Holds 32 (first_value xs)
  unfolding first_value
  head_holds = lt_of_lt_of_le (by xs (h 0)) (pow_mono {j = 31} (omega arith))
    where
      by : (ys : List ℤ) → Holds depth (get_or ys 0 (pos 0)) → Holds depth (first_value ys)
      by [] p = p
      by (y ∷ ys) p = p

  -- either way of coding: b is its width, vs what is packed
  module _ (b : ℕ) (bits : ℤ) (vs : List ℤ) (b1 : 1 ≤ b) (hb : Holds 16 bits) (c : Coding) (ec : coding depth bits ≡ c) (ew : width_of c ≡ b) (en : is_beyond c ≡ false)
      (back : (t : List ℕ) → decoded c (first_value xs) (packing b vs ++ t) ≡ xs) where
    abbrev bs : List ℕ
    bs = block_bytes (first_value xs) bits flags (packing b vs)

    coded_as : (t : List ℕ) → coding_of depth (bs ++ t) ≡ c
    unfolding coding_of
    coded_as t = ap (coding depth) (bits_are (first_value xs) bits flags (packing b vs) t hb) ∙ ec

    bs_length : length bs ≡ 16 + 64 * b
    bs_length = block_length (first_value xs) bits flags (packing b vs) ∙ ap (λ (n : ℕ). 16 + n) (length_packing b vs)

    reads_as : Reads depth flags xs bs
    unfolding size_of samples_of
    reads_as =
        record {
          long = omega (arith, bs_length);
          size = λ t. ap (λ (k : Coding). 16 + 64 * width_of k) (coded_as t) ∙ ap (λ (n : ℕ). 16 + 64 * n) ew ∙ sym bs_length;
          mark = mark_read (first_value xs) bits flags (packing b vs);
          flags_word = λ t. flags_are (first_value xs) bits flags (packing b vs) t small;
          within = λ t. ap is_beyond (coded_as t) ∙ en;
          samples = λ t. ap (λ (k : Coding). decoded k (base_of (bs ++ t)) (drop 16 (bs ++ t))) (coded_as t)
              ∙ ap₂ (decoded c) (base_is (first_value xs) bits flags (packing b vs) t head_holds) (run_read (first_value xs) bits flags (packing b vs) t)
              ∙ back t;
        }

  as_differences : (b : ℕ) → 2 ≤ b → b < 32 → AllHold b (differences xs) → Reads depth flags xs (block_bytes (first_value xs) (pos b) flags (packing b (differences xs)))
  unfolding decoded width_of is_beyond
  as_differences b b2 b32 hd =
      reads_as b (pos b) (differences xs) (omega arith) (omega arith) (Differences b) (coding_differences depth b (omega arith) (omega arith)) refl refl
      (λ t. ap (λ (r : List ℕ). rebuilt (first_value xs) (values b r)) (take_at (packing b (differences xs)) t (64 * b) (length_packing b (differences xs)))
      ∙ ap (rebuilt (first_value xs)) (values_packing b (omega arith) (differences xs) (length_differences xs ∙ l) hd)
      ∙ rebuilt_back xs (fit depth high xs h))

  as_raw : Reads depth flags xs (block_bytes (first_value xs) (neg_ℤ (pos depth)) flags (packing depth xs))
  unfolding decoded width_of is_beyond
  as_raw =
      rw (minus_is depth low)
      (reads_as depth (negsuc (depth - 1)) xs low (omega arith) (Raw depth) (coding_raw depth depth low high) refl refl
      (λ t. ap (values depth) (take_at (packing depth xs) t (64 * depth) (length_packing depth xs)) ∙ values_packing depth low xs l h))

  -- the block of 512 samples that the depth holds reads as those samples
  pub block_reads : Reads depth flags xs (encoded_block depth flags xs)
  unfolding encoded_block
  block_reads = by (ltb (least_width ds) depth) refl
    where
      ds : List ℤ
      ds = differences xs

      by : (t : Bool) → ltb (least_width ds) depth ≡ t
          → Reads depth flags xs (cond t (block_bytes (first_value xs) (pos (least_width ds)) flags (packing (least_width ds) ds)) (block_bytes (first_value xs) (neg_ℤ (pos depth)) flags (packing depth xs)))
      by true e =
          let w : least_width ds < depth = ltb-true (least_width ds) depth e in
          let w32 : least_width ds < 32 = omega arith in
          as_differences (least_width ds) (width_low ds) w32 (width_holds ds w32)
      by false e = as_raw
