-- The blocks of a group, one after another.
use Prim.Native.Nat.{ℕ, ◌+◌, ◌-◌, ◌≤◌, ◌<◌}
use mathlib.Core.Path.{◌≡◌, sym, ap, ◌∙◌}
use mathlib.Core.List.{List, [], ◌++◌}
use native.Mathlib.Omega.{arith}
use native.Mathlib.Numerals.{add-one}
use lib.IntN.{ℤ}
use lib.ListN.{length, get_or, take, drop, length-append, length-drop}
use borrow.Author.Rules.{part_to_end}
use Rattle.format.specs.Lists.{joined, over}
use Rattle.format.specs.Encoding.{channel, padded, padded_channels, encoded_block, blocks}
use Rattle.laws.proofs.Over.{over_none, lend_turn}
use Rattle.laws.proofs.Parts.{length_tab, get_d_tab, length_mono, joined_cong, one_more}

-- ---- of two channels
module _ (depth flags : ℕ) (a : List (List ℤ)) (two : length a ≡ 2) where
  abbrev l : List ℕ
  l = encoded_block depth flags (get_or a 0 [])

  abbrev r : List ℕ
  r = encoded_block depth flags (get_or a 1 [])

  pair_blocks : blocks depth flags a ≡ l ++ r
  unfolding blocks joined
  pair_blocks = rw two

  pub pair_length : length (blocks depth flags a) ≡ length l + length r
  pair_length = ap length pair_blocks ∙ length-append l r

  -- the first, of k bytes, was written into xs, which gave d, and then the second behind it
  pub pair_written : (k : ℕ) (xs d ys : List ℕ) → k ≡ length l → d ≡ over l xs → ys ≡ over r (take (length d - k) (drop k d))
      → take k d ++ (ys ++ drop (length d - k) (drop k d)) ≡ over (blocks depth flags a) xs
  pair_written k xs d ys is e f = rw pair_blocks (lend_turn k l r xs d ys is e f)

pub ruleset pairs = (pair_length, part_to_end, length-drop, pair_written)

-- ---- of any number of channels: those before channel c
module _ (depth flags n : ℕ) (s : List ℤ) where
  abbrev channel_block : ℕ → List ℕ
  channel_block c = encoded_block depth flags (padded (channel n s c))

  abbrev pub blocks_before : ℕ → List ℕ
  blocks_before c = joined channel_block c

  -- all of them
  pub all_before : (c : ℕ) → c ≤ n → n ≤ c → blocks_before c ≡ blocks depth flags (padded_channels n s)
  unfolding blocks padded_channels
  all_before c h k =
      let e : c ≡ n = omega arith in
      ap blocks_before e
      ∙ rw (length_tab n (λ c. padded (channel n s c)))
      (joined_cong channel_block _ n (λ c h. ap (encoded_block depth flags) (sym (get_d_tab n (λ c. padded (channel n s c)) c [] h))))

  -- one more, that of the run, which lies behind them
  module _ (c : ℕ) (run : List ℤ) (is : run ≡ padded (channel n s c)) where
    pub next_length : length (blocks_before (c + 1)) ≡ length (blocks_before c) + length (encoded_block depth flags run)
    next_length = rw is (one_more channel_block c)

    pub next_fits : c < n → length (blocks_before c) + length (encoded_block depth flags run) ≤ length (blocks depth flags (padded_channels n s))
    next_fits below = omega (arith, next_length, length_mono channel_block (c + 1) n (omega arith), ap length (all_before n (omega arith) (omega arith)))

    pub next_written : (at : ℕ) (xs d ys : List ℕ) → at ≡ length (blocks_before c) → d ≡ over (blocks_before c) xs → ys ≡ over (encoded_block depth flags run) (take (length d - at) (drop at d))
        → take at d ++ (ys ++ drop (length d - at) (drop at d)) ≡ over (blocks_before (c + 1)) xs
    unfolding joined
    next_written at xs d ys so_far e f = rw add-one (lend_turn at (blocks_before c) (channel_block c) xs d ys so_far e (rw is at f))

pub ruleset nexts = (over_none, all_before, next_length, next_fits, part_to_end, length-drop, next_written)
