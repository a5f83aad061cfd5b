-- The pairs of a group whose channels are not two, channel by channel, as they are coded.
use Prim.Native.Nat.{ℕ, ◌+◌, ◌-◌, ◌<◌, ◌≤◌}
use mathlib.Core.Path.{◌≡◌, refl, ap, ◌∙◌}
use mathlib.Core.Bool.{false}
use mathlib.Core.List.{List, [], ◌++◌}
use native.Mathlib.Numerals.{add-one}
use lib.IntN.{ℤ}
use lib.ListN.{length, take, drop, get_or}
use borrow.Author.Rules.{part_to_end}
use Rattle.format.specs.Lists.{joined}
use Rattle.format.specs.Packed.{is_beyond}
use Rattle.format.specs.Blocks.{coding_of, size_of, samples_of, from_block}
use Rattle.format.specs.Decoding.{coded}
use Rattle.format.specs.Peaks.{peak_of, pair_bytes, channel_peak}
use Rattle.format.specs.declared.settings.SampleFormat.{SampleFormat}
use Rattle.format.specs.declared.answers.Fields.{Fields}
use Rattle.laws.proofs.Parts.{joined_cong, get_d_tab}
use Rattle.laws.proofs.Passed.{header_there, bits_known, run_there, block_fine}
use Rattle.block.specs.Read.{Whole}
use Rattle.group.specs.Readable.{Readable}
use Rattle.group.proofs.Channels.{plain, not_mid}
use Rattle.peaks.specs.Passes.{group_pairs}
use Rattle.peaks.proofs.Composed.{runs, nothing_found, nothing_left}
use Rattle.peaks.proofs.Parts.{joined_more, joined_around}

-- the pair of channel c, as it is coded; the pairs of the first k channels, and those behind the next
abbrev block_pair : Fields → ℕ → List ℕ → ℕ → List ℕ
block_pair h n bs c = pair_bytes (peak_of (take n (samples_of h.depth (from_block h.depth bs c))))

unfoldable pub block_pairs : Fields → ℕ → List ℕ → ℕ → List ℕ
block_pairs h n bs k = joined (λ c. pair_bytes (peak_of (take n (samples_of h.depth (from_block h.depth bs c))))) k

unfoldable pub pairs_behind : Fields → ℕ → List ℕ → ℕ → List ℕ
pairs_behind h n bs k = joined (λ i. pair_bytes (peak_of (take n (samples_of h.depth (from_block h.depth bs (k + 1 + i)))))) (h.channels - (k + 1))

pub blocks_none : (h : Fields) (n : ℕ) (bs : List ℕ) → block_pairs h n bs 0 ≡ []
unfolding block_pairs joined
blocks_none h n bs = refl

pub blocks_more : (h : Fields) (n : ℕ) (bs : List ℕ) (k : ℕ)
    → block_pairs h n bs (k + 1) ≡ block_pairs h n bs k ++ pair_bytes (peak_of (take n (samples_of h.depth (from_block h.depth bs k))))
unfolding block_pairs
blocks_more h n bs k = joined_more (block_pair h n bs) k

pub first_block : (depth : ℕ) (bs : List ℕ) → from_block depth bs 0 ≡ bs
unfolding from_block
first_block depth bs = refl

pub next_block : (depth : ℕ) (bs : List ℕ) (k : ℕ) → from_block depth bs (k + 1) ≡ drop (size_of depth (from_block depth bs k)) (from_block depth bs k)
unfolding from_block
next_block depth bs k = rw add-one

module _ (h : Fields) (f : SampleFormat) (n : ℕ) (bs : List ℕ) (ok : Readable h f bs) where
  module _ (k : ℕ) (l : k < h.channels) where
    pub block_header : 16 ≤ length (from_block h.depth bs k)
    block_header = header_there h f k _ (block_fine h f bs ok.fine k l)

    pub block_known : is_beyond (coding_of h.depth (from_block h.depth bs k)) ≡ false
    block_known = bits_known h f k _ (block_fine h f bs ok.fine k l)

    pub block_run : size_of h.depth (from_block h.depth bs k) ≤ length (from_block h.depth bs k)
    block_run = run_there h f k _ (block_fine h f bs ok.fine k l)

    pub block_whole : Whole h.depth (from_block h.depth bs k)
    block_whole = record { some = ok.least; most = ok.most; header = block_header; known = block_known; run = block_run }

  module _ (ne : h.channels ≡ 2 → ⊥) where
    pub blocks_all : group_pairs h f n bs ≡ block_pairs h n bs h.channels
    unfolding group_pairs channel_peak block_pairs coded
    blocks_all =
        ap (λ (chans : List (List ℤ)). joined (λ c. pair_bytes (peak_of (take n (get_or chans c [])))) h.channels) (plain h f bs ok (not_mid h f bs ok ne))
        ∙ joined_cong _ (block_pair h n bs) h.channels
        (λ c l. ap (λ (xs : List ℤ). pair_bytes (peak_of (take n xs))) (get_d_tab h.channels (λ c. samples_of h.depth (from_block h.depth bs c)) c [] l))

    pub blocks_around : (k : ℕ) → k < h.channels
        → group_pairs h f n bs ≡ block_pairs h n bs k ++ (pair_bytes (peak_of (take n (samples_of h.depth (from_block h.depth bs k)))) ++ pairs_behind h n bs k)
    unfolding block_pairs pairs_behind
    blocks_around k l = blocks_all ∙ joined_around (block_pair h n bs) k h.channels l

pub ruleset channels = (runs, nothing_found, nothing_left, part_to_end, blocks_none, blocks_more, first_block, next_block, block_header, block_known, block_run, block_whole, blocks_all, blocks_around)
