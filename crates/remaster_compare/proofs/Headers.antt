-- A block beside another, by the tests that tell.
use Prim.Native.Nat.{ℕ, ◌+◌, ◌-◌, ◌*◌, ◌<◌, ◌≤◌}
use mathlib.Core.Path.{◌≡◌, refl, sym, ap, ◌∙◌}
use mathlib.Core.Bool.{Bool, true, false}
use mathlib.Core.List.{List}
use native.Mathlib.Numerals.{add-one}
use native.Mathlib.Omega.{arith}
use lib.ListN.{length, take, drop, length-drop}
use lib.Dec.{leb}
use mir.Syntax.{w16}
use mir.Val.{SFits, to_z, of_z}
use borrow.Author.Tests.{le-leb, lt-leb}
use borrow.Author.Rules.{part_to_end}
use Rattle.format.specs.Packed.{coding, width_of}
use Rattle.format.specs.Blocks.{size_of}
use Rattle.format.specs.declared.packed.Coding.{Coding}
use Rattle.format.specs.declared.packed.Coding.TheVariants.{Differences, Raw, Beyond}
use Rattle.block.specs.Read.{block_header}
use Rattle.block.specs.declared.BlockHeader.{BlockHeader}
use Rattle.block.proofs.Headers.{coding_is, size_is}
use Rattle.remaster_compare.specs.Kept.{compared_from, is_header_kept, is_whole, is_kept_at, end_of, block_at, place_of, is_kept}
use Rattle.remaster_compare.specs.declared.Block.{Block}
use Rattle.remaster_compare.proofs.Counts.{count_turn, count_most}

pub from_most : (k : Coding) → compared_from k ≤ 8
from_most (Differences b) = omega arith
from_most (Raw b) = omega arith
from_most Beyond = omega arith

-- ---- a block, by its length
module _ (depth : ℕ) (old new : List ℕ) (at : ℕ) where
  no_block : length (drop at old) < size_of depth (drop at old) → ◌≡◌ {A = Block} (record { is_kept = false; end = at }) (block_at depth old new at)
  unfolding is_kept_at end_of is_whole
  no_block h = rw (lt-leb (size_of depth (drop at old)) (length (drop at old)) h)

  pub no_header : length old - at < 16 → ◌≡◌ {A = Block} (record { is_kept = false; end = at }) (block_at depth old new at)
  unfolding size_of
  no_header h = no_block (omega (arith, length-drop at old))

  module _ (b : BlockHeader) (k : Coding) (w : ℕ) (header : b ≡ block_header (take (length old - at) (drop at old))) (fits : SFits w16 b.bits)
      (coded : k ≡ coding depth (to_z w16 (of_z w16 b.bits))) (wide : w ≡ width_of k) where
    there : b ≡ block_header (drop at old)
    there = header ∙ ap block_header (part_to_end old at)

    size : 16 + 64 * w ≡ size_of depth (drop at old)
    size = size_is depth (drop at old) b there fits k coded w wide

    pub no_values : length old - at < 16 + 64 * w → ◌≡◌ {A = Block} (record { is_kept = false; end = at }) (block_at depth old new at)
    no_values h = no_block (omega (arith, length-drop at old, size))

    pub whole_block : (t : Bool) → t ≡ is_header_kept k old new at → 16 + 64 * w ≤ length old - at
        → ◌≡◌ {A = Block} (record { is_kept = t; end = at + (16 + 64 * w) }) (block_at depth old new at)
    unfolding is_kept_at end_of is_whole
    whole_block t e h =
        let fine : leb (size_of depth (drop at old)) (length (drop at old)) ≡ true = le-leb (size_of depth (drop at old)) (length (drop at old)) (omega (arith, length-drop at old, size)) in
        rw (fine, e, coding_is depth (drop at old) b there fits k coded, size)

pub ruleset one_block = (no_header, no_values, whole_block)

-- ---- one block after another
pub first_place : (depth : ℕ) (old : List ℕ) (start : ℕ) → start ≡ place_of depth old start 0
unfolding place_of
first_place depth old start = refl

module _ (depth : ℕ) (old new : List ℕ) (start i at : ℕ) (b : Block) (e : at ≡ place_of depth old start i) (is : b ≡ block_at depth old new at) where
  pub next_place : b.end ≡ place_of depth old start (i + 1)
  unfolding place_of
  next_place = ap (λ (x : Block). x.end) is ∙ ap (end_of depth old) e ∙ ap (place_of depth old start) (sym (add-one i))

  pub kept_is : b.is_kept ≡ is_kept depth old new start i
  kept_is = ap (λ (x : Block). x.is_kept) is ∙ ap (is_kept_at depth old new) e

pub ruleset blocks = (first_place, next_place, kept_is, count_turn, count_most)
