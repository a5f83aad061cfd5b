-- The blocks of a file beside those of another: whose header is kept, and where each begins.
use Rattle.std.specs.Prelude.{ℕ, zero, suc, ◌+◌, Bool, cond, ◌&&◌, List, length, drop, leb}
use Rattle.format.specs.Blocks.{coding_of, size_of}
use Rattle.format.specs.declared.packed.Coding.{Coding}
use Rattle.format.specs.declared.packed.Coding.TheVariants.{Differences, Raw, Beyond}
use Rattle.remaster_compare.specs.Same.{same_byte, counted, are_same}
use Rattle.remaster_compare.specs.declared.Block.{Block}

-- beside its mark, bytes 0 to 3, a header is compared from here on: without the base, bytes 4 to 7, of differences
abbrev pub compared_from : Coding → ℕ
compared_from (Differences b) = 8
compared_from (Raw b) = 4
compared_from Beyond = 4

-- the header of 16 bytes at `at` is kept
unfoldable pub is_header_kept : Coding → List ℕ → List ℕ → ℕ → Bool
is_header_kept coding old new at =
    are_same (counted (same_byte old new) at (at + 4))
    && are_same (counted (same_byte old new) (at + compared_from coding) (at + 16))

-- a whole block of a file of that depth begins at `at`
unfoldable pub is_whole : ℕ → List ℕ → ℕ → Bool
is_whole depth old at = leb (size_of depth (drop at old)) (length (drop at old))

-- and its header is kept
unfoldable pub is_kept_at : ℕ → List ℕ → List ℕ → ℕ → Bool
is_kept_at depth old new at = is_whole depth old at && is_header_kept (coding_of depth (drop at old)) old new at

-- where the block that begins at `at` ends: there, if no whole one does
unfoldable pub end_of : ℕ → List ℕ → ℕ → ℕ
end_of depth old at = cond (is_whole depth old at) (at + size_of depth (drop at old)) at

abbrev pub block_at : ℕ → List ℕ → List ℕ → ℕ → Block
block_at depth old new at = record { is_kept = is_kept_at depth old new at; end = end_of depth old at }

-- where block k begins, of blocks that follow each other from `start` on
unfoldable pub place_of : ℕ → List ℕ → ℕ → ℕ → ℕ
place_of depth old start zero = start
place_of depth old start (suc k) = end_of depth old (place_of depth old start k)

-- the header of block k is kept
abbrev pub is_kept : ℕ → List ℕ → List ℕ → ℕ → ℕ → Bool
is_kept depth old new start k = is_kept_at depth old new (place_of depth old start k)
