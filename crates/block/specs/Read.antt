-- A block's header as one record, and a block that can be read.
use Rattle.std.specs.Prelude.{ℕ, ◌≤◌, ◌≡◌, false, List, length}
use Rattle.format.specs.Packed.{is_beyond}
use Rattle.format.specs.Blocks.{base_of, bits_of, flags_of, coding_of, size_of}
use Rattle.block.specs.declared.BlockHeader.{BlockHeader}

unfoldable pub block_header : List ℕ → BlockHeader
block_header r = record { base = base_of r; bits = bits_of r; flags = flags_of r }

-- r begins with a whole block of a file of that depth
pub record Whole (depth : ℕ) (r : List ℕ) : Type 0 where
  pub some : 1 ≤ depth
  pub most : depth ≤ 32
  pub header : 16 ≤ length r
  pub known : is_beyond (coding_of depth r) ≡ false
  pub run : size_of depth r ≤ length r
