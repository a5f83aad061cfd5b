-- Document 01, "The file": a group's blocks. `block` is a list of bytes that begins with a block, `group` the bytes of
-- a group.
use Rattle.std.specs.Prelude.{ℕ, zero, suc, ◌+◌, ◌*◌, ◌/◌, ◌%◌, List, [], ◌∷◌, Bool, take, drop, ℤ, eqb}
use Rattle.format.specs.Lists.{same}
use Rattle.format.specs.Numbers.{num_at, value}
use Rattle.format.specs.Packed.{coding, width_of, values, rebuilt}
use Rattle.format.specs.declared.packed.Coding.{Coding}
use Rattle.format.specs.declared.packed.Coding.TheVariants.{Differences, Raw, Beyond}

-- ------------------------------------------------------------------------------------------------------------------

-- 16 0C 9A 3E, base (4, signed), bits (2, signed), flags (2), padding (4), then packed values
unfoldable pub block_mark : List ℕ
block_mark = 0x16 ∷ 0x0C ∷ 0x9A ∷ 0x3E ∷ []

unfoldable pub is_block : List ℕ → Bool
is_block block = same (take 4 block) block_mark

unfoldable pub base_of : List ℕ → ℤ
base_of block = value 32 (num_at 4 4 block)

abbrev pub bits_word : List ℕ → ℕ
bits_word block = num_at 8 2 block

unfoldable pub bits_of : List ℕ → ℤ
bits_of block = value 16 (bits_word block)

abbrev pub flags_of : List ℕ → ℕ
flags_of block = num_at 10 2 block

-- flags bit 0 is mid/side, bit 1 float
unfoldable pub mid_bit : List ℕ → Bool
mid_bit block = eqb (flags_of block % 2) 1

unfoldable pub float_bit : List ℕ → Bool
float_bit block = eqb (flags_of block / 2 % 2) 1

-- how a block of a file of that depth is coded, and its length
unfoldable pub coding_of : ℕ → List ℕ → Coding
coding_of depth block = coding depth (bits_of block)

unfoldable pub size_of : ℕ → List ℕ → ℕ
size_of depth block = 16 + 64 * width_of (coding_of depth block)

-- its 512 samples, from its base and the packed run after its header
unfoldable pub decoded : Coding → ℤ → List ℕ → List ℤ
decoded (Differences width) base run = rebuilt base (values width (take (64 * width) run))
decoded (Raw width) base run = values width (take (64 * width) run)
decoded Beyond base run = []

unfoldable pub samples_of : ℕ → List ℕ → List ℤ
samples_of depth block = decoded (coding_of depth block) (base_of block) (drop 16 block)

-- a group has one block per channel: its bytes from channel c's block on
unfoldable pub from_block : ℕ → List ℕ → ℕ → List ℕ
from_block depth group zero = group
from_block depth group (suc c) = let block = from_block depth group c in drop (size_of depth block) block
