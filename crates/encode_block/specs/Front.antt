-- A block's header.
use Rattle.std.specs.Prelude.{ℕ, List, ◌++◌, ℤ}
use Rattle.format.specs.Numbers.{le, code_of}
use Rattle.format.specs.Blocks.{block_mark}

-- mark, base, bits word, flags, padding 0
unfoldable pub front : ℤ → ℕ → ℕ → List ℕ
front base bits flags = block_mark ++ (le 4 (code_of 32 base) ++ (le 2 bits ++ (le 2 flags ++ le 4 0)))
