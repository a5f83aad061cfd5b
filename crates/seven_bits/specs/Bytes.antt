-- A number in its groups, by value.
use Rattle.std.specs.Prelude.{ℕ, ◌≤◌, List, length, take, replicate}
use Rattle.format.specs.Lists.{over}
use Rattle.format.specs.SevenBits.{seven}
use Rattle.seven_bits.specs.declared.writing.Sevens.{Sevens}

-- n in its groups: behind them, the five bytes are zero
abbrev pub sevens_of : ℕ → Sevens
sevens_of n = record { bytes = over (seven n) (replicate 5 0); len = length (seven n) }

-- the bytes that count, of the five
abbrev pub bytes_of : Sevens → List ℕ
bytes_of w = take w.len w.bytes

-- there is one, and at most as many
abbrev pub Short : Sevens → Type 0
Short w = (1 ≤ w.len) × (w.len ≤ 5)
