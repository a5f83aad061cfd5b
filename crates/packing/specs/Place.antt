-- The end of what is written to a packed run `s`: the number of the bit that is written next.
use Rattle.std.specs.Prelude.{ℕ, ◌+◌, ◌*◌, ◌%◌, ◌^◌, ◌≤◌, ◌<◌, ◌≡◌, List, length, take}
use Rattle.format.specs.Numbers.{num}
use Rattle.packing.specs.declared.PutCursor.{PutCursor}

-- the cursor at the start of a run
abbrev pub origin : PutCursor
origin = record { acc = 0; have = 0; at = 0 }

abbrev pub end : PutCursor → ℕ
end c = c.at * 8 + c.have

-- the number that is written so far: the bytes before `at`, and above them the bits that wait
abbrev pub written : List ℕ → PutCursor → ℕ
written s c = c.acc * 256 ^ c.at + num 256 (take c.at s)

-- fewer than 32 bits wait, and `at` is whole words
pub record Open (s : List ℕ) (c : PutCursor) : Type 0 where
  pub held : c.acc < 2 ^ c.have
  pub small : c.have < 32
  pub whole : c.at % 4 ≡ 0
  pub inside : c.at ≤ length s

-- a code of width w is put: it stands above what was written, and the cursor past it
pub record CodePut (s : List ℕ) (c : PutCursor) (code w : ℕ) (after : List ℕ) (r : PutCursor) : Type 0 where
  pub valid : Open after r
  pub moved : end r ≡ end c + w
  pub adds : written after r ≡ written s c + code * 2 ^ end c
