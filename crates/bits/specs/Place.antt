-- A place in a packed run `s`: the number of the bit that is read next.
use Rattle.std.specs.Prelude.{◌≡◌, ℕ, ◌+◌, ◌*◌, ◌/◌, ◌%◌, ◌^◌, ◌≤◌, List, length}
use Rattle.format.specs.Numbers.{num, value}
use Rattle.bits.specs.declared.Next.{Next}
use Rattle.bits.specs.declared.Pair.{Pair}

-- the w bits of n from the bit p on
abbrev pub bits_at : ℕ → ℕ → ℕ → ℕ
bits_at n p w = n / 2 ^ p % 2 ^ w

-- a run of 512 codes of width w
abbrev pub WholeRun : List ℕ → ℕ → Type 0
WholeRun s w = (1 ≤ w) × (w ≤ 32) × (length s ≡ 64 * w)

-- a code of width w at bit p lies in the run, which is 512 codes of that width
pub record Room (s : List ℕ) (p w : ℕ) : Type 0 where
  pub low : 1 ≤ w
  pub high : w ≤ 32
  pub whole : length s ≡ 64 * w
  pub fits : p + w ≤ length s * 8

-- the lowest bits of x are those of the run from bit p on: 57 of them, or as many as there are
abbrev pub Window : List ℕ → ℕ → ℕ → Type 0
Window s p x = (n : ℕ) → n ≤ 57 → p + n ≤ length s * 8 → x % 2 ^ n ≡ bits_at (num 256 s) p n

-- what is read at bit p: the value of the w bits there, and the cursor past them
pub record Read (s : List ℕ) (p w : ℕ) (r : Next) : Type 0 where
  pub means : r.value ≡ value w (bits_at (num 256 s) p w)
  pub moved : r.cursor.bit ≡ p + w

-- what is read at bit p and after it: the values of two codes of w bits, and the cursor past them
pub record ReadTwo (s : List ℕ) (p w : ℕ) (r : Pair) : Type 0 where
  pub first : r.first ≡ value w (bits_at (num 256 s) p w)
  pub second : r.second ≡ value w (bits_at (num 256 s) (p + w) w)
  pub moved : r.cursor.bit ≡ p + 2 * w
