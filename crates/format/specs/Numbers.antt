-- Document 01: all numbers are little-endian; codes mean signed numbers; sums and differences of samples wrap at 32
-- bits.
use Rattle.std.specs.Prelude.{ℕ, zero, suc, ◌+◌, ◌-◌, ◌*◌, ◌/◌, ◌%◌, ◌^◌, ◌<◌, List, [], ◌∷◌, Bool, cond, get_or, ℤ}
use Rattle.std.specs.Prelude.{pos, negsuc, neg_ℤ, ◌+ℤ◌, ◌-ℤ◌, ltb}
use Rattle.std.specs.Int.Signed.{mag}
use Rattle.format.specs.Lists.{from}

-- ------------------------------------------------------------------------------------------------------------------

-- the number whose digits to the base B are xs, lowest first
unfoldable pub num : ℕ → List ℕ → ℕ
num B [] = 0
num B (x ∷ xs) = num B xs * B + x

-- the n lowest digits of N to the base B, lowest first
unfoldable pub digits : ℕ → ℕ → ℕ → List ℕ
digits B zero N = []
digits B (suc n) N = N % B ∷ digits B n (N / B)

-- every element is a digit to the base B
abbrev pub Below : ℕ → List ℕ → Type 0
Below B xs = (i : ℕ) → get_or xs i 0 < B

-- N as n bytes, lowest first
unfoldable pub le : ℕ → ℕ → List ℕ
le n N = digits 256 n N

-- the number that the n bytes from i on are
unfoldable pub num_at : ℕ → ℕ → List ℕ → ℕ
num_at i n bytes = num 256 (from i n bytes)

-- a code of so many bits: below 2 ^ (width - 1) it means itself, otherwise code - 2 ^ width, written
-- - (2 ^ width - code)
abbrev pub value : ℕ → ℕ → ℤ
value width code = cond (ltb code (2 ^ (width - 1))) (pos code) (neg_ℤ (pos (2 ^ width - code)))

-- the code of so many bits that means z: z itself, or where z is negative z + 2 ^ width
abbrev pub code_of : ℕ → ℤ → ℕ
code_of width (pos n) = n
code_of width (negsuc n) = 2 ^ width - suc n

-- so many bits hold z: z is from - 2 ^ (width - 1) to 2 ^ (width - 1) - 1 (mag is n both for n and for - n - 1)
abbrev pub holds : ℕ → ℤ → Bool
holds width z = ltb (mag z) (2 ^ (width - 1))

-- the lowest 32 bits of z
abbrev pub low32 : ℤ → ℕ
low32 (pos n) = n % 2 ^ 32
low32 (negsuc n) = 2 ^ 32 - suc (n % 2 ^ 32)

-- the number of 32 bits that has them
abbrev pub wrap32 : ℤ → ℤ
wrap32 z = value 32 (low32 z)

-- sums and differences of samples wrap at 32 bits
abbrev pub plus : ℤ → ℤ → ℤ
plus x y = wrap32 (x +ℤ y)

abbrev pub minus : ℤ → ℤ → ℤ
minus x y = wrap32 (x -ℤ y)
