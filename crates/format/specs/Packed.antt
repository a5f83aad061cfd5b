-- Document 01, "Packed values". A run is the bytes of 512 packed values.
use Rattle.std.specs.Prelude.{ℕ, zero, suc, ◌*◌, ◌^◌, List, [], ◌∷◌, map, Bool, true, false, cond, ℤ, pos, negsuc, leb}
use Rattle.format.specs.Numbers.{num, digits, value, code_of, plus}
use Rattle.format.specs.declared.packed.Coding.{Coding}
use Rattle.format.specs.declared.packed.Coding.TheVariants.{Differences, Raw, Beyond}

-- ------------------------------------------------------------------------------------------------------------------

-- 512 values at a width take 64 × width bytes, least significant bit first:
-- the run and its codes are one number, written to the base 256 and to the base 2 ^ width
unfoldable pub codes_in : ℕ → List ℕ → List ℕ
codes_in width run = digits (2 ^ width) 512 (num 256 run)

unfoldable pub run_of : ℕ → List ℕ → List ℕ
run_of width codes = digits 256 (64 * width) (num (2 ^ width) codes)

-- the same of signed values
unfoldable pub values : ℕ → List ℕ → List ℤ
values width run = map (value width) (codes_in width run)

unfoldable pub packing : ℕ → List ℤ → List ℕ
packing width xs = run_of width (map (code_of width) xs)

-- the bits word, by range: 1 to 32 differences at that width; −32 to −1 raw at the absolute width; 0 raw at the file's
-- depth; any other refused (negsuc n is − n − 1)
unfoldable pub coding : ℕ → ℤ → Coding
coding depth (pos zero) = Raw depth
coding depth (pos (suc n)) = cond (leb (suc n) 32) (Differences (suc n)) Beyond
coding depth (negsuc n) = cond (leb (suc n) 32) (Raw (suc n)) Beyond

unfoldable pub width_of : Coding → ℕ
width_of (Differences width) = width
width_of (Raw width) = width
width_of Beyond = 0

unfoldable pub is_beyond : Coding → Bool
is_beyond (Differences width) = false
is_beyond (Raw width) = false
is_beyond Beyond = true

-- sample 0 is the base, sample k + 1 is sample k plus difference k; the last difference is unused
unfoldable pub rebuilt : ℤ → List ℤ → List ℤ
rebuilt base [] = []
rebuilt base (x ∷ xs) = base ∷ rebuilt (plus base x) xs
