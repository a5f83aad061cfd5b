-- Document 02, L7: numbers in groups of seven bits, low group first, high bit set on all but the last byte. `s` is a
-- list of bytes that begins with a number.
use Rattle.std.specs.Prelude.{ℕ, zero, suc, ◌+◌, ◌-◌, ◌*◌, ◌/◌, ◌%◌, List, [], ◌∷◌, map, ◌&&◌, cond, length, take}
use Rattle.std.specs.Prelude.{drop, get_or, ℤ, pos, negsuc, ltb, eqb}
use Rattle.format.specs.Numbers.{num}
use Rattle.format.specs.Refusals.{Checked, refuse, ◌then◌}
use Rattle.format.specs.declared.refusals.Refusal.TheVariants.{NumberCut, NumberLong, NumberTooLarge}

-- ------------------------------------------------------------------------------------------------------------------

-- ---- writing

-- n in its groups, of which at most k + 1 are written
unfoldable pub seven_in : ℕ → ℕ → List ℕ
seven_in zero n = n ∷ []
seven_in (suc k) n = cond (ltb n 128) (n ∷ []) ((128 + n % 128) ∷ seven_in k (n / 128))

-- a number of 32 bits has five at most
unfoldable pub seven : ℕ → List ℕ
seven n = seven_in 4 n

-- ---- reading

-- how many bytes with the high bit set stand in front, of k at most
unfoldable pub marked : ℕ → List ℕ → ℕ
marked zero s = 0
marked (suc k) [] = 0
marked (suc k) (b ∷ s) = cond (ltb b 128) 0 (suc (marked k s))

-- these, and the last one: how many bytes the number takes, five at most
unfoldable pub seven_length : List ℕ → ℕ
seven_length s = suc (marked 4 s)

unfoldable pub seven_value : List ℕ → ℕ
seven_value s = num 128 (map (λ (b : ℕ). b % 128) (take (seven_length s) s))

-- cut short; over 32 bits, which is a fifth byte above 15; a last byte of zero after others
unfoldable pub check_seven : List ℕ → Checked
check_seven s =
    let n = seven_length s in
    refuse (ltb (length s) n) NumberCut  -- 60
    then refuse (eqb n 5 && ltb 15 (get_or s 4 0)) NumberTooLarge  -- 62
    then refuse (ltb 1 n && eqb (get_or s (n - 1) 0) 0) NumberLong  -- 61

-- what is left after k numbers
unfoldable pub past : List ℕ → ℕ → List ℕ
past s zero = s
past s (suc k) = let t = past s k in drop (seven_length t) t

-- ---- signed numbers

-- v is stored as 2v if it isn't negative, otherwise −2v − 1; negsuc n is − n − 1
abbrev pub folded : ℤ → ℕ
folded (pos n) = 2 * n
folded (negsuc n) = 2 * n + 1

-- and back
abbrev pub unfolded : ℕ → ℤ
unfolded n = cond (eqb (n % 2) 0) (pos (n / 2)) (negsuc (n / 2))
