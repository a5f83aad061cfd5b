-- Drawn numbers: states that start at a seed, a value for each, and the numbers that these are, alone or added up.
use Rattle.std.specs.Prelude.{ℕ, zero, suc, ◌+◌, ◌*◌, ◌%◌, ◌^◌, cond, List, length, ◌==◌, nat_le}
use Rattle.std.proofs.lemmas.List.Edits.{sets}
use Rattle.format.specs.Lists.{joined}
use Rattle.format.specs.Numbers.{le}
use Rattle.replay_list.specs.declared.drawing.Drawn.{Drawn}

-- the state after x
abbrev pub next_of : ℕ → ℕ
next_of x = x * 48271 % 2147483647

-- the state after n steps
unfoldable pub state_at : Drawn → ℕ → ℕ
state_at d zero = d.seed
state_at d (suc n) = next_of (state_at d n)

-- the value for the state x: `low`, and on top of it x modulo `range`, or twice that; with no range it is `low`
unfoldable pub value_of : Drawn → ℕ → ℕ
value_of d x =
    let step = x % d.range * cond d.is_doubled 2 1 in
    cond (d.range == 0) d.low ((d.low + step) % 2 ^ 32)

-- the number for the state x, in steps the value more than the one before it
unfoldable pub number_of : Drawn → ℕ → ℕ → ℕ
number_of d before x = cond d.in_steps ((before + value_of d x) % 2 ^ 32) (value_of d x)

-- the n-th number, counted from 1; before the first stands 0
unfoldable pub number_at : Drawn → ℕ → ℕ
number_at d zero = 0
number_at d (suc n) = number_of d (number_at d n) (state_at d (suc n))

-- the first n numbers, 4 bytes each
unfoldable pub drawn : Drawn → ℕ → List ℕ
drawn d n = joined (λ k. le 4 (number_at d (suc k))) n

-- a space with the first n numbers in it, from `at` on; where they do not lie within it, nothing changes
unfoldable pub drawn_into : Drawn → ℕ → ℕ → List ℕ → List ℕ
drawn_into d at n space = cond (nat_le (at + 4 * n) (length space)) (sets space at (drawn d n)) space
