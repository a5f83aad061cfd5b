-- The change that stands for a remaster.
use Rattle.std.specs.Prelude.{◌+◌, ◌*◌, ◌/◌, ◌%◌, ◌^◌, min, List, ◌++◌, map, length, take, drop, ℤ}
use Rattle.std.proofs.Math.IntN.{sub_ℕ}
use Rattle.sample.specs.Raised.{raised}

-- half of x, in steps of two from x's own parity. `raised x` is x + 2^31, from 0 on: half of 2^31 is taken off again
unfoldable pub halved : ℤ → ℤ
halved x = sub_ℕ (raised x / 4 * 2 + raised x % 2) (2 ^ 30)

-- the samples of `old`, halved, in place of as many of `new`, as far as both reach
unfoldable pub halved_into : List ℤ → List ℤ → List ℤ
halved_into old new = let n = min (length old) (length new) in take n (map halved old) ++ drop n new
