-- Samples as numbers from 0 on.
use Rattle.std.specs.Prelude.{ℕ, suc, ◌+◌, ◌-◌, ℤ, pos, negsuc}

-- 2^31 more than a sample
abbrev pub raised : ℤ → ℕ
raised (pos n) = n + 2147483648
raised (negsuc n) = 2147483648 - suc n
