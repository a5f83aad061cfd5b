-- Whether two samples are equal.
use Rattle.std.specs.Prelude.{Bool, false, ℤ, pos, negsuc, ◌==◌}

unfoldable pub equal_samples : ℤ → ℤ → Bool
equal_samples (pos m) (pos n) = m == n
equal_samples (pos m) (negsuc n) = false
equal_samples (negsuc m) (pos n) = false
equal_samples (negsuc m) (negsuc n) = m == n
