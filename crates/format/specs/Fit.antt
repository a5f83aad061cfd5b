-- Whether a width holds the values that are packed: document 01's 36, and document 02's L2, which value it does not.
use Rattle.std.specs.Prelude.{ℕ, List, not, ℤ}
use Rattle.format.specs.Lists.{every, first_not}
use Rattle.format.specs.Numbers.{holds}
use Rattle.format.specs.Refusals.{Checked, refuse}
use Rattle.format.specs.declared.refusals.Refusal.TheVariants.{WidthTooSmall}

-- ------------------------------------------------------------------------------------------------------------------

-- the place, 0 to 511, of the first of 512 values or differences that so many bits do not hold
unfoldable pub misfit : ℕ → List ℤ → ℕ
misfit width vs = first_not (holds width) vs

-- 36 tells that place
unfoldable pub check_fit : ℕ → List ℤ → Checked
check_fit width vs = refuse (not (every (holds width) vs)) (WidthTooSmall (misfit width vs))  -- 36
