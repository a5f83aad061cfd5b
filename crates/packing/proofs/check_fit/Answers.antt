-- A width holds every value where it holds the folded bits, which is the one test that is made; the place is told only
-- where it does not.
use Rattle.packing.proofs.Widths.{fits_all, fits_not}
use Rattle.packing.proofs.check_fit.Goals as goal

pub returns-then-folded_bits-pow2 : goal.returns-then-folded_bits-pow2
returns-then-folded_bits-pow2 c = search fits_all

pub returns : goal.returns
returns c = search fits_not
