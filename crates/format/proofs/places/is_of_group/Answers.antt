-- One number or another: the list's tests, one after another.
use mathlib.Core.Path.{◌≡◌, refl}
use mathlib.Core.Bool.{Bool, true, false, ◌||◌}
use lib.Dec.{eqb}
use Rattle.format.specs.Lists.{is_in}
use Rattle.format.proofs.places.is_of_group.Goals as goal

six : (a b c d e f : Bool) → (((((a || b) || c) || d) || e) || f) ≡ (a || (b || (c || (d || (e || (f || false))))))
six true b c d e f = refl
six false true c d e f = refl
six false false true d e f = refl
six false false false true e f = refl
six false false false false true f = refl
six false false false false false true = refl
six false false false false false false = refl

pub returns : goal.returns
unfolding is_in
returns c = let n = c.args.n in six (eqb n 19) (eqb n 22) (eqb n 34) (eqb n 35) (eqb n 43) (eqb n 46)
