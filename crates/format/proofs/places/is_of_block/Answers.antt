-- One number or another: the list's tests, one after another.
use mathlib.Core.Path.{◌≡◌, refl}
use mathlib.Core.Bool.{Bool, true, false, ◌||◌}
use lib.Dec.{eqb}
use Rattle.format.specs.Lists.{is_in}
use Rattle.format.proofs.places.is_of_block.Goals as goal

eight : (a b c d e f g h : Bool) → (((((((a || b) || c) || d) || e) || f) || g) || h) ≡ (a || (b || (c || (d || (e || (f || (g || (h || false))))))))
eight true b c d e f g h = refl
eight false true c d e f g h = refl
eight false false true d e f g h = refl
eight false false false true e f g h = refl
eight false false false false true f g h = refl
eight false false false false false true g h = refl
eight false false false false false false true h = refl
eight false false false false false false false true = refl
eight false false false false false false false false = refl

pub returns : goal.returns
unfolding is_in
returns c = let n = c.args.n in eight (eqb n 1) (eqb n 3) (eqb n 4) (eqb n 20) (eqb n 21) (eqb n 36) (eqb n 44) (eqb n 45)
