-- One number or the other.
use mathlib.Core.Path.{◌≡◌, refl, sym, ap, ◌∙◌}
use mathlib.Core.Bool.{Bool, true, false, ◌||◌, cond}
use lib.Dec.{eqb}
use Rattle.format.specs.Lists.{is_in}
use Rattle.format.specs.Places.{outside}
use Rattle.format.specs.declared.places.Named.TheVariants.{NoGroup, TheGroup}
use Rattle.format.proofs.places.Named.outside.Goals as goal

two : (a b : Bool) → (a || b) ≡ (a || (b || false))
two true b = refl
two false true = refl
two false false = refl

by : (a b t : Bool) → (a || b) ≡ t → cond t TheGroup NoGroup ≡ cond (a || (b || false)) TheGroup NoGroup
by a b t e = ap (λ (x : Bool). cond x TheGroup NoGroup) (sym e ∙ two a b)

pub returns-then-number : goal.returns-then-number
unfolding outside is_in
returns-then-number c = let n = c.args.number in by (eqb n 19) (eqb n 35) true c.if-number.true

pub returns : goal.returns
unfolding outside is_in
returns c = let n = c.args.number in by (eqb n 19) (eqb n 35) false c.if-number.false
