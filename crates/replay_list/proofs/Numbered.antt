-- A kind has the number that it was made of.
use Rattle.std.proofs.Common.{◌≡◌, ℕ, Bool, true, false, cond, eqb, refl, sym, ◌∙◌, eqb-true}
use Rattle.replay_list.specs.declared.kinds.Kind.{Kind}
use Rattle.replay_list.specs.Kinds.{number_of, kind_of}

step : (n k : ℕ) (x y : Kind) → number_of x ≡ k → number_of y ≡ n → number_of (cond (eqb n k) x y) ≡ n
step n k x y e f = by (eqb n k) refl
  where
    by : (t : Bool) → eqb n k ≡ t → number_of (cond t x y) ≡ n
    by true h = e ∙ sym (eqb-true n k h)
    by false h = f

pub numbered : (n : ℕ) → number_of (kind_of n) ≡ n
numbered n = search step depth 30
