-- What is packed where the width holds all, and what stays where it does not: k is what the check says.
use Prim.Native.Nat.{ℕ, ◌*◌}
use mathlib.Core.Path.{◌≡◌, sym, ◌∙◌}
use mathlib.Core.Bool.{true}
use mathlib.Core.List.{List, [], append-nil}
use native.Mathlib.Omega.{arith}
use lib.IntN.{ℤ}
use lib.ListN.{length, drop, drop_of_length-le}
use Rattle.format.specs.Refusals.{Checked, Fine, No}
use Rattle.format.specs.Lists.{every, over}
use Rattle.format.specs.Numbers.{holds}
use Rattle.format.specs.Packed.{packing}
use Rattle.format.specs.Answers.{filled}
use Rattle.format.specs.Fit.{check_fit}
use Rattle.format.specs.declared.refusals.Refusal.{Refusal}
use Rattle.format.specs.declared.refusals.Place.{Place}
use Rattle.laws.proofs.Signs.{length_packing}
use Rattle.laws.proofs.Misfits.{fine_fit}

module _ (b : ℕ) (vs : List ℤ) (k : Checked) (says : k ≡ check_fit b vs) where
  pub unfit : (r : Refusal) (at : Place) → k ≡ No r at → No r at ≡ check_fit b vs
  unfit r at t = sym t ∙ says

  pub unfilled : (r : Refusal) (at : Place) (s : List ℕ) → k ≡ No r at → s ≡ filled (check_fit b vs) (packing b vs) s
  unfilled r at s t = rw (← says, t)

module _ (b : ℕ) (vs : List ℤ) (k : Checked) (says : k ≡ check_fit b vs) (fine : k ≡ Fine) where
  pub all_hold : every (holds b) vs ≡ true
  all_hold = fine_fit b vs (sym says ∙ fine)

  pub all_filled : (s after : List ℕ) → length s ≡ 64 * b → after ≡ packing b vs → after ≡ filled (check_fit b vs) (packing b vs) s
  unfolding over
  all_filled s after l e =
      let n : drop (length (packing b vs)) s ≡ [] = drop_of_length-le s {i = length (packing b vs)} (omega (arith, length_packing b vs)) in
      rw (← says, fine, n, append-nil) e

pub ruleset packs = (all_hold, all_filled)
