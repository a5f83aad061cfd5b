-- What the two writers share at the boundary: 39, and what a refusal tells the host and leaves in its bytes.
use Prim.Native.Nat.{ℕ, ◌%◌}
use mathlib.Core.Path.{◌≡◌, refl, sym, ap, ◌∙◌}
use mathlib.Core.List.{List}
use lib.ListN.{length}
use borrow.Author.Tests.{eq-eqb, ne_eqb}
use Rattle.format.specs.Refusals.{Checked, Fine, No, nowhere, refuse}
use Rattle.format.specs.Answers.{answered, filled}
use Rattle.format.specs.Boundary.{check_bytes, result_of}
use Rattle.format.specs.declared.refusals.Refusal.{Refusal}
use Rattle.format.specs.declared.refusals.Refusal.TheVariants.{SampleBytes}
use Rattle.format.specs.declared.refusals.Place.{Place}
use Rattle.format.specs.declared.answers.Outcome.{Outcome}
use Rattle.format.specs.declared.answers.Outcome.TheVariants.{Refused}

module _ (b : List ℕ) where
  pub bytes_refused : (length b % 4 ≡ 0 → ⊥) → check_bytes b ≡ No SampleBytes nowhere
  unfolding check_bytes refuse
  bytes_refused part = rw (ne_eqb (length b % 4) 0 part) refl

  pub bytes_fine : length b % 4 ≡ 0 → check_bytes b ≡ Fine
  unfolding check_bytes refuse
  bytes_fine whole = rw (eq-eqb (length b % 4) 0 whole) refl

-- the checks k refuse by r
module _ (k : Checked) (r : Refusal) (at : Place) (e : k ≡ No r at) where
  pub refusal_told : (o : Outcome) (x : ℕ) → x ≡ result_of (Refused r) → x ≡ result_of (answered k o).outcome
  refusal_told o x t = t ∙ sym (ap (λ (c : Checked). result_of (answered c o).outcome) e)

  pub refusal_keeps : (w out : List ℕ) → out ≡ filled k w out
  refusal_keeps w out = sym (ap (λ (c : Checked). filled c w out) e)
