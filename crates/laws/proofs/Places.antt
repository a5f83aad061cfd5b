-- Where it refused: checks that are located pass exactly where they pass, and refuse what they refuse.
use Rattle.std.specs.Prelude.{Ok, Err}
use Prim.Native.Nat.{ℕ, ◌<◌}
use mathlib.Core.Path.{sym, ◌≡◌, refl, ap}
use mathlib.Core.Bool.{true, false}
use Rattle.format.specs.Refusals.{Checked, Fine, No, in_order}
use Rattle.format.specs.Places.{located}
use Rattle.format.specs.declared.refusals.Refusal.{Refusal}
use Rattle.format.specs.declared.refusals.Place.{Place}
use Rattle.laws.proofs.Tests.{never}
use Rattle.laws.proofs.Checks.{same_refusal, same_place, in_order_lem, order_fine}

module _ (move : Place → Place) where
  pub fine_located : (k : Checked) → k ≡ Fine → located move k ≡ Fine
  unfolding located
  fine_located k e = rw e

  pub located_fine : (k : Checked) → located move k ≡ Fine → k ≡ Fine
  unfolding located
  located_fine (Ok ok) e = refl
  located_fine (Err refused) e = cc

  pub no_located : (k : Checked) (r : Refusal) (at : Place) → k ≡ No r at → located move k ≡ No r (move at)
  unfolding located
  no_located k r at e = rw e

  pub located_no : (k : Checked) (r : Refusal) (at : Place) → located move k ≡ No r at → (from : Place) × (k ≡ No r from) × (at ≡ move from)
  unfolding located
  located_no (Ok ok) r at e = let z : true ≡ false = cc in never z
  located_no (Err refused) r at e =
      let q : refused.why ≡ r = same_refusal e in
      let p : at ≡ move refused.place = sym (same_place e) in
      (refused.place, ap (λ (y : Refusal). No y refused.place) q, p)

-- one of the checks in order, each in its place
pub located_at : (check : ℕ → Checked) (move : ℕ → Place → Place) (k n : ℕ) → k < n → in_order (λ i. located (move i) (check i)) n ≡ Fine → check k ≡ Fine
located_at check move k n l e = located_fine (move k) (check k) (order_fine (λ i. located (move i) (check i)) k n l e)

-- all of them, and back
pub located_all : (check : ℕ → Checked) (move : ℕ → Place → Place) (n : ℕ) → ((k : ℕ) → k < n → check k ≡ Fine) → in_order (λ i. located (move i) (check i)) n ≡ Fine
located_all check move n all = in_order_lem (λ i. located (move i) (check i)) n (λ k l. fine_located (move k) (check k) (all k l))

pub located_order : (check : ℕ → Checked) (move : ℕ → Place → Place) (n : ℕ) → in_order (λ i. located (move i) (check i)) n ≡ Fine → in_order check n ≡ Fine
located_order check move n e = in_order_lem check n (λ k l. located_at check move k n l e)
