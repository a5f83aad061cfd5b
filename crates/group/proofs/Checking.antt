-- What a loop over checks of a group's blocks says at each way out. A check is of a channel and of what begins with its block.
use Prim.Native.Nat.{ℕ, ◌+◌, ◌-◌, ◌≤◌, ◌<◌}
use mathlib.Core.Path.{◌≡◌, refl, sym, ap, ◌∙◌, subst}
use mathlib.Core.Bool.{not}
use mathlib.Core.List.{List}
use native.Mathlib.Omega.{arith}
use lib.ListN.{length, length-drop}
use lib.Dec.{eqb}
use borrow.Author.Tests.{eq-eqb, ne_eqb}
use borrow.Author.Rules.{part_to_end}
use Rattle.format.specs.Blocks.{size_of, from_block}
use Rattle.format.specs.Refusals.{Checked, Fine, No, nowhere, refuse, in_order, ◌then◌}
use Rattle.format.specs.Places.{at_channel, in_channel}
use Rattle.format.specs.declared.refusals.Refusal.{Refusal}
use Rattle.format.specs.declared.refusals.Place.{Place}
use Rattle.laws.proofs.Places.{fine_located, no_located, located_fine}
use Rattle.laws.proofs.Chain.{turns_begin, turn_passes, turns_end_then}
use Rattle.laws.proofs.Passed.{header_there, run_there}
use Rattle.laws.proofs.Reading.{order_stops, order_more, rest_none, rest_more}
use Rattle.group.proofs.Places.{part, part_is, Begins, begins_first, begins_more}

-- n blocks in order, each of its channel, and then that no bytes are left
abbrev pub each_in : ℕ → (ℕ → List ℕ → Checked) → List ℕ → ℕ → Checked
each_in depth check bs c = in_channel c (check c (from_block depth bs c))

abbrev pub blocks_then : ℕ → (ℕ → List ℕ → Checked) → List ℕ → ℕ → Refusal → Checked
blocks_then depth check bs n left = in_order (each_in depth check bs) n then refuse (not (eqb (length (from_block depth bs n)) 0)) left

-- c channels have passed, and the next block begins at `at`
pub record Passed (depth : ℕ) (check : ℕ → List ℕ → Checked) (bs : List ℕ) (c at : ℕ) : Type 0 where
  pub begins : Begins depth bs c at
  pub fine : in_order (each_in depth check bs) c ≡ Fine

pub passed_none : (depth : ℕ) (check : ℕ → List ℕ → Checked) (bs : List ℕ) → Passed depth check bs 0 0
unfolding in_order
passed_none depth check bs = record { begins = begins_first depth bs; fine = refl }

module _ {depth : ℕ} {check : ℕ → List ℕ → Checked} {bs : List ℕ} {c at : ℕ} (p : Passed depth check bs c at) where
  module _ {k : Checked} (says : k ≡ check c (part at bs)) where
    checked : k ≡ check c (from_block depth bs c)
    checked = says ∙ ap (check c) (part_is at bs ∙ sym p.begins.left)

    pub stops : {r : Refusal} {from at : Place} {n : ℕ} (left : Refusal) → k ≡ No r from → c < n → at ≡ at_channel c from → No r at ≡ blocks_then depth check bs n left
    stops {r} {from} {at} {n} left e l there = order_stops (each_in depth check bs) c n r at _ l p.fine (no_located (at_channel c) _ r from (sym checked ∙ e) ∙ ap (No r) (sym there))

    pub more : {m : ℕ} → k ≡ Fine → size_of depth (part at bs) ≤ length (part at bs) → m ≡ size_of depth (part at bs) → Passed depth check bs (c + 1) (at + m)
    more {m} e fits s = record {
      begins = begins_more depth bs c at m p.begins fits s;
      fine = order_more (each_in depth check bs) c p.fine (fine_located (at_channel c) _ (sym checked ∙ e));
    }

  module _ {n : ℕ} (all : c ≡ n) where
    order : in_order (each_in depth check bs) n ≡ Fine
    order = subst (λ (m : ℕ). in_order (each_in depth check bs) m ≡ Fine) all p.fine

    size : length (from_block depth bs n) ≡ length bs - at
    size = ap (λ (m : ℕ). length (from_block depth bs m)) (sym all) ∙ ap length p.begins.left ∙ length-drop at bs

    pub bytes_left : (left : Refusal) → (at ≡ length bs → ⊥) → No left nowhere ≡ blocks_then depth check bs n left
    unfolding refuse ◌then◌
    bytes_left left t = let i = p.begins.inside in rw (order, ne_eqb (length (from_block depth bs n)) 0 (λ e. t (omega (arith, size))))

    pub all_fine : (left : Refusal) → at ≡ length bs → Fine ≡ blocks_then depth check bs n left
    unfolding refuse ◌then◌
    all_fine left e = rw (order, eq-eqb (length (from_block depth bs n)) 0 (omega (arith, size)))

-- a loop over the checks themselves
pub ruleset passing = (rest_none, rest_more, part_to_end, turns_begin, turn_passes, turns_end_then, header_there, run_there, length-drop, located_fine)
