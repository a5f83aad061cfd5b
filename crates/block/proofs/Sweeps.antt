-- Running sums in a loop that stores them from the front: what stands before k is done, and x and the differences
-- from k on say the rest.
use Prim.Native.Nat.{ℕ, ◌+◌, ◌*◌, ◌<◌, ◌≤◌}
use mathlib.Core.Path.{◌≡◌, sym, ap, ap₂, ◌∙◌, subst}
use mathlib.Core.List.{List, ◌∷◌, ◌++◌, append-nil}
use native.Mathlib.Omega.{arith}
use lib.IntN.{ℤ, pos}
use lib.ListN.{length, get_or, set, take, drop, length-set, drop_of_length-le}
use lib.Seq.{take_all}
use Rattle.format.specs.Numbers.{plus}
use Rattle.format.specs.Packed.{rebuilt}
use Rattle.laws.proofs.Lengths.{length_values}
use Rattle.bits.proofs.Run.{room, next_pair}
use Rattle.laws.proofs.Parts.{left_now, done_more}

-- ---- running sums of the values vs: x is sample k
module _ (base : ℤ) (vs : List ℤ) where
  abbrev pub Summed : List ℤ → ℤ → ℕ → Type 0
  Summed out x k = take k out ++ rebuilt x (drop k vs) ≡ rebuilt base vs

  summed_more : (out : List ℤ) (x y : ℤ) (k : ℕ) → k < length out → k < length vs → y ≡ plus x (get_or vs k (pos 0)) → Summed out x k → Summed (set out k x) y (k + 1)
  unfolding rebuilt
  summed_more out x y k h l e p =
      done_more out (rebuilt y (drop (k + 1) vs)) k x h
      ∙ ap (λ (z : ℤ). take k out ++ (x ∷ rebuilt z (drop (k + 1) vs))) e
      ∙ ap (λ (t : List ℤ). take k out ++ rebuilt x t) (sym (left_now vs k (pos 0) l))
      ∙ p

  pub summed_two : (out : List ℤ) (x y z : ℤ) (k : ℕ) → k + 1 < length out → k + 1 < length vs → y ≡ plus x (get_or vs k (pos 0)) → z ≡ plus y (get_or vs (k + 1) (pos 0)) → Summed out x k
      → Summed (set (set out k x) (k + 1) y) z (k + 2)
  summed_two out x y z k h l e f p =
      let two : k + 1 + 1 ≡ k + 2 = omega arith in
      subst (Summed (set (set out k x) (k + 1) y) z) two
      (summed_more (set out k x) y z (k + 1) (simp length-set h) l f (summed_more out x y k (omega arith) (omega arith) e p))

  -- the same at a turn of the loop over pairs
  pub summed_pair : (out : List ℤ) (x y z : ℤ) (i : ℕ) → i < 256 → length out ≡ 512 → length vs ≡ 512 → y ≡ plus x (get_or vs (2 * i) (pos 0)) → z ≡ plus y (get_or vs (2 * i + 1) (pos 0))
      → Summed out x (2 * i) → Summed (set (set out (2 * i) x) (2 * i + 1) y) z (2 * (i + 1))
  summed_pair out x y z i h l m e f p =
      let two : 2 * i + 2 ≡ 2 * (i + 1) = omega arith in
      subst (Summed (set (set out (2 * i) x) (2 * i + 1) y) z) two
      (summed_two out x y z (2 * i) (omega arith) (omega arith) e f p)

  pub summed_all : (out : List ℤ) (x : ℤ) (k : ℕ) → length out ≤ k → length vs ≤ k → Summed out x k → out ≡ rebuilt base vs
  unfolding rebuilt
  summed_all out x k h l p =
      sym (append-nil out)
      ∙ ap₂ (λ (a b : List ℤ). a ++ rebuilt x b) (sym (take_all k out h)) (sym (drop_of_length-le vs l))
      ∙ p

pub ruleset turn = (room, next_pair, length_values, summed_all)
