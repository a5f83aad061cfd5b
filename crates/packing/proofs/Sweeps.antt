-- Differences stored from the front: those before i and those of the samples from i on are all of them.
use Prim.Native.Nat.{ℕ, suc, ◌+◌, ◌<◌, ◌≤◌}
use mathlib.Core.Path.{◌≡◌, sym, ap, ap₂, ◌∙◌}
use mathlib.Core.List.{List, [], ◌∷◌, ◌++◌}
use native.Mathlib.Omega.{arith}
use native.Mathlib.Numerals.{add-one}
use lib.IntN.{ℤ, pos}
use lib.ListN.{length, get_or, set, take, drop, length-set, drop_of_length-le}
use lib.Seq.{take-suc-set, append_snoc, split_at, get_or-set_other}
use Rattle.format.specs.Numbers.{minus}
use Rattle.format.specs.Encoding.{differences}
use Rattle.packing.proofs.Definitions.{difference_now, difference_last}

-- the differences of xs before i are stored, and at n, the last, stands 0
pub record Stored (xs : List ℤ) (n : ℕ) (out : List ℤ) (i : ℕ) : Type 0 where
  pub long : length xs ≡ n + 1
  pub size : length out ≡ n + 1
  pub end : get_or out n (pos 0) ≡ pos 0
  pub so_far : take i out ++ differences (drop i xs) ≡ differences xs

module _ (xs : List ℤ) (n : ℕ) (out : List ℤ) (i : ℕ) (s : Stored xs n out i) where
  pub stored_more : (v : ℤ) → i < n → v ≡ minus (get_or xs (i + 1) (pos 0)) (get_or xs i (pos 0)) → Stored xs n (set out i v) (i + 1)
  stored_more v h e =
      let w : i < length out = omega (arith, s.size) in
      let rest = differences (drop (i + 1) xs) in
      let t : take (i + 1) (set out i v) ≡ take i out ++ (v ∷ []) = rw (add-one, take-suc-set out i v w) in
      record {
        long = s.long;
        size = simp length-set s.size;
        end = get_or-set_other out i n v (pos 0) (λ q. omega arith) ∙ s.end;
        so_far =
            ap (λ (l : List ℤ). l ++ rest) t
            ∙ append_snoc (take i out) v rest
            ∙ ap (λ (l : List ℤ). take i out ++ l) (ap (λ (z : ℤ). z ∷ rest) e ∙ sym (difference_now xs i (omega (arith, s.long))))
            ∙ s.so_far;
      }

  pub stored_all : i ≡ n → out ≡ differences xs
  stored_all e =
      let w : i < length out = omega (arith, s.size) in
      let k : length out ≤ suc i = omega (arith, s.size) in
      split_at out i (pos 0) w
      ∙ ap₂ (λ (z : ℤ) (l : List ℤ). take i out ++ (z ∷ l)) (ap (λ (j : ℕ). get_or out j (pos 0)) e ∙ s.end) (drop_of_length-le out k)
      ∙ ap (λ (l : List ℤ). take i out ++ l) (sym (difference_last xs i (omega (arith, s.long)) (omega (arith, s.long))))
      ∙ s.so_far
