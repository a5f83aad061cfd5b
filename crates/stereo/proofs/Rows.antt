-- The parity of every pair of two rows of samples: tested one after another, and of the pairs that a loop has yet to
-- do.
use Prim.Native.Nat.{ℕ, ◌+◌, ◌^◌, ◌≤◌, ◌<◌}
use mathlib.Core.Path.{◌≡◌, sym, ap₂, ◌∙◌}
use mathlib.Core.Bool.{Bool, true, false, ◌&&◌}
use mathlib.Core.List.{List, [], ◌∷◌}
use native.Mathlib.Omega.{arith}
use lib.IntN.{ℤ, pos}
use lib.ListN.{length, get_or, set, drop}
use lib.Seq.{get_or-set_other}
use lib.Signed.{mag}
use mir.Syntax.{w32}
use mir.Val.{to_z, of_z}
use mir.ValLaws.{to_z-of_z}
use Rattle.format.specs.Lists.{every, pairwise}
use Rattle.format.specs.Encoding.{equal_parity, parity}
use Rattle.laws.proofs.Each.{every_turn, every_done}
use Rattle.laws.proofs.Halves.{length_pairwise, pairwise_at, even_at_lem}

-- the pairs of the rows l and r from i on
module _ (l r : List ℤ) where
  abbrev pub even_from : ℕ → Bool
  even_from i = every (λ (b : Bool). b) (drop i (pairwise equal_parity l r))

  module _ (n i : ℕ) (p : length l ≡ n) (q : length r ≡ n) where
    long : length (pairwise equal_parity l r) ≡ n
    long = length_pairwise equal_parity l r (p ∙ sym q) ∙ p

    -- a call tests pair i
    pub even_more : (t b e : Bool) → i < n → mag (get_or l i (pos 0)) < 2 ^ 31 → mag (get_or r i (pos 0)) < 2 ^ 31
        → e ≡ equal_parity (to_z w32 (of_z w32 (get_or l i (pos 0)))) (to_z w32 (of_z w32 (get_or r i (pos 0)))) → (b && even_from i) ≡ t → ((b && e) && even_from (i + 1)) ≡ t
    even_more t b e h f g k =
        every_turn (λ (x : Bool). x) (pairwise equal_parity l r) i false b (omega (arith, long))
        (k ∙ ap₂ equal_parity (to_z-of_z w32 (get_or l i (pos 0)) (record { sfits = f })) (to_z-of_z w32 (get_or r i (pos 0)) (record { sfits = g }))
        ∙ sym (pairwise_at equal_parity l r i (pos 0) false (omega arith) (omega arith)))

    pub even_all : (t b : Bool) → n ≤ i → (b && even_from i) ≡ t → b ≡ t
    even_all t b h = every_done (λ (x : Bool). x) (pairwise equal_parity l r) i b (omega (arith, long))

-- the pairs of the two rows of an array that a loop has yet to do, from i on
module _ (n : ℕ) where
  pub record YetEven (d : List (List ℤ)) (i : ℕ) : Type 0 where
    pub pair : (j : ℕ) → i ≤ j → j < n → equal_parity (get_or (get_or d 0 []) j (pos 0)) (get_or (get_or d 1 []) j (pos 0)) ≡ true

  pub even_none : (d : List (List ℤ)) → length (get_or d 0 []) ≡ n → length (get_or d 1 []) ≡ n → parity d ≡ true → YetEven d 0
  unfolding parity
  even_none d p q e = record { pair = λ j h k. even_at_lem (get_or d 0 []) (get_or d 1 []) j (omega arith) (omega arith) e }

  -- pair i, as it is given to a call
  pub even_pair : (d : List (List ℤ)) (i : ℕ) → YetEven d i → i < n → mag (get_or (get_or d 0 []) i (pos 0)) < 2 ^ 31 → mag (get_or (get_or d 1 []) i (pos 0)) < 2 ^ 31
      → equal_parity (to_z w32 (of_z w32 (get_or (get_or d 0 []) i (pos 0)))) (to_z w32 (of_z w32 (get_or (get_or d 1 []) i (pos 0)))) ≡ true
  even_pair d i e h f g =
      ap₂ equal_parity (to_z-of_z w32 (get_or (get_or d 0 []) i (pos 0)) (record { sfits = f })) (to_z-of_z w32 (get_or (get_or d 1 []) i (pos 0)) (record { sfits = g }))
      ∙ e.pair i (omega arith) h

  -- a store in each row leaves the pairs after it
  pub even_turn : (d : List (List ℤ)) (i : ℕ) (v w : ℤ) → length d ≡ 2 → YetEven d i → (let e = set d 0 (set (get_or d 0 []) i v) in YetEven (set e 1 (set (get_or e 1 []) i w)) (i + 1))
  even_turn [] i v w l e = absurd (omega arith)
  even_turn (x ∷ []) i v w l e = absurd (omega arith)
  even_turn (x ∷ y ∷ d) i v w l e =
      record {
        pair = λ j h k.
            ap₂ equal_parity (get_or-set_other x i j v (pos 0) (λ q. omega arith)) (get_or-set_other y i j w (pos 0) (λ q. omega arith))
            ∙ e.pair j (omega arith) k;
      }
