-- A loop that pairs two rows from the front, with a store in each a turn: what stands before i is done, the rest is
-- yet to do.
use Prim.Native.Nat.{ℕ, zero, suc, ◌+◌, ◌^◌, ◌<◌, ◌≤◌}
use mathlib.Core.Path.{◌≡◌, refl, sym, ap, ap₂, ◌∙◌}
use mathlib.Core.List.{List, [], ◌∷◌, ◌++◌, append-nil}
use native.Mathlib.Omega.{arith}
use lib.IntN.{ℤ, pos}
use lib.ListN.{length, get_or, set, take, drop, length-set, drop_of_length-le}
use lib.Seq.{take_all}
use lib.Signed.{mag}
use mir.Syntax.{w32}
use mir.Val.{Val, SFits, to_z, of_z}
use base.Fml.{Fml}
use denote.Array.{each, in_array}
use denote.Shadow.{shadow}
use Rattle.format.specs.Lists.{pairwise}
use Rattle.laws.proofs.Parts.{left_now, done_more, left_more}
use Rattle.sample.proofs.Words.{called}

-- ---- pairs of two rows a and b: those before i are done in t, which is one of the two
module _ {A : Type 0} (f : A → A → A) (pairs : List A) where
  abbrev pub Paired : List A → List A → List A → ℕ → Type 0
  Paired t a b i = take i t ++ pairwise f (drop i a) (drop i b) ≡ pairs

  paired_more : (t a b : List A) (i : ℕ) (d u v w : A) → i < length t → i < length a → i < length b → u ≡ f (get_or a i d) (get_or b i d) → Paired t a b i
      → Paired (set t i u) (set a i v) (set b i w) (i + 1)
  unfolding pairwise
  paired_more t a b i d u v w ht ha hb e p =
      done_more t (pairwise f (drop (i + 1) (set a i v)) (drop (i + 1) (set b i w))) i u ht
      ∙ ap₂ (λ (x y : List A). take i t ++ (u ∷ pairwise f x y)) (left_more a i v) (left_more b i w)
      ∙ ap (λ (z : A). take i t ++ (z ∷ pairwise f (drop (i + 1) a) (drop (i + 1) b))) e
      ∙ ap₂ (λ (x y : List A). take i t ++ pairwise f x y) (sym (left_now a i d ha)) (sym (left_now b i d hb))
      ∙ p

  paired_all : (t a b : List A) (i : ℕ) → length t ≤ i → length a ≤ i → Paired t a b i → t ≡ pairs
  unfolding pairwise
  paired_all t a b i ht ha p =
      sym (append-nil t)
      ∙ ap₂ (λ (x y : List A). x ++ pairwise f y (drop i b)) (sym (take_all i t ht)) (sym (drop_of_length-le a ha))
      ∙ p

-- ---- the two rows of an array of arrays

-- each has as many elements as its type says
pub row_long : (d : Type 0) (f : d → List Val → Fml) (n : ℕ) (xs : List (List d)) (us : List Val) (i : ℕ) → shadow (each (List d) (in_array d f n) xs us) → i < length xs → length (get_or xs i []) ≡ n
row_long d f n [] us i p h = absurd (omega arith)
row_long d f n (x ∷ xs) [] i p h = absurd p
row_long d f n (x ∷ xs) (u ∷ us) zero p h = p.0.1.0.1
row_long d f n (x ∷ xs) (u ∷ us) (suc i) p h = row_long d f n xs us i p.1 (omega arith)

-- the pairs before i are left and right, those from i on still mid and side; before the loop the rows are those of c
module _ {A : Type 0} (f g : A → A → A) (n : ℕ) (c : List (List A)) where
  abbrev row : List (List A) → ℕ → List A
  row d k = get_or d k []

  pub record Split (d : List (List A)) (i : ℕ) : Type 0 where
    pub two : length d ≡ 2
    pub long₀ : length (row d 0) ≡ n
    pub long₁ : length (row d 1) ≡ n
    pub first : Paired f (pairwise f (row c 0) (row c 1)) (row d 0) (row d 0) (row d 1) i
    pub second : Paired g (pairwise g (row c 0) (row c 1)) (row d 1) (row d 0) (row d 1) i

  pub split_none : length c ≡ 2 → length (row c 0) ≡ n → length (row c 1) ≡ n → Split c 0
  split_none e h k = record { two = e; long₀ = h; long₁ = k; first = refl; second = refl }

  -- a turn's two stores, one in each row
  split_more : (d : List (List A)) (i : ℕ) (z v w : A) → i < n → v ≡ f (get_or (row d 0) i z) (get_or (row d 1) i z) → w ≡ g (get_or (row d 0) i z) (get_or (row d 1) i z) → Split d i
      → (let e = set d 0 (set (row d 0) i v) in Split (set e 1 (set (row e 1) i w)) (i + 1))
  split_more [] i z v w h p q s = absurd (omega (arith, s.two))
  split_more (x ∷ []) i z v w h p q s = absurd (omega (arith, s.two))
  split_more (x ∷ y ∷ []) i z v w h p q s =
      let hx : i < length x = omega (arith, s.long₀) in
      let hy : i < length y = omega (arith, s.long₁) in
      record {
        two = refl;
        long₀ = simp length-set s.long₀;
        long₁ = simp length-set s.long₁;
        first = paired_more f (pairwise f (row c 0) (row c 1)) x x y i z v v w hx hx hy p s.first;
        second = paired_more g (pairwise g (row c 0) (row c 1)) y x y i z w v w hy hx hy q s.second;
      }
  split_more (x ∷ y ∷ t ∷ d) i z v w h p q s = absurd (omega (arith, s.two))

  pub split_all : (d : List (List A)) (i : ℕ) → n ≤ i → Split d i → d ≡ pairwise f (row c 0) (row c 1) ∷ pairwise g (row c 0) (row c 1) ∷ []
  split_all [] i h s = absurd (omega (arith, s.two))
  split_all (x ∷ []) i h s = absurd (omega (arith, s.two))
  split_all (x ∷ y ∷ []) i h s =
      let hx : length x ≤ i = omega (arith, s.long₀) in
      let hy : length y ≤ i = omega (arith, s.long₁) in
      ap₂ (λ (a b : List A). a ∷ b ∷ []) (paired_all f (pairwise f (row c 0) (row c 1)) x x y i hx hx s.first) (paired_all g (pairwise g (row c 0) (row c 1)) y x y i hy hx s.second)
  split_all (x ∷ y ∷ t ∷ d) i h s = absurd (omega (arith, s.two))

-- a turn's two calls, and a store in each row
pub split_turn : (f g : ℤ → ℤ → ℤ) (n : ℕ) (c d : List (List ℤ)) (i : ℕ) (x y : ℤ) → Split f g n c d i → i < n
    → mag (get_or (get_or d 0 []) i (pos 0)) < 2 ^ 31 → mag (get_or (get_or d 1 []) i (pos 0)) < 2 ^ 31
    → mag x < 2 ^ 31 → x ≡ f (to_z w32 (of_z w32 (get_or (get_or d 0 []) i (pos 0)))) (to_z w32 (of_z w32 (get_or (get_or d 1 []) i (pos 0))))
    → mag y < 2 ^ 31 → y ≡ g (to_z w32 (of_z w32 (get_or (get_or d 0 []) i (pos 0)))) (to_z w32 (of_z w32 (get_or (get_or d 1 []) i (pos 0))))
    → (let e = set d 0 (set (get_or d 0 []) i (to_z w32 (of_z w32 x))) in Split f g n c (set e 1 (set (get_or e 1 []) i (to_z w32 (of_z w32 y)))) (i + 1))
split_turn f g n c d i x y s h p q hx ex hy ey =
    let l : SFits w32 (get_or (get_or d 0 []) i (pos 0)) = record { sfits = p } in
    let r : SFits w32 (get_or (get_or d 1 []) i (pos 0)) = record { sfits = q } in
    split_more f g n c d i (pos 0) _ _ h (called f l r hx ex) (called g l r hy ey) s
