-- What holds of each element of lists holds of their parts, and of them joined; a test of each element, one after
-- another.
use Prim.Native.Nat.{ℕ, zero, suc, ◌+◌, ◌<◌, ◌≤◌}
use mathlib.Core.Path.{◌≡◌, sym, ap, ap₂, ◌∙◌}
use mathlib.Core.Bool.{Bool, true, false, ◌&&◌}
use mathlib.Core.List.{List, [], ◌∷◌, ◌++◌}
use native.Mathlib.Omega.{arith}
use native.Mathlib.Numerals.{add-one}
use lib.ListN.{length, get_or, take, drop, replicate, drop_of_length-le}
use lib.Seq.{get_or-drop, drop-cons}
use Rattle.format.specs.Lists.{tab, joined, from, pairwise, every}

-- P of each element, and of d, which stands past the end
abbrev pub Each : {A : Type 0} → (A → Type 0) → A → List A → Type 0
Each P d xs = (i : ℕ) → P (get_or xs i d)

module _ {A : Type 0} (P : A → Type 0) (d : A) (pd : P d) where
  pub each_append : (xs ys : List A) → Each P d xs → Each P d ys → Each P d (xs ++ ys)
  each_append [] ys p q i = q i
  each_append (x ∷ xs) ys p q zero = p 0
  each_append (x ∷ xs) ys p q (suc i) = each_append xs ys (λ j. p (suc j)) q i

  pub each_take : (n : ℕ) (xs : List A) → Each P d xs → Each P d (take n xs)
  each_take zero xs p i = pd
  each_take (suc n) [] p i = pd
  each_take (suc n) (x ∷ xs) p zero = p 0
  each_take (suc n) (x ∷ xs) p (suc i) = each_take n xs (λ j. p (suc j)) i

  pub each_drop : (k : ℕ) (xs : List A) → Each P d xs → Each P d (drop k xs)
  each_drop k xs p i = rw (get_or-drop k xs i d) (p (k + i))

  pub each_from : (k n : ℕ) (xs : List A) → Each P d xs → Each P d (from k n xs)
  unfolding from
  each_from k n xs p = each_take n (drop k xs) (each_drop k xs p)

  pub each_tab : (n : ℕ) (f : ℕ → A) → ((k : ℕ) → k < n → P (f k)) → Each P d (tab n f)
  unfolding tab
  each_tab zero f h i = pd
  each_tab (suc n) f h zero = h 0 (omega arith)
  each_tab (suc n) f h (suc i) = each_tab n (λ k. f (suc k)) (λ k l. h (suc k) (omega arith)) i

  pub each_replicate : (n : ℕ) (x : A) → P x → Each P d (replicate n x)
  each_replicate zero x h i = pd
  each_replicate (suc n) x h zero = h
  each_replicate (suc n) x h (suc i) = each_replicate n x h i

  pub each_joined : (part : ℕ → List A) (n : ℕ) → ((k : ℕ) → k < n → Each P d (part k)) → Each P d (joined part n)
  unfolding joined
  each_joined part zero h i = pd
  each_joined part (suc n) h i = each_append (joined part n) (part n) (each_joined part n (λ k l. h k (omega arith))) (h n (omega arith)) i

  pub each_pairwise : {B : Type 0} (Q : B → Type 0) (z : B) (f : B → B → A) → ((x y : B) → Q x → Q y → P (f x y)) → (xs ys : List B) → Each Q z xs → Each Q z ys → Each P d (pairwise f xs ys)
  unfolding pairwise
  each_pairwise Q z f h [] ys p q i = pd
  each_pairwise Q z f h (x ∷ xs) [] p q i = pd
  each_pairwise Q z f h (x ∷ xs) (y ∷ ys) p q zero = h x y (p 0) (q 0)
  each_pairwise Q z f h (x ∷ xs) (y ∷ ys) p q (suc i) = each_pairwise Q z f h xs ys (λ j. p (suc j)) (λ j. q (suc j)) i

-- ---- every element has p: so had all before i, if ok, and so have those from i on
module _ {A : Type 0} (p : A → Bool) (s : List A) {t : Bool} (i : ℕ) where
  pub every_turn : (z : A) (ok : Bool) {o : Bool} → i < length s → o ≡ p (get_or s i z) → (ok && every p (drop i s)) ≡ t → ((ok && o) && every p (drop (i + 1) s)) ≡ t
  unfolding every
  every_turn z true h e q = ap₂ (λ (b : Bool) (k : ℕ). b && every p (drop k s)) e (add-one i) ∙ sym (ap (every p) (drop-cons s i z h)) ∙ q
  every_turn z false h e q = q

  pub every_done : (ok : Bool) → length s ≤ i → (ok && every p (drop i s)) ≡ t → ok ≡ t
  unfolding every
  every_done true h q = rw (drop_of_length-le s h) at q
  every_done false h q = q
