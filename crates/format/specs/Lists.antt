-- Lists by their parts.
use Rattle.std.specs.Prelude.{ℕ, zero, suc, List, [], ◌∷◌, ◌++◌, Bool, true, false, ◌&&◌, ◌||◌, cond, length, take}
use Rattle.std.specs.Prelude.{drop, eqb}

-- ------------------------------------------------------------------------------------------------------------------

module _ {A : Type 0} where
  -- f 0, f 1, .. f (n - 1)
  unfoldable pub tab : ℕ → (ℕ → A) → List A
  tab zero f = []
  tab (suc n) f = f 0 ∷ tab n (λ i. f (suc i))

  -- part 0, part 1, .. part (n - 1), one after another
  unfoldable pub joined : (ℕ → List A) → ℕ → List A
  joined part zero = []
  joined part (suc n) = joined part n ++ part n

  -- the n elements from i on
  unfoldable pub from : ℕ → ℕ → List A → List A
  from i n xs = take n (drop i xs)

  -- what lent memory holds after a call: what was written, and then what lay after it
  unfoldable pub over : List A → List A → List A
  over written before = written ++ drop (length written) before

  -- the last element, or d
  unfoldable pub last_or : A → List A → A
  last_or d [] = d
  last_or d (x ∷ xs) = last_or x xs

  -- f of each pair
  unfoldable pub pairwise : {C : Type 0} → (A → A → C) → List A → List A → List C
  pairwise f [] ys = []
  pairwise f (x ∷ xs) [] = []
  pairwise f (x ∷ xs) (y ∷ ys) = f x y ∷ pairwise f xs ys

  -- every element passes the test
  unfoldable pub every : (A → Bool) → List A → Bool
  every test [] = true
  every test (x ∷ xs) = test x && every test xs

  -- the place of the first element that does not, from 0; where every one does, how many there are
  unfoldable pub first_not : (A → Bool) → List A → ℕ
  first_not test [] = 0
  first_not test (x ∷ xs) = cond (test x) (suc (first_not test xs)) 0

-- some i below n passes the test
unfoldable pub any_below : (ℕ → Bool) → ℕ → Bool
any_below test zero = false
any_below test (suc n) = any_below test n || test n

-- the two lists are equal
unfoldable pub same : List ℕ → List ℕ → Bool
same [] [] = true
same [] (y ∷ ys) = false
same (x ∷ xs) [] = false
same (x ∷ xs) (y ∷ ys) = eqb x y && same xs ys

-- x is among ys
unfoldable pub is_in : ℕ → List ℕ → Bool
is_in x [] = false
is_in x (y ∷ ys) = eqb x y || is_in x ys
