-- Whether place i of two lists is the same, by the tests that tell.
use Prim.Native.Nat.{ℕ, ◌<◌}
use mathlib.Core.Path.{◌≡◌}
use mathlib.Core.Bool.{Bool, true}
use mathlib.Core.List.{List}
use lib.ListN.{length, get_or}
use lib.Dec.{ltb}
use borrow.Author.Tests.{lt-ltb, ltb-true}
use Rattle.laws.proofs.Tests.{and_left, and_right}
use Rattle.remaster_compare.specs.Same.{same_at}

module _ {A : Type 0} (equal : A → A → Bool) (z : A) (xs ys : List A) (i : ℕ) where
  pub both_have : (t : Bool) → i < length xs → i < length ys → t ≡ equal (get_or xs i z) (get_or ys i z) → t ≡ same_at equal z xs ys i
  unfolding same_at
  both_have t h k e = rw (lt-ltb i (length xs) h, lt-ltb i (length ys) k) e

  -- and back
  module _ (e : same_at equal z xs ys i ≡ true) where
    pub in_first : i < length xs
    unfolding same_at
    in_first = ltb-true i (length xs) (and_left (ltb i (length xs)) _ e)

    pub in_second : i < length ys
    unfolding same_at
    in_second = ltb-true i (length ys) (and_left (ltb i (length ys)) _ (and_right (ltb i (length xs)) _ e))

    pub equal_there : equal (get_or xs i z) (get_or ys i z) ≡ true
    unfolding same_at
    equal_there = and_right (ltb i (length ys)) _ (and_right (ltb i (length xs)) _ e)
