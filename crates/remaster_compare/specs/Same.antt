-- Two lists beside each other: where they are the same, and at how many places.
use Rattle.std.specs.Prelude.{ℕ, ◌-◌, Bool, ◌&&◌, List, length, get_or, ℤ, pos, eqb, ltb, count_by}
use Rattle.std.specs.List.{range_with_len}
use Rattle.sample.specs.Equal.{equal_samples}
use Rattle.remaster_compare.specs.declared.Count.{Count}

-- place i is the same: both lists have it, and the elements there are equal (`z` stands for an element past the end)
unfoldable pub same_at : {A : Type 0} → (A → A → Bool) → A → List A → List A → ℕ → Bool
same_at equal z xs ys i = ltb i (length xs) && (ltb i (length ys) && equal (get_or xs i z) (get_or ys i z))

-- place i of two lists of bytes, and of two lists of samples, is the same
abbrev pub same_byte : List ℕ → List ℕ → ℕ → Bool
same_byte a b i = same_at eqb 0 a b i

abbrev pub same_sample : List ℤ → List ℤ → ℕ → Bool
same_sample a b i = same_at equal_samples (pos 0) a b i

-- how many of the n places from `start` on have the test
abbrev pub count_of : (ℕ → Bool) → ℕ → ℕ → ℕ
count_of test start n = count_by test (range_with_len start n)

-- of the places from `start` on, before `end`: how many have the test, and how many there are
abbrev pub counted : (ℕ → Bool) → ℕ → ℕ → Count
counted test start end = record { same = count_of test start (end - start); all = end - start }

-- of all that were counted, each is the same
abbrev pub are_same : Count → Bool
are_same c = eqb c.same c.all
