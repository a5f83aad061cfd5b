-- The room that is lent to a call, as a list of samples: what it is filled with before, what is asked of it after.
use Rattle.std.specs.Prelude.{ℕ, suc, ◌+◌, ◌*◌, ◌%◌, Bool, true, ◌&&◌, List, [], ◌∷◌, drop, ℤ, pos, slice_index_or}
use Rattle.std.specs.Prelude.{slice_set}
use Rattle.format.specs.Lists.{tab}
use Rattle.format.specs.Numbers.{code_of, plus}
use Rattle.sample.specs.Equal.{equal_samples}

-- what the room holds at place i before it is lent
abbrev pub mark_of : ℕ → ℤ
mark_of i = pos (0x5A5A0000 + i % 65536)

-- a room of n samples, filled
abbrev pub marked : ℕ → List ℤ
marked n = tab n mark_of

-- samples that lie from place i on are the marks of their places
unfoldable pub are_marks : ℕ → List ℤ → Bool
are_marks i [] = true
are_marks i (x ∷ xs) = equal_samples x (mark_of i) && are_marks (suc i) xs

-- from place `start` on the room holds what it was filled with
abbrev pub is_kept : ℕ → List ℤ → Bool
is_kept start room = are_marks start (drop start room)

-- a sum with one sample more: its 32 bits are the next digit to the base 1,000,003, modulo a prime
abbrev pub summed : ℕ → ℤ → ℕ
summed sum x = (sum * 1000003 + code_of 32 x) % 4294967291

-- a sum with samples more, in order; the sum of samples
unfoldable pub sum_from : ℕ → List ℤ → ℕ
sum_from sum [] = sum
sum_from sum (x ∷ xs) = sum_from (summed sum x) xs

abbrev pub sum_of : List ℤ → ℕ
sum_of samples = sum_from 0 samples

-- another sample than x: one more, wrapped at 32 bits
abbrev pub other_than : ℤ → ℤ
other_than x = plus x (pos 1)

-- the room with another sample at a place; past its end nothing changes
abbrev pub spoiled_at : ℕ → List ℤ → List ℤ
spoiled_at place room = slice_set room place (other_than (slice_index_or room place (pos 0)))
