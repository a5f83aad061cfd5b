-- Pairs in order: what their checks say.
use Prim.Native.Nat.{ℕ, ◌+◌, ◌*◌, ◌≤◌}
use mathlib.Core.Path.{◌≡◌, refl}
use mathlib.Core.Bool.{not}
use mathlib.Core.List.{List}
use native.Mathlib.Numerals.{add-one}
use native.Mathlib.Omega.{arith}
use lib.ListN.{length}
use borrow.Author.Tests.{le-ltb, lt-ltb}
use lib.Signed.{lt_z, le_z}
use Rattle.std.proofs.lemmas.Int.{ints, to_z-of_z}
use lib.IntN.{ℤ}
use Rattle.format.specs.Refusals.{Fine}
use Rattle.format.specs.SevenBits.{past}
use Rattle.format.specs.Peaks.{from_pair, pair_count, check_two, check_pair, check_summary}
use Rattle.laws.proofs.Checks.{first_fine}
use Rattle.laws.proofs.Chain.{settled, stops_with, passes_on, turns_begin, turn_passes, turn_stops_then, turns_end_then}
use Rattle.laws.proofs.Summaries.{summary_two, each_two, pairs_within}

-- a pair's order, as it is tested and as it is defined
pub crossed : (a b : ℤ) → not (le_z b a) ≡ lt_z a b
crossed a b = grind (arith, ints)

pub ruleset pair_steps = (settled, stops_with, passes_on, to_z-of_z, crossed)

-- ---- one after another

pub from_first : (s : List ℕ) → past s 2 ≡ from_pair s 0
unfolding from_pair
from_first s = refl

pub from_more : (s : List ℕ) (k : ℕ) → past (from_pair s k) 2 ≡ from_pair s (k + 1)
unfolding from_pair
from_more s k = rw add-one

-- a pair that has passed its checks
pub passed_two : (t : List ℕ) → check_pair t ≡ Fine → check_two t ≡ Fine
unfolding check_pair
passed_two t fine = first_fine _ _ fine

pub ruleset walks = (from_first, from_more, passed_two, turns_begin, turn_passes, turn_stops_then, turns_end_then)

-- and those of a summary that has passed all of its own
pub ruleset walked = (from_first, from_more, summary_two, each_two)

-- ---- what is asked for

-- twice the pairs are no more than the bytes, since each takes two at least
pub twice_within : (s : List ℕ) (n : ℕ) → check_summary s ≡ Fine → n ≡ pair_count s → 2 * n ≤ length s
twice_within s n fine counts = omega (arith, pairs_within s fine)

pub ruleset asked = (settled, stops_with, passes_on, summary_two, twice_within, le-ltb, lt-ltb)
