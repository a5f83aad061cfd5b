-- What opening's checks tell of the bytes that are read next: that they are there.
use Prim.Native.Nat.{ℕ, ◌+◌, ◌*◌, ◌/◌, ◌%◌, ◌≤◌}
use mathlib.Core.Path.{◌≡◌, refl, sym, ◌∙◌}
use mathlib.Core.List.{List}
use native.Mathlib.Omega.{arith}
use lib.ListN.{length}
use lib.Dec.{eqb}
use borrow.Author.Tests.{ne_eqb}
use borrow.Author.Rules.{part_to_end}
use Rattle.format.specs.Header.{fields_of, groups_of}
use Rattle.format.specs.Blocks.{float_bit}
use Rattle.format.specs.Refusals.{Checked, Fine}
use Rattle.format.specs.Opening.{check_open}
use Rattle.laws.proofs.Chain.{settled, stops_at, passes_on}
use Rattle.laws.proofs.Opened.{data_past, data_within, first_within, opened_long, opened_fields, opened_offsets, opened_table}
use Rattle.block.specs.Read.{block_header}

-- while they are made
pub ruleset openings = (settled, stops_at, passes_on, data_past, data_within, first_within)

-- of a file that opens: the table up to its last entry, and the first block's header
module _ (s : List ℕ) (opens : check_open s ≡ Fine) where
  pub table_there : 4 * groups_of (fields_of s).frames + 4 + (fields_of s).table ≤ length s
  table_there = omega (arith, data_past (fields_of s) (length s) (opened_offsets s opens), data_within (fields_of s) (length s) (opened_offsets s opens))

  pub first_there : (groups_of (fields_of s).frames ≡ 0 → ⊥) → (fields_of s).start + 16 ≤ length s
  first_there = first_within s (fields_of s) (opened_fields s opens) (opened_offsets s opens) (opened_table s opens)

-- its numbers, once the checks have passed
module _ (s : List ℕ) (a : Checked) (checked : a ≡ check_open s) where
  pub fields_there : a ≡ Fine → 32 ≤ length s
  fields_there t = omega (arith, opened_long s (sym checked ∙ t))

-- its float bit, by the header's flags
pub float_is : (r : List ℕ) → float_bit r ≡ eqb ((block_header r).flags / 2 % 2) 1
unfolding float_bit block_header
float_is r = refl

pub ruleset firsts = (first_there, part_to_end, float_is, ne_eqb)
