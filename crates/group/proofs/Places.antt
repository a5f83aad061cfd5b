-- Where the blocks of a group lie.
use Prim.Native.Nat.{ℕ, ◌+◌, ◌-◌, ◌≤◌}
use mathlib.Core.Path.{◌≡◌, ap, ◌∙◌}
use mathlib.Core.List.{List}
use native.Mathlib.Omega.{arith}
use lib.ListN.{length, take, drop, length-drop}
use borrow.Author.Rules.{part_to_end}
use Rattle.format.specs.Blocks.{size_of, from_block}
use Rattle.laws.proofs.Reading.{rest_none, rest_more}

-- what lies from a place on, as it is lent
abbrev pub part : ℕ → List ℕ → List ℕ
part at bs = take (length bs - at) (drop at bs)

pub part_is : (at : ℕ) (bs : List ℕ) → part at bs ≡ drop at bs
part_is at bs = part_to_end bs at

-- channel c's block begins at that place
pub record Begins (depth : ℕ) (bs : List ℕ) (c at : ℕ) : Type 0 where
  pub inside : at ≤ length bs
  pub left : from_block depth bs c ≡ drop at bs

pub begins_first : (depth : ℕ) (bs : List ℕ) → Begins depth bs 0 0
begins_first depth bs = record { inside = omega arith; left = rest_none depth bs }

pub begins_more : (depth : ℕ) (bs : List ℕ) (c at n : ℕ) → Begins depth bs c at → size_of depth (part at bs) ≤ length (part at bs) → n ≡ size_of depth (part at bs) → Begins depth bs (c + 1) (at + n)
begins_more depth bs c at n b fits size = record {
  inside = omega (arith, b.inside, ap length (part_is at bs), length-drop at bs);
  left = rest_more depth bs c at n b.left (size ∙ ap (size_of depth) (part_is at bs));
}
