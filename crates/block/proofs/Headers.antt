-- A block's header as it is read, and the block's length.
use Prim.Native.Nat.{ℕ, zero, suc, ◌+◌, ◌*◌, ◌/◌, ◌%◌, ◌^◌, ◌<◌, ◌≤◌}
use mathlib.Core.Path.{◌≡◌, refl, ap, ◌∙◌}
use mathlib.Core.Bool.{Bool, true, false, cond}
use mathlib.Core.List.{List}
use native.Mathlib.Omega.{arith}
use lib.IntN.{ℤ, pos, negsuc}
use lib.ListN.{get_or}
use lib.Dec.{leb, eqb}
use mir.Syntax.{w8, w16, w32}
use mir.Val.{Fits, SFits, to_z, of_z}
use mir.ValLaws.{to_z-of_z}
use Rattle.std.proofs.lemmas.Int.{of_z-to_z}
use Rattle.laws.proofs.Chain.{stages}
use borrow.Author.Tests.{leb-true}
use Rattle.format.specs.Numbers.{num_at}
use Rattle.format.specs.Packed.{coding, width_of}
use Rattle.format.specs.Blocks.{base_of, bits_of, mid_bit, float_bit, coding_of, size_of}
use Rattle.format.specs.declared.packed.Coding.{Coding}
use Rattle.format.specs.declared.packed.Coding.TheVariants.{Differences, Raw, Beyond}
use Rattle.laws.proofs.Signs.{value_is, value_holds}
use Rattle.laws.proofs.Reading.{number_lt}
use Rattle.block.specs.Read.{block_header}
use Rattle.block.specs.declared.BlockHeader.{BlockHeader}

-- the fields as the code reads them
pub header_is : (s : List ℕ) → num_at 4 4 s < 2 ^ 32 → num_at 8 2 s < 2 ^ 16
    → block_header s ≡ record { base = to_z w32 (of_z w32 (to_z w32 (num_at 4 4 s))); bits = to_z w16 (of_z w16 (to_z w16 (num_at 8 2 s))); flags = num_at 10 2 s }
unfolding block_header base_of bits_of
header_is s f g = rw (of_z-to_z w32 _ f, of_z-to_z w16 _ g, value_is 32 _ f, value_is 16 _ g)

-- ---- the length
width_by : (n : ℕ) (x : Coding) → width_of x ≡ n → (t : Bool) → leb n 32 ≡ t → width_of (cond t x Beyond) ≤ 32
unfolding width_of
width_by n x w true l = omega (arith, leb-true n 32 l)
width_by n x w false l = omega arith

pub width_most : (depth : ℕ) (z : ℤ) → depth ≤ 32 → width_of (coding depth z) ≤ 32
unfolding coding width_of
width_most depth (pos zero) h = h
width_most depth (pos (suc n)) h = width_by (suc n) (Differences (suc n)) refl (leb (suc n) 32) refl
width_most depth (negsuc n) h = width_by (suc n) (Raw (suc n)) refl (leb (suc n) 32) refl

module _ (depth : ℕ) (r : List ℕ) (b : BlockHeader) (header : b ≡ block_header r) (fits : SFits w16 b.bits) where
  pub bits_are : to_z w16 (of_z w16 b.bits) ≡ bits_of r
  unfolding block_header
  bits_are = to_z-of_z w16 b.bits fits ∙ ap (λ (x : BlockHeader). x.bits) header

  module _ (k : Coding) (coded : k ≡ coding depth (to_z w16 (of_z w16 b.bits))) where
    pub coding_is : k ≡ coding_of depth r
    unfolding coding_of
    coding_is = coded ∙ ap (coding depth) bits_are

    module _ (w : ℕ) (wide : w ≡ width_of k) where
      pub size_is : 16 + 64 * w ≡ size_of depth r
      unfolding size_of
      size_is = ap (λ (n : ℕ). 16 + 64 * n) (wide ∙ ap width_of coding_is)

-- ---- what is read of a header that a local holds
module _ (r : List ℕ) where
  pub float_is : eqb ((block_header r).flags / 2 % 2) 1 ≡ float_bit r
  unfolding float_bit block_header
  float_is = refl

  pub mid_is : eqb ((block_header r).flags % 2) 1 ≡ mid_bit r
  unfolding mid_bit block_header
  mid_is = refl

  module _ (bytes : (i : ℕ) → Fits w8 (get_or r i 0)) where
    pub base_is : to_z w32 (of_z w32 (block_header r).base) ≡ base_of r
    unfolding block_header base_of
    base_is = to_z-of_z w32 _ (record { sfits = value_holds 32 (num_at 4 4 r) (omega arith) (number_lt 4 4 r (λ i. (bytes i).fits)) })

    pub word_is : to_z w16 (of_z w16 (block_header r).bits) ≡ bits_of r
    unfolding block_header bits_of
    word_is = to_z-of_z w16 _ (record { sfits = value_holds 16 (num_at 8 2 r) (omega arith) (number_lt 8 2 r (λ i. (bytes i).fits)) })

    pub coded : (depth : ℕ) → coding depth (to_z w16 (of_z w16 (block_header r).bits)) ≡ coding_of depth r
    unfolding coding_of
    coded depth = ap (coding depth) word_is

  pub sized : (depth : ℕ) → size_of depth r ≡ 16 + 64 * width_of (coding_of depth r)
  unfolding size_of
  sized depth = refl

pub ruleset sizes = (coded, sized, width_most)

pub ruleset checks = (stages, float_is, mid_is, word_is, coded)
