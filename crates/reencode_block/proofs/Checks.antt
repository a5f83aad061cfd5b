-- The checks of a template's block, one after another, and what passed.
use Rattle.std.proofs.Common.{◌≡◌, ℕ, ◌≤◌, false, not, List, ℤ, length, refl, ltb, eqb}
use Rattle.format.specs.Packed.{width_of, is_beyond}
use Rattle.format.specs.Blocks.{is_block, bits_word, bits_of, flags_of, coding_of, size_of}
use Rattle.format.specs.Refusals.{refuse, ◌then◌}
use Rattle.format.specs.Fit.{check_fit}
use Rattle.format.specs.Reencoding.{values_for, check_template_block, check_reencode_block}
use Rattle.format.specs.declared.refusals.Refusal.TheVariants.{TooShort, BlockSignature, BitsWord, TemplateBits, TemplateFlags}
use Rattle.laws.proofs.Chain.{stages}
use Rattle.laws.proofs.Checks.{then_assoc}
use Rattle.laws.proofs.Widths.{width_some, width_most}
use Rattle.block.specs.Read.{block_header, Whole}
use Rattle.block.proofs.Headers.{word_is, coded}

module _ (depth : ℕ) (r : List ℕ) where
  pub flags_are : (block_header r).flags ≡ flags_of r
  unfolding block_header
  flags_are = refl

  pub checks_are : (xs : List ℤ) → check_reencode_block depth r xs ≡ (
      refuse (ltb (length r) 16) TooShort
      then refuse (not (is_block r)) BlockSignature
      then refuse (eqb (bits_word r) 0) TemplateBits
      then refuse (eqb (bits_word r) 1) TemplateBits
      then refuse (ltb 1 (flags_of r)) TemplateFlags
      then refuse (is_beyond (coding_of depth r)) (BitsWord (bits_of r))
      then refuse (ltb (length r) (size_of depth r)) TooShort
      then check_fit (width_of (coding_of depth r)) (values_for depth r xs))
  unfolding check_reencode_block check_template_block
  checks_are xs = simp then_assoc

  module _ (some : 1 ≤ depth) (most : depth ≤ 32) (known : is_beyond (coding_of depth r) ≡ false) where
    pub widths : (1 ≤ width_of (coding_of depth r)) × (width_of (coding_of depth r) ≤ 32)
    unfolding coding_of
    widths = (width_some depth _ some known, width_most depth _ most known)

    pub whole : 16 ≤ length r → size_of depth r ≤ length r → Whole depth r
    whole h l = record { some = some; most = most; header = h; known = known; run = l }

pub ruleset checks = (stages, flags_are, checks_are, word_is, coded, widths, whole)
