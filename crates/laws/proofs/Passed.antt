-- What holds of a block and of a group whose checks pass: each check, read backwards.
use Prim.Native.Nat.{ℕ, ◌≤◌, ◌<◌}
use mathlib.Core.Path.{◌≡◌}
use mathlib.Core.Bool.{true, false}
use mathlib.Core.List.{List}
use lib.ListN.{length}
use borrow.Author.Tests.{ltb-false}
use Rattle.format.specs.Refusals.{Fine}
use Rattle.format.specs.Packed.{is_beyond}
use Rattle.format.specs.Blocks.{mid_bit, coding_of, size_of, from_block}
use Rattle.format.specs.Places.{at_channel}
use Rattle.format.specs.Decoding.{check_block, check_group}
use Rattle.format.specs.declared.settings.SampleFormat.{SampleFormat}
use Rattle.format.specs.declared.answers.Fields.{Fields}
use Rattle.laws.proofs.Tests.{asks_two}
use Rattle.laws.proofs.Checks.{passed, first_fine, others_fine}
use Rattle.laws.proofs.Places.{located_at}

module _ (h : Fields) (f : SampleFormat) (c : ℕ) (r : List ℕ) (fine : check_block h f c r ≡ Fine) where
  pub header_there : 16 ≤ length r
  unfolding check_block
  header_there = ltb-false (length r) 16 (passed _ _ (first_fine _ _ fine))

  pub bits_known : is_beyond (coding_of h.depth r) ≡ false
  unfolding check_block
  bits_known = passed _ _ (first_fine _ _ (others_fine _ _ (others_fine _ _ (others_fine _ _ (others_fine _ _ fine)))))

  pub run_there : size_of h.depth r ≤ length r
  unfolding check_block
  run_there = ltb-false (length r) (size_of h.depth r) (passed _ _ (others_fine _ _ (others_fine _ _ (others_fine _ _ (others_fine _ _ (others_fine _ _ fine))))))

module _ (h : Fields) (f : SampleFormat) (bs : List ℕ) (fine : check_group h f bs ≡ Fine) where
  pub block_fine : (c : ℕ) → c < h.channels → check_block h f c (from_block h.depth bs c) ≡ Fine
  unfolding check_group
  block_fine c l = located_at (λ c. check_block h f c (from_block h.depth bs c)) at_channel c h.channels l (first_fine _ _ fine)

  pub mid_two : 1 ≤ h.channels → mid_bit bs ≡ true → h.channels ≡ 2
  unfolding check_block from_block
  mid_two some m =
      let e = passed _ _ (first_fine _ _ (others_fine _ _ (others_fine _ _ (others_fine _ _ (block_fine 0 some))))) in
      asks_two (mid_bit bs) h.channels e m
