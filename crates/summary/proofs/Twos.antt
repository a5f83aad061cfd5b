-- Two numbers, one after the other: what lies behind them, and what their checks say.
use Prim.Native.Nat.{ℕ, ◌-◌}
use mathlib.Core.Path.{◌≡◌, refl, ap, ◌∙◌}
use mathlib.Core.List.{List}
use lib.ListN.{length, take, drop}
use borrow.Author.Rules.{part_to_end}
use Rattle.format.specs.Refusals.{Fine}
use Rattle.format.specs.SevenBits.{seven_length, check_seven, past}
use Rattle.format.specs.Peaks.{check_two}
use Rattle.laws.proofs.Checks.{first_fine, others_fine}
use Rattle.laws.proofs.SevenBits.{fine_long}

pub past_one : (s : List ℕ) (n : ℕ) → n ≡ seven_length s → take (length s - n) (drop n s) ≡ past s 1
unfolding past
past_one s n e = part_to_end s n ∙ ap (λ (k : ℕ). drop k s) e

pub past_two : (s : List ℕ) → past (past s 1) 1 ≡ past s 2
unfolding past
past_two s = refl

-- two numbers whose checks pass
module _ (s : List ℕ) (fine : check_two s ≡ Fine) where
  pub one_fine : check_seven s ≡ Fine
  unfolding check_two
  one_fine = first_fine _ _ fine

  pub other_fine : check_seven (past s 1) ≡ Fine
  unfolding check_two
  other_fine = others_fine _ _ fine

pub ruleset twos = (fine_long, past_one, past_two, one_fine, other_fine)
