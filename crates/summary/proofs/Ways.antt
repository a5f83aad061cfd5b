-- What the checks of a summary tell once they have passed: the pairs that are asked for are there.
use Prim.Native.Nat.{ℕ, ◌+◌, ◌*◌, ◌≤◌, ◌<◌}
use mathlib.Core.Path.{◌≡◌, refl}
use mathlib.Core.List.{List}
use native.Mathlib.Omega.{arith}
use lib.Arith.{digits_lt}
use lib.IntN.{ℤ}
use lib.ListN.{length}
use borrow.Author.Tests.{ltb-true, ltb-false, not-false}
use Rattle.format.specs.Refusals.{Fine}
use Rattle.format.specs.Header.{groups_of}
use Rattle.format.specs.Answers.{answered, filled}
use Rattle.format.specs.Peaks.{summary_frames, summary_channels, pair_count, check_summary, check_peak, check_all_peaks, pairs_read, pairs_from, read_peak_of, read_peak_into, read_peaks_of, read_peaks_into, pair_number}
use Rattle.format.specs.declared.answers.Outcome.TheVariants.{Read}
use Rattle.laws.proofs.Checks.{passed, first_fine, others_fine, has_room}
use Rattle.laws.proofs.Chain.{settled}
use Rattle.laws.proofs.Summaries.{summary_two, pairs_within}

-- a pair, and room for it
module _ (s : List ℕ) (g c n : ℕ) (fine : check_peak s g c n ≡ Fine) where
  pub peak_fine : check_summary s ≡ Fine
  unfolding check_peak
  peak_fine = first_fine _ _ fine

  group_there : g < groups_of (summary_frames s)
  unfolding check_peak
  group_there = ltb-true _ _ (not-false _ (passed _ _ (first_fine _ _ (others_fine (check_summary s) _ fine))))

  channel_there : c < summary_channels s
  unfolding check_peak
  channel_there = ltb-true _ _ (not-false _ (passed _ _ (first_fine _ _ (others_fine _ _ (others_fine (check_summary s) _ fine)))))

  pub peak_room : 2 ≤ n
  unfolding check_peak
  peak_room = ltb-false n 2 (passed _ _ (others_fine _ _ (others_fine _ _ (others_fine (check_summary s) _ fine))))

  pub pair_there : g * summary_channels s + c + 1 ≤ pair_count s
  unfolding pair_count
  pair_there = omega (arith, digits_lt group_there channel_there)

pub peak_answer : (s : List ℕ) (g c room : ℕ) → read_peak_of s g c room ≡ answered (check_peak s g c room) (Read (pairs_read 1))
unfolding read_peak_of
peak_answer s g c room = refl

pub peak_put : (s : List ℕ) (g c : ℕ) (lent : List ℤ)
    → read_peak_into s g c lent ≡ filled (check_peak s g c (length lent)) (pairs_from s (g * summary_channels s + c) 1) lent
unfolding read_peak_into pair_number
peak_put s g c lent = refl

pub ruleset peak_ways = (settled, summary_two, peak_fine, peak_room, pair_there, pairs_within, peak_answer, peak_put)

-- all pairs, and room for them
module _ (s : List ℕ) (n : ℕ) (fine : check_all_peaks s n ≡ Fine) where
  pub all_fine : check_summary s ≡ Fine
  unfolding check_all_peaks
  all_fine = first_fine _ _ fine

  pub all_room : 2 * pair_count s ≤ n
  unfolding check_all_peaks
  all_room = has_room (check_summary s) n (2 * pair_count s) _ fine

pub all_answer : (s : List ℕ) (room : ℕ) → read_peaks_of s room ≡ answered (check_all_peaks s room) (Read (pairs_read (pair_count s)))
unfolding read_peaks_of
all_answer s room = refl

pub all_put : (s : List ℕ) (lent : List ℤ) → read_peaks_into s lent ≡ filled (check_all_peaks s (length lent)) (pairs_from s 0 (pair_count s)) lent
unfolding read_peaks_into
all_put s lent = refl

pub ruleset all_ways = (settled, summary_two, all_fine, all_room, pairs_within, all_answer, all_put)
