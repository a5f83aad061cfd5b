-- What the host is told of peaks, and finds in its bytes: a summary, or pairs of 8 bytes each.
use Prim.Native.Nat.{ℕ, ◌*◌, ◌/◌, ◌≤◌}
use mathlib.Core.Path.{◌≡◌, ap, ◌∙◌}
use mathlib.Core.List.{List}
use native.Mathlib.Omega.{arith}
use lib.ListN.{length, drop}
use Rattle.format.specs.Refusals.{Fine}
use Rattle.format.specs.Numbers.{Below}
use Rattle.format.specs.Peaks.{build_peaks_of, compare_peaks_of, pair_count, pair_number, check_summary, check_peak, pairs_from, read_peak_of, read_peak_into, check_all_peaks, read_peaks_of, read_peaks_into}
use Rattle.format.specs.Boundary.{samples_from, result_of, host_peaks, host_peak, host_peak_into, host_peaks_all, host_peaks_all_into, host_peaks_check}
use Rattle.format.specs.declared.refusals.Refusal.TheVariants.{OutputTooShort}
use Rattle.format.specs.declared.answers.Answer.{Answer}
use Rattle.laws.proofs.Checks.{others_fine, has_room}
use Rattle.laws.proofs.Summaries.{pairs_long}
use Rattle.lent_samples.proofs.Laws.{length_lent}
use Rattle.ncw.proofs.Host.{bytes_put}

pub told_build : (s : List ℕ) (room : ℕ) (a : Answer) (r : ℕ) → r ≡ result_of a.outcome → a ≡ build_peaks_of s room → r ≡ host_peaks s room
unfolding host_peaks
told_build s room a r e p = e ∙ ap (λ (x : Answer). result_of x.outcome) p

pub told_compare : (b s : List ℕ) (a : Answer) (r : ℕ) → r ≡ result_of a.outcome → a ≡ compare_peaks_of b s → r ≡ host_peaks_check b s
unfolding host_peaks_check
told_compare b s a r e p = e ∙ ap (λ (x : Answer). result_of x.outcome) p

-- ---- the pair of group g and channel c
module _ (s : List ℕ) (g c : ℕ) where
  pub told_peak : (b : List ℕ) (a : Answer) (r : ℕ) → r ≡ result_of a.outcome → a ≡ read_peak_of s g c (length (samples_from b)) → r ≡ host_peak s g c (length b)
  unfolding host_peak
  told_peak b a r e p = e ∙ ap (λ (x : Answer). result_of x.outcome) (p ∙ ap (read_peak_of s g c) (length_lent b))

  peak_room : (room : ℕ) → check_peak s g c room ≡ Fine → length (pairs_from s (pair_number s g c) 1) ≤ room
  unfolding check_peak
  peak_room room fine =
      let asked = others_fine _ _ (others_fine _ _ fine) in
      omega (arith, pairs_long s (pair_number s g c) 1, has_room _ room 2 OutputTooShort asked)

  pub put_peak : (b d : List ℕ) → Below 256 b → Below 256 d → samples_from d ≡ read_peak_into s g c (samples_from b) → drop (length d / 4 * 4) d ≡ drop (length b / 4 * 4) b
      → d ≡ host_peak_into s g c b
  unfolding read_peak_into host_peak_into
  put_peak = bytes_put (check_peak s g c) (pairs_from s (pair_number s g c) 1) peak_room

-- ---- all of them
module _ (s : List ℕ) where
  pub told_peaks : (b : List ℕ) (a : Answer) (r : ℕ) → r ≡ result_of a.outcome → a ≡ read_peaks_of s (length (samples_from b)) → r ≡ host_peaks_all s (length b)
  unfolding host_peaks_all
  told_peaks b a r e p = e ∙ ap (λ (x : Answer). result_of x.outcome) (p ∙ ap (read_peaks_of s) (length_lent b))

  peaks_room : (room : ℕ) → check_all_peaks s room ≡ Fine → length (pairs_from s 0 (pair_count s)) ≤ room
  unfolding check_all_peaks
  peaks_room room fine = omega (arith, pairs_long s 0 (pair_count s), has_room (check_summary s) room (2 * pair_count s) OutputTooShort fine)

  pub put_peaks : (b d : List ℕ) → Below 256 b → Below 256 d → samples_from d ≡ read_peaks_into s (samples_from b) → drop (length d / 4 * 4) d ≡ drop (length b / 4 * 4) b → d ≡ host_peaks_all_into s b
  unfolding read_peaks_into host_peaks_all_into
  put_peaks = bytes_put (check_all_peaks s) (pairs_from s 0 (pair_count s)) peaks_room
