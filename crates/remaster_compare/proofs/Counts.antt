-- How many of so many places have a test, place by place.
use Rattle.std.proofs.Common.{◌≡◌, ℕ, zero, suc, ◌+◌, ◌-◌, ◌<◌, ◌≤◌, Bool, true, false, cond, refl, ap, ◌∙◌, add-one, arith}
use Rattle.std.specs.List.{range_with_len}
use Rattle.std.proofs.lemmas.List.{map-id}
use Rattle.std.proofs.lemmas.List.Sums.{count_by-le-length}
use Rattle.std.proofs.lemmas.List.FromFn.{length-range_with_len, sum_by-map-range_with_len_more}
use mathlib.Core.Logic.{⊎_elim}
use Rattle.laws.proofs.Parts.{below_suc}
use Rattle.remaster_compare.specs.Same.{count_of}

module _ (test : ℕ → Bool) (start : ℕ) where
  pub count_most : (n : ℕ) → count_of test start n ≤ n
  count_most n = omega (arith, count_by-le-length test (range_with_len start n), length-range_with_len start n)

  -- one place more
  pub count_turn : (n : ℕ) → count_of test start (n + 1) ≡ count_of test start n + cond (test (start + n)) 1 0
  count_turn n = simp map-id at (sum_by-map-range_with_len_more (λ k. cond (test k) 1 0) (λ k. k) start n (start + n) refl)

  -- the same, by the place
  pub count_next : (i : ℕ) → start ≤ i → count_of test start (i + 1 - start) ≡ count_of test start (i - start) + cond (test i) 1 0
  count_next i h =
      let m : i + 1 - start ≡ (i - start) + 1 = omega arith in
      let p : start + (i - start) ≡ i = omega arith in
      ap (count_of test start) m ∙ rw p at (count_turn (i - start))

  last : (n : ℕ) → count_of test start (suc n) ≡ count_of test start n + cond (test (start + n)) 1 0
  last n = rw add-one at (count_turn n)

  -- where all are counted, each has the test
  pub each_has : (n : ℕ) → count_of test start n ≡ n → (k : ℕ) → k < n → test (start + k) ≡ true
  each_has zero e k h = absurd (omega arith)
  each_has (suc n) e k h = by (test (start + n)) refl (each_has n)
    where
      by : (t : Bool) → test (start + n) ≡ t → (count_of test start n ≡ n → (m : ℕ) → m < n → test (start + m) ≡ true) → test (start + k) ≡ true
      by true l below =
          let all : count_of test start n ≡ n = omega (arith, rw l at (last n), e) in
          ⊎_elim (λ p. ap (λ (m : ℕ). test (start + m)) p ∙ l) (λ p. below all k p) (below_suc k n h)
      by false l below = absurd (omega (arith, rw l at (last n), count_most n))

  pub all_counted : (n : ℕ) → ((k : ℕ) → k < n → test (start + k) ≡ true) → count_of test start n ≡ n
  all_counted zero h = refl
  all_counted (suc n) h = omega (arith, all_counted n (λ k l. h k (omega arith)), rw (h n (omega arith)) at (last n))
