-- Where all are counted the same, the lists are the same, and the other way round.
use Prim.Native.Nat.{ℕ, zero, suc, ◌+◌, ◌<◌, ◌≤◌}
use mathlib.Core.Path.{◌≡◌, refl, sym, ap, ◌∙◌}
use mathlib.Core.Bool.{Bool, true}
use mathlib.Core.List.{List}
use native.Mathlib.Omega.{arith}
use lib.ListN.{length, get_or, take, drop, length-drop}
use lib.Seq.{ext_get_or, get_or-take, get_or-drop, length-take-le, take-length}
use lib.Dec.{eqb}
use lib.IntN.{ℤ, pos}
use borrow.Author.Tests.{eq-eqb, eqb-true}
use Rattle.sample.specs.Equal.{equal_samples}
use Rattle.remaster_compare.specs.Same.{same_at, same_byte, same_sample, count_of}
use Rattle.sample.proofs.Equals.{sample_self, sample_equal}
use Rattle.remaster_compare.proofs.Places.{both_have, in_first, in_second, equal_there}
use Rattle.remaster_compare.proofs.Counts.{each_has, all_counted}

module _ {A : Type 0} (equal : A → A → Bool) (z : A) (self : (x : A) → equal x x ≡ true) (decides : (x y : A) → equal x y ≡ true → x ≡ y) (a b : List A) where
  part_at : (start n k : ℕ) (l : List A) → k < n → get_or (take n (drop start l)) k z ≡ get_or l (start + k) z
  part_at start n k l h = get_or-take n (drop start l) k z h ∙ get_or-drop start l k z

  part_length : (start n : ℕ) (l : List A) → start + n ≤ length l → length (take n (drop start l)) ≡ n
  part_length start n l h = length-take-le n (drop start l) (omega (arith, length-drop start l))

  -- the n places from `start` on are counted the same: these parts of the lists are equal
  part_same : (start n : ℕ) → count_of (same_at equal z a b) start n ≡ n → take n (drop start a) ≡ take n (drop start b)
  part_same start zero e = refl
  part_same start (suc m) e =
      ext_get_or z (take n (drop start a)) (take n (drop start b)) (la ∙ sym lb)
      (λ i h. let l : i < n = omega (arith, la) in
      part_at start n i a l ∙ decides _ _ (equal_there equal z a b (start + i) (has i l)) ∙ sym (part_at start n i b l))
    where
      n : ℕ
      n = suc m

      has : (k : ℕ) → k < suc m → same_at equal z a b (start + k) ≡ true
      has = each_has (same_at equal z a b) start (suc m) e

      la : length (take (suc m) (drop start a)) ≡ suc m
      la = part_length start (suc m) a (omega (arith, in_first equal z a b (start + m) (has m (omega arith))))

      lb : length (take (suc m) (drop start b)) ≡ suc m
      lb = part_length start (suc m) b (omega (arith, in_second equal z a b (start + m) (has m (omega arith))))

  -- the other way round, where both lists have these places
  same_part : (start n : ℕ) → start + n ≤ length a → start + n ≤ length b → take n (drop start a) ≡ take n (drop start b)
      → count_of (same_at equal z a b) start n ≡ n
  same_part start n p q e =
      all_counted (same_at equal z a b) start n
      (λ k h. sym (both_have equal z a b (start + k) true (omega arith) (omega arith)
      (sym (ap (equal (get_or a (start + k) z)) (sym (there k h)) ∙ self (get_or a (start + k) z)))))
    where
      there : (k : ℕ) → k < n → get_or a (start + k) z ≡ get_or b (start + k) z
      there k h = sym (part_at start n k a h) ∙ ap (λ (l : List A). get_or l k z) e ∙ part_at start n k b h

  -- all places of a list are counted the same in another as long: it is the list itself
  pub itself : length b ≡ length a → count_of (same_at equal z a b) 0 (length a) ≡ length a → b ≡ a
  itself l e = sym (take-length b) ∙ ap (λ (n : ℕ). take n b) l ∙ sym (part_same 0 (length a) e) ∙ take-length a

-- ---- of bytes, and of samples
byte_self : (x : ℕ) → eqb x x ≡ true
byte_self x = eq-eqb x x refl

module _ (a b : List ℕ) where
  pub bytes_same : (n : ℕ) → count_of (same_byte a b) 0 n ≡ n → take n a ≡ take n b
  bytes_same n e = part_same eqb 0 byte_self eqb-true a b 0 n e

  pub same_bytes : (n : ℕ) → n ≤ length a → n ≤ length b → take n a ≡ take n b → count_of (same_byte a b) 0 n ≡ n
  same_bytes n p q e = same_part eqb 0 byte_self eqb-true a b 0 n (omega arith) (omega arith) e

  pub file_itself : length b ≡ length a → count_of (same_byte a b) 0 (length a) ≡ length a → b ≡ a
  file_itself l e = itself eqb 0 byte_self eqb-true a b l e

module _ (a b : List ℤ) where
  pub samples_same : (n : ℕ) → count_of (same_sample a b) 0 n ≡ n → take n a ≡ take n b
  samples_same n e = part_same equal_samples (pos 0) sample_self sample_equal a b 0 n e

  pub same_samples : (n : ℕ) → n ≤ length a → n ≤ length b → take n a ≡ take n b → count_of (same_sample a b) 0 n ≡ n
  same_samples n p q e = same_part equal_samples (pos 0) sample_self sample_equal a b 0 n (omega arith) (omega arith) e
