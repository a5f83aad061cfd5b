-- The room: samples that are compared by their 32 bits, and a turn of each loop over them.
use Rattle.std.proofs.Common.{◌≡◌, ℕ, ◌+◌, ◌*◌, ◌%◌, ◌^◌, ◌<◌, ◌≤◌, Bool, true, false, List, [], ◌∷◌, ◌++◌, length, get_or, take, drop, set, ℤ, pos, sym, refl, ap, ◌∙◌, add-one, arith, drop_of_length-le, get_or-set_other, take-suc, get_or-set_same, w32, to_z, of_z, eq-eqb}
use native.Mathlib.Decide.{ℕ_discrete}
use lib.Signed.{mag}
use mir.ValLaws.{to_z-of_z}
use Rattle.format.specs.Numbers.{code_of}
use Rattle.sample.specs.Equal.{equal_samples}
use Rattle.sample.proofs.Equals.{sample_equal, equal_bits}
use Rattle.laws.proofs.Parts.{left_now, is_tab}
use Rattle.replay_list.specs.Room.{mark_of, marked, are_marks, is_kept, summed, sum_from, sum_of}

-- ---- samples compared by their bits

bits_same : (x y : ℤ) → mag x < 2 ^ 31 → mag y < 2 ^ 31 → of_z w32 x ≡ of_z w32 y → equal_samples x y ≡ true
bits_same x y f g e = sym (equal_bits x y (record { sfits = f }) (record { sfits = g })) ∙ eq-eqb (of_z w32 x) (of_z w32 y) e

bits_differ : (x y : ℤ) → (of_z w32 x ≡ of_z w32 y → ⊥) → equal_samples x y ≡ false
bits_differ x y h = by (equal_samples x y) refl
  where
    by : (t : Bool) → equal_samples x y ≡ t → t ≡ false
    by true e = absurd (h (ap (of_z w32) (sample_equal x y e)))
    by false e = refl

-- ---- the marks from a place on

module _ (s : List ℤ) (i : ℕ) where
  kept_now : i < length s → is_kept i s ≡ are_marks i (get_or s i (pos 0) ∷ drop (i + 1) s)
  kept_now h = ap (are_marks i) (left_now s i (pos 0) h)

  module _ {x m : ℤ} {t : Bool} (h : i < length s) (said : is_kept i s ≡ t) (p : x ≡ get_or s i (pos 0)) (q : m ≡ mark_of i) where
    pub kept_turn : mag x < 2 ^ 31 → mag m < 2 ^ 31 → of_z w32 x ≡ of_z w32 m → is_kept (i + 1) s ≡ t
    unfolding are_marks
    kept_turn f g e = rw (kept_now h, ← p, ← q, bits_same x m f g e, ← add-one i) at said

    pub kept_stop : (of_z w32 x ≡ of_z w32 m → ⊥) → false ≡ t
    unfolding are_marks
    kept_stop ne = rw (kept_now h, ← p, ← q, bits_differ x m ne) at said

  pub kept_done : {t : Bool} → length s ≤ i → is_kept i s ≡ t → true ≡ t
  unfolding are_marks
  kept_done h said = rw (drop_of_length-le s h) at said

-- ---- the sum

sum_more : (sum : ℕ) (xs : List ℤ) (x : ℤ) → sum_from sum (xs ++ (x ∷ [])) ≡ summed (sum_from sum xs) x
unfolding sum_from
sum_more sum [] x = refl
sum_more sum (y ∷ ys) x = sum_more (summed sum y) ys x

pub sum_none : 0 ≡ sum_of []
unfolding sum_from
sum_none = refl

pub sum_turn : (s : List ℤ) (i : ℕ) {sum bits : ℕ} {x : ℤ} → bits ≡ code_of 32 (to_z w32 (of_z w32 x)) → x ≡ get_or s i (pos 0) → mag x < 2 ^ 31
    → i < length s → sum ≡ sum_of (take i s) → (sum * 1000003 + bits) % 4294967291 ≡ sum_of (take (i + 1) s)
sum_turn s i {sum} {bits} {x} q p f h r =
    let b : bits ≡ code_of 32 (get_or s i (pos 0)) = q ∙ ap (code_of 32) (to_z-of_z w32 x (record { sfits = f }) ∙ p) in
    rw (r, b, add-one i, take-suc s i (pos 0) h) (sym (sum_more 0 (take i s) (get_or s i (pos 0))))

-- ---- filling

pub mark_turn : {x : ℤ} → mag x < 2 ^ 31 → (l k : List ℤ) (i : ℕ) → i < length l → x ≡ mark_of i → k ≡ set l i (to_z w32 (of_z w32 x)) → ((j : ℕ) → j < i → get_or l j (pos 0) ≡ mark_of j)
    → (j : ℕ) → j < i + 1 → get_or k j (pos 0) ≡ mark_of j
mark_turn {x} f l k i h e q each j b =
    rw (q, to_z-of_z w32 x (record { sfits = f }))
    (elim (ℕ_discrete j i) [
      | yes p ↦ rw p (get_or-set_same l i x (pos 0) h ∙ e)
      | no p ↦ get_or-set_other l i j x (pos 0) p ∙ each j (omega arith)
    ])

pub all_marked : (l : List ℤ) (n : ℕ) → length l ≡ n → ((j : ℕ) → j < n → get_or l j (pos 0) ≡ mark_of j) → l ≡ marked n
all_marked l n e each = sym (is_tab (pos 0) n mark_of l e each)

pub ruleset marking = (mark_turn, all_marked)

pub ruleset keeping = (kept_turn, kept_stop, kept_done)
