-- The width that differences take: the least from 2 that holds all of them, where that is under 32; what it is by the
-- leading zeros of one number; and the width of a block that is read.
use Prim.Native.Nat.{ℕ, zero, suc, ◌+◌, ◌-◌, ◌^◌, ◌≤◌, ◌<◌, max}
use mathlib.Core.Path.{◌≡◌, refl, sym, ap, ◌∙◌, subst}
use mathlib.Core.Logic.{⊎_elim}
use mathlib.Core.Bool.{Bool, true, false, cond}
use mathlib.Core.List.{List}
use native.Mathlib.Nat.{eq-zero-or-pos, max-eq_right, le_trans, eq-or-lt_of_le, lt_of_not-le}
use native.Mathlib.Omega.{arith}
use lib.IntN.{ℤ, pos, negsuc}
use lib.Count.{count_leading_zeros, leading_of_zero, leading_top}
use lib.Dec.{leb}
use lib.Pow.{pow_mono}
use borrow.Author.Tests.{leb-true, lt-ltb, le-ltb}
use Rattle.format.specs.Lists.{every}
use Rattle.format.specs.Numbers.{holds}
use Rattle.format.specs.Packed.{coding, width_of, is_beyond}
use Rattle.format.specs.declared.packed.Coding.{Coding}
use Rattle.format.specs.declared.packed.Coding.TheVariants.{Differences, Raw, Beyond}
use Rattle.format.specs.Encoding.{least_from, least_width}
use Rattle.laws.proofs.Tests.{never}

least_holds : (n b : ℕ) (ds : List ℤ) → least_from n b ds < b + n → every (holds (least_from n b ds)) ds ≡ true
unfolding least_from
least_holds zero b ds h = absurd (omega arith)
least_holds (suc n) b ds h = by (every (holds b) ds) refl (least_holds n (b + 1) ds) h
  where
    by : (t : Bool) → every (holds b) ds ≡ t → (least_from n (b + 1) ds < b + 1 + n → every (holds (least_from n (b + 1) ds)) ds ≡ true)
        → cond t b (least_from n (b + 1) ds) < b + suc n → every (holds (cond t b (least_from n (b + 1) ds))) ds ≡ true
    by true e i l = e
    by false e i l = i (omega arith)

least_low : (n b : ℕ) (ds : List ℤ) → b ≤ least_from n b ds
unfolding least_from
least_low zero b ds = omega arith
least_low (suc n) b ds = by (every (holds b) ds) (least_low n (b + 1) ds)
  where
    by : (t : Bool) → b + 1 ≤ least_from n (b + 1) ds → b ≤ cond t b (least_from n (b + 1) ds)
    by true i = omega arith
    by false i = omega arith

pub width_low : (ds : List ℤ) → 2 ≤ least_width ds
unfolding least_width
width_low ds = least_low 30 2 ds

pub width_every : (ds : List ℤ) → least_width ds < 32 → every (holds (least_width ds)) ds ≡ true
unfolding least_width
width_every ds h = least_holds 30 2 ds h

-- ---- the width in one pass

-- m stands for vs: the widths that hold all of vs are those that hold m
abbrev pub StandsFor : ℕ → List ℤ → Type 0
StandsFor m vs = (b : ℕ) → every (holds b) vs ≡ holds b (pos m)

module _ (vs : List ℤ) (m : ℕ) (same : StandsFor m vs) where
  -- a width w that holds m, where none from b up to it does, is the least from b on
  least_at : (n b w : ℕ) → b ≤ w → w ≤ b + n → m < 2 ^ (w - 1) → ((j : ℕ) → b ≤ j → j < w → 2 ^ (j - 1) ≤ m) → least_from n b vs ≡ w
  unfolding least_from
  least_at zero b w l u h under = omega arith
  least_at (suc n) b w l u h under =
      ⊎_elim
      (λ e. ap here (same b ∙ lt-ltb m (2 ^ (b - 1)) (subst (λ (x : ℕ). m < 2 ^ (x - 1)) (sym e) h)) ∙ e)
      (λ q. ap here (same b ∙ le-ltb m (2 ^ (b - 1)) (under b (omega arith) q)) ∙ least_at n (b + 1) w (omega arith) (omega arith) h (λ j p. under j (omega arith)))
      (eq-or-lt_of_le l)
    where
      here : Bool → ℕ
      here t = cond t b (least_from n (b + 1) vs)

  -- j is the place of m's highest bit
  topped : (j : ℕ) → m < 2 ^ 31 → count_leading_zeros 32 m + suc j ≡ 32 → 2 ^ j ≤ m → m < 2 ^ suc j → least_width vs ≡ max 2 (33 - count_leading_zeros 32 m)
  unfolding least_width
  topped j u z l h =
      let low : j < 31 = lt_of_not-le (λ g. absurd (omega (arith, pow_mono {i = 31} {j = j} g))) in
      let w : 33 - count_leading_zeros 32 m ≡ suc (suc j) = omega arith in
      let e : suc j ≡ suc (suc j) - 1 = omega arith in
      least_at 30 2 (suc (suc j)) (omega arith) (omega arith) (subst (λ (x : ℕ). m < 2 ^ x) e h) (λ i p q. le_trans (pow_mono {i = i - 1} {j = j} (omega arith)) l)
      ∙ sym (ap (max 2) w ∙ max-eq_right (omega arith))

  -- the least width of vs is 33 less the leading zeros of m, and at least 2
  pub width_zeros : m < 2 ^ 31 → least_width vs ≡ max 2 (33 - count_leading_zeros 32 m)
  unfolding least_width
  width_zeros u = ⊎_elim none some (eq-zero-or-pos m)
    where
      none : m ≡ 0 → least_width vs ≡ max 2 (33 - count_leading_zeros 32 m)
      none e =
          least_at 30 2 2 (omega arith) (omega arith) (omega arith) (λ j p q. absurd (omega arith))
          ∙ ap (λ (z : ℕ). max 2 (33 - z)) (sym (ap (count_leading_zeros 32) e ∙ leading_of_zero 32))

      some : 0 < m → least_width vs ≡ max 2 (33 - count_leading_zeros 32 m)
      some p = let top = leading_top 32 m p (omega arith) in topped top.0 u top.1 top.2 top.3

-- ---- a width is the depth, or from 1 to 32
module _ (P : ℕ → Type 0) (small : (n : ℕ) → suc n ≤ 32 → P (suc n)) where
  width_by : (n : ℕ) (c : Coding) → width_of c ≡ suc n → (t : Bool) → leb (suc n) 32 ≡ t → is_beyond (cond t c Beyond) ≡ false → P (width_of (cond t c Beyond))
  unfolding is_beyond
  width_by n c w true q e = subst P (sym w) (small n (leb-true (suc n) 32 q))
  width_by n c w false q e = never e

  width_in_lem : (depth : ℕ) (z : ℤ) → P depth → is_beyond (coding depth z) ≡ false → P (width_of (coding depth z))
  unfolding coding width_of
  width_in_lem depth (pos zero) d = λ e. d
  width_in_lem depth (pos (suc n)) d = width_by n (Differences (suc n)) refl (leb (suc n) 32) refl
  width_in_lem depth (negsuc n) d = width_by n (Raw (suc n)) refl (leb (suc n) 32) refl

pub width_some : (depth : ℕ) (z : ℤ) → 1 ≤ depth → is_beyond (coding depth z) ≡ false → 1 ≤ width_of (coding depth z)
width_some = width_in_lem (λ w. 1 ≤ w) (λ n u. omega arith)

pub width_most : (depth : ℕ) (z : ℤ) → depth ≤ 32 → is_beyond (coding depth z) ≡ false → width_of (coding depth z) ≤ 32
width_most = width_in_lem (λ w. w ≤ 32) (λ n u. u)
