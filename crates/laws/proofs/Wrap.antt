-- Signed numbers and their 32 bits: the bits of a sum or difference are those of the bits' sum or difference, modulo
-- 2 ^ 32, so that both wrap in the same way.
use mathlib.Core.Path.{◌≡◌, refl, sym, ap, ap₂, ◌∙◌, subst}
use mathlib.Core.Bool.{Bool, true, false, cond}
use Prim.Native.Nat.{ℕ, zero, suc, ◌+◌, ◌-◌, ◌%◌, ◌^◌, ◌<◌}
use native.Mathlib.Omega.{arith}
use lib.IntN.{ℤ, pos, negsuc, ◌+ℤ◌, ◌-ℤ◌, sub_ℕ}
use lib.Dec.{ltb}
use mir.Syntax.{w32}
use mir.Val.{SFits, to_z, of_z}
use mir.ValLaws.{to_z-of_z, of_z-to_z, to_z-Fits}
use borrow.Author.Tests.{ltb-true, ltb-false}
use mathlib.Core.List.{List, [], ◌∷◌}
use lib.ListN.{get_or, take, length}
use Rattle.format.specs.Numbers.{value, low32, wrap32, plus, minus}
use Rattle.format.specs.Packed.{rebuilt}
use Rattle.format.specs.Encoding.{differences, first_value}
use Rattle.laws.proofs.Signs.{value_is}

-- the bits of a sum and of a difference are those of the operands, added and subtracted modulo 2 ^ 32
module _ (m n : ℕ) (f : m < 2 ^ 32) (g : n < 2 ^ 32) where
  low_by : (b : Bool) → ltb m n ≡ b → (m + (2 ^ 32 - n)) % 2 ^ 32 ≡ low32 (cond b (negsuc (n - suc m)) (pos (m - n)))
  low_by true e = omega (arith, ltb-true m n e)
  low_by false e = omega (arith, ltb-false m n e)

  low_sub : (m + (2 ^ 32 - n)) % 2 ^ 32 ≡ low32 (sub_ℕ m n)
  low_sub = low_by (ltb m n) refl

pub add_bits : (a b : ℤ) → SFits w32 a → SFits w32 b → (of_z w32 a + of_z w32 b) % 2 ^ 32 ≡ low32 (a +ℤ b)
add_bits (pos m) (pos n) f g = refl
add_bits (pos m) (negsuc n) f g = rw (← low_sub m (suc n) (omega (arith, f.sfits)) (omega (arith, g.sfits)))
add_bits (negsuc m) (pos n) f g = rw (← low_sub n (suc m) (omega (arith, g.sfits)) (omega (arith, f.sfits))) (omega (arith, f.sfits, g.sfits))
add_bits (negsuc m) (negsuc n) f g = omega (arith, f.sfits, g.sfits)

-- laws of the wrapped numbers
low_lt : (z : ℤ) → low32 z < 2 ^ 32
low_lt (pos n) = omega arith
low_lt (negsuc n) = omega arith

low_fits : (z : ℤ) → SFits w32 z → low32 z ≡ of_z w32 z
low_fits (pos n) f = omega (arith, f.sfits)
low_fits (negsuc n) f = omega (arith, f.sfits)

-- 32 bits mean what a word of the machine means
pub word_is : (c : ℕ) → c < 2 ^ 32 → value 32 c ≡ to_z w32 c
word_is c h = value_is 32 c h

wrap_word : (z : ℤ) → wrap32 z ≡ to_z w32 (low32 z)
wrap_word z = word_is (low32 z) (low_lt z)

pub wrap_fits : (z : ℤ) → SFits w32 z → wrap32 z ≡ z
wrap_fits z f = wrap_word z ∙ ap (to_z w32) (low_fits z f) ∙ to_z-of_z w32 z f

pub wrap_is : (z : ℤ) → SFits w32 (wrap32 z)
wrap_is z = subst (SFits w32) (sym (wrap_word z)) (to_z-Fits w32 (low32 z) (record { fits = low_lt z }))

-- the bits of a wrapped number
wrap_bits : (z : ℤ) → of_z w32 (wrap32 z) ≡ low32 z
wrap_bits z = ap (of_z w32) (wrap_word z) ∙ of_z-to_z w32 _ (record { fits = low_lt z })

sub_bits_back : (a b : ℤ) → SFits w32 a → SFits w32 b → (of_z w32 b + low32 (a -ℤ b)) % 2 ^ 32 ≡ of_z w32 a
sub_bits_back (pos m) (pos zero) f g = omega (arith, f.sfits, g.sfits)
sub_bits_back (pos m) (pos (suc n)) f g = rw (← low_sub m (suc n) (omega (arith, f.sfits)) (omega (arith, g.sfits))) (omega (arith, f.sfits, g.sfits))
sub_bits_back (pos m) (negsuc n) f g = omega (arith, f.sfits, g.sfits)
sub_bits_back (negsuc m) (pos zero) f g = omega (arith, low_sub 0 (suc m) (omega arith) (omega (arith, f.sfits)), f.sfits)
sub_bits_back (negsuc m) (pos (suc n)) f g = omega (arith, f.sfits, g.sfits)
sub_bits_back (negsuc m) (negsuc n) f g = rw (← low_sub (suc n) (suc m) (omega (arith, g.sfits)) (omega (arith, f.sfits))) (omega (arith, f.sfits, g.sfits))

of_lt : (z : ℤ) → SFits w32 z → of_z w32 z < 2 ^ 32
of_lt (pos n) f = omega (arith, f.sfits)
of_lt (negsuc n) f = omega arith

-- a sum's second part is determined
same_low : (a b c : ℕ) → a < 2 ^ 32 → b < 2 ^ 32 → c < 2 ^ 32 → (a + b) % 2 ^ 32 ≡ (a + c) % 2 ^ 32 → b ≡ c
same_low a b c f g h e = omega arith

pub sub_bits : (a b : ℤ) (r : ℕ) → SFits w32 a → SFits w32 b → r < 2 ^ 32 → (r + of_z w32 b) % 2 ^ 32 ≡ of_z w32 a → r ≡ low32 (a -ℤ b)
sub_bits a b r f g h e =
    let q : (of_z w32 b + r) % 2 ^ 32 ≡ (r + of_z w32 b) % 2 ^ 32 = omega arith in
    same_low (of_z w32 b) r (low32 (a -ℤ b)) (of_lt b g) h (low_lt (a -ℤ b)) (q ∙ e ∙ sym (sub_bits_back a b f g))

-- a difference, added again
pub difference_back : (a b : ℤ) → SFits w32 a → SFits w32 b → wrap32 (b +ℤ wrap32 (a -ℤ b)) ≡ a
difference_back a b f g =
    let d = wrap32 (a -ℤ b) in
    let e : of_z w32 d ≡ low32 (a -ℤ b) = wrap_bits (a -ℤ b) in
    wrap_word (b +ℤ d) ∙ ap (to_z w32) (sym (rw e at (add_bits b d g (wrap_is (a -ℤ b)))) ∙ sub_bits_back a b f g) ∙ to_z-of_z w32 a f

-- samples rebuilt from their differences
abbrev pub Fit : List ℤ → Type 0
Fit xs = (i : ℕ) → SFits w32 (get_or xs i (pos 0))

pub zero_fits : SFits w32 (pos 0)
zero_fits = record { sfits = omega arith }

pub rebuilt_back : (xs : List ℤ) → Fit xs → rebuilt (first_value xs) (differences xs) ≡ xs
unfolding rebuilt differences first_value
rebuilt_back [] f = refl
rebuilt_back (x ∷ []) f = refl
rebuilt_back (x ∷ y ∷ xs) f = ap (λ (l : List ℤ). x ∷ l) (ap (λ (z : ℤ). rebuilt z (differences (y ∷ xs))) (difference_back y x (f 1) (f 0)) ∙ rebuilt_back (y ∷ xs) (λ i. f (suc i)))

plus_inj : (x d e : ℤ) → SFits w32 x → SFits w32 d → SFits w32 e → plus x d ≡ plus x e → d ≡ e
plus_inj x d e fx fd fe q =
    let a : low32 (x +ℤ d) ≡ low32 (x +ℤ e) = sym (wrap_bits (x +ℤ d)) ∙ ap (of_z w32) q ∙ wrap_bits (x +ℤ e) in
    let b : of_z w32 d ≡ of_z w32 e = same_low (of_z w32 x) (of_z w32 d) (of_z w32 e) (of_lt x fx) (of_lt d fd) (of_lt e fe) (add_bits x d fx fd ∙ a ∙ sym (add_bits x e fx fe)) in
    sym (to_z-of_z w32 d fd) ∙ ap (to_z w32) b ∙ to_z-of_z w32 e fe

-- a sum, and its first part taken off again
pub sum_back : (x d : ℤ) → SFits w32 x → SFits w32 d → minus (plus x d) x ≡ d
sum_back x d fx fd =
    plus_inj x (minus (plus x d) x) d fx (wrap_is (plus x d -ℤ x)) fd (difference_back (plus x d) x (wrap_is (x +ℤ d)) fx)

-- the differences of rebuilt samples, all but the last
pub differences_rebuilt : (m : ℕ) (base : ℤ) (vs : List ℤ) → SFits w32 base → Fit vs → m < length vs → take m (differences (rebuilt base vs)) ≡ take m vs
unfolding differences rebuilt
differences_rebuilt zero base vs fb fv l = refl
differences_rebuilt (suc m) base [] fb fv l = absurd (omega arith)
differences_rebuilt (suc m) base (d ∷ []) fb fv l = absurd (omega arith)
differences_rebuilt (suc m) base (d ∷ e ∷ vs) fb fv l =
    ap₂ (λ (z : ℤ) (zs : List ℤ). z ∷ zs) (sum_back base d fb (fv 0)) (differences_rebuilt m (plus base d) (e ∷ vs) (wrap_is (base +ℤ d)) (λ i. fv (suc i)) (omega arith))
