-- Mid and side of samples of equal parity are exact halves: twice each is the sum or the difference, so that left and
-- right come back, and neither leaves the samples' range.
use mathlib.Core.Path.{◌≡◌, refl, sym, ap, ap₂, ◌∙◌, subst}
use mathlib.Core.Bool.{Bool, true, ◌&&◌}
use mathlib.Core.List.{List, [], ◌∷◌, ◌++◌}
use Prim.Native.Nat.{ℕ, zero, suc, ◌+◌, ◌-◌, ◌/◌, ◌%◌, ◌^◌, ◌<◌, ◌≤◌}
use native.Mathlib.Omega.{arith}
use lib.IntN.{ℤ, pos, negsuc, neg_ℤ, nat_abs, ◌+ℤ◌, ◌-ℤ◌}
use lib.Signed.{mag, quot_z}
use lib.Pow.{pow_mono, pow_pos}
use lib.ListN.{length, get_or, replicate, take}
use mir.Syntax.{w32}
use mir.Val.{SFits}
use borrow.Author.Tests.{eqb-true, lt-ltb, ltb-true}
use Rattle.format.specs.Lists.{pairwise, every, last_or}
use Rattle.format.specs.Numbers.{wrap32, holds}
use Rattle.format.specs.MidSide.{left, right}
use Rattle.format.specs.Encoding.{padded, mid, side, equal_parity}
use Rattle.format.specs.declared.settings.SampleFormat.TheVariants.{Pcm}
use Rattle.laws.proofs.Tests.{and_left, and_right}
use Rattle.laws.proofs.Each.{each_pairwise}
use Rattle.laws.proofs.Signs.{Holds, AllHold}
use Rattle.laws.proofs.Wrap.{wrap_fits}
use Rattle.laws.proofs.Up.{up, up_inj, mag_up, up_low, up_high, up_add, up_sub, up_half}

-- the magnitude of a sum and of a difference
mag_add : (H : ℕ) (a b : ℤ) → H < 2 ^ 38 → mag a < H → mag b < H → mag (a +ℤ b) < H + H
mag_add H a b h f g =
    mag_up (H + H) (a +ℤ b) (omega arith) (omega (arith, up_add a b (omega arith) (omega arith), up_low H a f, up_low H b g))
    (omega (arith, up_add a b (omega arith) (omega arith), up_high H a f, up_high H b g))

mag_sub : (H : ℕ) (a b : ℤ) → H < 2 ^ 38 → mag a < H → mag b < H → mag (a -ℤ b) < H + H
mag_sub H a b h f g =
    mag_up (H + H) (a -ℤ b) (omega arith) (omega (arith, up_sub a b (omega arith) (omega arith), up_low H a f, up_high H b g))
    (omega (arith, up_sub a b (omega arith) (omega arith), up_high H a f, up_low H b g))

-- half of what lies under twice H lies under H
half_under : (H q n : ℕ) → q + q ≤ suc n → n < H + H → mag (neg_ℤ (pos q)) < H
half_under H zero n h b = omega arith
half_under H (suc q) n h b = omega arith

half_range : (H : ℕ) (z : ℤ) → mag z < H + H → mag (quot_z z (pos 2)) < H
half_range H (pos n) h = omega arith
half_range H (negsuc n) h = half_under H (suc n / 2) n (omega arith) h

-- mid and side of l and r below H lie there too
module _ (H : ℕ) (top : H ≤ 2 ^ 31) (l r : ℤ) (f : mag l < H) (g : mag r < H) where
  pub mid_range : mag (mid l r) < H
  unfolding mid
  mid_range = half_range H (l +ℤ r) (mag_add H l r (omega arith) f g)

  pub side_range : mag (side l r) < H
  unfolding side
  side_range = half_range H (l -ℤ r) (mag_sub H l r (omega arith) f g)

-- numbers of equal parity have an even sum
even_sum : (l r : ℤ) → mag l < 2 ^ 38 → mag r < 2 ^ 38 → nat_abs l % 2 ≡ nat_abs r % 2 → up (l +ℤ r) % 2 ≡ 0
even_sum (pos m) (pos n) f g e = omega (arith, up_add (pos m) (pos n) f g)
even_sum (pos m) (negsuc n) f g e = omega (arith, up_add (pos m) (negsuc n) f g)
even_sum (negsuc m) (pos n) f g e = omega (arith, up_add (negsuc m) (pos n) f g)
even_sum (negsuc m) (negsuc n) f g e = omega (arith, up_add (negsuc m) (negsuc n) f g)

-- the sum and the difference of m and s, which are not wrapped here, are numbers of 32 bits
abbrev pub Stay : ℤ → ℤ → Type 0
Stay m s = (holds 32 (m +ℤ s) ≡ true) × (holds 32 (m -ℤ s) ≡ true)

-- of l and r below H, of equal parity
module _ (H : ℕ) (top : H ≤ 2 ^ 31) (l r : ℤ) (f : mag l < H) (g : mag r < H) (eq : equal_parity l r ≡ true) where
  even : up (l +ℤ r) % 2 ≡ 0
  unfolding equal_parity
  even = even_sum l r (omega arith) (omega arith) (eqb-true (nat_abs l % 2) (nat_abs r % 2) eq)

  low_mid : mag (mid l r) < H
  low_mid = mid_range H top l r f g

  low_side : mag (side l r) < H
  low_side = side_range H top l r f g

  mid_twice : up (mid l r) + up (mid l r) ≡ up l + up r
  unfolding mid
  mid_twice =
      let a = up_add l r (omega arith) (omega arith) in
      let p = mag_add (2 ^ 31) l r (omega arith) (omega arith) (omega arith) in
      omega (arith, up_half (l +ℤ r) (omega arith) even)

  pub side_twice : up (side l r) + up (side l r) + up r ≡ up l + 2 ^ 41
  unfolding side
  side_twice =
      let a = up_add l r (omega arith) (omega arith) in
      let d = up_sub l r (omega arith) (omega arith) in
      let q = mag_sub (2 ^ 31) l r (omega arith) (omega arith) (omega arith) in
      let e = even in
      omega (arith, up_half (l -ℤ r) (omega arith) (omega arith))

  -- mid is what side leaves of l
  pub less_side : l -ℤ side l r ≡ mid l r
  less_side =
      let a = up_sub l (side l r) (omega arith) (omega (arith, low_side)) in
      up_inj (l -ℤ side l r) (mid l r) (omega (arith, mag_sub (2 ^ 31) l (side l r) (omega arith) (omega arith) (omega (arith, low_side)))) (omega (arith, low_mid))
      (omega (arith, mid_twice, side_twice))

  -- mid plus side and mid minus side are l and r, without wrapping
  pub sum_is : mid l r +ℤ side l r ≡ l
  sum_is =
      let m = mid l r in
      let s = side l r in
      let a = up_add m s (omega (arith, low_mid)) (omega (arith, low_side)) in
      up_inj (m +ℤ s) l (omega (arith, mag_add (2 ^ 31) m s (omega arith) (omega (arith, low_mid)) (omega (arith, low_side)))) (omega arith) (omega (arith, mid_twice, side_twice))

  pub difference_is : mid l r -ℤ side l r ≡ r
  difference_is =
      let m = mid l r in
      let s = side l r in
      let a = up_sub m s (omega (arith, low_mid)) (omega (arith, low_side)) in
      up_inj (m -ℤ s) r (omega (arith, mag_sub (2 ^ 31) m s (omega arith) (omega (arith, low_mid)) (omega (arith, low_side)))) (omega arith) (omega (arith, mid_twice, side_twice))

  pub left_back : left Pcm (mid l r) (side l r) ≡ l
  unfolding left
  left_back = ap wrap32 sum_is ∙ wrap_fits l (record { sfits = omega arith })

  pub right_back : right Pcm (mid l r) (side l r) ≡ r
  unfolding right
  right_back = ap wrap32 difference_is ∙ wrap_fits r (record { sfits = omega arith })

  -- so neither leaves 32 bits
  both_stay : Stay (mid l r) (side l r)
  both_stay = (ap (holds 32) sum_is ∙ lt-ltb (mag l) (2 ^ 31) (omega arith), ap (holds 32) difference_is ∙ lt-ltb (mag r) (2 ^ 31) (omega arith))

-- the half of twice w
half_twice : (z w : ℤ) → mag z < 2 ^ 38 → mag w < 2 ^ 38 → up z + 2 ^ 40 ≡ up w + up w → quot_z z (pos 2) ≡ w
half_twice z w f g e =
    up_inj (quot_z z (pos 2)) w (half_range (2 ^ 38) z (omega arith)) g (omega (arith, up_half z f (omega arith)))

-- mid and side whose sum and difference stay within 32 bits come back from left and right
module _ (m s : ℤ) (fm : SFits w32 m) (fs : SFits w32 s) (sum : holds 32 (m +ℤ s) ≡ true) (difference : holds 32 (m -ℤ s) ≡ true) where
  low_sum : mag (m +ℤ s) < 2 ^ 31
  low_sum = ltb-true (mag (m +ℤ s)) (2 ^ 31) sum

  low_difference : mag (m -ℤ s) < 2 ^ 31
  low_difference = ltb-true (mag (m -ℤ s)) (2 ^ 31) difference

  left_sum : left Pcm m s ≡ m +ℤ s
  unfolding left
  left_sum = wrap_fits (m +ℤ s) (record { sfits = low_sum })

  right_difference : right Pcm m s ≡ m -ℤ s
  unfolding right
  right_difference = wrap_fits (m -ℤ s) (record { sfits = low_difference })

  add : up (m +ℤ s) + 2 ^ 40 ≡ up m + up s
  add = up_add m s (omega (arith, fm.sfits)) (omega (arith, fs.sfits))

  sub : up (m -ℤ s) + up s ≡ up m + 2 ^ 40
  sub = up_sub m s (omega (arith, fm.sfits)) (omega (arith, fs.sfits))

  pub mid_back : mid (left Pcm m s) (right Pcm m s) ≡ m
  unfolding mid
  mid_back =
      ap₂ mid left_sum right_difference
      ∙ half_twice ((m +ℤ s) +ℤ (m -ℤ s)) m (omega (arith, mag_add (2 ^ 31) (m +ℤ s) (m -ℤ s) (omega arith) low_sum low_difference)) (omega (arith, fm.sfits))
      (omega (arith, add, sub, up_add (m +ℤ s) (m -ℤ s) (omega (arith, low_sum)) (omega (arith, low_difference))))

  pub side_back : side (left Pcm m s) (right Pcm m s) ≡ s
  unfolding side
  side_back =
      ap₂ side left_sum right_difference
      ∙ half_twice ((m +ℤ s) -ℤ (m -ℤ s)) s (omega (arith, mag_sub (2 ^ 31) (m +ℤ s) (m -ℤ s) (omega arith) low_sum low_difference)) (omega (arith, fs.sfits))
      (omega (arith, add, sub, up_sub (m +ℤ s) (m -ℤ s) (omega (arith, low_sum)) (omega (arith, low_difference))))

-- ---- the same of two channels
none_equal : (n : ℕ) → 0 ≡ suc n → ⊥
none_equal n e = omega arith

same_rest : (m n : ℕ) → suc m ≡ suc n → m ≡ n
same_rest m n e = omega arith

pub length_pairwise : {A B : Type 0} (g : A → A → B) (xs ys : List A) → length xs ≡ length ys → length (pairwise g xs ys) ≡ length xs
unfolding pairwise
length_pairwise g [] ys e = refl
length_pairwise g (x ∷ xs) [] e = absurd (none_equal _ (sym e))
length_pairwise g (x ∷ xs) (y ∷ ys) e = ap suc (length_pairwise g xs ys (same_rest _ _ e))

-- the first pairs
pub take_pairwise : {A B : Type 0} (f : A → A → B) (n : ℕ) (xs ys : List A) → take n (pairwise f xs ys) ≡ pairwise f (take n xs) (take n ys)
unfolding pairwise
take_pairwise f zero xs ys = refl
take_pairwise f (suc n) [] ys = refl
take_pairwise f (suc n) (x ∷ xs) [] = refl
take_pairwise {A} {B} f (suc n) (x ∷ xs) (y ∷ ys) = ap (λ (l : List B). f x y ∷ l) (take_pairwise f n xs ys)

-- every frame has equal parity
abbrev pub Even : List ℤ → List ℤ → Type 0
Even l r = every (λ (b : Bool). b) (pairwise equal_parity l r) ≡ true

even_head : (x y : ℤ) (l r : List ℤ) → Even (x ∷ l) (y ∷ r) → equal_parity x y ≡ true
unfolding every pairwise
even_head x y l r e = and_left (equal_parity x y) (every (λ (b : Bool). b) (pairwise equal_parity l r)) e

even_tail : (x y : ℤ) (l r : List ℤ) → Even (x ∷ l) (y ∷ r) → Even l r
unfolding every pairwise
even_tail x y l r e = and_right (equal_parity x y) (every (λ (b : Bool). b) (pairwise equal_parity l r)) e

module _ (depth : ℕ) (high : depth ≤ 32) where
  top : 2 ^ (depth - 1) ≤ 2 ^ 31
  top = pow_mono {j = 31} (omega arith)

  -- what holds of each pair holds of the channels
  pairs_hold : (f : ℤ → ℤ → ℤ) → ((x y : ℤ) → Holds depth x → Holds depth y → Holds depth (f x y)) → (l r : List ℤ) → AllHold depth l → AllHold depth r → AllHold depth (pairwise f l r)
  pairs_hold = each_pairwise (Holds depth) (pos 0) (pow_pos (depth - 1)) (Holds depth) (pos 0)

  pub mid_holds : (l r : List ℤ) → AllHold depth l → AllHold depth r → AllHold depth (pairwise mid l r)
  mid_holds = pairs_hold mid (mid_range (2 ^ (depth - 1)) top)

  pub side_holds : (l r : List ℤ) → AllHold depth l → AllHold depth r → AllHold depth (pairwise side l r)
  side_holds = pairs_hold side (side_range (2 ^ (depth - 1)) top)

  pub lefts_back : (l r : List ℤ) → length l ≡ length r → AllHold depth l → AllHold depth r → Even l r → pairwise (left Pcm) (pairwise mid l r) (pairwise side l r) ≡ l
  unfolding pairwise
  lefts_back [] r n p q e = refl
  lefts_back (x ∷ l) [] n p q e = absurd (none_equal _ (sym n))
  lefts_back (x ∷ l) (y ∷ r) n p q e =
      ap₂ (λ (z : ℤ) (zs : List ℤ). z ∷ zs) (left_back (2 ^ (depth - 1)) top x y (p 0) (q 0) (even_head x y l r e))
      (lefts_back l r (same_rest _ _ n) (λ j. p (suc j)) (λ j. q (suc j)) (even_tail x y l r e))

  pub rights_back : (l r : List ℤ) → length l ≡ length r → AllHold depth l → AllHold depth r → Even l r → pairwise (right Pcm) (pairwise mid l r) (pairwise side l r) ≡ r
  unfolding pairwise
  rights_back [] [] n p q e = refl
  rights_back [] (y ∷ r) n p q e = absurd (none_equal _ n)
  rights_back (x ∷ l) [] n p q e = absurd (none_equal _ (sym n))
  rights_back (x ∷ l) (y ∷ r) n p q e =
      ap₂ (λ (z : ℤ) (zs : List ℤ). z ∷ zs) (right_back (2 ^ (depth - 1)) top x y (p 0) (q 0) (even_head x y l r e))
      (rights_back l r (same_rest _ _ n) (λ j. p (suc j)) (λ j. q (suc j)) (even_tail x y l r e))

-- ---- at a frame
pub pairwise_at : {A B : Type 0} (f : A → A → B) (xs ys : List A) (i : ℕ) (d : A) (z : B) → i < length xs → i < length ys → get_or (pairwise f xs ys) i z ≡ f (get_or xs i d) (get_or ys i d)
unfolding pairwise
pairwise_at f [] ys i d z p q = absurd (omega arith)
pairwise_at f (x ∷ xs) [] i d z p q = absurd (omega arith)
pairwise_at f (x ∷ xs) (y ∷ ys) zero d z p q = refl
pairwise_at f (x ∷ xs) (y ∷ ys) (suc i) d z p q = pairwise_at f xs ys i d z (omega arith) (omega arith)

pub even_at_lem : (l r : List ℤ) (i : ℕ) → i < length l → i < length r → Even l r → equal_parity (get_or l i (pos 0)) (get_or r i (pos 0)) ≡ true
even_at_lem [] r i p q e = absurd (omega arith)
even_at_lem (x ∷ l) [] i p q e = absurd (omega arith)
even_at_lem (x ∷ l) (y ∷ r) zero p q e = even_head x y l r e
even_at_lem (x ∷ l) (y ∷ r) (suc i) p q e = even_at_lem l r i (omega arith) (omega arith) (even_tail x y l r e)

-- mid and side of equal parity: neither their sum nor their difference leaves 32 bits
pub pairs_stay : (depth : ℕ) → depth ≤ 32 → (l r : List ℤ) → AllHold depth l → AllHold depth r → Even l r → (i : ℕ) → i < length l → i < length r → Stay (get_or (pairwise mid l r) i (pos 0)) (get_or (pairwise side l r) i (pos 0))
pairs_stay depth high l r f g e i p q =
    rw (pairwise_at mid l r i (pos 0) (pos 0) p q, pairwise_at side l r i (pos 0) (pos 0) p q)
    (both_stay (2 ^ (depth - 1)) (top depth high) (get_or l i (pos 0)) (get_or r i (pos 0)) (f i) (g i) (even_at_lem l r i p q e))

-- ---- padding keeps the parity
module _ where
  even_join : (x y : ℤ) (l r : List ℤ) → equal_parity x y ≡ true → Even l r → Even (x ∷ l) (y ∷ r)
  unfolding every pairwise
  even_join x y l r e f = ap₂ (λ (a b : Bool). a && b) e f

  even_append : (l r a b : List ℤ) → length l ≡ length r → Even l r → Even a b → Even (l ++ a) (r ++ b)
  even_append [] [] a b n e f = f
  even_append [] (y ∷ r) a b n e f = absurd (none_equal _ n)
  even_append (x ∷ l) [] a b n e f = absurd (none_equal _ (sym n))
  even_append (x ∷ l) (y ∷ r) a b n e f = even_join x y (l ++ a) (r ++ b) (even_head x y l r e) (even_append l r a b (same_rest _ _ n) (even_tail x y l r e) f)

  even_replicate : (n : ℕ) (x y : ℤ) → equal_parity x y ≡ true → Even (replicate n x) (replicate n y)
  unfolding every pairwise
  even_replicate zero x y e = refl
  even_replicate (suc n) x y e = ap₂ (λ (a b : Bool). a && b) e (even_replicate n x y e)

  even_last : (d e : ℤ) (l r : List ℤ) → equal_parity d e ≡ true → length l ≡ length r → Even l r → equal_parity (last_or d l) (last_or e r) ≡ true
  unfolding last_or
  even_last d e [] [] q n f = q
  even_last d e [] (y ∷ r) q n f = absurd (none_equal _ n)
  even_last d e (x ∷ l) [] q n f = absurd (none_equal _ (sym n))
  even_last d e (x ∷ l) (y ∷ r) q n f = even_last x y l r (even_head x y l r f) (same_rest _ _ n) (even_tail x y l r f)

  zero_even : equal_parity (pos 0) (pos 0) ≡ true
  unfolding equal_parity
  zero_even = refl

  pub even_padded : (l r : List ℤ) → length l ≡ length r → Even l r → Even (padded l) (padded r)
  unfolding padded
  even_padded l r n e =
      even_append l r (replicate (512 - length l) (last_or (pos 0) l)) (replicate (512 - length r) (last_or (pos 0) r)) n e
      (subst (λ (k : ℕ). Even (replicate (512 - length l) (last_or (pos 0) l)) (replicate (512 - k) (last_or (pos 0) r))) n
      (even_replicate (512 - length l) (last_or (pos 0) l) (last_or (pos 0) r) (even_last (pos 0) (pos 0) l r zero_even n e)))
