-- A run and its codes are one number, written to two bases: digits of a number, and the number of digits, undo each
-- other, and so does packing, once over the width.
use Prim.Native.Nat.{ℕ, zero, suc, ◌+◌, ◌*◌, ◌/◌, ◌%◌, ◌^◌, ◌<◌}
use mathlib.Core.Path.{◌≡◌, refl, sym, ap, ap₂, ◌∙◌, subst}
use mathlib.Core.List.{List, [], ◌∷◌, ◌++◌}
use native.Mathlib.Nat.{mod-lt, mod-eq_of_lt, mul-zero, mul-suc, pow-zero, pow-suc, pow-succ', div-one, div-div-eq-div-mul, zero-lt-suc, mod-one, one-le-pow, zero-div, not-suc-le-zero, le_of_suc-le-suc}
use native.Mathlib.Omega.{arith}
use lib.ListN.{length, get_or, take, drop}
use lib.Seq.{take_all, take_at, drop_at}
use lib.Arith.{digits_lt, digits_div, digits_mod, mod-mul}
use lib.Pow.{pow-add, pow_pos}
use Rattle.format.specs.Lists.{from}
use Rattle.format.specs.Numbers.{num, digits, Below, le, num_at}
use Rattle.format.specs.Packed.{codes_in, run_of}

-- ---- powers

pub pow_mul : (n i j : ℕ) → n ^ (i * j) ≡ (n ^ i) ^ j
pow_mul n i zero = ap (λ (x : ℕ). n ^ x) (mul-zero i) ∙ pow-zero n ∙ sym (pow-zero (n ^ i))
pow_mul n i (suc j) = ap (λ (x : ℕ). n ^ x) (mul-suc i j) ∙ pow-add n (i * j) i ∙ ap (λ (x : ℕ). x * n ^ i) (pow_mul n i j) ∙ sym (pow-suc (n ^ i) j)

-- ---- digits to the base B

module _ (B : ℕ) where
  length_digits : (n N : ℕ) → length (digits B n N) ≡ n
  unfolding digits
  length_digits zero N = refl
  length_digits (suc n) N = ap suc (length_digits n (N / B))

  -- the digit at k
  pub get_d_digits : (n N k : ℕ) → k < n → get_or (digits B n N) k 0 ≡ N / B ^ k % B
  unfolding digits
  get_d_digits zero N k h = absurd (not-suc-le-zero h)
  get_d_digits (suc n) N zero h = ap (λ (x : ℕ). x % B) (sym (div-one N) ∙ ap (λ (x : ℕ). N / x) (sym (pow-zero B)))
  get_d_digits (suc n) N (suc k) h =
      get_d_digits n (N / B) k (le_of_suc-le-suc h)
      ∙ ap (λ (x : ℕ). x % B) (div-div-eq-div-mul N B (B ^ k) ∙ ap (λ (x : ℕ). N / x) (sym (pow-succ' B k)))

  -- a number of n digits below B is below the power; so is one of fewer
  pub num_take_lt : (n : ℕ) (xs : List ℕ) → Below B xs → num B (take n xs) < B ^ n
  unfolding num
  num_take_lt zero xs h = subst (λ (x : ℕ). 0 < x) (sym (pow-zero B)) (zero-lt-suc 0)
  num_take_lt (suc n) [] h = one-le-pow (suc n) B (h 0)
  num_take_lt (suc n) (x ∷ xs) h = subst (λ (y : ℕ). num B (take n xs) * B + x < y) (sym (pow-suc B n)) (digits_lt (num_take_lt n xs (λ i. h (suc i))) (h 0))

  pub num_lt : (xs : List ℕ) → Below B xs → num B xs < B ^ length xs
  num_lt xs h = subst (λ (ys : List ℕ). num B ys < B ^ length xs) (take_all (length xs) xs (omega arith)) (num_take_lt (length xs) xs h)

  -- digits, and back
  pub digits_num : (xs : List ℕ) → Below B xs → digits B (length xs) (num B xs) ≡ xs
  unfolding num digits
  digits_num [] h = refl
  digits_num (x ∷ xs) h =
      ap₂ (λ (y : ℕ) (ys : List ℕ). y ∷ ys) (digits_mod (num B xs) (h 0))
      (ap (digits B (length xs)) (digits_div (num B xs) (h 0)) ∙ digits_num xs (λ i. h (suc i)))

  -- what lies above the k lowest digits
  pub num_drop : (s : List ℕ) → Below B s → (k : ℕ) → num B s / B ^ k ≡ num B (drop k s)
  unfolding num
  num_drop s h zero = ap (λ (x : ℕ). num B s / x) (pow-zero B) ∙ div-one (num B s)
  num_drop [] h (suc k) = zero-div (B ^ suc k)
  num_drop (x ∷ s) h (suc k) =
      ap (λ (y : ℕ). (num B s * B + x) / y) (pow-succ' B k)
      ∙ sym (div-div-eq-div-mul (num B s * B + x) B (B ^ k))
      ∙ ap (λ (y : ℕ). y / B ^ k) (digits_div (num B s) (h 0))
      ∙ num_drop s (λ i. h (suc i)) k

  num_digits : 0 < B → (n N : ℕ) → num B (digits B n N) ≡ N % B ^ n
  unfolding num digits
  num_digits pos zero N = sym (ap (λ (x : ℕ). N % x) (pow-zero B) ∙ mod-one N)
  num_digits pos (suc n) N =
      ap (λ (x : ℕ). x * B + N % B) (num_digits pos n (N / B)) ∙ sym (mod-mul N (one-le-pow n B pos) pos) ∙ ap (λ (x : ℕ). N % x) (sym (pow-suc B n))

  pub digits_below : 0 < B → (n N : ℕ) → Below B (digits B n N)
  unfolding digits
  digits_below pos zero N i = pos
  digits_below pos (suc n) N zero = mod-lt N pos
  digits_below pos (suc n) N (suc i) = digits_below pos n (N / B) i

-- the same number to two bases: there and back is nothing
pub there_and_back : (B C n : ℕ) (xs : List ℕ) → Below B xs → 0 < C → B ^ length xs ≡ C ^ n → digits B (length xs) (num C (digits C n (num B xs))) ≡ xs
there_and_back B C n xs h pos e =
    ap (digits B (length xs)) (num_digits C pos n (num B xs) ∙ mod-eq_of_lt (subst (λ (x : ℕ). num B xs < x) e (num_lt B xs h)))
    ∙ digits_num B xs h

-- 512 codes of width b hold what 64 b bytes hold
same_room : (b : ℕ) → (2 ^ b) ^ 512 ≡ 256 ^ (64 * b)
same_room b = sym (pow_mul 2 b 512) ∙ ap (λ (x : ℕ). 2 ^ x) (omega arith) ∙ pow_mul 2 8 (64 * b)

pub unpack_pack : (b : ℕ) (cs : List ℕ) → length cs ≡ 512 → Below (2 ^ b) cs → codes_in b (run_of b cs) ≡ cs
unfolding codes_in run_of
unpack_pack b cs e h =
    subst (λ (n : ℕ). digits (2 ^ b) n (num 256 (digits 256 (64 * b) (num (2 ^ b) cs))) ≡ cs) e
    (there_and_back (2 ^ b) 256 (64 * b) cs h (zero-lt-suc 255) (ap (λ (n : ℕ). (2 ^ b) ^ n) e ∙ same_room b))

pub pack_unpack : (b : ℕ) (s : List ℕ) → length s ≡ 64 * b → Below 256 s → run_of b (codes_in b s) ≡ s
unfolding codes_in run_of
pack_unpack b s e h =
    subst (λ (n : ℕ). digits 256 n (num (2 ^ b) (digits (2 ^ b) 512 (num 256 s))) ≡ s) e
    (there_and_back 256 (2 ^ b) 512 s h (pow_pos b) (ap (λ (n : ℕ). 256 ^ n) e ∙ sym (same_room b)))

pub codes_low : (b : ℕ) (s : List ℕ) → Below (2 ^ b) (codes_in b s)
unfolding codes_in
codes_low b s = digits_below (2 ^ b) (pow_pos b) 512 (num 256 s)

pub length_bytes : (b : ℕ) (cs : List ℕ) → length (run_of b cs) ≡ 64 * b
unfolding run_of
length_bytes b cs = length_digits 256 (64 * b) (num (2 ^ b) cs)

pub length_codes : (b : ℕ) (s : List ℕ) → length (codes_in b s) ≡ 512
unfolding codes_in
length_codes b s = length_digits (2 ^ b) 512 (num 256 s)

-- ---- little-endian numbers
pub length_le : (n N : ℕ) → length (le n N) ≡ n
unfolding le
length_le n N = length_digits 256 n N

pub num_le : (n N : ℕ) → N < 256 ^ n → num 256 (le n N) ≡ N
unfolding le
num_le n N h = num_digits 256 (zero-lt-suc 255) n N ∙ mod-eq_of_lt h

-- a number that was written at i is read there
pub num_at_lem : (a c : List ℕ) (i n N : ℕ) → length a ≡ i → N < 256 ^ n → num_at i n (a ++ (le n N ++ c)) ≡ N
unfolding num_at from
num_at_lem a c i n N e h = rw (drop_at a (le n N ++ c) i e, take_at (le n N) c n (length_le n N)) (num_le n N h)

pub le_num : (n : ℕ) (s : List ℕ) → length s ≡ n → Below 256 s → le n (num 256 s) ≡ s
unfolding le
le_num n s e h = subst (λ (k : ℕ). digits 256 k (num 256 s) ≡ s) e (digits_num 256 s h)
