-- Numbers of digits that are laid end to end, bytes that are stored, and the code of a number at a narrower width.
use Prim.Native.Nat.{ℕ, suc, ◌+◌, ◌-◌, ◌*◌, ◌%◌, ◌^◌, ◌≤◌, ◌<◌}
use mathlib.Core.Path.{◌≡◌, sym, ap, ap₂, ◌∙◌}
use mathlib.Core.List.{List, [], ◌∷◌, ◌++◌}
use native.Mathlib.Nat.{mod-eq_of_lt, mul-one, mul_comm, mul_assoc, add_comm, add-zero, add_assoc, add-mul, pow-zero, pow-suc, lt_of_lt_of_le}
use native.Mathlib.Numerals.{add-one}
use native.Mathlib.Omega.{arith}
use lib.IntN.{ℤ, pos, negsuc}
use lib.ListN.{length, get_or, take, drop, length-append}
use lib.Seq.{take-suc, take_at, length-take-le, sets, sets-eq}
use lib.Pow.{pow-add, pow_mono, not_mod}
use Rattle.format.specs.Numbers.{num, digits, le, code_of}
use Rattle.laws.proofs.Digits.{pow_mul, length_le, num_le}
use Rattle.laws.proofs.Signs.{Holds, code_lt}

-- a power by bytes and bits
pub pow_place : (at h : ℕ) → 2 ^ (at * 8 + h) ≡ 256 ^ at * 2 ^ h
pow_place at h = pow-add 2 (at * 8) h ∙ ap (λ (x : ℕ). x * 2 ^ h) (ap (λ (x : ℕ). 2 ^ x) (mul_comm at 8) ∙ pow_mul 2 8 at)

-- ---- digits
module _ (B : ℕ) where
  num_append : (xs ys : List ℕ) → num B (xs ++ ys) ≡ num B ys * B ^ length xs + num B xs
  unfolding num
  num_append [] ys = sym (add-zero (num B ys * B ^ 0) ∙ ap (λ (x : ℕ). num B ys * x) (pow-zero B) ∙ mul-one (num B ys))
  num_append (x ∷ xs) ys =
      ap (λ (n : ℕ). n * B + x) (num_append xs ys)
      ∙ ap (λ (n : ℕ). n + x) (add-mul (num B ys * B ^ length xs) (num B xs) B)
      ∙ add_assoc (num B ys * B ^ length xs * B) (num B xs * B) x
      ∙ ap (λ (n : ℕ). n + (num B xs * B + x)) (mul_assoc (num B ys) (B ^ length xs) B ∙ ap (λ (n : ℕ). num B ys * n) (sym (pow-suc B (length xs))))

  -- one digit more
  pub num_take : (xs : List ℕ) (k : ℕ) → k < length xs → num B (take (k + 1) xs) ≡ num B (take k xs) + get_or xs k 0 * B ^ k
  unfolding num
  num_take xs k l =
      let e : length (take k xs) ≡ k = length-take-le k xs (omega arith) in
      let z : 0 * B + get_or xs k 0 ≡ get_or xs k 0 = omega arith in
      ap (λ (n : ℕ). num B (take n xs)) (add-one k) ∙ ap (num B) (take-suc xs k 0 l)
      ∙ num_append (take k xs) (get_or xs k 0 ∷ [])
      ∙ add_comm ((0 * B + get_or xs k 0) * B ^ length (take k xs)) (num B (take k xs))
      ∙ ap₂ (λ (a n : ℕ). num B (take k xs) + a * B ^ n) z e

-- the four bytes of n stored at i, and those before them
module _ (s : List ℕ) (i n : ℕ) (room : i + 4 ≤ length s) where
  stored_split : sets s i (le 4 n) ≡ (take i s ++ le 4 n) ++ drop (i + 4) s
  unfolding le digits
  stored_split = sets-eq (le 4 n) s i room

  stored_length : length (take i s ++ le 4 n) ≡ i + 4
  stored_length = length-append (take i s) (le 4 n) ∙ ap₂ (λ (a b : ℕ). a + b) (length-take-le i s (omega arith)) (length_le 4 n)

  pub num_stored : n < 2 ^ 32 → num 256 (take (i + 4) (sets s i (le 4 n))) ≡ n * 256 ^ i + num 256 (take i s)
  num_stored l =
      ap (λ (x : List ℕ). num 256 (take (i + 4) x)) stored_split ∙ ap (num 256) (take_at (take i s ++ le 4 n) (drop (i + 4) s) (i + 4) stored_length)
      ∙ num_append 256 (take i s) (le 4 n)
      ∙ ap₂ (λ (a k : ℕ). a * 256 ^ k + num 256 (take i s)) (num_le 4 n l) (length-take-le i s (omega arith))

-- ---- the lowest b bits of a number that they hold are its code
pub low_code : (b : ℕ) → 1 ≤ b → b ≤ 32 → (z : ℤ) → Holds b z → code_of 32 z % 2 ^ b ≡ code_of b z
low_code b l u (pos n) h = mod-eq_of_lt (code_lt b l (pos n) h)
low_code b l u (negsuc n) h =
    let m : 2 ^ (b - 1) ≤ 2 ^ b = pow_mono {j = b} (omega arith) in
    let e : 32 ≡ 32 - b + b = omega arith in
    let d : 2 ^ 32 - suc n ≡ 2 ^ 32 - 1 - n = omega arith in
    let f : 2 ^ b - 1 - n ≡ 2 ^ b - suc n = omega arith in
    ap (λ (x : ℕ). x % 2 ^ b) (d ∙ ap (λ (x : ℕ). 2 ^ x - 1 - n) e) ∙ not_mod (32 - b) b (lt_of_lt_of_le h m) ∙ f
