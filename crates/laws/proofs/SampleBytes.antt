-- Samples as bytes, and back: the host boundary loses nothing, as 4 bytes hold a code of 32 bits.
use Prim.Native.Nat.{ℕ, zero, suc, ◌+◌, ◌*◌, ◌/◌, ◌^◌, ◌<◌, ◌≤◌}
use mathlib.Core.Path.{◌≡◌, sym, ap, ap₂, ◌∙◌, subst}
use mathlib.Core.List.{List, [], ◌++◌, append-nil, append_assoc}
use native.Mathlib.Nat.{add-zero, add-suc, zero-lt-suc}
use native.Mathlib.Omega.{arith}
use lib.ListN.{length, get_or, take, drop, take-append-drop, length-append, get_or-append}
use lib.Seq.{take_all, take_at, drop_at, length-take-le, get_or-append-add}
use lib.IntN.{ℤ, pos}
use Rattle.format.specs.Lists.{tab, joined, from}
use Rattle.format.specs.Numbers.{num, Below, le, num_at, value, code_of}
use Rattle.format.specs.Boundary.{samples_from, sample_bytes}
use Rattle.laws.proofs.Parts.{length_even, length_tab, get_d_tab, is_tab, part_at, joined_cong, joined_from, length_from}
use Rattle.laws.proofs.Each.{each_from}
use Rattle.laws.proofs.Digits.{length_le, num_le, le_num, num_lt}
use Rattle.laws.proofs.Signs.{code_lt, value_code, code_value}
use Rattle.laws.proofs.Wrap.{Fit}

-- ---- from samples

abbrev part : List ℤ → ℕ → List ℕ
part s k = le 4 (code_of 32 (get_or s k (pos 0)))

parts_length : (s : List ℤ) (n : ℕ) → length (joined (part s) n) ≡ 4 * n
parts_length s n = length_even (part s) 4 (λ k. length_le 4 (code_of 32 (get_or s k (pos 0)))) n

pub sample_bytes_length : (s : List ℤ) → length (sample_bytes s) ≡ 4 * length s
unfolding sample_bytes
sample_bytes_length s = parts_length s (length s)

parts_append : (xs ys : List ℤ) (n : ℕ) → joined (part (xs ++ ys)) (length xs + n) ≡ joined (part xs) (length xs) ++ joined (part ys) n
unfolding joined
parts_append xs ys zero =
    ap (joined (part (xs ++ ys))) (add-zero (length xs))
    ∙ joined_cong (part (xs ++ ys)) (part xs) (length xs) (λ k l. ap (λ (z : ℤ). le 4 (code_of 32 z)) (get_or-append xs ys (pos 0) k l))
    ∙ sym (append-nil (joined (part xs) (length xs)))
parts_append xs ys (suc n) =
    ap (joined (part (xs ++ ys))) (add-suc (length xs) n)
    ∙ ap₂ (λ (a b : List ℕ). a ++ b) (parts_append xs ys n) (ap (λ (z : ℤ). le 4 (code_of 32 z)) (get_or-append-add xs ys n (pos 0)))
    ∙ append_assoc (joined (part xs) (length xs)) (joined (part ys) n) (part ys n)

pub sample_bytes_append : (xs ys : List ℤ) → sample_bytes (xs ++ ys) ≡ sample_bytes xs ++ sample_bytes ys
unfolding sample_bytes
sample_bytes_append xs ys = ap (joined (part (xs ++ ys))) (length-append xs ys) ∙ parts_append xs ys (length ys)

-- the bytes of all samples but the first n
pub sample_bytes_drop : (n : ℕ) (s : List ℤ) → n ≤ length s → sample_bytes (drop n s) ≡ drop (4 * n) (sample_bytes s)
sample_bytes_drop n s h =
    let e : length (sample_bytes (take n s)) ≡ 4 * n = sample_bytes_length (take n s) ∙ ap (λ (k : ℕ). 4 * k) (length-take-le n s h) in
    sym (drop_at (sample_bytes (take n s)) (sample_bytes (drop n s)) (4 * n) e)
    ∙ ap (drop (4 * n)) (sym (sample_bytes_append (take n s) (drop n s)) ∙ ap sample_bytes (take-append-drop n s))

-- and of a part of them
pub sample_bytes_from : (i n : ℕ) (s : List ℤ) → i + n ≤ length s → sample_bytes (from i n s) ≡ from (4 * i) (4 * n) (sample_bytes s)
unfolding from
sample_bytes_from i n s h =
    let e : length (sample_bytes (take n (drop i s))) ≡ 4 * n = sample_bytes_length (take n (drop i s)) ∙ ap (λ (k : ℕ). 4 * k) (length_from i n s h) in
    sym (take_at (sample_bytes (take n (drop i s))) (sample_bytes (drop n (drop i s))) (4 * n) e)
    ∙ ap (take (4 * n)) (sym (sample_bytes_append (take n (drop i s)) (drop n (drop i s))) ∙ ap sample_bytes (take-append-drop n (drop i s)) ∙ sample_bytes_drop i s (omega arith))

sample_back : (s : List ℤ) → Fit s → (k : ℕ) → k < length s → value 32 (num_at (4 * k) 4 (sample_bytes s)) ≡ get_or s k (pos 0)
unfolding sample_bytes num_at
sample_back s f k l =
    let z = get_or s k (pos 0) in
    let e : from (4 * k) 4 (joined (part s) (length s)) ≡ part s k =
    ap (from (4 * k) 4) (sym (append-nil (joined (part s) (length s)))) ∙ part_at (part s) k (length s) (4 * k) 4 [] [] l (omega (arith, parts_length s k)) (sym (length_le 4 (code_of 32 z))) in
    ap (λ (x : List ℕ). value 32 (num 256 x)) e
    ∙ ap (value 32) (num_le 4 (code_of 32 z) (code_lt 32 (omega arith) z (f k).sfits))
    ∙ value_code 32 (omega arith) z (f k).sfits

pub samples_back : (s : List ℤ) → Fit s → samples_from (sample_bytes s) ≡ s
unfolding samples_from
samples_back s f =
    let n : length s ≡ length (sample_bytes s) / 4 = omega (arith, sample_bytes_length s) in
    is_tab (pos 0) (length (sample_bytes s) / 4) (λ k. value 32 (num_at (4 * k) 4 (sample_bytes s))) s n
    (λ k l. sym (sample_back s f k (omega arith)))

-- ---- from bytes, four to a sample

module _ (b : List ℕ) (byte : Below 256 b) (n : ℕ) (whole : length b ≡ 4 * n) where
  bytes_of : (k : ℕ) → k < n → le 4 (code_of 32 (value 32 (num_at (4 * k) 4 b))) ≡ from (4 * k) 4 b
  unfolding num_at
  bytes_of k l =
      let four : length (from (4 * k) 4 b) ≡ 4 = length_from (4 * k) 4 b (omega arith) in
      let below : Below 256 (from (4 * k) 4 b) = each_from (λ x. x < 256) 0 (zero-lt-suc 255) (4 * k) 4 b byte in
      let small : num 256 (from (4 * k) 4 b) < 2 ^ 32 = subst (λ (m : ℕ). num 256 (from (4 * k) 4 b) < 256 ^ m) four (num_lt 256 (from (4 * k) 4 b) below) in
      ap (le 4) (code_value 32 (num 256 (from (4 * k) 4 b)) small) ∙ le_num 4 (from (4 * k) 4 b) four below

  pub bytes_back : sample_bytes (samples_from b) ≡ b
  unfolding samples_from sample_bytes
  bytes_back =
      let f : ℕ → ℤ = λ k. value 32 (num_at (4 * k) 4 b) in
      let m = length b / 4 in
      let P : ℕ → List ℕ = λ k. le 4 (code_of 32 (get_or (tab m f) k (pos 0))) in
      let q : m ≡ n = omega arith in
      ap (joined P) (length_tab m f ∙ q)
      ∙ joined_cong P (λ k. from (4 * k) 4 b) n (λ k l. ap (λ (z : ℤ). le 4 (code_of 32 z)) (get_d_tab m f k (pos 0) (omega arith)) ∙ bytes_of k l)
      ∙ joined_from 4 b n
      ∙ take_all (4 * n) b (omega arith)
