-- Numbers in groups of seven bits: how many bytes they take, one by value, and what the checks tell of those that
-- are read.
use Prim.Native.Nat.{ℕ, suc, ◌/◌, ◌%◌, ◌^◌, ◌≤◌, ◌<◌}
use mathlib.Core.Path.{◌≡◌, refl, sym, ap, ◌∙◌}
use mathlib.Core.List.{List, map}
use native.Mathlib.Nat.{mod-lt, zero-lt-suc, div-le_self}
use native.Mathlib.Omega.{arith}
use lib.ListN.{length, get_or, take, drop, replicate, length-take, length-map, get_or-map}
use lib.Seq.{take_at, get_or-take}
use Rattle.format.specs.Refusals.{Fine}
use Rattle.format.specs.Lists.{over}
use Rattle.format.specs.Numbers.{num, Below}
use Rattle.format.specs.SevenBits.{seven_in, seven, seven_length, seven_value, check_seven}
use Rattle.laws.proofs.Digits.{num_drop}
use Rattle.laws.proofs.SevenBits.{in_last, in_more, seven_some, seven_most, value_few}
use Rattle.seven_bits.specs.Bytes.{sevens_of, bytes_of, Short}
use Rattle.seven_bits.specs.declared.writing.Sevens.{Sevens}

-- ---- writing: how long

in_length : (k n : ℕ) → 128 ≤ n → length (seven_in (suc k) n) ≡ suc (length (seven_in k (n / 128)))
in_length k n h = ap length (in_more k n h)

-- of each length, which numbers
pub seven_one : (n : ℕ) → n < 128 → 1 ≡ length (seven n)
unfolding seven
seven_one n h = sym (ap length (in_last 4 n h))

pub seven_two : (n : ℕ) → 128 ≤ n → n < 16384 → 2 ≡ length (seven n)
unfolding seven
seven_two n h l = omega (arith, in_length 3 n h, ap length (in_last 3 (n / 128) (omega arith)))

pub seven_three : (n : ℕ) → 16384 ≤ n → n < 2097152 → 3 ≡ length (seven n)
unfolding seven
seven_three n h l = omega (arith, in_length 3 n (omega arith), in_length 2 (n / 128) (omega arith), ap length (in_last 2 (n / 128 / 128) (omega arith)))

pub seven_four : (n : ℕ) → 2097152 ≤ n → n < 268435456 → 4 ≡ length (seven n)
unfolding seven
seven_four n h l =
    omega (arith, in_length 3 n (omega arith), in_length 2 (n / 128) (omega arith), in_length 1 (n / 128 / 128) (omega arith), ap length (in_last 1 (n / 128 / 128 / 128) (omega arith)))

pub seven_five : (n : ℕ) → 268435456 ≤ n → 5 ≡ length (seven n)
unfolding seven seven_in
seven_five n h =
    omega (arith, in_length 3 n (omega arith), in_length 2 (n / 128) (omega arith), in_length 1 (n / 128 / 128) (omega arith), in_length 0 (n / 128 / 128 / 128) (omega arith))

pub ruleset lengths = (seven_one, seven_two, seven_three, seven_four, seven_five)

-- ---- a number by value

module _ (w : Sevens) (n : ℕ) (is : w ≡ sevens_of n) where
  pub sevens_length : w.len ≡ length (seven n)
  sevens_length = ap (λ (v : Sevens). v.len) is

  pub sevens_bytes : bytes_of w ≡ seven n
  unfolding over
  sevens_bytes = ap (λ (v : Sevens). bytes_of v) is ∙ take_at (seven n) (drop (length (seven n)) (replicate 5 0)) (length (seven n)) refl

  pub sevens_short : Short w
  sevens_short = (omega (arith, sevens_length, seven_some n), omega (arith, sevens_length, seven_most n))

pub ruleset sevens = (sevens_length, sevens_bytes, sevens_short)

-- ---- reading

-- the groups' low bits
unfoldable pub lows : List ℕ → List ℕ
lows s = map (λ (b : ℕ). b % 128) (take (seven_length s) s)

pub value_lows : (s : List ℕ) → seven_value s ≡ num 128 (lows s)
unfolding seven_value lows
value_lows s = refl

pub lows_at : (s : List ℕ) (i : ℕ) → i < seven_length s → get_or (lows s) i 0 ≡ get_or s i 0 % 128
unfolding lows
lows_at s i h = get_or-map (λ (b : ℕ). b % 128) (take (seven_length s) s) i 0 ∙ ap (λ (b : ℕ). b % 128) (get_or-take (seven_length s) s i 0 h)

lows_below : (s : List ℕ) → Below 128 (lows s)
unfolding lows
lows_below s i = rw (get_or-map (λ (b : ℕ). b % 128) (take (seven_length s) s) i 0) (mod-lt _ (zero-lt-suc 127))

pub lows_length : (s : List ℕ) → seven_length s ≤ length s → length (lows s) ≡ seven_length s
unfolding lows
lows_length s h = length-map (take (seven_length s) s) (λ (b : ℕ). b % 128) ∙ length-take (seven_length s) s ∙ omega arith

-- of a number whose checks have passed, what lies above k of its groups has 32 bits
pub rest_lt : (s : List ℕ) → check_seven s ≡ Fine → (k : ℕ) → num 128 (drop k (lows s)) < 2 ^ 32
rest_lt s fine k = omega (arith, value_lows s, value_few s fine, num_drop 128 (lows s) (lows_below s) k, div-le_self (num 128 (lows s)) (128 ^ k))
