-- What a turn of each loop over lent samples adds, as lists of samples.
use mathlib.Core.Path.{◌≡◌, refl, ap, ◌∙◌}
use mathlib.Core.List.{List, [], ◌∷◌, ◌++◌, map, append_assoc}
use Prim.Native.Nat.{ℕ, suc, ◌+◌, ◌*◌, ◌<◌, ◌≤◌}
use native.Mathlib.Nat.{add-mul, suc-mul, zero-mul}
use native.Mathlib.Omega.{arith}
use native.Mathlib.Numerals.{add-one}
use lib.Arith.{digits_lt}
use lib.IntN.{ℤ, pos}
use lib.ListN.{length, get_or, set, drop, length-drop, length-append}
use lib.Seq.{take-suc, get_or-drop}
use Rattle.format.specs.Lists.{joined, from}
use Rattle.laws.proofs.Parts.{length_from}
use Rattle.lent_samples.specs.Lent.{placed, strided, woven_from}
use Rattle.lent_samples.proofs.Weave.{length_placed, length_woven, placed_none, placed_more}

-- ---- one channel
-- where frame k of the n from `first` on has channel c
pub place_in : {m : ℕ} (first n k ch c : ℕ) → k < n → c < ch → (first + n) * ch ≤ m → (first + k) * ch + c < m
place_in first n k ch c g h l = let p : first + k < first + n = omega arith in omega (arith, digits_lt p h)

pub strided_none : (s : List ℤ) (p step skip : ℕ) (run : List ℤ) → s ≡ strided s p step (from skip 0 run)
unfolding strided from
strided_none s p step skip run = refl

strided_more : (s : List ℤ) (p step : ℕ) (xs : List ℤ) (x : ℤ) → strided s p step (xs ++ (x ∷ [])) ≡ set (strided s p step xs) (p + length xs * step) x
unfolding strided
strided_more s p step [] x = let e : p + 0 * step ≡ p = omega (arith, zero-mul step) in rw e
strided_more s p step (y ∷ xs) x =
    let e : p + suc (length xs) * step ≡ p + step + length xs * step = omega (arith, suc-mul (length xs) step) in
    rw e (strided_more (set s p y) (p + step) step xs x)

from_more : (i n : ℕ) (s : List ℤ) → i + n < length s → from i (n + 1) s ≡ from i n s ++ (get_or s (i + n) (pos 0) ∷ [])
unfolding from
from_more i n s h = rw (add-one n, take-suc (drop i s) n (pos 0) (omega (arith, length-drop i s)), get_or-drop i s n (pos 0))

pub strided_turn : (s run : List ℤ) (first step c skip k : ℕ) {i : ℕ} {v : ℤ} → skip + k < length run → i ≡ (first + k) * step + c → v ≡ get_or run (skip + k) (pos 0)
    → set (strided s (first * step + c) step (from skip k run)) i v ≡ strided s (first * step + c) step (from skip (k + 1) run)
strided_turn s run first step c skip k {i} h p e =
    let l : length (from skip k run) ≡ k = length_from skip k run (omega arith) in
    let q : i ≡ first * step + c + length (from skip k run) * step = rw l (omega (arith, add-mul first k step)) in
    rw (e, from_more skip k run h, strided_more, q)

-- ---- two channels
pub woven_none : (s : List ℤ) (i skip : ℕ) (a : List (List ℤ)) → s ≡ placed i (woven_from skip 0 a) s
unfolding woven_from joined
woven_none s i skip a = placed_none i s

two : (f : List ℤ → ℤ) (a : List (List ℤ)) → length a ≡ 2 → map f a ≡ f (get_or a 0 []) ∷ f (get_or a 1 []) ∷ []
two f [] e = absurd (omega arith)
two f (x ∷ []) e = absurd (omega arith)
two f (x ∷ y ∷ []) e = refl
two f (x ∷ y ∷ z ∷ a) e = absurd (omega arith)

woven_more : (skip k : ℕ) (a : List (List ℤ)) → length a ≡ 2
    → woven_from skip (k + 1) a ≡ (woven_from skip k a ++ (get_or (get_or a 0 []) (skip + k) (pos 0) ∷ [])) ++ (get_or (get_or a 1 []) (skip + k) (pos 0) ∷ [])
unfolding woven_from joined
woven_more skip k a e = rw add-one (rw (two (λ (ch : List ℤ). get_or ch (skip + k) (pos 0)) a e, append_assoc))

pub woven_long : (s : List ℤ) (a : List (List ℤ)) (first skip k : ℕ) → length a ≡ 2 → (first + k) * 2 ≤ length s
    → length (placed (first * 2) (woven_from skip k a) s) ≡ length s
woven_long s a first skip k g h =
    let l : length (woven_from skip k a) ≡ 2 * k = length_woven skip k a ∙ ap (λ (n : ℕ). n * k) g in
    length_placed (first * 2) (woven_from skip k a) s (omega arith)

-- two stores at the end of what was put are one frame more
pub woven_turn : (s : List ℤ) (a : List (List ℤ)) (first skip k : ℕ) {i j : ℕ} {x y : ℤ} → length a ≡ 2 → (first + k) * 2 + 2 ≤ length s
    → i ≡ (first + k) * 2 + 0 → j ≡ (first + k) * 2 + 1 → x ≡ get_or (get_or a 0 []) (skip + k) (pos 0) → y ≡ get_or (get_or a 1 []) (skip + k) (pos 0)
    → set (set (placed (first * 2) (woven_from skip k a) s) i x) j y ≡ placed (first * 2) (woven_from skip (k + 1) a) s
woven_turn s a first skip k {i} {j} g h u v e f =
    let W = woven_from skip k a in
    let X = get_or (get_or a 0 []) (skip + k) (pos 0) in
    let Y = get_or (get_or a 1 []) (skip + k) (pos 0) in
    let l : length W ≡ 2 * k = length_woven skip k a ∙ ap (λ (n : ℕ). n * k) g in
    let m : length (W ++ (X ∷ [])) ≡ length W + 1 = length-append W (X ∷ []) in
    let p : i ≡ first * 2 + length W = omega arith in
    let q : j ≡ first * 2 + length (W ++ (X ∷ [])) = omega arith in
    rw (e, f, q, p, woven_more skip k a g, placed_more (first * 2) (W ++ (X ∷ [])) s Y (omega arith), placed_more (first * 2) W s X (omega arith))
