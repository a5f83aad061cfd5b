-- Document 02, L7: numbers in groups of seven bits. What is written is read back, whatever lies after it; each number of
-- 32 bits has one encoding that passes; which refusal a bad one gets; and signed numbers, folded and unfolded.
use Prim.Native.Nat.{ℕ, zero, suc, ◌+◌, ◌-◌, ◌*◌, ◌/◌, ◌%◌, ◌^◌, ◌≤◌, ◌<◌}
use mathlib.Core.Path.{◌≡◌, refl, sym, ap, ap₂, ◌∙◌, subst}
use mathlib.Core.Bool.{Bool, true, false, ◌&&◌, cond}
use mathlib.Core.List.{List, [], ◌∷◌, ◌++◌, map}
use native.Mathlib.Omega.{arith}
use native.Mathlib.Decide.{dec_lt}
use lib.ListN.{length, take, drop, get_or, length-append, take-append-drop, get_or-append}
use lib.Seq.{take_at, drop_at, get_or-take, get_or-drop}
use lib.IntN.{ℤ, pos, negsuc}
use lib.Signed.{mag}
use lib.Dec.{ltb, eqb}
use borrow.Author.Tests.{ltb-true, ltb-false, eqb-true, eqb-false, lt-ltb, le-ltb, eq-eqb, ne_eqb}
use Rattle.format.specs.Numbers.{num, Below}
use Rattle.format.specs.Refusals.{Fine, No, nowhere, refuse, ◌then◌}
use Rattle.format.specs.SevenBits.{seven_in, seven, marked, seven_length, seven_value, check_seven, past, folded, unfolded}
use Rattle.format.specs.declared.refusals.Refusal.TheVariants.{NumberCut, NumberLong, NumberTooLarge}
use Rattle.laws.proofs.Tests.{never, and_left, and_right}
use Rattle.laws.proofs.Chain.{stop, stop_then, and_both}
use Rattle.laws.proofs.Checks.{pass, passed, ◌and_then◌, first_fine, others_fine, unsaid, ◌nor◌, said_after_lem, said_before}
use Rattle.laws.proofs.Located.{refused_so}

-- ---- a byte that ends a number, or does not

last_or_more : {P : Type 0} (b : ℕ) → (b < 128 → P) → (128 ≤ b → P) → P
last_or_more b f g = elim (dec_lt b 128) [ yes h ↦ f h | no h ↦ g (omega arith) ]

in_one : (n : ℕ) → seven_in 0 n ≡ n ∷ []
unfolding seven_in
in_one n = refl

pub in_last : (k n : ℕ) → n < 128 → seven_in k n ≡ n ∷ []
unfolding seven_in
in_last zero n l = refl
in_last (suc k) n l = rw (lt-ltb n 128 l)

pub in_more : (k n : ℕ) → 128 ≤ n → seven_in (suc k) n ≡ (128 + n % 128) ∷ seven_in k (n / 128)
unfolding seven_in
in_more k n l = rw (le-ltb n 128 l)

marked_none : (s : List ℕ) → marked 0 s ≡ 0
unfolding marked
marked_none s = refl

marked_last : (k b : ℕ) (s : List ℕ) → b < 128 → marked (suc k) (b ∷ s) ≡ 0
unfolding marked
marked_last k b s l = rw (lt-ltb b 128 l)

marked_more : (k b : ℕ) (s : List ℕ) → 128 ≤ b → marked (suc k) (b ∷ s) ≡ suc (marked k s)
unfolding marked
marked_more k b s l = rw (le-ltb b 128 l)

-- so many bytes have the high bit set, at most
pub marked_most : (k : ℕ) (s : List ℕ) → marked k s ≤ k
unfolding marked
marked_most zero s = omega arith
marked_most (suc k) [] = omega arith
marked_most (suc k) (b ∷ s) =
    last_or_more b (λ l. omega (arith, marked_last k b s l)) (λ l. omega (arith, marked_more k b s l, marked_most k s))

-- the number that bytes hold
abbrev held : List ℕ → ℕ
held s = num 128 (map (λ (b : ℕ). b % 128) s)

-- what k + 1 bytes hold, the last of them below 16, is below this
abbrev most : ℕ → ℕ
most zero = 16
most (suc k) = most k * 128

most_some : (k : ℕ) → 16 ≤ most k
most_some zero = omega arith
most_some (suc k) = omega (arith, most_some k)

-- ---- there and back

marked_in : (k n : ℕ) (t : List ℕ) → suc (marked k (seven_in k n ++ t)) ≡ length (seven_in k n)
marked_in zero n t = rw (in_one, marked_none)
marked_in (suc k) n t =
    last_or_more n (λ l. rw (in_last (suc k) n l, marked_last k n t l))
    (λ l. rw (in_more k n l, marked_more k (128 + n % 128) (seven_in k (n / 128) ++ t) (omega arith)) (ap suc (marked_in k (n / 128) t)))

held_in : (k n : ℕ) → n < most k → held (seven_in k n) ≡ n
unfolding num
held_in zero n h = rw in_one (omega arith)
held_in (suc k) n h =
    last_or_more n (λ l. rw (in_last (suc k) n l) (omega arith))
    (λ l. rw (in_more k n l) (omega (arith, held_in k (n / 128) (omega arith))))

-- the last of k + 1 bytes
fifth_in : (k n : ℕ) → n < most k → length (seven_in k n) ≡ suc k → get_or (seven_in k n) k 0 < 16
fifth_in zero n h e = rw in_one h
fifth_in (suc k) n h e =
    last_or_more n (λ l. let q : 1 ≡ suc (suc k) = rw (in_last (suc k) n l) at e in absurd (omega arith))
    (λ l. let q : suc (length (seven_in k (n / 128))) ≡ suc (suc k) = rw (in_more k n l) at e in rw (in_more k n l) (fifth_in k (n / 128) (omega arith) (omega arith)))

-- the last byte of a number that is not zero
last_in : (k n : ℕ) → 0 < n → 0 < get_or (seven_in k n) (length (seven_in k n) - 1) 0
last_in zero n h = rw in_one h
last_in (suc k) n h =
    last_or_more n (λ l. rw (in_last (suc k) n l) h)
    (λ l.
    let q = marked_in k (n / 128) [] in
    let e : suc (length (seven_in k (n / 128))) - 1 ≡ suc (length (seven_in k (n / 128)) - 1) = omega arith in
    rw (in_more k n l, e) (last_in k (n / 128) (omega arith)))

-- with anything behind it
module _ (n : ℕ) (few : n < 2 ^ 32) (t : List ℕ) where
  pub seven_length_lem : seven_length (seven n ++ t) ≡ length (seven n)
  unfolding seven seven_length
  seven_length_lem = marked_in 4 n t

  pub seven_value_lem : seven_value (seven n ++ t) ≡ n
  unfolding seven seven_value
  seven_value_lem = ap held (take_at (seven n) t (seven_length (seven n ++ t)) (sym seven_length_lem)) ∙ held_in 4 n few

  by_fifth : (b : Bool) → eqb (seven_length (seven n ++ t)) 5 ≡ b → (b && ltb 15 (get_or (seven n ++ t) 4 0)) ≡ false
  unfolding seven
  by_fifth true e =
      let l : length (seven n) ≡ 5 = sym seven_length_lem ∙ eqb-true _ 5 e in
      let q = get_or-append (seven n) t 0 4 (omega arith) in
      let h : get_or (seven n) 4 0 < 16 = fifth_in 4 n few l in
      le-ltb 15 (get_or (seven n ++ t) 4 0) (omega arith)
  by_fifth false e = refl

  by_last : (b : Bool) → ltb 1 (seven_length (seven n ++ t)) ≡ b → (b && eqb (get_or (seven n ++ t) (seven_length (seven n ++ t) - 1) 0) 0) ≡ false
  unfolding seven
  by_last true e =
      let m = length (seven n) in
      let l : 1 < m = subst (λ (x : ℕ). 1 < x) seven_length_lem (ltb-true 1 _ e) in
      let q = ap (λ (x : ℕ). get_or (seven n ++ t) (x - 1) 0) seven_length_lem ∙ get_or-append (seven n) t 0 (m - 1) (omega arith) in
      let some : 0 < n = elim (dec_lt n 128) [ yes h ↦ absurd (omega (arith, ap length (in_last 4 n h))) | no h ↦ omega arith ] in
      let h : 0 < get_or (seven n) (m - 1) 0 = last_in 4 n some in
      ne_eqb (get_or (seven n ++ t) (seven_length (seven n ++ t) - 1) 0) 0 (λ z. omega (arith, q))
  by_last false e = refl

  pub seven_fine : check_seven (seven n ++ t) ≡ Fine
  unfolding check_seven
  seven_fine =
      pass _ NumberCut (le-ltb (length (seven n ++ t)) (seven_length (seven n ++ t)) (omega (arith, seven_length_lem, length-append (seven n) t)))
      and_then pass _ NumberTooLarge (by_fifth (eqb (seven_length (seven n ++ t)) 5) refl)
      and_then pass _ NumberLong (by_last (ltb 1 (seven_length (seven n ++ t))) refl)

  pub seven_past : past (seven n ++ t) 1 ≡ t
  unfolding past
  seven_past = drop_at (seven n) t (seven_length (seven n ++ t)) (sym seven_length_lem)

-- from 1 to 5 bytes
pub seven_some : (n : ℕ) → 1 ≤ length (seven n)
unfolding seven
seven_some n = omega (arith, marked_in 4 n [])

pub seven_most : (n : ℕ) → length (seven n) ≤ 5
unfolding seven
seven_most n = omega (arith, marked_in 4 n [], marked_most 4 (seven_in 4 n ++ []))

-- ---- one encoding

zero_in : (k : ℕ) → seven_in k 0 ≡ 0 ∷ []
zero_in k = in_last k 0 (omega arith)

only_zero : (m : ℕ) → ◌≡◌ {A = ℕ} (get_or (0 ∷ []) m 0) 0
only_zero zero = refl
only_zero (suc m) = refl

-- m bytes with the high bit set, and the last one
held_lt : (k : ℕ) (s : List ℕ) (m : ℕ) → m ≡ marked k s → (m ≡ k → get_or s k 0 < 16) → held (take (suc m) s) < most k
unfolding num
held_lt k [] m e small = omega (arith, most_some k)
held_lt zero (b ∷ s) zero e small = let h : b < 16 = small refl in omega arith
held_lt zero (b ∷ s) (suc m) e small = absurd (omega (arith, marked_none (b ∷ s)))
held_lt (suc k) (b ∷ s) zero e small = omega (arith, most_some k)
held_lt (suc k) (b ∷ s) (suc m) e small =
    last_or_more b (λ l. absurd (omega (arith, marked_last k b s l)))
    (λ l. omega (arith, held_lt k s m (omega (arith, marked_more k b s l)) (λ q. small (ap suc q))))

one_in : (k : ℕ) (s : List ℕ) (m : ℕ) → m ≡ marked k s → Below 256 s → m < length s → (m ≡ k → get_or s k 0 < 16) → (0 < m → 0 < get_or s m 0)
    → take (suc m) s ≡ seven_in k (held (take (suc m) s))
unfolding num
one_in k [] m e byte long small last = absurd (omega arith)
one_in zero (b ∷ s) zero e byte long small last =
    let h : b < 16 = small refl in
    let q : b ≡ 0 * 128 + b % 128 = omega arith in
    ap (λ (x : ℕ). x ∷ []) q ∙ sym (in_one (0 * 128 + b % 128))
one_in zero (b ∷ s) (suc m) e byte long small last = absurd (omega (arith, marked_none (b ∷ s)))
one_in (suc k) (b ∷ s) zero e byte long small last =
    last_or_more b
    (λ l.
    let q : b ≡ 0 * 128 + b % 128 = omega arith in
    ap (λ (x : ℕ). x ∷ []) q ∙ sym (in_last (suc k) (0 * 128 + b % 128) (omega arith)))
    (λ l. absurd (omega (arith, marked_more k b s l)))
one_in (suc k) (b ∷ s) (suc m) e byte long small last =
    last_or_more b (λ l. absurd (omega (arith, marked_last k b s l)))
    (λ l.
    let v = held (take (suc m) s) in
    let end : 0 < get_or s m 0 = last (omega arith) in
    let i = one_in k s m (omega (arith, marked_more k b s l)) (λ j. byte (suc j)) (omega arith) (λ q. small (ap suc q)) (λ q. end) in
    let none : v ≡ 0 → ⊥ = λ z. let q : get_or s m 0 ≡ 0 = sym (get_or-take (suc m) s m 0 (omega arith)) ∙ ap (λ (x : List ℕ). get_or x m 0) (i ∙ ap (seven_in k) z ∙ zero_in k) ∙ only_zero m in omega arith in
    let low : b < 256 = byte 0 in
    let some : 0 < v = elim (dec_lt 0 v) [ yes h ↦ h | no h ↦ absurd (none (omega arith)) ] in
    let front : b ≡ 128 + (v * 128 + b % 128) % 128 = omega arith in
    let rest : v ≡ (v * 128 + b % 128) / 128 = omega arith in
    ap₂ (λ (x : ℕ) (xs : List ℕ). x ∷ xs) front (i ∙ ap (seven_in k) rest) ∙ sym (in_more k (v * 128 + b % 128) (omega arith)))

-- ---- what the checks tell of bytes

-- they end too early
abbrev pub IsCut : List ℕ → Type 0
IsCut s = length s < seven_length s

-- all five are there, and the last of them is above 15
abbrev pub IsLarge : List ℕ → Type 0
IsLarge s = (seven_length s ≤ length s) × (seven_length s ≡ 5) × (15 < get_or s 4 0)

-- all are there, and the last of several is zero
abbrev pub IsLong : List ℕ → Type 0
IsLong s = (seven_length s ≤ length s) × (1 < seven_length s) × (get_or s (seven_length s - 1) 0 ≡ 0)

module _ (s : List ℕ) where
  -- at most five bytes
  pub length_most : seven_length s ≤ 5
  unfolding seven_length
  length_most = omega (arith, marked_most 4 s)

  -- no two of them
  pub large_not_cut : IsLarge s → IsCut s → ⊥
  large_not_cut a b = let l = a.0 in omega arith

  pub long_not_cut : IsLong s → IsCut s → ⊥
  long_not_cut a b = let l = a.0 in omega arith

  pub long_not_large : IsLong s → IsLarge s → ⊥
  long_not_large a b =
      let five = b.1 in
      let large = b.2 in
      let e : seven_length s - 1 ≡ 4 = omega arith in
      let z : get_or s 4 0 ≡ 0 = ap (λ (i : ℕ). get_or s i 0) (sym e) ∙ a.2 in
      omega arith

  abbrev cut : Bool
  cut = ltb (length s) (seven_length s)

  abbrev large : Bool
  large = eqb (seven_length s) 5 && ltb 15 (get_or s 4 0)

  abbrev long : Bool
  long = ltb 1 (seven_length s) && eqb (get_or s (seven_length s - 1) 0) 0

  not_cut : cut ≡ false → seven_length s ≤ length s
  not_cut e = ltb-false (length s) (seven_length s) e

  large_so : large ≡ true → (seven_length s ≡ 5) × (15 < get_or s 4 0)
  large_so e = (eqb-true (seven_length s) 5 (and_left _ _ e), ltb-true 15 (get_or s 4 0) (and_right (eqb (seven_length s) 5) _ e))

  long_so : long ≡ true → (1 < seven_length s) × (get_or s (seven_length s - 1) 0 ≡ 0)
  long_so e = (ltb-true 1 (seven_length s) (and_left _ _ e), eqb-true (get_or s (seven_length s - 1) 0) 0 (and_right (ltb 1 (seven_length s)) _ e))

  so_large : IsLarge s → large ≡ true
  so_large a = and_both _ _ (eq-eqb _ 5 a.1) (lt-ltb 15 _ a.2)

  so_long : IsLong s → long ≡ true
  so_long a = and_both _ _ (lt-ltb 1 _ a.1) (eq-eqb _ 0 a.2)

  or_not : (b : Bool) → (b ≡ true → ⊥) → b ≡ false
  or_not true f = absurd (f refl)
  or_not false f = refl

  -- it passes exactly where it is none of these
  pub none_fine : (IsCut s → ⊥) → (IsLarge s → ⊥) → (IsLong s → ⊥) → check_seven s ≡ Fine
  unfolding check_seven
  none_fine a b c =
      let p = or_not cut (λ e. a (ltb-true _ _ e)) in
      pass cut NumberCut p
      and_then pass large NumberTooLarge (or_not large (λ e. b (not_cut p, (large_so e).0, (large_so e).1)))
      and_then pass long NumberLong (or_not long (λ e. c (not_cut p, (long_so e).0, (long_so e).1)))

  -- 60
  pub cut_refused : IsCut s → check_seven s ≡ No NumberCut nowhere
  unfolding check_seven refuse ◌then◌
  cut_refused a = rw (lt-ltb (length s) (seven_length s) a)

  pub refused_cut : check_seven s ≡ No NumberCut nowhere → IsCut s
  unfolding check_seven
  refused_cut e =
      let q = said_before NumberCut nowhere (refuse cut NumberCut) _ (unsaid NumberCut NumberTooLarge large refl nor unsaid NumberCut NumberLong long refl) e in
      ltb-true _ _ (refused_so cut NumberCut NumberCut nowhere q).0

  -- 62
  pub large_refused : IsLarge s → check_seven s ≡ No NumberTooLarge nowhere
  unfolding check_seven
  large_refused a = pass cut NumberCut (le-ltb (length s) (seven_length s) a.0) and_then sym (stop_then NumberTooLarge large _ (so_large a))

  pub refused_large : check_seven s ≡ No NumberTooLarge nowhere → IsLarge s
  unfolding check_seven
  refused_large e =
      let q = said_after_lem NumberTooLarge nowhere (refuse cut NumberCut) _ (unsaid NumberTooLarge NumberCut cut refl) e in
      let r = said_before NumberTooLarge nowhere (refuse large NumberTooLarge) _ (unsaid NumberTooLarge NumberLong long refl) q.1 in
      let l = large_so (refused_so large NumberTooLarge NumberTooLarge nowhere r).0 in
      (not_cut (passed _ _ q.0), l.0, l.1)

  -- 61
  pub long_refused : IsLong s → check_seven s ≡ No NumberLong nowhere
  unfolding check_seven
  long_refused a =
      pass cut NumberCut (le-ltb (length s) (seven_length s) a.0)
      and_then pass large NumberTooLarge (or_not large (λ e. long_not_large a (a.0, (large_so e).0, (large_so e).1)))
      and_then sym (stop NumberLong long (so_long a))

  pub refused_long : check_seven s ≡ No NumberLong nowhere → IsLong s
  unfolding check_seven
  refused_long e =
      let q = said_after_lem NumberLong nowhere (refuse cut NumberCut) _ (unsaid NumberLong NumberCut cut refl) e in
      let r = said_after_lem NumberLong nowhere (refuse large NumberTooLarge) _ (unsaid NumberLong NumberTooLarge large refl) q.1 in
      let l = long_so (refused_so long NumberLong NumberLong nowhere r.1).0 in
      (not_cut (passed _ _ q.0), l.0, l.1)

  -- where it passes
  module _ (fine : check_seven s ≡ Fine) where
    pub fine_long : seven_length s ≤ length s
    unfolding check_seven
    fine_long = not_cut (passed _ _ (first_fine _ _ fine))

    rest_fine : (refuse large NumberTooLarge then refuse long NumberLong) ≡ Fine
    unfolding check_seven
    rest_fine = others_fine (refuse cut NumberCut) _ fine

    fifth_small : marked 4 s ≡ 4 → get_or s 4 0 < 16
    unfolding seven_length
    fifth_small e =
        elim (dec_lt 15 (get_or s 4 0)) [ yes h ↦ never (sym (so_large (fine_long, ap suc e, h)) ∙ passed _ _ (first_fine _ _ rest_fine)) | no h ↦ omega arith ]

    last_some : 0 < marked 4 s → 0 < get_or s (marked 4 s) 0
    unfolding seven_length
    last_some l =
        elim (dec_lt 0 (get_or s (marked 4 s) 0)) [
          | yes h ↦ h
          | no h ↦
              let e : suc (marked 4 s) - 1 ≡ marked 4 s = omega arith in
              let z : get_or s (marked 4 s) 0 ≡ 0 = omega arith in
              never (sym (so_long (fine_long, omega arith, ap (λ (i : ℕ). get_or s i 0) e ∙ z)) ∙ passed _ _ (others_fine (refuse large NumberTooLarge) _ rest_fine))
        ]

    -- below 2 ^ 32
    pub value_few : seven_value s < 2 ^ 32
    unfolding seven_value seven_length
    value_few = held_lt 4 s (marked 4 s) refl fifth_small

    module _ (byte : Below 256 s) where
      -- its bytes are those of its value
      pub value_bytes : take (seven_length s) s ≡ seven (seven_value s)
      unfolding seven_value seven_length seven
      value_bytes = one_in 4 s (marked 4 s) refl byte (let l = fine_long in omega arith) fifth_small last_some

      -- and so the whole is these, and what is left
      pub value_split : s ≡ seven (seven_value s) ++ past s 1
      unfolding past
      value_split = sym (take-append-drop (seven_length s) s) ∙ ap (λ (x : List ℕ). x ++ drop (seven_length s) s) value_bytes

-- what is left are bytes
pub past_byte : (s : List ℕ) (k : ℕ) → Below 256 s → Below 256 (past s k)
unfolding past
past_byte s zero byte i = byte i
past_byte s (suc k) byte i =
    let t = past s k in
    subst (λ (x : ℕ). x < 256) (sym (get_or-drop (seven_length t) t i 0)) (past_byte s k byte (seven_length t + i))

-- ---- signed numbers

pub unfolded_folded : (z : ℤ) → unfolded (folded z) ≡ z
unfolded_folded (pos n) =
    let e : 2 * n % 2 ≡ 0 = omega arith in
    let h : 2 * n / 2 ≡ n = omega arith in
    simp (e, h)
unfolded_folded (negsuc n) =
    let e : (2 * n + 1) % 2 ≡ 1 = omega arith in
    let h : (2 * n + 1) / 2 ≡ n = omega arith in
    simp (e, h)

folded_by : (n : ℕ) (b : Bool) → eqb (n % 2) 0 ≡ b → folded (cond b (pos (n / 2)) (negsuc (n / 2))) ≡ n
folded_by n true e = let z = eqb-true (n % 2) 0 e in omega arith
folded_by n false e = let z : n % 2 ≡ 0 → ⊥ = eqb-false (n % 2) 0 e in elim (dec_lt 0 (n % 2)) [ yes h ↦ omega arith | no h ↦ absurd (z (omega arith)) ]

pub folded_unfolded : (n : ℕ) → folded (unfolded n) ≡ n
folded_unfolded n = folded_by n (eqb (n % 2) 0) refl

-- 32 bits on either side
pub folded_few : (z : ℤ) → mag z < 2 ^ 31 → folded z < 2 ^ 32
folded_few (pos n) h = omega arith
folded_few (negsuc n) h = omega arith

pub unfolded_holds : (n : ℕ) → n < 2 ^ 32 → mag (unfolded n) < 2 ^ 31
unfolded_holds n h = by (eqb (n % 2) 0)
  where
    by : (b : Bool) → mag (cond b (pos (n / 2)) (negsuc (n / 2))) < 2 ^ 31
    by true = omega arith
    by false = omega arith
