-- One turn of each loop, and its ways out; the groups in lent bytes.
use Prim.Native.Nat.{ℕ, zero, suc, ◌+◌, ◌-◌, ◌*◌, ◌/◌, ◌%◌, ◌^◌, ◌≤◌, ◌<◌}
use mathlib.Core.Path.{◌≡◌, refl, sym, ap, ap₂, ◌∙◌}
use mathlib.Core.Bool.{Bool, true, false, ◌&&◌}
use mathlib.Core.List.{List, [], ◌∷◌, ◌++◌}
use native.Mathlib.Decide.{dec_lt}
use native.Mathlib.Numerals.{add-one}
use native.Mathlib.Omega.{arith}
use lib.ListN.{length, get_or, set, take, drop, replicate, length-set, length-take, length-drop, drop_of_length-le, take-append-drop}
use lib.Pointwise.{pointwise, pointwise_long}
use lib.Seq.{sets, sets-eq, take_all, take-suc-set, length-take-le, drop-drop}
use lib.Dec.{eqb}
use borrow.Author.Tests.{lt-ltb, le-ltb, lt-leb}
use borrow.Rule.Slice.PartMut.{put_mid}
use Rattle.std.proofs.lemmas.Slice.{put_mid-paste}
use Rattle.format.specs.Lists.{from, over, same}
use Rattle.format.specs.Numbers.{num}
use Rattle.format.specs.SevenBits.{seven_in, seven, marked, seven_length, seven_value, check_seven}
use Rattle.format.specs.Refusals.{Fine}
use Rattle.laws.proofs.Parts.{left_now, done_more, left_more}
use Rattle.laws.proofs.SevenBits.{in_last, in_more, fine_long}
use Rattle.seven_bits.specs.Bytes.{sevens_of}
use Rattle.seven_bits.proofs.Laws.{lows, value_lows, lows_at, lows_length, rest_lt}

-- ---- bytes with the high bit set: k of them are passed, of m

marked_none : (j : ℕ) → marked j [] ≡ 0
unfolding marked
marked_none zero = refl
marked_none (suc j) = refl

marked_low : (j x : ℕ) (s : List ℕ) → x < 128 → marked j (x ∷ s) ≡ 0
unfolding marked
marked_low zero x s h = refl
marked_low (suc j) x s h = rw (lt-ltb x 128 h)

marked_high : (j x : ℕ) (s : List ℕ) → 128 ≤ x → marked (suc j) (x ∷ s) ≡ suc (marked j s)
unfolding marked
marked_high j x s h = rw (le-ltb x 128 h)

module _ (s : List ℕ) (k m : ℕ) (so_far : k + marked (4 - k) (drop k s) ≡ m) where
  pub mark_turn : k < 4 → k < length s → 128 ≤ get_or s k 0 → k + 1 + marked (4 - (k + 1)) (drop (k + 1) s) ≡ m
  mark_turn l h b =
      let e : 4 - k ≡ suc (4 - (k + 1)) = omega arith in
      let t : marked (4 - k) (drop k s) ≡ suc (marked (4 - (k + 1)) (drop (k + 1) s)) = rw (e, left_now s k 0 h) (marked_high (4 - (k + 1)) (get_or s k 0) (drop (k + 1) s) b) in
      omega arith

  pub mark_out : length s ≤ k → k ≡ m
  mark_out h = let t : marked (4 - k) (drop k s) ≡ 0 = rw (drop_of_length-le s h) (marked_none (4 - k)) in omega arith

  pub mark_low : k < length s → get_or s k 0 < 128 → k ≡ m
  mark_low h b =
      let t : marked (4 - k) (drop k s) ≡ 0 = rw (left_now s k 0 h) (marked_low (4 - k) (get_or s k 0) (drop (k + 1) s) b) in
      omega arith

  pub mark_full : 4 ≤ k → k ≤ 4 → k ≡ m
  unfolding marked
  mark_full h l =
      let e : 4 - k ≡ 0 = omega arith in
      let t : marked (4 - k) (drop k s) ≡ 0 = rw e refl in
      omega arith

pub ruleset marks = (mark_turn, mark_out, mark_low, mark_full)

-- ---- the number, from its last group down: v is what lies from group k on

module _ (s : List ℕ) (fine : check_seven s ≡ Fine) where
  pub value_start : (k : ℕ) → k ≡ seven_length s → 0 ≡ num 128 (drop k (lows s))
  unfolding num
  value_start k e = rw (drop_of_length-le (lows s) {i = k} (omega (arith, lows_length s (fine_long s fine)))) refl

  module _ (k v : ℕ) (some : 0 < k) (most : k ≤ seven_length s) (is : v ≡ num 128 (drop k (lows s))) where
    pub value_turn : 128 * v + get_or s (k - 1) 0 % 128 ≡ num 128 (drop (k - 1) (lows s))
    unfolding num
    value_turn =
        let long = lows_length s (fine_long s fine) in
        let e : k - 1 + 1 ≡ k = omega arith in
        let d : drop (k - 1) (lows s) ≡ get_or (lows s) (k - 1) 0 ∷ drop k (lows s) = left_now (lows s) (k - 1) 0 (omega arith) ∙ ap (λ (j : ℕ). get_or (lows s) (k - 1) 0 ∷ drop j (lows s)) e in
        let at = lows_at s (k - 1) (omega arith) in
        rw d (omega arith)

    pub value_fits : 128 * v + get_or s (k - 1) 0 % 128 < 2 ^ 32
    value_fits = omega (arith, value_turn, rest_lt s fine (k - 1))

    pub value_grows : 128 * v < 2 ^ 32
    value_grows = omega (arith, value_fits)

    pub value_reads : k - 1 < length s
    value_reads = omega (arith, fine_long s fine)

pub value_done : (s : List ℕ) (k v : ℕ) → k ≤ 0 → v ≡ num 128 (drop k (lows s)) → v ≡ seven_value s
value_done s k v h e = let z : k ≡ 0 = omega arith in (rw z at e) ∙ sym (value_lows s)

pub ruleset values = (value_start, value_turn, value_fits, value_grows, value_reads, value_done)

-- ---- a number into its groups: k of them are written, and r is left

-- what is left fits fewer bits by seven each turn, so that there are five groups at most
pub left_less : (k r : ℕ) → k < 4 → r < 2 ^ (32 - 7 * k) → r / 128 < 2 ^ (32 - 7 * (k + 1))
left_less zero r l h = omega arith
left_less (suc zero) r l h = omega arith
left_less (suc (suc zero)) r l h = omega arith
left_less (suc (suc (suc zero))) r l h = omega arith
left_less (suc (suc (suc (suc k)))) r l h = absurd (omega arith)

pub left_room : (k r : ℕ) → k ≤ 4 → r < 2 ^ (32 - 7 * k) → 128 ≤ r → k < 4
left_room k r l h b =
    elim (dec_lt k 4) [
      | yes p ↦ p
      | no p ↦ let e : k ≡ 4 = omega arith in let q : r < 16 = rw e at h in absurd (omega arith)
    ]

-- the bytes from k on are zero
pub zeros_turn : (bs : List ℕ) (k x : ℕ) → drop k bs ≡ drop k (replicate 5 0) → drop (k + 1) (set bs k x) ≡ drop (k + 1) (replicate 5 0)
zeros_turn bs k x none = left_more bs k x ∙ sym (drop-drop 1 k bs) ∙ ap (drop 1) none ∙ drop-drop 1 k (replicate 5 0)

module _ (n : ℕ) (bs : List ℕ) (k r : ℕ) (long : length bs ≡ 5) (so_far : seven n ≡ take k bs ++ seven_in (4 - k) r) where
  pub group_turn : k < 4 → 128 ≤ r → seven n ≡ take (k + 1) (set bs k (128 + r % 128)) ++ seven_in (4 - (k + 1)) (r / 128)
  group_turn l h =
      let e : 4 - k ≡ suc (4 - (k + 1)) = omega arith in
      so_far
      ∙ ap (λ (j : ℕ). take k bs ++ seven_in j r) e
      ∙ ap (λ (t : List ℕ). take k bs ++ t) (in_more (4 - (k + 1)) r h)
      ∙ sym (done_more bs (seven_in (4 - (k + 1)) (r / 128)) k (128 + r % 128) (omega arith))

  module _ (few : k ≤ 4) (last : r < 128) where
    group_last : take (k + 1) (set bs k r) ≡ seven n
    group_last =
        rw add-one (take-suc-set bs k r (omega arith) ∙ ap (λ (t : List ℕ). take k bs ++ t) (sym (in_last (4 - k) r last)) ∙ sym so_far)

    group_length : k + 1 ≡ length (seven n)
    group_length = sym (length-take-le (k + 1) (set bs k r) (omega (arith, length-set bs k r))) ∙ ap length group_last

    pub group_done : drop k bs ≡ drop k (replicate 5 0) → record { bytes = set bs k r; len = k + 1 } ≡ sevens_of n
    unfolding over
    group_done none =
        let rest = zeros_turn bs k r none ∙ ap (λ (j : ℕ). drop j (replicate 5 0)) group_length in
        let all : set bs k r ≡ over (seven n) (replicate 5 0) = sym (take-append-drop (k + 1) (set bs k r)) ∙ ap₂ ◌++◌ group_last rest in
        ap₂ (λ (b : List ℕ) (m : ℕ). record { bytes = b; len = m }) all group_length

pub ruleset groups = (left_room, group_done)

-- ---- the groups in lent bytes

module _ (s bs : List ℕ) (at n : ℕ) where
  pub put_groups : (ys : List ℕ) → at + length (take n bs) ≤ length s → length (take n bs) ≡ n → ys ≡ take n bs → put_mid at (at + n - at) s ys ≡ sets s at (take n bs)
  put_groups ys room long e =
      let d : at + length (take n bs) ≡ at + n = omega arith in
      put_mid-paste at (at + n - at) s ys (take n bs) n e (omega arith) (sym long)
      ∙ rw (take_all n (take n bs) (omega arith), ← d) (sym (sets-eq (take n bs) s at room))

same_pointwise : (xs ys : List ℕ) → pointwise eqb xs ys ≡ same xs ys
unfolding same
same_pointwise [] [] = refl
same_pointwise [] (y ∷ ys) = refl
same_pointwise (x ∷ xs) [] = refl
same_pointwise (x ∷ xs) (y ∷ ys) = ap (λ (b : Bool). eqb x y && b) (same_pointwise xs ys)

-- a list is not the same as a shorter one
same_shorter : (xs ys : List ℕ) → length ys < length xs → same xs ys ≡ false
same_shorter xs ys h = sym (same_pointwise xs ys) ∙ by (pointwise eqb xs ys) refl
  where
    by : (t : Bool) → pointwise eqb xs ys ≡ t → t ≡ false
    by true e = absurd (omega (arith, pointwise_long eqb xs ys e))
    by false e = refl

module _ (s bs : List ℕ) (at n : ℕ) (long : length (take n bs) ≡ n) where
  pub stands_there : (b : Bool) → b ≡ pointwise eqb (take n bs) (take (at + n - at) (drop at s)) → b ≡ same (take n bs) (from at (length (take n bs)) s)
  unfolding from
  stands_there b e =
      let k : at + n - at ≡ length (take n bs) = omega arith in
      e ∙ same_pointwise _ _ ∙ ap (λ (j : ℕ). same (take n bs) (take j (drop at s))) k

  pub stands_short : 1 ≤ n → length s < at + n → same (take n bs) (from at (length (take n bs)) s) ≡ false
  unfolding from
  stands_short some h = same_shorter (take n bs) (take (length (take n bs)) (drop at s)) (omega (arith, length-take (length (take n bs)) (drop at s), length-drop at s))

pub ruleset stands = (stands_there, stands_short, lt-leb)
