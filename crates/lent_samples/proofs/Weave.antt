-- Samples put into a list one after another, at every step-th place, and frame by frame: channels that are put each at its places are the frames
-- put where they lie.
use mathlib.Core.Path.{◌≡◌, refl, sym, ap, ◌∙◌, subst}
use mathlib.Core.List.{List, [], ◌∷◌, ◌++◌, append_assoc}
use mathlib.Core.Logic.{◌⊎◌, inl, inr}
use Prim.Native.Nat.{ℕ, zero, suc, ◌+◌, ◌-◌, ◌*◌, ◌/◌, ◌%◌, ◌<◌, ◌≤◌}
use native.Mathlib.Nat.{add-mul, suc-mul, zero-mul, mul_comm, le_refl, add-zero, zero-add, mod-lt, div-add-mod', div-lt_iff_lt-mul, mul-zero}
use native.Mathlib.Decide.{dec_lt}
use native.Mathlib.Omega.{arith}
use lib.Arith.{digits_lt, digits_mod}
use lib.IntN.{ℤ, pos}
use lib.ListN.{length, get_or, set, take, drop, length-set, length-append, length-drop, take-append-drop, get_or-append}
use lib.Seq.{ext_get_or, get_or-set_same, get_or-set_other, get_or-append-add, get_or-take, get_or-drop, length-take-le, drop-cons, set_at}
use Rattle.format.specs.Lists.{from}
use Rattle.format.specs.Decoding.{frame_of, woven}
use Rattle.laws.proofs.Parts.{length_even, joined_at, joined_cong, length_from, below_suc}
use Rattle.laws.proofs.Channels.{frame_length, frame_at_lem}
use Rattle.lent_samples.specs.Lent.{placed, strided, channel_put, woven_from}

-- sample k of a run
abbrev at : List ℤ → ℕ → ℤ
at l k = get_or l k (pos 0)

at_from : (i n : ℕ) (s : List ℤ) (k : ℕ) → k < n → at (from i n s) k ≡ at s (i + k)
unfolding from
at_from i n s k h = get_or-take n (drop i s) k (pos 0) h ∙ get_or-drop i s k (pos 0)

-- ---- every step-th place
pub length_strided : (s : List ℤ) (p step : ℕ) (xs : List ℤ) → length (strided s p step xs) ≡ length s
unfolding strided
length_strided s p step [] = refl
length_strided s p step (x ∷ xs) = length_strided (set s p x) (p + step) step xs ∙ length-set s p x

pub strided_other : (s : List ℤ) (p step : ℕ) (xs : List ℤ) (j : ℕ) → ((i : ℕ) → i < length xs → j ≡ p + i * step → ⊥) → at (strided s p step xs) j ≡ at s j
unfolding strided
strided_other s p step [] j h = refl
strided_other s p step (x ∷ xs) j h =
    strided_other (set s p x) (p + step) step xs j (λ i l e. h (suc i) (omega arith) (omega (arith, suc-mul i step)))
    ∙ get_or-set_other s p j x (pos 0) (λ e. h 0 (omega arith) (omega (arith, zero-mul step)))

pub strided_same : (s : List ℤ) (p step : ℕ) (xs : List ℤ) (i : ℕ) → 0 < step → i < length xs → p + i * step < length s → at (strided s p step xs) (p + i * step) ≡ at xs i
unfolding strided
strided_same s p step [] i g h l = absurd (omega arith)
strided_same s p step (x ∷ xs) zero g h l =
    let e : p + 0 * step ≡ p = omega (arith, zero-mul step) in
    rw e (strided_other (set s p x) (p + step) step xs p (λ i q d. omega arith) ∙ get_or-set_same s p x (pos 0) (omega arith))
strided_same s p step (x ∷ xs) (suc i) g h l =
    let e : p + suc i * step ≡ p + step + i * step = omega (arith, suc-mul i step) in
    rw e (strided_same (set s p x) (p + step) step xs i g (omega arith) (omega (arith, length-set s p x)))

-- ---- a list put into another
module _ (i : ℕ) (xs s : List ℤ) where
  pub length_placed : i + length xs ≤ length s → length (placed i xs s) ≡ length s
  unfolding placed
  length_placed h = simp (length-append, length-drop) (omega (arith, length-take-le i s (omega arith)))

  pub placed_before : (j : ℕ) → i ≤ length s → j < i → at (placed i xs s) j ≡ at s j
  unfolding placed
  placed_before j h l =
      get_or-append (take i s) (xs ++ drop (i + length xs) s) (pos 0) j (omega (arith, length-take-le i s h)) ∙ get_or-take i s j (pos 0) l

  -- what lies behind the front
  behind : (j : ℕ) → i ≤ length s → at (placed i xs s) (i + j) ≡ at (xs ++ drop (i + length xs) s) j
  unfolding placed
  behind j h =
      let e : length (take i s) ≡ i = length-take-le i s h in
      subst (λ (k : ℕ). at (take i s ++ (xs ++ drop (i + length xs) s)) (k + j) ≡ at (xs ++ drop (i + length xs) s) j) e
      (get_or-append-add (take i s) (xs ++ drop (i + length xs) s) j (pos 0))

  pub placed_within : (j : ℕ) → i ≤ length s → j < length xs → at (placed i xs s) (i + j) ≡ at xs j
  placed_within j h l = behind j h ∙ get_or-append xs (drop (i + length xs) s) (pos 0) j l

  pub placed_after : (j : ℕ) → i ≤ length s → i + length xs ≤ j → at (placed i xs s) j ≡ at s j
  placed_after j h l =
      let k = j - (i + length xs) in
      let e : j ≡ i + (length xs + k) = omega arith in
      let d : i + length xs + k ≡ j = omega arith in
      ap (at (placed i xs s)) e ∙ behind (length xs + k) h ∙ get_or-append-add xs (drop (i + length xs) s) k (pos 0) ∙ get_or-drop (i + length xs) s k (pos 0) ∙ ap (at s) d

pub placed_none : (i : ℕ) (s : List ℤ) → s ≡ placed i [] s
unfolding placed
placed_none i s = rw add-zero (sym (take-append-drop i s))

-- one more
pub placed_more : (i : ℕ) (xs s : List ℤ) (x : ℤ) → i + length xs < length s → placed i (xs ++ (x ∷ [])) s ≡ set (placed i xs s) (i + length xs) x
unfolding placed
placed_more i xs s x h =
    let d = drop (suc (i + length xs)) s in
    let l : length (take i s ++ xs) ≡ i + length xs = length-append (take i s) xs ∙ omega (arith, length-take-le i s (omega arith)) in
    let e : i + length (xs ++ (x ∷ [])) ≡ suc (i + length xs) = omega (arith, length-append xs (x ∷ [])) in
    rw (e, drop-cons s (i + length xs) (pos 0) h, append_assoc xs (x ∷ []) d, ← append_assoc (take i s) xs (x ∷ d), ← append_assoc (take i s) xs (at s (i + length xs) ∷ d))
    (sym (set_at (take i s ++ xs) (at s (i + length xs)) d x (i + length xs) l))

-- ---- frames
pub woven_from_lem : (n : ℕ) (chans : List (List ℤ)) → woven n chans ≡ woven_from 0 n chans
unfolding woven woven_from
woven_from_lem n chans = joined_cong (frame_of chans) (λ i. frame_of chans (0 + i)) n (λ i l. rw zero-add)

pub length_woven : (skip n : ℕ) (chans : List (List ℤ)) → length (woven_from skip n chans) ≡ length chans * n
unfolding woven_from
length_woven skip n chans = length_even (λ i. frame_of chans (skip + i)) (length chans) (λ i. frame_length chans (skip + i)) n

-- sample c of frame i
pub woven_at : (skip n : ℕ) (chans : List (List ℤ)) (i c : ℕ) → i < n → c < length chans → at (woven_from skip n chans) (i * length chans + c) ≡ at (get_or chans c []) (skip + i)
unfolding woven_from
woven_at skip n chans i c h l =
    joined_at (λ k. frame_of chans (skip + k)) (length chans) (λ k. frame_length chans (skip + k)) n i c (pos 0) h l ∙ frame_at_lem chans (skip + i) c

positive : (n C : ℕ) {q : ℕ} → q < n * C → 0 < C
positive n zero h = absurd (omega (arith, mul-zero n))
positive n (suc C) h = omega arith

-- ---- channel after channel
-- the channels 0, 1, .. one after another, each put where it lies in the n frames of C channels from `first` on
unfoldable pub channels_put : ℕ → ℕ → ℕ → ℕ → List (List ℤ) → ℕ → List ℤ → List ℤ
channels_put first skip n C chans zero s = s
channels_put first skip n C chans (suc c) s = channel_put (record { first = first; skip = skip; count = n }) C c (get_or chans c []) (channels_put first skip n C chans c s)

module _ (first skip n C : ℕ) (chans : List (List ℤ)) where
  pub length_put : (c : ℕ) (s : List ℤ) → length (channels_put first skip n C chans c s) ≡ length s
  unfolding channels_put
  length_put zero s = refl
  length_put (suc c) s = length_strided (channels_put first skip n C chans c s) (first * C + c) C (from skip n (get_or chans c [])) ∙ length_put c s

  module _ (long : (c : ℕ) → c < C → length (get_or chans c []) ≡ 512) (h : skip + n ≤ 512) where
    run_length : (c : ℕ) → c < C → length (from skip n (get_or chans c [])) ≡ n
    run_length c l = length_from skip n (get_or chans c []) (omega (arith, long c l))

    -- the places of one channel lie in the frames
    within : (c i : ℕ) → c < C → i < n → first * C + c + i * C < (first + n) * C
    within c i l k = let p : first + i < first + n = omega arith in omega (arith, digits_lt p l, add-mul first i C)

    put_outside : (c : ℕ) (s : List ℤ) (j : ℕ) → c ≤ C → (j < first * C) ⊎ ((first + n) * C ≤ j) → at (channels_put first skip n C chans c s) j ≡ at s j
    unfolding channels_put
    put_outside zero s j l o = refl
    put_outside (suc c) s j l o =
        strided_other (channels_put first skip n C chans c s) (first * C + c) C (from skip n (get_or chans c [])) j (never o)
        ∙ put_outside c s j (omega arith) o
      where
        never : (j < first * C) ⊎ ((first + n) * C ≤ j) → (i : ℕ) → i < length (from skip n (get_or chans c [])) → j ≡ first * C + c + i * C → ⊥
        never (inl p) i k e = omega arith
        never (inr p) i k e = omega (arith, within c i (omega arith) (omega (arith, run_length c (omega arith))))

    put_inside : (c : ℕ) (s : List ℤ) (i b : ℕ) → c ≤ C → b < c → i < n → (first + n) * C ≤ length s
        → at (channels_put first skip n C chans c s) (first * C + (i * C + b)) ≡ at (get_or chans b []) (skip + i)
    unfolding channels_put
    put_inside zero s i b l u k f = absurd (omega arith)
    put_inside (suc c) s i b l u k f = by (λ v. put_inside c s i b (omega arith) v k f) (below_suc b c u)
      where
        S : List ℤ
        S = channels_put first skip n C chans c s

        R : List ℤ
        R = from skip n (get_or chans c [])

        by : (b < c → at S (first * C + (i * C + b)) ≡ at (get_or chans b []) (skip + i)) → (b ≡ c) ⊎ (b < c) → at (strided S (first * C + c) C R) (first * C + (i * C + b)) ≡ at (get_or chans b []) (skip + i)
        by again (inl e) =
            let p : first * C + (i * C + b) ≡ first * C + c + i * C = omega arith in
            rw (p, e)
            (strided_same S (first * C + c) C R i (omega arith) (omega (arith, run_length c l)) (omega (arith, within c i l k, length_put c s))
            ∙ at_from skip n (get_or chans c []) i k)
        by again (inr v) =
            strided_other S (first * C + c) C R (first * C + (i * C + b))
            (λ m q e.
            let d : i * C + b ≡ m * C + c = omega arith in
            let x : (i * C + b) % C ≡ b = digits_mod i (omega arith) in
            let y : (m * C + c) % C ≡ c = digits_mod m (omega arith) in
            omega (arith, ap (λ (x : ℕ). x % C) d))
            ∙ again v

    -- all channels put are the frames put
    pub all_put : length chans ≡ C → (s : List ℤ) → (first + n) * C ≤ length s → channels_put first skip n C chans C s ≡ placed (first * C) (woven_from skip n chans) s
    all_put e s f =
        ext_get_or (pos 0) (channels_put first skip n C chans C s) (placed (first * C) W s) (length_put C s ∙ sym (length_placed (first * C) W s end)) each
      where
        W : List ℤ
        W = woven_from skip n chans

        long_woven : length W ≡ n * C
        long_woven = length_woven skip n chans ∙ ap (λ (k : ℕ). k * n) e ∙ mul_comm C n

        end : first * C + length W ≤ length s
        end = omega (arith, long_woven, add-mul first n C)

        -- sample c of frame i
        at_place : (i c : ℕ) → i < n → c < C → at (channels_put first skip n C chans C s) (first * C + (i * C + c)) ≡ at (placed (first * C) W s) (first * C + (i * C + c))
        at_place i c l r =
            put_inside C s i c (le_refl C) r l f
            ∙ sym
            (placed_within (first * C) W s (i * C + c) (omega arith) (rw long_woven (digits_lt l r))
            ∙ subst (λ (x : ℕ). at W (i * x + c) ≡ at (get_or chans c []) (skip + i)) e (woven_at skip n chans i c l (rw e r)))

        inside : (j : ℕ) → first * C ≤ j → j < (first + n) * C → at (channels_put first skip n C chans C s) j ≡ at (placed (first * C) W s) j
        inside j l u = by (j - first * C) (omega arith) (omega (arith, add-mul first n C))
          where
            by : (q : ℕ) → first * C + q ≡ j → q < n * C → at (channels_put first skip n C chans C s) j ≡ at (placed (first * C) W s) j
            by q d below =
                let some : 0 < C = positive n C below in
                let p : first * C + (q / C * C + q % C) ≡ j = ap (λ (x : ℕ). first * C + x) (div-add-mod' q C) ∙ d in
                rw p at (at_place (q / C) (q % C) ((div-lt_iff_lt-mul some).1 below) (mod-lt q some))

        each : (j : ℕ) → j < length (channels_put first skip n C chans C s) → at (channels_put first skip n C chans C s) j ≡ at (placed (first * C) W s) j
        each j g =
            elim (dec_lt j (first * C)) [
              | yes l ↦ put_outside C s j (omega arith) (inl l) ∙ sym (placed_before (first * C) W s j (omega arith) l)
              | no l ↦ elim (dec_lt j ((first + n) * C)) [
                | yes u ↦ inside j (omega arith) u
                | no u ↦ put_outside C s j (omega arith) (inr (omega arith)) ∙ sym (placed_after (first * C) W s j (omega arith) (omega (arith, long_woven, add-mul first n C)))
              ]
            ]
