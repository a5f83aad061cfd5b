-- Two channels as mid and side: they lie in the same range, and left and right come back, frame by frame.
use Prim.Native.Nat.{ℕ, zero, suc, ◌*◌, ◌+◌, ◌/◌, ◌≤◌, ◌<◌}
use mathlib.Core.Path.{◌≡◌, refl, sym, ap₂, ◌∙◌}
use mathlib.Core.Bool.{Bool, true, false, ◌&&◌}
use mathlib.Core.List.{List, [], ◌∷◌, ◌++◌}
use native.Mathlib.Omega.{arith}
use lib.ListN.{length, get_or, take}
use lib.Seq.{ext_get_or, get_or-take, length-take-le}
use lib.IntN.{ℤ, pos, ◌+ℤ◌, ◌-ℤ◌}
use mir.Syntax.{w32}
use mir.Val.{SFits}
use Rattle.format.specs.Lists.{tab, pairwise, every}
use Rattle.format.specs.MidSide.{left, right, left_right}
use Rattle.format.specs.Encoding.{channel, unwoven, padded, padded_channels, mid, side, mid_side, equal_parity, parity}
use Rattle.format.specs.declared.settings.SampleFormat.TheVariants.{Pcm}
use Rattle.laws.proofs.Tests.{never}
use Rattle.laws.proofs.Parts.{length_tab}
use Rattle.laws.proofs.Signs.{AllHold}
use Rattle.laws.proofs.Each.{Each, each_pairwise}
use Rattle.laws.proofs.Wrap.{Fit, zero_fits, wrap_is}
use Rattle.laws.proofs.Halves.{Even, length_pairwise, mid_holds, side_holds, lefts_back, rights_back, pairwise_at, even_padded, mid_back, side_back, Stay, pairs_stay}
use Rattle.laws.proofs.Channels.{Level}

-- mid and side are as long as the two channels
pub both_long : (chans : List (List ℤ)) (k : ℕ) → ((c : ℕ) → c < 2 → length (get_or chans c []) ≡ k) → (c : ℕ) → c < 2 → length (get_or (mid_side chans) c []) ≡ k
unfolding mid_side
both_long chans k long c q = by c q
  where
    pairs : (f : ℤ → ℤ → ℤ) → length (pairwise f (get_or chans 0 []) (get_or chans 1 [])) ≡ k
    pairs f = length_pairwise f _ _ (long 0 (omega arith) ∙ sym (long 1 (omega arith))) ∙ long 0 (omega arith)

    by : (c : ℕ) → c < 2 → length (get_or (mid_side chans) c []) ≡ k
    by zero q = pairs mid
    by (suc zero) q = pairs side
    by (suc (suc c)) q = absurd (omega arith)

-- two channels that b bits hold
module _ (b n k : ℕ) (high : b ≤ 32) (two : n ≡ 2) (chans : List (List ℤ)) (level : Level b n k chans) where
  abbrev l : List ℤ
  l = get_or chans 0 []

  abbrev r : List ℤ
  r = get_or chans 1 []

  l_long : length l ≡ k
  l_long = level.long 0 (omega arith)

  r_long : length r ≡ k
  r_long = level.long 1 (omega arith)

  l_holds : AllHold b l
  l_holds = level.hold 0 (omega arith)

  r_holds : AllHold b r
  r_holds = level.hold 1 (omega arith)

  -- mid and side are two such channels
  pub both_level : Level b n k (mid_side chans)
  unfolding mid_side
  both_level = record { count = sym two; long = λ c q. both_long chans k (λ d p. level.long d (omega arith)) c (omega arith); hold = hold }
    where
      hold : (c : ℕ) → c < n → AllHold b (get_or (mid_side chans) c [])
      hold zero q = mid_holds b high l r l_holds r_holds
      hold (suc zero) q = side_holds b high l r l_holds r_holds
      hold (suc (suc c)) q = absurd (omega arith)

  -- of equal parity in every frame
  module _ (even : parity chans ≡ true) where
    even_frames : Even l r
    unfolding parity
    even_frames = even

    -- and are read as the two
    pub both_back : left_right Pcm (mid_side chans) ≡ chans
    unfolding left_right mid_side
    both_back =
        ap₂ (λ (x y : List ℤ). x ∷ y ∷ [])
        (lefts_back b high l r (l_long ∙ sym r_long) l_holds r_holds even_frames)
        (rights_back b high l r (l_long ∙ sym r_long) l_holds r_holds even_frames)
        ∙ pair chans (level.count ∙ two)
      where
        pair : (xs : List (List ℤ)) → length xs ≡ 2 → get_or xs 0 [] ∷ get_or xs 1 [] ∷ [] ≡ xs
        pair [] e = absurd (omega arith)
        pair (x ∷ []) e = absurd (omega arith)
        pair (x ∷ y ∷ []) e = refl
        pair (x ∷ y ∷ z ∷ xs) e = absurd (omega arith)

    -- and no mid plus side or mid minus side leaves 32 bits
    pub frames_stay : (i : ℕ) → i < k → Stay (get_or (get_or (mid_side chans) 0 []) i (pos 0)) (get_or (get_or (mid_side chans) 1 []) i (pos 0))
    unfolding mid_side
    frames_stay i p = pairs_stay b high l r l_holds r_holds even_frames i (omega (arith, l_long)) (omega (arith, r_long))

-- ---- left and right at frame i
pub two_channels : (chans : List (List ℤ)) → length (left_right Pcm chans) ≡ 2
unfolding left_right
two_channels chans = refl

-- of channels of 32 bits they are of 32 bits
pub both_fit : (chans : List (List ℤ)) → Each Fit [] chans → Each Fit [] (left_right Pcm chans)
unfolding left_right left right
both_fit chans p zero i = each_pairwise (SFits w32) (pos 0) zero_fits (SFits w32) (pos 0) (left Pcm) (λ x y a b. wrap_is (x +ℤ y)) (get_or chans 0 []) (get_or chans 1 []) (p 0) (p 1) i
both_fit chans p (suc zero) i = each_pairwise (SFits w32) (pos 0) zero_fits (SFits w32) (pos 0) (right Pcm) (λ x y a b. wrap_is (x -ℤ y)) (get_or chans 0 []) (get_or chans 1 []) (p 0) (p 1) i
both_fit chans p (suc (suc c)) i = zero_fits

-- the two channels have a frame i
abbrev pub Reach : ℕ → List (List ℤ) → Type 0
Reach i chans = (c : ℕ) → c < 2 → i < length (get_or chans c [])

module _ (i : ℕ) (chans : List (List ℤ)) (reach : Reach i chans) where
  abbrev m : ℤ
  m = get_or (get_or chans 0 []) i (pos 0)

  abbrev s : ℤ
  s = get_or (get_or chans 1 []) i (pos 0)

  left_at : get_or (get_or (left_right Pcm chans) 0 []) i (pos 0) ≡ left Pcm m s
  unfolding left_right
  left_at = pairwise_at (left Pcm) (get_or chans 0 []) (get_or chans 1 []) i (pos 0) (pos 0) (reach 0 (omega arith)) (reach 1 (omega arith))

  right_at : get_or (get_or (left_right Pcm chans) 1 []) i (pos 0) ≡ right Pcm m s
  unfolding left_right
  right_at = pairwise_at (right Pcm) (get_or chans 0 []) (get_or chans 1 []) i (pos 0) (pos 0) (reach 0 (omega arith)) (reach 1 (omega arith))

-- are those of mid and side there
pub frame_same : (i : ℕ) (xs ys : List (List ℤ)) → Reach i xs → Reach i ys → ((c : ℕ) → c < 2 → get_or (get_or xs c []) i (pos 0) ≡ get_or (get_or ys c []) i (pos 0))
    → (c : ℕ) → c < 2 → get_or (get_or (left_right Pcm xs) c []) i (pos 0) ≡ get_or (get_or (left_right Pcm ys) c []) i (pos 0)
frame_same i xs ys rx ry e zero q = left_at i xs rx ∙ ap₂ (left Pcm) (e 0 (omega arith)) (e 1 (omega arith)) ∙ sym (left_at i ys ry)
frame_same i xs ys rx ry e (suc zero) q = right_at i xs rx ∙ ap₂ (right Pcm) (e 0 (omega arith)) (e 1 (omega arith)) ∙ sym (right_at i ys ry)
frame_same i xs ys rx ry e (suc (suc c)) q = absurd (omega arith)

-- ---- left and right that were read from mid and side, S 0 and S 1
module _ (S : ℕ → List ℤ) where
  abbrev mid_of : ℕ → ℤ
  mid_of i = get_or (S 0) i (pos 0)

  abbrev side_of : ℕ → ℤ
  side_of i = get_or (S 1) i (pos 0)

  -- in k frames where neither their sum nor their difference leaves 32 bits
  module _ (k : ℕ) (reach : (c : ℕ) → c < 2 → k ≤ length (S c)) (fits : (c : ℕ) → c < 2 → Fit (S c))
      (stay : (i : ℕ) → i < k → Stay (mid_of i) (side_of i))
      (chans : List (List ℤ)) (long : (c : ℕ) → c < 2 → length (get_or chans c []) ≡ k)
      (read : (c i : ℕ) → c < 2 → i < k → get_or (get_or chans c []) i (pos 0) ≡ get_or (get_or (left_right Pcm (tab 2 S)) c []) i (pos 0)) where
    pairs_kept : (f : ℤ → ℤ → ℤ) (c : ℕ) → c < 2 → ((i : ℕ) → i < k → f (left Pcm (mid_of i) (side_of i)) (right Pcm (mid_of i) (side_of i)) ≡ get_or (S c) i (pos 0))
        → pairwise f (get_or chans 0 []) (get_or chans 1 []) ≡ take k (S c)
    unfolding left_right tab
    pairs_kept f c q back =
        let l = get_or chans 0 [] in
        let r = get_or chans 1 [] in
        let ll = long 0 (omega arith) in
        let rl = long 1 (omega arith) in
        let n : length (pairwise f l r) ≡ k = length_pairwise f l r (ll ∙ sym rl) ∙ ll in
        ext_get_or (pos 0) (pairwise f l r) (take k (S c)) (n ∙ sym (length-take-le k (S c) (reach c q)))
        (λ i p. let j : i < k = omega arith in
        pairwise_at f l r i (pos 0) (pos 0) (omega arith) (omega arith)
        ∙ ap₂ f (read 0 i (omega arith) j ∙ frame (left Pcm) i j) (read 1 i (omega arith) j ∙ frame (right Pcm) i j)
        ∙ back i j ∙ sym (get_or-take k (S c) i (pos 0) j))
      where
        frame : (f : ℤ → ℤ → ℤ) (i : ℕ) → i < k → get_or (pairwise f (S 0) (S 1)) i (pos 0) ≡ f (mid_of i) (side_of i)
        frame f i j = pairwise_at f (S 0) (S 1) i (pos 0) (pos 0) (omega (arith, reach 0 (omega arith))) (omega (arith, reach 1 (omega arith)))

    -- have these as their mid and side
    pub both_kept : (c : ℕ) → c < 2 → get_or (mid_side chans) c [] ≡ take k (S c)
    unfolding mid_side
    both_kept zero q = pairs_kept mid 0 q (λ i p. mid_back (mid_of i) (side_of i) (fits 0 (omega arith) i) (fits 1 (omega arith) i) (stay i p).0 (stay i p).1)
    both_kept (suc zero) q = pairs_kept side 1 q (λ i p. side_back (mid_of i) (side_of i) (fits 0 (omega arith) i) (fits 1 (omega arith) i) (stay i p).0 (stay i p).1)
    both_kept (suc (suc c)) q = absurd (omega arith)

-- ---- padding keeps the parity
abbrev even_pairs : List ℤ → List ℤ → Bool
even_pairs l r = every (λ (b : Bool). b) (pairwise equal_parity l r)

and_falls : (t u v : Bool) → (u ≡ false → v ≡ false) → (t && u) ≡ false → (t && v) ≡ false
and_falls true u v f h = f h
and_falls false u v f h = refl

-- an uneven frame stays, whatever follows
uneven : (l r a b : List ℤ) → even_pairs l r ≡ false → even_pairs (l ++ a) (r ++ b) ≡ false
unfolding pairwise every
uneven [] r a b e = never e
uneven (x ∷ l) [] a b e = never e
uneven (x ∷ l) (y ∷ r) a b e = and_falls (equal_parity x y) (even_pairs l r) (even_pairs (l ++ a) (r ++ b)) (uneven l r a b) e

even_same : (l r : List ℤ) → length l ≡ length r → even_pairs (padded l) (padded r) ≡ even_pairs l r
unfolding padded
even_same l r n = by (even_pairs l r) refl
  where
    by : (t : Bool) → even_pairs l r ≡ t → even_pairs (padded l) (padded r) ≡ t
    by true e = even_padded l r n e
    by false e = uneven l r _ _ e

channel_count : (n : ℕ) (s : List ℤ) (c : ℕ) → length (channel n s c) ≡ length s / n
unfolding channel
channel_count n s c = length_tab (length s / n) (λ i. get_or s (i * n + c) (pos 0))

pub parity_padded : (s : List ℤ) → parity (padded_channels 2 s) ≡ parity (unwoven 2 s)
unfolding parity padded_channels unwoven tab
parity_padded s = even_same (channel 2 s 0) (channel 2 s 1) (channel_count 2 s 0 ∙ sym (channel_count 2 s 1))
