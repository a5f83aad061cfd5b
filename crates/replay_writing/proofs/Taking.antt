-- Samples put one by one to the front of a room, as many as it holds: w is the room before, d after i of them.
use Prim.Native.Nat.{ℕ, suc, ◌+◌, ◌<◌}
use mathlib.Core.Path.{◌≡◌, sym, ◌∙◌}
use mathlib.Core.List.{List, [], ◌∷◌, ◌++◌}
use native.Mathlib.Numerals.{add-one}
use native.Mathlib.Omega.{arith}
use lib.ListN.{length, get_or, set, take, drop, length-append}
use lib.Seq.{take-suc, drop-cons, set_at, take_at, append_snoc, length-take-le}
use lib.IntN.{ℤ, pos}
use Rattle.format.specs.Lists.{over}

module _ (xs w d : List ℤ) (i : ℕ) (so_far : d ≡ over (take i xs) w) where
  pub taken_more : (x : ℤ) → i < length xs → i < length w → x ≡ get_or xs i (pos 0) → set d i x ≡ over (take (i + 1) xs) w
  unfolding over
  taken_more x h l e =
      let ys = take i xs in
      let n : length ys ≡ i = length-take-le i xs (omega arith) in
      let all : take (i + 1) xs ≡ ys ++ (x ∷ []) = rw (add-one, e, take-suc xs i (pos 0) h) in
      let long : length (ys ++ (x ∷ [])) ≡ suc i = length-append ys (x ∷ []) ∙ omega arith in
      rw (so_far, all, n, long, drop-cons w i (pos 0) l, set_at ys (get_or w i (pos 0)) (drop (suc i) w) x i n) (sym (append_snoc ys x (drop (suc i) w)))

-- what was put to the front of a room is its front
pub taken_front : (xs w d : List ℤ) (n : ℕ) → n ≡ length xs → d ≡ over xs w → take n d ≡ xs
unfolding over
taken_front xs w d n e f = rw f (take_at xs (drop (length xs) w) n (sym e))
