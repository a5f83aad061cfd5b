-- Runs put into lent memory: one behind another, apart, at the front, and by a part that was lent. Each touches its
-- own places only.
use Prim.Native.Nat.{ℕ, suc, ◌+◌, ◌-◌, ◌≤◌}
use mathlib.Core.Path.{◌≡◌, refl, sym, ap, ap₂, ◌∙◌}
use mathlib.Core.List.{List, [], ◌∷◌, ◌++◌, append_assoc, append-nil}
use native.Mathlib.Nat.{add-zero}
use native.Mathlib.Omega.{arith}
use lib.ListN.{length, take, drop, set, length-append, length-drop, length-take, drop_of_length-le}
use borrow.Author.Rules.{part_to_end}
use lib.Seq.{take_at, drop_at, drop-drop, drop-append-le, take_all, take-append-le, sets, sets-eq, set_comm}
use Rattle.format.specs.Lists.{over}

module _ {A : Type 0} where
  -- a run right behind another
  pub sets_join : (ys xs s : List A) (i : ℕ) → sets (sets s i ys) (i + length ys) xs ≡ sets s i (ys ++ xs)
  sets_join [] xs s i = ap (λ (k : ℕ). sets s k xs) (add-zero i)
  sets_join (y ∷ ys) xs s i =
      let e : i + suc (length ys) ≡ suc i + length ys = omega arith in
      ap (λ (k : ℕ). sets (sets (set s i y) (suc i) ys) k xs) e ∙ sets_join ys xs (set s i y) (suc i)

  set_after : (xs s : List A) (i j : ℕ) (a : A) → i + length xs ≤ j → set (sets s i xs) j a ≡ sets (set s j a) i xs
  set_after [] s i j a h = refl
  set_after (x ∷ xs) s i j a h = set_after xs (set s i x) (suc i) j a (omega arith) ∙ ap (λ (l : List A). sets l (suc i) xs) (set_comm s i j x a (λ e. omega arith))

  -- of two runs that do not touch, either may come first
  pub sets_swap : (ys xs s : List A) (i j : ℕ) → i + length xs ≤ j → sets (sets s i xs) j ys ≡ sets (sets s j ys) i xs
  sets_swap [] xs s i j h = refl
  sets_swap (y ∷ ys) xs s i j h = ap (λ (l : List A). sets l (suc j) ys) (set_after xs s i j y h) ∙ sets_swap ys xs (set s j y) i (suc j) (omega arith)

  -- a run at the front
  pub over_sets : (xs s : List A) → length xs ≤ length s → over xs s ≡ sets s 0 xs
  unfolding over
  over_sets xs s h =
      let e : 0 + length xs ≡ length xs = omega arith in
      sym (sets-eq xs s 0 (omega arith) ∙ ap (λ (k : ℕ). xs ++ drop k s) e)

  -- a part from a on was lent, and came back with a run at its front
  pub lent_sets : (a : ℕ) (xs d ys : List A) → a + length xs ≤ length d → ys ≡ over xs (take (length d - a) (drop a d))
      → take a d ++ (ys ++ drop (length d - a) (drop a d)) ≡ sets d a xs
  unfolding over
  lent_sets a xs d ys h e =
      let n : length (drop a d) ≤ length d - a = omega (arith, length-drop a d) in
      ap₂ (λ (l r : List A). take a d ++ (l ++ r)) (e ∙ ap (λ (l : List A). xs ++ drop (length xs) l) (take_all (length d - a) (drop a d) n)) (drop_of_length-le (drop a d) n)
      ∙ ap (λ (l : List A). take a d ++ l) (append-nil (xs ++ drop (length xs) (drop a d)) ∙ ap (λ (l : List A). xs ++ l) (drop-drop (length xs) a d))
      ∙ sym (sets-eq xs d a h ∙ append_assoc (take a d) xs (drop (a + length xs) d))

  pub length_over : (w xs : List A) → length w ≤ length xs → length (over w xs) ≡ length xs
  unfolding over
  length_over w xs h = length-append w (drop (length w) xs) ∙ omega (arith, length-drop (length w) xs)

  -- a part behind what is written was lent with just the room for a run, and came back as that
  pub lent_behind : (w g xs d : List A) (i k : ℕ) → length w ≡ i → length g ≡ k → d ≡ over w xs
      → take i d ++ (over g (take k (drop i d)) ++ drop k (drop i d)) ≡ over (w ++ g) xs
  unfolding over
  lent_behind w g xs d i k l m ed =
      let t = drop (length w) xs in
      let none : length (take k t) ≤ length g = simp length-take (omega arith) in
      let after : drop k t ≡ drop (length (w ++ g)) xs = ap (λ (n : ℕ). drop n t) (sym m) ∙ drop-drop (length g) (length w) xs ∙ ap (λ (n : ℕ). drop n xs) (sym (length-append w g)) in
      rw (ed, take_at w t i l, drop_at w t i l, drop_of_length-le (take k t) none, append-nil, after, append_assoc)

  pub over_none : (xs : List A) → xs ≡ over [] xs
  unfolding over
  over_none xs = refl

  over_more : (w g xs : List A) → take (length w) (over w xs) ++ over g (drop (length w) (over w xs)) ≡ over (w ++ g) xs
  unfolding over
  over_more w g xs = rw (take_at w (drop (length w) xs) (length w) refl, drop_at w (drop (length w) xs) (length w) refl, drop-drop, length-append, append_assoc)

  -- the part from a on was lent, and comes back with g at its front
  pub lend_turn : (a : ℕ) (w g xs d ys : List A) → a ≡ length w → d ≡ over w xs → ys ≡ over g (take (length d - a) (drop a d)) → take a d ++ (ys ++ drop (length d - a) (drop a d)) ≡ over (w ++ g) xs
  lend_turn a w g xs d ys ea ed ey =
      let n : length (drop a d) ≤ length d - a = omega (arith, length-drop a d) in
      rw (ey, part_to_end d a, drop_of_length-le (drop a d) n, append-nil, ← (over_more w g xs), ← ed, ← ea)

  -- a run put in place of one as long, within what is written
  sets_inside : (a x y c : List A) (i : ℕ) → length a ≡ i → length x ≡ length y → sets (a ++ (x ++ c)) i y ≡ a ++ (y ++ c)
  sets_inside a x y c i l e =
      let room : i + length y ≤ length (a ++ (x ++ c)) = omega (arith, length-append a (x ++ c), length-append x c) in
      let before : length (a ++ x) ≡ i + length y = omega (arith, length-append a x) in
      let after : drop (i + length y) (a ++ (x ++ c)) ≡ c = rw (← append_assoc a x c) (drop_at (a ++ x) c (i + length y) before) in
      sets-eq y (a ++ (x ++ c)) i room ∙ rw (take_at a (x ++ c) i l, after, append_assoc)

  pub sets_over : (a x y c s : List A) (i : ℕ) → length a ≡ i → length x ≡ length y → sets (over (a ++ (x ++ c)) s) i y ≡ over (a ++ (y ++ c)) s
  unfolding over
  sets_over a x y c s i l e =
      let same : length (a ++ (x ++ c)) ≡ length (a ++ (y ++ c)) = omega (arith, length-append a (x ++ c), length-append x c, length-append a (y ++ c), length-append y c) in
      rw (same, append_assoc a (x ++ c), append_assoc x c, append_assoc a (y ++ c), append_assoc y c) (sets_inside a x y (c ++ drop (length (a ++ (y ++ c))) s) i l e)

  -- a run put within t, which lies over out
  pub over_within : (i : ℕ) (xs t out : List A) → i + length xs ≤ length t → sets (over t out) i xs ≡ over (take i t ++ (xs ++ drop (i + length xs) t)) out
  unfolding over
  over_within i xs t out h =
      let k = i + length xs in
      let r = drop (length t) out in
      let long : k ≤ length (t ++ r) = omega (arith, length-append t r) in
      sets-eq xs (t ++ r) i long
      ∙ rw (take-append-le i t r (omega arith), drop-append-le k t r h, same, append_assoc (take i t) xs (drop k t ++ r), append_assoc (take i t) (xs ++ drop k t) r, append_assoc xs (drop k t) r) refl
    where
      same : length (take i t ++ (xs ++ drop (i + length xs) t)) ≡ length t
      same =
          length-append (take i t) (xs ++ drop (i + length xs) t)
          ∙ omega (arith, length-append xs (drop (i + length xs) t), length-take i t, length-drop (i + length xs) t)
