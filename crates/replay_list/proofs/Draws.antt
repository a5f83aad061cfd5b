-- Drawn numbers: one number more, and a part of a space that is filled.
use Rattle.std.proofs.Common.{refl, ◌≡◌, ℕ, suc, ◌+◌, ◌*◌, ◌/◌, ◌<◌, ◌≤◌, List, ◌++◌, length, take, drop, sym, ap, ◌∙◌, add-one, arith, length-append, length-drop, take-append-drop, length-take-le, le-leb}
use lib.Seq.{sets, sets-eq}
use borrow.Author.Tests.{lt-leb}
use Rattle.format.specs.Lists.{joined, over}
use Rattle.format.specs.Numbers.{le}
use Rattle.laws.proofs.Parts.{length_even}
use Rattle.laws.proofs.Digits.{length_le}
use Rattle.laws.proofs.Over.{sets_join, over_sets, over_none, lent_behind}
use Rattle.replay_list.specs.declared.drawing.Drawn.{Drawn}
use Rattle.replay_list.specs.Drawn.{next_of, state_at, number_of, number_at, drawn, drawn_into}

-- ---- the front of a list, and what is put behind it

front_over : (at : ℕ) (s : List ℕ) → length (take at s) ≡ at → s ≡ over (take at s) s
unfolding over
front_over at s e = rw e (sym (take-append-drop at s))

behind_front : (at : ℕ) (g s : List ℕ) → length (take at s) ≡ at → at + length g ≤ length s → over (take at s ++ g) s ≡ sets s at g
unfolding over
behind_front at g s e h =
    let long : length (take at s ++ g) ≡ at + length g = length-append (take at s) g ∙ ap (λ (k : ℕ). k + length g) e in
    rw long (sym (sets-eq g s at h))

-- ---- one number after another

module _ (d : Drawn) where
  length_drawn : (n : ℕ) → length (drawn d n) ≡ 4 * n
  unfolding drawn
  length_drawn n = length_even (λ k. le 4 (number_at d (suc k))) 4 (λ k. length_le 4 (number_at d (suc k))) n

  pub state_none : d.seed ≡ state_at d 0
  unfolding state_at
  state_none = refl

  pub number_none : 0 ≡ number_at d 0
  unfolding number_at
  number_none = refl

  pub state_turn : (i : ℕ) {x y : ℕ} → x ≡ state_at d i → y ≡ next_of x → y ≡ state_at d (i + 1)
  unfolding state_at
  state_turn i p q = q ∙ rw (add-one i) (ap next_of p)

  pub number_turn : (i : ℕ) {a b y : ℕ} → a ≡ number_at d i → y ≡ state_at d (i + 1) → b ≡ number_of d a y → b ≡ number_at d (i + 1)
  unfolding number_at
  number_turn i {a} {b} {y} p q e = e ∙ rw (p, q, add-one i)

  more : (i : ℕ) → drawn d (i + 1) ≡ drawn d i ++ le 4 (number_at d (i + 1))
  unfolding drawn joined
  more i = rw (add-one i)

  pub none_drawn : (s : List ℕ) → s ≡ over (drawn d 0) s
  unfolding drawn joined
  none_drawn s = over_none s

  pub drawn_turn : (s p q : List ℕ) (i b : ℕ) → 4 * i + 4 ≤ length s → p ≡ over (drawn d i) s → b ≡ number_at d (i + 1) → q ≡ sets p (4 * i) (le 4 b) → q ≡ over (drawn d (i + 1)) s
  drawn_turn s p q i b h e n t =
      let long = length_drawn i in
      let place : 4 * i ≡ 0 + length (drawn d i) = omega arith in
      t
      ∙ rw (n, e, over_sets (drawn d i) s (omega arith), place, sets_join (drawn d i) (le 4 (number_at d (i + 1))) s 0, ← more i)
      (sym (over_sets (drawn d (i + 1)) s (omega (arith, length_drawn (i + 1)))))

  -- in a space
  module _ (at n : ℕ) (s : List ℕ) where
    pub not_within : length s < at + 4 * n → s ≡ drawn_into d at n s
    unfolding drawn_into
    not_within h = rw (lt-leb (at + 4 * n) (length s) h)

    pub part_drawn : (k : ℕ) (ys : List ℕ) → at + 4 * n ≤ length s → k ≡ 4 * n → (let part = take k (drop at s) in ys ≡ over (drawn d (length part / 4)) part)
        → take at s ++ (ys ++ drop k (drop at s)) ≡ drawn_into d at n s
    unfolding drawn_into
    part_drawn k ys h e y =
        let g = drawn d n in
        let front : length (take at s) ≡ at = length-take-le at s (omega arith) in
        let part : length (take k (drop at s)) ≡ k = length-take-le k (drop at s) (omega (arith, length-drop at s)) in
        let many : length (take k (drop at s)) / 4 ≡ n = omega arith in
        let long : length g ≡ k = omega (arith, length_drawn n) in
        rw (le-leb (at + 4 * n) (length s) h, y, many) (lent_behind (take at s) g s s at k front long (front_over at s front) ∙ behind_front at g s front (omega arith))

pub ruleset one_by_one = (state_none, number_none, state_turn, number_turn, none_drawn, drawn_turn)

pub ruleset in_a_space = (not_within, part_drawn)
