-- Pairs put one behind another at the front of what is lent.
use Prim.Native.Nat.{ℕ, suc, ◌+◌, ◌*◌, ◌^◌, ◌≤◌, ◌<◌}
use mathlib.Core.Path.{◌≡◌, refl, sym, ap, ap₂, ◌∙◌}
use mathlib.Core.List.{List, [], ◌∷◌, ◌++◌, append_assoc}
use native.Mathlib.Nat.{add_assoc}
use native.Mathlib.Omega.{arith}
use native.Mathlib.Numerals.{add-one}
use lib.IntN.{ℤ, pos}
use lib.ListN.{length, get_or, set, drop, length-append, length-set}
use lib.Seq.{drop-cons, set_at}
use lib.Signed.{mag}
use mir.Syntax.{w32}
use mir.Val.{to_z, of_z}
use mir.ValLaws.{to_z-of_z}
use Rattle.format.specs.Lists.{joined, over}
use Rattle.format.specs.SevenBits.{past}
use Rattle.format.specs.Peaks.{from_pair, pair_of, pairs_from}
use Rattle.format.specs.declared.answers.Peak.{Peak}
use Rattle.laws.proofs.Over.{over_none, length_over}
use Rattle.laws.proofs.Summaries.{pairs_long, pairs_within, each_two}
use Rattle.summary.proofs.Pairs.{from_more}

-- one sample more
over_set : (w s : List ℤ) (x : ℤ) → length w < length s → set (over w s) (length w) x ≡ over (w ++ (x ∷ [])) s
unfolding over
over_set w s x h =
    let d = drop (suc (length w)) s in
    let l : length (w ++ (x ∷ [])) ≡ suc (length w) = length-append w (x ∷ []) ∙ omega arith in
    rw (l, drop-cons s (length w) (pos 0) h, append_assoc w (x ∷ []) d) (set_at w (get_or s (length w) (pos 0)) d x (length w) refl)

pub pairs_none : (s : List ℕ) (k : ℕ) (lent : List ℤ) → lent ≡ over (pairs_from s k 0) lent
unfolding pairs_from joined
pairs_none s k lent = over_none lent

pairs_more : (s : List ℕ) (k i : ℕ) → pairs_from s k (i + 1) ≡ (pairs_from s k i ++ ((pair_of (from_pair s (k + i))).smallest ∷ [])) ++ ((pair_of (from_pair s (k + i))).largest ∷ [])
unfolding pairs_from joined
pairs_more s k i = rw (add-one i, append_assoc)

-- i pairs are put, of so many that there is room for
module _ (s : List ℕ) (k i : ℕ) (lent now : List ℤ) (room : 2 * i + 2 ≤ length lent) (holds : now ≡ over (pairs_from s k i) lent) where
  pub still_long : length now ≡ length lent
  still_long = ap length holds ∙ length_over (pairs_from s k i) lent (omega (arith, pairs_long s k i))

  pub one_more : (p : Peak) → p ≡ pair_of (from_pair s (k + i)) → mag p.smallest < 2 ^ 31 → mag p.largest < 2 ^ 31
      → (after again : List ℤ) → after ≡ set now (2 * i) (to_z w32 (of_z w32 p.smallest)) → again ≡ set after (2 * i + 1) (to_z w32 (of_z w32 p.largest))
      → again ≡ over (pairs_from s k (i + 1)) lent
  one_more p r small large after again e f =
      let W = pairs_from s k i in
      let q = pair_of (from_pair s (k + i)) in
      let x : to_z w32 (of_z w32 p.smallest) ≡ q.smallest = to_z-of_z w32 p.smallest (record { sfits = small }) ∙ ap (λ (z : Peak). z.smallest) r in
      let y : to_z w32 (of_z w32 p.largest) ≡ q.largest = to_z-of_z w32 p.largest (record { sfits = large }) ∙ ap (λ (z : Peak). z.largest) r in
      let l : 2 * i ≡ length W = sym (pairs_long s k i) in
      let m : 2 * i + 1 ≡ length (W ++ (q.smallest ∷ [])) = omega (arith, l, length-append W (q.smallest ∷ [])) in
      let first : after ≡ over (W ++ (q.smallest ∷ [])) lent =
      e ∙ ap₂ (λ (j : ℕ) (v : ℤ). set now j v) l x ∙ ap (λ (z : List ℤ). set z (length W) q.smallest) holds ∙ over_set W lent q.smallest (omega arith) in
      f
      ∙ ap₂ (λ (j : ℕ) (v : ℤ). set after j v) m y
      ∙ ap (λ (z : List ℤ). set z (length (W ++ (q.smallest ∷ []))) q.largest) first
      ∙ over_set (W ++ (q.smallest ∷ [])) lent q.largest (omega arith)
      ∙ ap (λ (z : List ℤ). over z lent) (sym (pairs_more s k i))

pub set_long : (s : List ℤ) (i : ℕ) (x : ℤ) → length (set s i x) ≡ length s
set_long s i x = length-set s i x

pub from_next : (s : List ℕ) (k i : ℕ) → past (from_pair s (k + i)) 2 ≡ from_pair s (k + (i + 1))
from_next s k i = from_more s (k + i) ∙ ap (from_pair s) (add_assoc k i 1)

pub ruleset puts = (pairs_none, still_long, set_long, one_more, from_next, each_two, pairs_within)
