-- A run copied to the front of lent bytes, one byte a turn.
use Prim.Native.Nat.{ℕ, ◌+◌, ◌<◌, ◌≤◌}
use mathlib.Core.Path.{◌≡◌, sym, ap, ◌∙◌}
use mathlib.Core.List.{List, [], ◌∷◌, ◌++◌}
use native.Mathlib.Numerals.{add-one}
use native.Mathlib.Omega.{arith}
use lib.ListN.{length, get_or, set, take, length-append}
use lib.Seq.{sets, take-suc, take_all, length-take-le}
use Rattle.format.specs.Lists.{over}
use Rattle.laws.proofs.Over.{sets_join, over_sets}

module _ (run s d : List ℕ) (i : ℕ) (so_far : d ≡ over (take i run) s) where
  pub copy_more : i < length run → length run ≤ length s → set d i (get_or run i 0) ≡ over (take (i + 1) run) s
  copy_more h l =
      let ys = take i run in
      let x = get_or run i 0 in
      let n : length ys ≡ i = length-take-le i run (omega arith) in
      let all : take (i + 1) run ≡ ys ++ (x ∷ []) = ap (λ (k : ℕ). take k run) (add-one i) ∙ take-suc run i 0 h in
      let at : 0 + length ys ≡ i = omega arith in
      let long : length (ys ++ (x ∷ [])) ≤ length s = omega (arith, length-append ys (x ∷ [])) in
      rw (so_far, all)
      (ap (λ (l : List ℕ). set l i x) (over_sets ys s (omega arith))
      ∙ ap (λ (k : ℕ). sets (sets s 0 ys) k (x ∷ [])) (sym at)
      ∙ sets_join ys (x ∷ []) s 0
      ∙ sym (over_sets (ys ++ (x ∷ [])) s long))

  pub copy_done : length run ≤ i → d ≡ over run s
  copy_done h = so_far ∙ ap (λ (l : List ℕ). over l s) (take_all i run h)
