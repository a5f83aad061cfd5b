-- The smallest and the largest of a run, as they are found from its first sample on.
use Prim.Native.Nat.{◌<◌}
use mathlib.Core.Path.{◌≡◌, refl, sym, ap, ap₂, ◌∙◌}
use mathlib.Core.List.{List, [], ◌∷◌}
use native.Mathlib.Omega.{arith}
use lib.IntN.{ℤ, pos}
use lib.ListN.{length, get_or, drop}
use borrow.Author.Rules.{part_to_end}
use Rattle.std.specs.Prelude.{fold}
use Rattle.std.specs.Int.{int_min, int_max}
use Rattle.std.proofs.lemmas.Int.{ints, to_z-of_z}
use Rattle.std.proofs.lemmas.List.{take_all}
use Rattle.std.proofs.lemmas.List.Sums.{fold_more}
use Rattle.format.specs.Peaks.{lesser, greater, picked, extreme, peak_of}

lesser_min : (x y : ℤ) → lesser x y ≡ int_min x y
lesser_min x y = grind (arith, ints)

greater_max : (x y : ℤ) → greater x y ≡ int_max x y
greater_max x y = grind (arith, ints)

picked_fold : (pick best : ℤ → ℤ → ℤ) → ((x y : ℤ) → pick x y ≡ best x y) → (x : ℤ) (ys : List ℤ) → picked pick x ys ≡ fold best x ys
unfolding picked
picked_fold pick best same x [] = refl
picked_fold pick best same x (y ∷ ys) = picked_fold pick best same (pick x y) ys ∙ ap (λ (z : ℤ). fold best z ys) (same x y)

pub peak_is : (xs : List ℤ) → 0 < length xs
    → record { smallest = fold int_min (get_or xs 0 (pos 0)) (drop 1 xs); largest = fold int_max (get_or xs 0 (pos 0)) (drop 1 xs) } ≡ peak_of xs
unfolding extreme
peak_is [] some = absurd (omega arith)
peak_is (x ∷ xs) some = sym (ap₂ (λ (s l : ℤ). record { smallest = s; largest = l }) (picked_fold lesser int_min lesser_min x xs) (picked_fold greater int_max greater_max x xs))

pub ruleset picks = (to_z-of_z, fold_more, take_all, part_to_end, peak_is)
