-- The pair p of some samples is its smallest number and then its largest: x and y are the two as they are stored.
use Prim.Native.Nat.{ℕ, ◌^◌, ◌<◌}
use mathlib.Core.Path.{◌≡◌, sym, ap, ◌∙◌}
use mathlib.Core.List.{List, ◌++◌}
use lib.IntN.{ℤ}
use lib.Signed.{mag}
use mir.Syntax.{w32}
use mir.Val.{to_z, of_z}
use mir.ValLaws.{to_z-of_z}
use Rattle.format.specs.SevenBits.{seven, folded}
use Rattle.format.specs.Peaks.{peak_of, pair_bytes}
use Rattle.format.specs.declared.answers.Peak.{Peak}
use Rattle.peaks.proofs.Composed.{runs}

stored : (v : ℤ) (x : ℕ) → mag v < 2 ^ 31 → x ≡ folded (to_z w32 (of_z w32 v)) → folded v ≡ x
stored v x f e = sym (e ∙ ap folded (to_z-of_z w32 v (record { sfits = f })))

module _ (run : List ℤ) (p : Peak) (x : ℕ) (reads : p ≡ peak_of run) (f : mag p.smallest < 2 ^ 31) (small : x ≡ folded (to_z w32 (of_z w32 p.smallest))) where
  pub pair_first : pair_bytes (peak_of run) ≡ seven x ++ seven (folded p.largest)
  unfolding pair_bytes
  pair_first = ap pair_bytes (sym reads) ∙ ap (λ (a : ℕ). seven a ++ seven (folded p.largest)) (stored p.smallest x f small)

  pub pair_both : (y : ℕ) → mag p.largest < 2 ^ 31 → y ≡ folded (to_z w32 (of_z w32 p.largest)) → pair_bytes (peak_of run) ≡ seven x ++ seven y
  pair_both y g large = pair_first ∙ ap (λ (b : ℕ). seven x ++ seven b) (stored p.largest y g large)

pub ruleset pairs = (runs, pair_first, pair_both)
