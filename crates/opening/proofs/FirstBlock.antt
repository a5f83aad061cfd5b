-- The first block, which is read where there is a group: g is the count of groups. Opening's other checks leave room
-- for its header.
use Prim.Native.Nat.{ℕ, ◌+◌, ◌-◌, ◌≤◌}
use mathlib.Core.Path.{◌≡◌, ◌∙◌}
use mathlib.Core.List.{List}
use native.Mathlib.Omega.{arith}
use lib.ListN.{length, take, drop, length-drop}
use borrow.Author.Rules.{part_to_end}
use Rattle.format.specs.Header.{groups_of}
use Rattle.format.specs.declared.answers.Fields.{Fields}

module _ (s : List ℕ) (h : Fields) (g : ℕ) (counted : g ≡ groups_of h.frames) where
  module _ (some : g ≡ 0 → ⊥) where
    module _ (room : (groups_of h.frames ≡ 0 → ⊥) → h.start + 16 ≤ length s) where
      within : h.start + 16 ≤ length s
      within = room (λ e. some (counted ∙ e))

      pub header_within : 16 ≤ length (take (length s - h.start) (drop h.start s))
      header_within = rw part_to_end (omega (arith, within, length-drop h.start s))

      pub mark_within : 4 ≤ length (take (length s - h.start) (drop h.start s))
      mark_within = omega (arith, header_within)
