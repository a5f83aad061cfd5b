-- The groups of a file that opens: where they lie, and what a loop over their checks says.
use Prim.Native.Nat.{ℕ, ◌+◌, ◌-◌, ◌*◌, ◌≤◌, ◌<◌}
use mathlib.Core.Path.{◌≡◌, sym, ap, ap₂, ◌∙◌}
use mathlib.Core.List.{List}
use native.Mathlib.Omega.{arith}
use lib.ListN.{length, take, drop}
use Rattle.format.specs.Refusals.{Checked, Fine}
use Rattle.format.specs.Lists.{from}
use Rattle.format.specs.Header.{fields_of, groups_of, entry, group_bytes}
use Rattle.format.specs.Opening.{check_fields, check_offsets, check_table, check_open}
use Rattle.format.specs.Decoding.{check_group}
use Rattle.format.specs.declared.settings.SampleFormat.{SampleFormat}
use Rattle.format.specs.declared.answers.Fields.{Fields}
use Rattle.laws.proofs.Opened.{some_channels, depth_least, depth_most, data_past, data_within, end_within, entry_rises, opened_fields, opened_offsets, opened_table}

module _ (s : List ℕ) (h : Fields) (opens : check_open s ≡ Fine) (reads : h ≡ fields_of s) where
  fields : check_fields h ≡ Fine
  fields = rw reads (opened_fields s opens)

  offsets : check_offsets h (length s) ≡ Fine
  offsets = rw reads (opened_offsets s opens)

  table : check_table s h ≡ Fine
  table = rw reads (opened_table s opens)

  pub channels_some : 1 ≤ h.channels
  channels_some = some_channels h fields

  pub depth_8 : 8 ≤ h.depth
  depth_8 = depth_least h fields

  pub depth_32 : h.depth ≤ 32
  depth_32 = depth_most h fields

  module _ (groups g a e : ℕ) (all : groups ≡ groups_of h.frames) (below : g < groups) (starts : a ≡ h.start + entry s h g) (ends : e ≡ h.start + entry s h (g + 1)) where
    l : g < groups_of h.frames
    l = omega arith

    pub part_rises : a ≤ e
    part_rises = omega (arith, entry_rises s h table g l)

    pub part_within : e ≤ length s
    part_within = omega (arith, end_within s h table g l, data_within h (length s) offsets)

    pub part_is : take (e - a) (drop a s) ≡ group_bytes s h g
    unfolding group_bytes from
    part_is =
        let n : e - a ≡ entry s h (g + 1) - entry s h g = omega arith in
        ap₂ (λ (i j : ℕ). take i (drop j s)) n starts

    -- the group's checks, as they were made of that part
    pub part_checked : (f : SampleFormat) (k r : Checked) → k ≡ check_group h f (take (e - a) (drop a s)) → k ≡ r → check_group h f (group_bytes s h g) ≡ r
    part_checked f k r says t = ap (check_group h f) (sym part_is) ∙ sym says ∙ t
