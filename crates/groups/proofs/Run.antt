-- Groups of a file that opens, `count` from the group `first` on: where group first + k lies, and what its checks say.
use Rattle.std.specs.Prelude.{Err}
use Prim.Native.Nat.{ℕ, ◌+◌, ◌-◌, ◌^◌, ◌≤◌, ◌<◌}
use mathlib.Core.Path.{◌≡◌, refl, sym, ap, ◌∙◌}
use mathlib.Core.List.{List}
use native.Mathlib.Omega.{arith}
use lib.ListN.{length, take, drop}
use Rattle.format.specs.Numbers.{Below}
use Rattle.format.specs.Header.{fields_of, groups_of, entry, group_bytes}
use Rattle.format.specs.Refusals.{Checked, Fine, in_order}
use Rattle.format.specs.Places.{in_group}
use Rattle.format.specs.Opening.{check_open}
use Rattle.format.specs.Decoding.{check_group}
use Rattle.format.specs.declared.refusals.RefusedAt.{RefusedAt}
use Rattle.format.specs.declared.settings.SampleFormat.{SampleFormat}
use Rattle.format.specs.declared.answers.Fields.{Fields}
use Rattle.laws.proofs.Chain.{turn_stops, turn_passes}
use Rattle.laws.proofs.Located.{groups_few}
use Rattle.opening.proofs.Groups.{part_rises, part_within, part_checked}

module _ (s : List ℕ) (h : Fields) (opens : check_open s ≡ Fine) (reads : h ≡ fields_of s) (first count : ℕ) (there : first + count ≤ groups_of h.frames) where
  few : Below 256 s → groups_of h.frames ≤ 8388608
  few byte = rw reads (groups_few s byte)

  module _ (k : ℕ) (below : k < count) where
    pub group_fits : Below 256 s → first + k < 2 ^ 32
    group_fits byte = omega (arith, few byte)

    pub next_fits : Below 256 s → first + k + 1 < 2 ^ 32
    next_fits byte = omega (arith, few byte)

    pub group_there : first + k < groups_of h.frames
    group_there = omega arith

    module _ (a e : ℕ) (starts : a ≡ h.start + entry s h (first + k)) (ends : e ≡ h.start + entry s h (first + k + 1)) where
      pub run_rises : a ≤ e
      run_rises = part_rises s h opens reads (groups_of h.frames) (first + k) a e refl group_there starts ends

      pub run_within : e ≤ length s
      run_within = part_within s h opens reads (groups_of h.frames) (first + k) a e refl group_there starts ends

      -- c is what the group's checks say
      module _ (f : SampleFormat) (c : Checked) (says : c ≡ check_group h f (take (e - a) (drop a s))) where
        abbrev check : ℕ → Checked
        check i = in_group (first + i) (check_group h f (group_bytes s h (first + i)))

        -- r the same in its place
        module _ (r : Checked) (placed : r ≡ in_group (first + k) c) (fine : in_order check k ≡ Fine) where
          next : r ≡ check k
          next = placed ∙ ap (in_group (first + k)) (sym (part_checked s h opens reads (groups_of h.frames) (first + k) a e refl group_there starts ends f c c says refl))

          pub run_stops : (refused : RefusedAt) → r ≡ Err refused → Err refused ≡ in_order check count
          run_stops refused t = turn_stops check k fine count r refused below next t

          pub run_more : r ≡ Fine → in_order check (k + 1) ≡ Fine
          run_more t = turn_passes check k fine r next t
