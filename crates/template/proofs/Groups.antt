-- The groups of a template that passed, as a loop over them meets them: where each lies, and its samples.
use Prim.Native.Nat.{ℕ, ◌+◌, ◌-◌, ◌*◌, ◌≤◌, ◌<◌}
use mathlib.Core.Path.{◌≡◌, sym, ap, ap₂, ◌∙◌}
use mathlib.Core.List.{List}
use native.Mathlib.Omega.{arith}
use lib.IntN.{ℤ}
use lib.ListN.{length, take, drop}
use Rattle.format.specs.Refusals.{Checked, Fine}
use Rattle.format.specs.Places.{in_group}
use Rattle.format.specs.Lists.{from}
use Rattle.format.specs.Header.{fields_of, groups_of, entry, group_bytes}
use Rattle.format.specs.Units.{active}
use Rattle.format.specs.Encoding.{group_in, check_samples}
use Rattle.format.specs.Reencoding.{check_template, check_reencoder, check_reencode_group, reencoded_group}
use Rattle.format.specs.declared.settings.PcmSpec.{PcmSpec}
use Rattle.format.specs.declared.answers.Fields.{Fields}
use Rattle.laws.proofs.SampleChecks.{reencoder_ok}
use Rattle.laws.proofs.TemplateFiles as files
use Rattle.lent_samples.specs.Lent.{frames_from}
use Rattle.laws.proofs.Channels.{some_active}
use Rattle.group.proofs.Frames.{group_frames, group_inside}

-- ---- the settings that passed
module _ (p : PcmSpec) (spec : check_reencoder p ≡ Fine) where
  pub some_channel : 1 ≤ p.channels
  some_channel = (reencoder_ok p spec).some

  pub few_channels : p.channels ≤ 2
  few_channels = (reencoder_ok p spec).few

  pub some_bits : 1 ≤ p.bits_per_sample
  some_bits = (reencoder_ok p spec).low

  pub few_bits : p.bits_per_sample ≤ 32
  few_bits = (reencoder_ok p spec).high

-- ---- the template t that passed, of the fields h

-- the bytes that lie from x to y after the data offset
abbrev pub part_of : List ℕ → Fields → ℕ → ℕ → List ℕ
part_of t h x y = take (h.start + y - (h.start + x)) (drop (h.start + x) t)

module _ (p : PcmSpec) (s : List ℤ) (t : List ℕ) (h : Fields) (template : check_template p s t ≡ Fine) (reads : h ≡ fields_of t) where
  channels_are : h.channels ≡ p.channels
  channels_are = rw reads (files.channels_are p s t template)

  bits_are : h.depth ≡ p.bits_per_sample
  bits_are = rw reads (files.bits_are p s t template)

  -- group g of the groups
  module _ (groups g : ℕ) (all : groups ≡ groups_of h.frames) (below : g < groups) where
    inside : g < groups_of h.frames
    inside = omega arith

    pub entry_there : h.table + 4 * g + 4 ≤ length t
    entry_there = rw reads (files.entry_there p s t template g (omega (arith, rw reads at inside)))

    pub entry_next : h.table + 4 * (g + 1) + 4 ≤ length t
    entry_next = rw reads (files.entry_there p s t template (g + 1) (omega (arith, rw reads at inside)))

    -- x is its entry, y the next
    module _ (x y : ℕ) (starts : x ≡ entry t h g) (ends : y ≡ entry t h (g + 1)) where
      pub part_rises : h.start + x ≤ h.start + y
      part_rises =
          let l : entry t h g < entry t h (g + 1) = rw reads (files.entry_rises p s t template g (rw reads at inside)) in
          omega arith

      pub part_within : h.start + y ≤ length t
      part_within =
          let l : h.start + entry t h (g + 1) ≤ length t = rw reads (files.entry_within p s t template (g + 1) (omega (arith, rw reads at inside))) in
          omega arith

      pub part_is : part_of t h x y ≡ group_bytes t h g
      unfolding group_bytes from
      part_is =
          let n : h.start + y - (h.start + x) ≡ entry t h (g + 1) - entry t h g = omega arith in
          ap₂ (λ (i j : ℕ). take i (drop (h.start + j) t)) n starts

    -- its n active frames
    module _ (samples : check_samples p s ≡ Fine) (n : ℕ) (count : n ≡ active h.frames g) where
      all_frames : length s ≡ p.channels * h.frames.0
      all_frames = rw (← channels_are) (rw reads (files.all_frames p s t template samples))

      pub frames_some : 0 < n
      frames_some = rw count (some_active h.frames g inside)

      pub frames_inside : (512 * g + n) * p.channels ≤ length s
      frames_inside = rw count (group_inside p.channels h.frames s all_frames g inside)

      pub frames_are : frames_from p.channels (512 * g) n s ≡ group_in p.channels s g
      frames_are = group_frames p.channels h.frames s all_frames g n count

      module _ (x y : ℕ) (starts : x ≡ entry t h g) (ends : y ≡ entry t h (g + 1)) where
        -- what is made of that part and of those frames is made of the group
        part_same : {A : Type 0} (f : ℕ → ℕ → List ℕ → List ℤ → A)
            → f p.bits_per_sample p.channels (part_of t h x y) (frames_from p.channels (512 * g) n s)
            ≡ f h.depth h.channels (group_bytes t h g) (group_in h.channels s g)
        part_same f =
            ap₂ (f p.bits_per_sample p.channels) (part_is x y starts ends) frames_are
            ∙ ap₂ (λ (d c : ℕ). f d c (group_bytes t h g) (group_in c s g)) (sym bits_are) (sym channels_are)

        pub part_new :
            reencoded_group p.bits_per_sample p.channels (part_of t h x y) (frames_from p.channels (512 * g) n s)
            ≡ reencoded_group h.depth h.channels (group_bytes t h g) (group_in h.channels s g)
        part_new = part_same reencoded_group

        pub part_fine :
            check_reencode_group h.depth h.channels (group_bytes t h g) (group_in h.channels s g) ≡ Fine
            → check_reencode_group p.bits_per_sample p.channels (part_of t h x y) (frames_from p.channels (512 * g) n s) ≡ Fine
        part_fine e = part_same check_reencode_group ∙ e

        -- its checks, as they were made: k they say, and l of the group
        pub part_checked :
            (k l : Checked)
            → k ≡ check_reencode_group p.bits_per_sample p.channels (part_of t h x y) (frames_from p.channels (512 * g) n s)
            → l ≡ in_group g k
            → l ≡ in_group g (check_reencode_group h.depth h.channels (group_bytes t h g) (group_in h.channels s g))
        part_checked k l says e = e ∙ ap (in_group g) (says ∙ part_same check_reencode_group)
