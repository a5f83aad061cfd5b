-- The pairs of a file that can be decoded, group by group.
use Prim.Native.Nat.{ℕ, ◌+◌, ◌-◌, ◌≤◌, ◌<◌}
use mathlib.Core.Path.{◌≡◌, refl}
use mathlib.Core.List.{List, [], ◌++◌}
use native.Mathlib.Omega.{arith}
use lib.ListN.{length, take, drop}
use Rattle.format.specs.Lists.{joined}
use Rattle.format.specs.Refusals.{Fine}
use Rattle.format.specs.Header.{fields_of, groups_of, entry, group_bytes}
use Rattle.format.specs.Units.{active}
use Rattle.format.specs.Places.{at_group}
use Rattle.format.specs.Opening.{format_of, check_open}
use Rattle.format.specs.Decoding.{check_group, check_decode}
use Rattle.format.specs.declared.settings.SampleFormat.{SampleFormat}
use Rattle.format.specs.declared.answers.Fields.{Fields}
use Rattle.laws.proofs.Checks.{first_fine, others_fine}
use Rattle.laws.proofs.Places.{located_at}
use Rattle.laws.proofs.Opened.{opened_long}
use Rattle.laws.proofs.Channels.{some_active}
use Rattle.group.specs.Readable.{Readable}
use Rattle.opening.proofs.Groups.{channels_some, depth_8, depth_32, part_rises, part_within, part_is}
use Rattle.peaks.specs.Passes.{group_pairs, file_pairs}
use Rattle.peaks.proofs.Composed.{runs, nothing_found, nothing_left}
use Rattle.peaks.proofs.Parts.{joined_more, joined_around}

pub decode_opens : (s : List ℕ) → check_decode s ≡ Fine → check_open s ≡ Fine
unfolding check_decode
decode_opens s fine = first_fine _ _ fine

pub decode_fields : (s : List ℕ) → check_decode s ≡ Fine → 32 ≤ length s
decode_fields s fine = omega (arith, opened_long s (decode_opens s fine))

-- the pairs of group g, and those behind it
abbrev pub pairs_at : List ℕ → Fields → SampleFormat → ℕ → List ℕ
pairs_at s h f g = group_pairs h f (active h.frames g) (group_bytes s h g)

unfoldable pub groups_behind : List ℕ → Fields → SampleFormat → ℕ → List ℕ
groups_behind s h f g = joined (λ i. group_pairs h f (active h.frames (g + 1 + i)) (group_bytes s h (g + 1 + i))) (groups_of h.frames - (g + 1))

module _ (s : List ℕ) (h : Fields) (f : SampleFormat) where
  pub groups_none : file_pairs s h f 0 ≡ []
  unfolding file_pairs joined
  groups_none = refl

  pub groups_more : (g : ℕ) → file_pairs s h f (g + 1) ≡ file_pairs s h f g ++ group_pairs h f (active h.frames g) (group_bytes s h g)
  unfolding file_pairs
  groups_more g = joined_more (pairs_at s h f) g

  pub groups_around : (g : ℕ) → g < groups_of h.frames
      → file_pairs s h f (groups_of h.frames) ≡ file_pairs s h f g ++ (group_pairs h f (active h.frames g) (group_bytes s h g) ++ groups_behind s h f g)
  unfolding file_pairs groups_behind
  groups_around g l = joined_around (pairs_at s h f) g (groups_of h.frames) l

  -- where group g lies, and that it can be read
  module _ (fine : check_decode s ≡ Fine) (reads : h ≡ fields_of s) (g : ℕ) (l : g < groups_of h.frames) where
    pub group_rises : h.start + entry s h g ≤ h.start + entry s h (g + 1)
    group_rises = part_rises s h (decode_opens s fine) reads (groups_of h.frames) g _ _ refl l refl refl

    pub group_within : h.start + entry s h (g + 1) ≤ length s
    group_within = part_within s h (decode_opens s fine) reads (groups_of h.frames) g _ _ refl l refl refl

    pub group_is : take (h.start + entry s h (g + 1) - (h.start + entry s h g)) (drop (h.start + entry s h g) s) ≡ group_bytes s h g
    group_is = part_is s h (decode_opens s fine) reads (groups_of h.frames) g _ _ refl l refl refl

    pub group_frames : 0 < active h.frames g
    group_frames = some_active h.frames g l

    passes : f ≡ format_of s h → check_group h f (group_bytes s h g) ≡ Fine
    unfolding check_decode
    passes says =
        let k : g < groups_of (fields_of s).frames = rw reads at l in
        rw (says, reads) (located_at (λ g. check_group (fields_of s) (format_of s (fields_of s)) (group_bytes s (fields_of s) g)) at_group g (groups_of (fields_of s).frames) k (others_fine (check_open s) _ fine))

    pub group_reads : f ≡ format_of s h → Readable h f (group_bytes s h g)
    group_reads says = record {
      some = channels_some s h (decode_opens s fine) reads;
      least = omega (arith, depth_8 s h (decode_opens s fine) reads);
      most = depth_32 s h (decode_opens s fine) reads;
      fine = passes says;
    }

pub ruleset groups = (runs, nothing_found, nothing_left, decode_opens, groups_none, groups_more, group_rises, group_within, group_is, group_frames, group_reads)
