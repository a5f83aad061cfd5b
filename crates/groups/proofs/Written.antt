-- What the loop over groups has put: the frames so far, one group's part behind another's.
use Prim.Native.Nat.{ℕ, ◌+◌, ◌-◌, ◌*◌, ◌/◌, ◌%◌, ◌^◌, ◌≤◌, ◌<◌, min}
use mathlib.Core.Path.{◌≡◌, refl, sym, ap, ap₂, ◌∙◌}
use mathlib.Core.List.{List, ◌++◌, append_assoc}
use native.Mathlib.Nat.{mul-le-mul_right}
use native.Mathlib.Omega.{arith}
use lib.IntN.{ℤ}
use lib.ListN.{length, take, drop, length-append}
use lib.Seq.{take-append_seam, drop-append-add, drop-drop}
use Rattle.format.specs.Refusals.{Fine}
use Rattle.format.specs.Lists.{joined, over}
use Rattle.format.specs.Numbers.{Below}
use Rattle.format.specs.Header.{fields_of, groups_of, entry, group_bytes}
use Rattle.format.specs.Opening.{format_of, check_open}
use Rattle.format.specs.Decoding.{check_group, channels_of, frame_of}
use Rattle.format.specs.FewFrames.{check_frames, frames_at}
use Rattle.format.specs.declared.settings.SampleFormat.{SampleFormat}
use Rattle.format.specs.declared.units.Frames.{Frames}
use Rattle.format.specs.declared.answers.Fields.{Fields}
use Rattle.laws.proofs.Reading.{number_lt}
use Rattle.laws.proofs.Over.{length_over}
use Rattle.laws.proofs.FewFrames.{frames, frames_join, group_frames, frames_opens, frames_within, frame_passes, frames_long}
use Rattle.lent_samples.specs.Lent.{placed, woven_from}
use Rattle.lent_samples.specs.declared.Part.{Part}
use Rattle.group.specs.Readable.{Readable}
use Rattle.opening.proofs.Groups.{channels_some, depth_8, depth_32, part_rises, part_within, part_is}

-- ---- lists put one behind the other
pub placed_over : (xs ys s : List ℤ) → placed (length xs) ys (over xs s) ≡ over (xs ++ ys) s
unfolding placed over
placed_over xs ys s = rw (take-append_seam, drop-append-add, drop-drop, length-append) (sym (append_assoc xs ys (drop (length xs + length ys) s)))

pub none_yet : (s : List ℕ) (first : Frames) (t : List ℤ) → t ≡ over (frames_at s first (frames 0)) t
unfolding over frames_at joined
none_yet s first t = refl

-- ---- the frames of the groups that have passed
module _ (s : List ℕ) (h : Fields) (f : SampleFormat) (first count : Frames) (fine : check_frames s first count ≡ Fine) (reads : h ≡ fields_of s) (says : f ≡ format_of s h) where
  pub opens : check_open s ≡ Fine
  opens = frames_opens s first count fine

  all_within : first.0 + count.0 ≤ h.frames.0
  all_within = rw reads (frames_within s first count fine)

  frames_fit : Below 256 s → h.frames.0 < 2 ^ 32
  unfolding fields_of
  frames_fit byte = rw reads (number_lt 16 4 s byte)

  so_far_long : (n : ℕ) → n ≤ count.0 → length (frames_at s first (frames n)) ≡ n * h.channels
  so_far_long n l = rw reads (frames_long s first count fine n l)

  -- ---- the frame after the first `done` of them, and its group
  module _ (done : ℕ) (left : done < count.0) where
    abbrev at : ℕ
    at = first.0 + done

    pub at_fits : Below 256 s → first.0 + done < 2 ^ 32
    at_fits byte = omega (arith, all_within, frames_fit byte)

    pub after_fits : Below 256 s → at / 512 + 1 < 2 ^ 32
    after_fits byte = omega (arith, all_within, frames_fit byte)

    group_below : at / 512 < groups_of h.frames
    unfolding groups_of
    group_below = omega (arith, all_within)

    pub group_there : at / 512 ≤ groups_of h.frames
    group_there = omega (arith, group_below)

    pub end_there : at / 512 + 1 ≤ groups_of h.frames
    end_there = omega (arith, group_below)

    passes : check_group h f (group_bytes s h (at / 512)) ≡ Fine
    passes = rw (says, reads) (frame_passes s first count fine at (omega arith, omega arith))

    module _ (a e : ℕ) (starts : a ≡ h.start + entry s h (at / 512)) (ends : e ≡ h.start + entry s h (at / 512 + 1)) where
      abbrev bytes : List ℕ
      bytes = take (e - a) (drop a s)

      is_group : bytes ≡ group_bytes s h (at / 512)
      is_group = part_is s h opens reads (groups_of h.frames) (at / 512) a e refl group_below starts ends

      pub rises : a ≤ e
      rises = part_rises s h opens reads (groups_of h.frames) (at / 512) a e refl group_below starts ends

      pub ends_within : e ≤ length s
      ends_within = part_within s h opens reads (groups_of h.frames) (at / 512) a e refl group_below starts ends

      pub readable : Readable h f bytes
      readable = record {
        some = channels_some s h opens reads;
        least = omega (arith, depth_8 s h opens reads);
        most = depth_32 s h opens reads;
        fine = ap (check_group h f) is_group ∙ passes;
      }

      -- ---- what of that group is next
      module _ (part : Part) (next : (part.first ≡ done) × (part.skip ≡ at % 512) × (part.count ≡ min (512 - at % 512) (count.0 - done))) where
        abbrev n : ℕ
        n = part.count

        some_more : 0 < n
        some_more = let q = next.2 in omega arith

        pub no_more : done + n ≤ count.0
        no_more = let q = next.2 in omega arith

        pub more_fits : Below 256 s → done + n < 2 ^ 32
        more_fits byte = omega (arith, no_more, all_within, frames_fit byte)

        in_group : at % 512 + n ≤ 512
        in_group = let q = next.2 in omega arith

        pub part_in : part.skip + part.count ≤ 512
        part_in = let q = next.1 in omega (arith, in_group)

        pub nearer : count.0 - (done + n) < count.0 - done
        nearer = omega (arith, some_more)

        woven_part : woven_from part.skip n (channels_of h f bytes) ≡ frames_at s (frames at) (frames n)
        unfolding woven_from
        woven_part =
            ap₂ (λ (k : ℕ) (bs : List ℕ). joined (λ i. frame_of (channels_of h f bs) (k + i)) n) next.1 is_group
            ∙ rw (says, reads) (group_frames s at n in_group)

        module _ (t₀ t : List ℤ) (room : count.0 * h.channels ≤ length t₀) (so_far : t ≡ over (frames_at s first (frames done)) t₀) where
          begins : part.first * h.channels ≡ length (frames_at s first (frames done))
          begins = ap (λ (x : ℕ). x * h.channels) next.0 ∙ sym (so_far_long done (omega arith))

          same_long : length t ≡ length t₀
          same_long =
              let q : done ≤ count.0 = omega arith in
              ap length so_far ∙ length_over (frames_at s first (frames done)) t₀ (omega (arith, so_far_long done q, mul-le-mul_right h.channels q))

          pub part_room : (part.first + part.count) * h.channels ≤ length t
          part_room =
              let a = next.0 in
              let q : part.first + part.count ≤ count.0 = omega (arith, no_more) in
              omega (arith, same_long, mul-le-mul_right h.channels q)

          pub one_more : (t' : List ℤ) → t' ≡ placed (part.first * h.channels) (woven_from part.skip part.count (channels_of h f bytes)) t
              → t' ≡ over (frames_at s first (frames (done + n))) t₀
          one_more t' put =
              put ∙ ap₂ (λ (i : ℕ) (xs : List ℤ). placed i xs t) begins woven_part
              ∙ ap (placed (length (frames_at s first (frames done))) (frames_at s (frames at) (frames n))) so_far
              ∙ placed_over (frames_at s first (frames done)) (frames_at s (frames at) (frames n)) t₀
              ∙ ap (λ (xs : List ℤ). over xs t₀) (sym (frames_join s first (frames done) (frames n)))

  pub all_put : (done : ℕ) (t₀ t : List ℤ) → t ≡ over (frames_at s first (frames done)) t₀ → done ≤ count.0 → count.0 ≤ done → t ≡ over (frames_at s first count) t₀
  all_put done t₀ t so_far l m =
      let e : done ≡ count.0 = omega arith in
      so_far ∙ ap (λ (k : ℕ). over (frames_at s first (frames k)) t₀) e
