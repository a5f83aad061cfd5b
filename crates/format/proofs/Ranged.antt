-- Document 02, L1: a few frames, each case by computation.
use Prim.Native.Nat.{ℕ}
use mathlib.Core.Path.{◌≡◌, refl}
use native.Mathlib.Omega.{arith}
use mathlib.Core.List.{List, [], ◌∷◌, ◌++◌}
use lib.ListN.{replicate}
use lib.IntN.{ℤ, pos, negsuc}
use Rattle.format.specs.Refusals.{nowhere}
use Rattle.format.specs.Answers.{refused_by, read}
use Rattle.format.specs.FewFrames.{read_frames_of, read_frames_into, SameView}
use Rattle.format.specs.Boundary.{host_read_frames, host_read_frames_into}
use Rattle.format.specs.declared.refusals.Refusal.TheVariants.{BlockSignature, FloatDiffers, BytesLeft}
use Rattle.format.specs.declared.refusals.Refusal.TheVariants.{OutputTooShort, RangePastEnd}
use Rattle.format.specs.declared.answers.Answer.{Answer}
use Rattle.format.proofs.Made.{document_01, block, two, zeros, unmarked, sided, rising, nines, floats, sides, float_sides, empty}

-- so many frames from `first` on: what is answered, and what is left of three samples of 7
abbrev answer : List ℕ → ℕ → ℕ → ℕ → Answer
answer file first count room = read_frames_of file (record { 0 = first }) (record { 0 = count }) room

abbrev left : List ℕ → ℕ → ℕ → List ℤ
left file first count = read_frames_into file (record { 0 = first }) (record { 0 = count }) (replicate 3 (pos 7))

pub record Ranged : Type 0 where
  -- the last frame of 513, and one more; a sum of 33 bits
  pub last : answer (two 1 zeros zeros) 512 1 1 ≡ read 1
  pub past : answer (two 1 zeros zeros) 512 2 9 ≡ refused_by RangePastEnd nowhere
  pub sum : answer (two 1 zeros zeros) 1 4294967295 9 ≡ refused_by RangePastEnd nowhere
  -- no frame: at the end, past it, in a group that is damaged, and of a file that has none
  pub none : answer (two 1 zeros zeros) 513 0 0 ≡ read 0
  pub none_past : answer (two 1 zeros zeros) 514 0 0 ≡ refused_by RangePastEnd nowhere
  pub none_damaged : answer (two 1 (zeros ++ (0 ∷ [])) zeros) 511 0 0 ≡ read 0
  pub none_of_none : answer empty 0 0 0 ≡ read 0
  pub one_of_none : answer empty 0 1 9 ≡ refused_by RangePastEnd nowhere
  pub none_past_none : answer empty 1 0 9 ≡ refused_by RangePastEnd nowhere
  -- 51 after opening's 3, and before a touched group
  pub opens_first : answer (two 1 unmarked zeros) 512 2 9 ≡ refused_by BlockSignature nowhere
  pub range_first : answer (two 1 zeros unmarked) 512 2 9 ≡ refused_by RangePastEnd nowhere
  -- up to a group's end the next is not touched; a frame on it is, and 50 comes after it
  pub border : answer (two 1 zeros unmarked) 0 512 512 ≡ read 512
  pub over : answer (two 1 zeros unmarked) 511 2 0 ≡ refused_by BlockSignature (block 1 0)
  -- a touched group is checked whole: every channel, and 22
  pub channel : answer (two 2 (zeros ++ unmarked) (zeros ++ zeros)) 0 1 2 ≡ refused_by BlockSignature (block 0 1)
  pub left_over : answer (two 1 zeros (zeros ++ (0 ∷ []))) 512 1 1 ≡ refused_by BytesLeft (block 1 0)
  -- the first group untouched: its float bit counts, and nothing else
  pub first_floats : answer (two 1 floats zeros) 512 1 1 ≡ refused_by FloatDiffers (block 1 0)
  pub first_damaged : answer (two 2 (zeros ++ unmarked) (zeros ++ zeros)) 512 1 2 ≡ read 2
  -- 50 against the frames asked for, in samples
  pub room : answer (two 2 (zeros ++ zeros) (zeros ++ zeros)) 511 2 3 ≡ refused_by OutputTooShort nowhere
  -- each frame from its own group, and what lies behind them stays; the mono group before, which says mid/side, moves none
  pub frames : left (two 1 rising nines) 511 2 ≡ pos 511 ∷ pos 9 ∷ pos 7 ∷ []
  pub stereo : left (two 2 (rising ++ zeros) (nines ++ rising)) 512 1 ≡ pos 9 ∷ pos 0 ∷ pos 7 ∷ []
  pub displaced : left (two 1 sided nines) 512 1 ≡ pos 9 ∷ pos 7 ∷ pos 7 ∷ []
  -- mid/side within a group: 5 and 9; 1.0 and 0.5, which are 1.5 and 0.5
  pub mid_side_lem : left (two 2 sides (zeros ++ zeros)) 5 1 ≡ pos 14 ∷ negsuc 3 ∷ pos 7 ∷ []
  pub float_side : left (two 2 float_sides float_sides) 5 1 ≡ pos 0x3FC00000 ∷ pos 0x3F000000 ∷ pos 7 ∷ []
  -- nothing is stored where the range, or a later group of it, refuses
  pub kept : left (two 1 rising nines) 512 2 ≡ replicate 3 (pos 7)
  pub kept_damaged : left (two 1 rising unmarked) 511 2 ≡ replicate 3 (pos 7)
  -- two files of one view that differ in the group which is not touched
  pub one_view : SameView (two 1 rising nines) (two 1 zeros nines) (record { 0 = 512 }) (record { 0 = 1 })
  -- at the boundary: bytes, 4 a sample
  pub host : host_read_frames (two 1 rising nines) (record { 0 = 512 }) (record { 0 = 1 }) 7 ≡ 4
  pub host_left : host_read_frames_into (two 1 rising nines) (record { 0 = 512 }) (record { 0 = 1 }) (replicate 6 7) ≡ 9 ∷ 0 ∷ 0 ∷ 0 ∷ 7 ∷ 7 ∷ []
  pub host_past : host_read_frames (two 1 rising nines) (record { 0 = 1 }) (record { 0 = 4294967295 }) 7 ≡ 0x8000000000000033

pub ranged : Ranged
unfolding document_01
ranged =
    record {
      last = refl;
      past = refl;
      sum = refl;
      none = refl;
      none_past = refl;
      none_damaged = refl;
      none_of_none = refl;
      one_of_none = refl;
      none_past_none = refl;
      opens_first = refl;
      range_first = refl;
      border = refl;
      over = refl;
      channel = refl;
      left_over = refl;
      first_floats = refl;
      first_damaged = refl;
      room = refl;
      frames = refl;
      stereo = refl;
      displaced = refl;
      mid_side_lem = refl;
      float_side = refl;
      kept = refl;
      kept_damaged = refl;
      one_view = record {
        long = refl;
        front = refl;
        table = refl;
        mark = λ some. refl;
        flags = λ some. refl;
        groups = λ opens within j asked.
            let a = asked.0 in
            let b = asked.1 in
            let e : j ≡ 512 = omega arith in
            rw e refl;
      };
      host = refl;
      host_left = refl;
      host_past = refl;
    }
