-- Document 02, L5: lost_frame markers in float files. In mid/side a NaN goes on into both channels of its frame: mid's
-- if that is one, otherwise side's. All its bits are kept but bit 22, 0x00400000, which is set. Without a NaN in mid
-- and side the sum and the difference are what document 01 says.
use Prim.Native.Nat.{ℕ, ◌+◌, ◌-◌, ◌*◌, ◌%◌, ◌^◌, ◌<◌}
use mathlib.Core.Path.{◌≡◌, refl, sym, ap, ap₂, ◌∙◌}
use mathlib.Core.Logic.{◌≢◌, ◌⊎◌, ⊎_elim}
use mathlib.Core.Bool.{Bool, true, false, cond}
use mathlib.Core.List.{List, [], ◌∷◌, ◌++◌}
use lib.ListN.{length}
use native.Mathlib.Omega.{arith}
use lib.IntN.{ℤ}
use lib.Ieee as Ieee
use lib.Ieee.{binary32, nan_bits}
use Rattle.format.specs.Refusals.{Fine}
use Rattle.format.specs.Lists.{joined, from}
use Rattle.format.specs.Numbers.{le, value, code_of}
use Rattle.format.specs.Header.{fields_of, group_bytes}
use Rattle.format.specs.Blocks.{mid_bit}
use Rattle.format.specs.MidSide.{float_of, pattern_of, quieted, left, right}
use Rattle.format.specs.Units.{active}
use Rattle.format.specs.Places.{at_group}
use Rattle.format.specs.Answers.{read}
use Rattle.format.specs.Opening.{format_of, check_open}
use Rattle.format.specs.Decoding.{check_group, channels_of, frame_of, woven, group_samples, check_decode}
use Rattle.format.specs.Walking.{check_step, step_samples}
use Rattle.format.specs.FewFrames.{IsAsked, group_of, check_frames, frame_at, frames_at}
use Rattle.format.specs.Boundary.{sample_bytes}
use Rattle.format.specs.Promises.{Decodes, Steps, ReadsFrames, HostDecodes}
use Rattle.format.specs.declared.units.Frames.{Frames}
use Rattle.format.specs.declared.answers.Outcome.TheVariants.{Read}
use Rattle.format.specs.declared.settings.SampleFormat.{SampleFormat}
use Rattle.format.specs.declared.settings.SampleFormat.TheVariants.{Float}
use Rattle.laws.proofs.Tests.{never}
use Rattle.laws.proofs.Signs.{Holds, code_lt, code_value}
use Rattle.laws.proofs.Parts.{length_even, from_take}
use Rattle.laws.proofs.Places.{located_fine}
use Rattle.laws.proofs.Opened.{some_channels, opened_fields}
use Rattle.laws.proofs.Channels.{frame_length}
use Rattle.laws.proofs.Lengths.{channels_count}
use Rattle.laws.proofs.FewFrames.{frames, frames_opens, frame_passes, frames_long}
use Rattle.promises.proofs.Outcomes.{read_fine}
use Rattle.promises.proofs.HostFiles.{host_decoded}
use Rattle.promises.proofs.MidSums.{mid_at, side_at}
use Rattle.promises.proofs.WalkLaws.{step_opens, step_checked, step_count_lem, step_leaves}
use Rattle.promises.proofs.FewFramesLaws.{range_fine, range_count, range_left, cut_passes, cut_left, host_cut_left}
use Rattle.promises.proofs.LostFramesLaws.{bit, quieted_keeps, quieted_sets, quieted_lt, settled_mid, settled_side, settled_neither, sides_two, sides_frame, mid_of_32, side_of_32, nth_frame}

-- the 32 bits of a sample are a NaN's, or a number's
abbrev pub IsNan : ℤ → Type 0
IsNan z = nan_bits binary32 (code_of 32 z) ≡ true

abbrev pub IsNumber : ℤ → Type 0
IsNumber z = nan_bits binary32 (code_of 32 z) ≡ false

-- the sample that a NaN goes on as
abbrev pub marker : ℤ → ℤ
marker z = value 32 (quieted (code_of 32 z))

-- ---- A FRAME, OF MID AND SIDE

-- mid is a NaN
pub mid_goes_on : (mid side : ℤ) → IsNan mid → (left Float mid side ≡ marker mid) × (right Float mid side ≡ marker mid)
unfolding left right
mid_goes_on mid side e = (ap (value 32) (settled_mid _ _ _ e), ap (value 32) (settled_mid _ _ _ e))

-- side is one, and mid is not
pub side_goes_on : (mid side : ℤ) → IsNumber mid → IsNan side → (left Float mid side ≡ marker side) × (right Float mid side ≡ marker side)
unfolding left right
side_goes_on mid side e f = (ap (value 32) (settled_side _ _ _ e f), ap (value 32) (settled_side _ _ _ e f))

-- neither is: the result's bits, and of a NaN 0x7FC00000
pub numbers_as_before : (mid side : ℤ) → IsNumber mid → IsNumber side
    → (left Float mid side ≡ value 32 (pattern_of (Ieee.add binary32 (float_of mid) (float_of side))))
    × (right Float mid side ≡ value 32 (pattern_of (Ieee.sub binary32 (float_of mid) (float_of side))))
unfolding left right
numbers_as_before mid side e f = (ap (value 32) (settled_neither _ _ _ e f), ap (value 32) (settled_neither _ _ _ e f))

-- the one of mid and side that a frame is lost by, if it is a NaN: mid if that is one, otherwise side
abbrev pub lost_by : ℤ → ℤ → ℤ
lost_by mid side = cond (nan_bits binary32 (code_of 32 mid)) mid side

pub lost_goes_on : (mid side : ℤ) → (let z = lost_by mid side in IsNan z → (left Float mid side ≡ marker z) × (right Float mid side ≡ marker z))
lost_goes_on mid side = by (nan_bits binary32 (code_of 32 mid)) refl
  where
    by : (t : Bool) → nan_bits binary32 (code_of 32 mid) ≡ t
        → (let z = cond t mid side in IsNan z → (left Float mid side ≡ marker z) × (right Float mid side ≡ marker z))
    by true e f = mid_goes_on mid side e
    by false e f = side_goes_on mid side e f

-- so with a NaN left and right are one
pub lost_alike : (mid side : ℤ) → IsNan mid ⊎ IsNan side → left Float mid side ≡ right Float mid side
lost_alike mid side = by (nan_bits binary32 (code_of 32 mid)) refl
  where
    by : (t : Bool) → nan_bits binary32 (code_of 32 mid) ≡ t → (t ≡ true) ⊎ IsNan side → left Float mid side ≡ right Float mid side
    by true e n = let q = mid_goes_on mid side e in q.0 ∙ sym q.1
    by false e n = let q = side_goes_on mid side e (⊎_elim (λ z. never (sym z)) (λ y. y) n) in q.0 ∙ sym q.1

-- its bits, those of a NaN of 32 bits: all but bit 22 are kept, the sign too, and that one is set
marker_code : (z : ℤ) → Holds 32 z → code_of 32 (marker z) ≡ quieted (code_of 32 z)
marker_code z h = code_value 32 _ (quieted_lt (code_of 32 z) (code_lt 32 (omega arith) z h))

pub marker_keeps : (z : ℤ) → Holds 32 z → (i : ℕ) → i ≢ 22 → bit i (code_of 32 (marker z)) ≡ bit i (code_of 32 z)
marker_keeps z h i d = ap (bit i) (marker_code z h) ∙ quieted_keeps (code_of 32 z) i d

pub marker_sets : (z : ℤ) → Holds 32 z → bit 22 (code_of 32 (marker z)) ≡ 1
marker_sets z h = ap (bit 22) (marker_code z h) ∙ quieted_sets (code_of 32 z)

-- ---- A FILE

-- mid and side of frame j, as they are coded
abbrev pub mid_in : List ℕ → ℕ → ℤ
mid_in s j = let h = fields_of s in mid_at h.depth (group_bytes s h (group_of j)) (j % 512)

abbrev pub side_in : List ℕ → ℕ → ℤ
side_in s j = let h = fields_of s in side_at h.depth (group_bytes s h (group_of j)) (j % 512)

-- the file has frame j, in a group that is mid/side
abbrev pub IsSided : List ℕ → ℕ → Type 0
IsSided s j = let h = fields_of s in (j < h.frames.0) × (mid_bit (group_bytes s h (group_of j)) ≡ true)

-- its group passes, so it can be read
abbrev pub Passes : List ℕ → ℕ → Type 0
Passes s j = let h = fields_of s in check_group h (format_of s h) (group_bytes s h (group_of j)) ≡ Fine

one_frame : (s : List ℕ) (j : ℕ) → frames_at s (frames j) (frames 1) ≡ frame_at s j
unfolding frames_at joined
one_frame s j = let e : j + 0 ≡ j = omega arith in ap (frame_at s) e

-- in a file that decodes every group passes
module _ (s : List ℕ) (fine : check_decode s ≡ Fine) (j : ℕ) (within : j < (fields_of s).frames.0) where
  one_passes : check_frames s (frames j) (frames 1) ≡ Fine
  one_passes = cut_passes s (frames j) (frames 1) (omega arith) fine

  decode_opens : check_open s ≡ Fine
  decode_opens = frames_opens s (frames j) (frames 1) one_passes

  decode_passes : Passes s j
  decode_passes = frame_passes s (frames j) (frames 1) one_passes j (omega arith, omega arith)

-- where the whole decode reads, frame j of two channels is two samples of it
decode_frame : (s : List ℕ) (out whole : List ℤ) (n j : ℕ) → Decodes s out (read n) whole → j < (fields_of s).frames.0 → (fields_of s).channels ≡ 2
    → from (2 * j) 2 whole ≡ frame_at s j
decode_frame s out whole n j d within two =
    let a : j * (fields_of s).channels ≡ 2 * j = omega (arith, ap (λ (c : ℕ). j * c) two) in
    let b : 1 * (fields_of s).channels ≡ 2 = omega arith in
    ap₂ (λ (x y : ℕ). from x y whole) (sym a) (sym b) ∙ sym (cut_left s out whole n (frames j) (frames 1) d (omega arith)) ∙ one_frame s j

-- of a mid/side group, left and right of its mid and side, in PCM too
pub sides_decode : (s : List ℕ) (out whole : List ℤ) (n j : ℕ)
    → Decodes s out (read n) whole
    → IsSided s j
    → (let f = format_of s (fields_of s) in from (2 * j) 2 whole ≡ left f (mid_in s j) (side_in s j) ∷ right f (mid_in s j) (side_in s j) ∷ [])
sides_decode s out whole n j d (within, sided) =
    let fine = read_fine s out whole n d in
    let opens = decode_opens s fine j within in
    let passes = decode_passes s fine j within in
    decode_frame s out whole n j d within (sides_two s opens j passes sided) ∙ sides_frame s opens j passes sided

-- the NaN that frame j is lost by; the file is float, the group is mid/side, and there is one
abbrev pub lost_in : List ℕ → ℕ → ℤ
lost_in s j = lost_by (mid_in s j) (side_in s j)

abbrev pub IsLost : List ℕ → ℕ → Type 0
IsLost s j = (format_of s (fields_of s) ≡ Float) × IsSided s j × IsNan (lost_in s j)

-- a frame that is lost
module _ (s : List ℕ) (opens : check_open s ≡ Fine) (j : ℕ) (passes : Passes s j) (lost : IsLost s j) where
  lost_at : frame_at s j ≡ marker (lost_in s j) ∷ marker (lost_in s j) ∷ []
  lost_at =
      let q = lost_goes_on (mid_in s j) (side_in s j) lost.2 in
      sides_frame s opens j passes lost.1.1
      ∙ ap (λ (f : SampleFormat). left f (mid_in s j) (side_in s j) ∷ right f (mid_in s j) (side_in s j) ∷ []) lost.0
      ∙ ap₂ (λ (x y : ℤ). x ∷ y ∷ []) q.0 q.1

  lost_two : (fields_of s).channels ≡ 2
  lost_two = sides_two s opens j passes lost.1.1

-- both its samples are the marker: in the whole decode
pub lost_frame : (s : List ℕ) (out whole : List ℤ) (n j : ℕ)
    → Decodes s out (read n) whole
    → IsLost s j
    → from (2 * j) 2 whole ≡ marker (lost_in s j) ∷ marker (lost_in s j) ∷ []
lost_frame s out whole n j d lost =
    let fine = read_fine s out whole n d in
    let within = lost.1.0 in
    let opens = decode_opens s fine j within in
    let passes = decode_passes s fine j within in
    decode_frame s out whole n j d within (lost_two s opens j passes lost) ∙ lost_at s opens j passes lost

-- in a range of frames, whatever the groups are that it does not touch, but for the first block's signature and flags
pub lost_in_range : (s : List ℕ) (first count : Frames) (lent after : List ℤ) (n j : ℕ)
    → ReadsFrames s first count lent (read n) after
    → IsAsked first count j
    → IsLost s j
    → from (2 * (j - first.0)) 2 after ≡ marker (lost_in s j) ∷ marker (lost_in s j) ∷ []
unfolding frames_at
lost_in_range s first count lent after n j d (from_First, to_end) lost =
    let fine = range_fine s first count lent after n d in
    let opens = frames_opens s first count fine in
    let passes = frame_passes s first count fine j (from_First, to_end) in
    let two = lost_two s opens j passes lost in
    let k = j - first.0 in
    let e : first.0 + k ≡ j = omega arith in
    let at = ap (frame_at s) e ∙ lost_at s opens j passes lost in
    let before : length (frames_at s first (frames k)) ≡ 2 * k = omega (arith, frames_long s first count fine k (omega arith), ap (λ (c : ℕ). k * c) two) in
    let m : n ≡ count.0 * 2 = range_count s first count lent after n d ∙ ap (λ (c : ℕ). count.0 * c) two in
    sym (from_take (2 * k) 2 n after (omega arith)) ∙ ap (from (2 * k) 2) (range_left s first count lent after n d) ∙ nth_frame _ count.0 k (omega arith) before (ap length at) ∙ at

-- in a step, whatever the other groups are, but for the first block's signature and flags
pub lost_in_step : (s : List ℕ) (lent after : List ℤ) (n j : ℕ)
    → Steps s (group_of j) lent (read n) after
    → IsLost s j
    → from (2 * (j % 512)) 2 after ≡ marker (lost_in s j) ∷ marker (lost_in s j) ∷ []
unfolding check_step step_samples group_samples woven active frame_at
lost_in_step s lent after n j d lost =
    let g = group_of j in
    let h = fields_of s in
    let f = format_of s h in
    let opens = step_opens s g lent after (Read (record { 0 = n })) refl d in
    let passes = located_fine (at_group g) _ (step_checked s g lent after n d) in
    let two = lost_two s opens j passes lost in
    let chans = channels_of h f (group_bytes s h g) in
    let each : (i : ℕ) → length (frame_of chans i) ≡ 2 = λ i. frame_length chans i ∙ channels_count h f (group_bytes s h g) (some_channels h (opened_fields s opens)) passes ∙ two in
    let within = lost.1.0 in
    let l : j % 512 < active h.frames g = omega arith in
    let m : n ≡ active h.frames g * 2 = step_count_lem s g lent after n d ∙ ap (λ (c : ℕ). active h.frames g * c) two in
    sym (from_take (2 * (j % 512)) 2 n after (omega arith)) ∙ ap (from (2 * (j % 512)) 2) (step_leaves s g lent after n d)
    ∙ nth_frame (frame_of chans) (active h.frames g) (j % 512) l (length_even (frame_of chans) 2 each (j % 512)) (each (j % 512))
    ∙ lost_at s opens j passes lost

-- that NaN has 32 bits, so `marker-keeps` and `marker-sets` hold of it
pub lost_of_32 : (s : List ℕ) (j : ℕ) → check_open s ≡ Fine → Passes s j → IsSided s j → Holds 32 (lost_in s j)
lost_of_32 s j opens passes (within, sided) = by (nan_bits binary32 (code_of 32 (mid_in s j)))
  where
    by : (t : Bool) → Holds 32 (cond t (mid_in s j) (side_in s j))
    by true = mid_of_32 s opens j passes sided
    by false = side_of_32 s opens j passes sided

-- at the host boundary: the marker's bits, in 4 bytes, twice
pair_bytes_lem : (x : ℤ) (q : ℕ) → code_of 32 x ≡ q → sample_bytes (x ∷ x ∷ []) ≡ le 4 q ++ le 4 q
unfolding sample_bytes joined
pair_bytes_lem x q e = ap (λ (c : ℕ). le 4 c ++ le 4 c) e

pub host_lost_frame : (s out whole : List ℕ) (n j : ℕ)
    → HostDecodes s out n whole
    → n < 2 ^ 63
    → IsLost s j
    → (let bits = quieted (code_of 32 (lost_in s j)) in from (8 * j) 8 whole ≡ le 4 bits ++ le 4 bits)
host_lost_frame s out whole n j d short lost =
    let fine = host_decoded s out whole n d short in
    let within = lost.1.0 in
    let opens = decode_opens s fine j within in
    let passes = decode_passes s fine j within in
    let z = lost_in s j in
    let two = lost_two s opens j passes lost in
    let a : 4 * (j * (fields_of s).channels) ≡ 8 * j = omega (arith, ap (λ (c : ℕ). j * c) two) in
    let b : 4 * (1 * (fields_of s).channels) ≡ 8 = omega arith in
    ap₂ (λ (x y : ℕ). from x y whole) (sym a) (sym b)
    ∙ sym (host_cut_left s out whole n (frames j) (frames 1) d short (omega arith))
    ∙ ap sample_bytes (one_frame s j ∙ lost_at s opens j passes lost)
    ∙ pair_bytes_lem (marker z) (quieted (code_of 32 z)) (marker_code z (lost_of_32 s j opens passes lost.1))
