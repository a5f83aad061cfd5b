-- Document 01, "The units".
use Rattle.std.specs.Prelude.{ℕ, ◌-◌, ◌*◌, ◌/◌, ◌%◌, ◌^◌, min, ◌≡◌, Bool, not, ◌&&◌, cond, ℤ, pos, neg_ℤ, ltb, eqb}
use Rattle.std.specs.Prelude.{Option, Some, None, is_some, Result, Ok, Err}
use Rattle.std.specs.Option.{unwrap_or}
use Rattle.std.specs.Int.Signed.{le_z}
use Rattle.format.specs.Refusals.{Checked, Fine, No, nowhere, refuse, ◌then◌}
use Rattle.format.specs.declared.refusals.Refusal.TheVariants.{IncompleteFrame, TooManyFrames}
use Rattle.format.specs.declared.units.Depth.{Depth}
use Rattle.format.specs.declared.units.Depth.TheVariants.{Eight, Sixteen, TwentyFour, ThirtyTwo}
use Rattle.format.specs.declared.units.Frames.{Frames}
use Rattle.format.specs.declared.units.Samples.{Samples}
use Rattle.format.specs.declared.units.Unframed.{Unframed}
use Rattle.format.specs.declared.units.Unframed.TheVariants.{Incomplete, TooMany}

-- ------------------------------------------------------------------------------------------------------------------

-- ---- a sample depth carries its own range and byte count

abbrev pub bits_in : Depth → ℕ
bits_in Eight = 8
bits_in Sixteen = 16
bits_in TwentyFour = 24
bits_in ThirtyTwo = 32

abbrev pub bytes_in : Depth → ℕ
bytes_in depth = bits_in depth / 8

-- from − 2 ^ (bits − 1) to 2 ^ (bits − 1) − 1
abbrev pub lowest : Depth → ℤ
lowest depth = neg_ℤ (pos (2 ^ (bits_in depth - 1)))

abbrev pub highest : Depth → ℤ
highest depth = pos (2 ^ (bits_in depth - 1) - 1)

unfoldable pub within : Depth → ℤ → Bool
within depth z = le_z (lowest depth) z && le_z z (highest depth)

-- depth 8, 16, 24, 32
unfoldable pub depth_word : ℕ → Option Depth
depth_word word =
    cond (eqb word 8) (Some Eight)
    (cond (eqb word 16) (Some Sixteen)
    (cond (eqb word 24) (Some TwentyFour)
    (cond (eqb word 32) (Some ThirtyTwo) None)))

-- whether a depth word names a depth; one that names none is refused by 11 (Opening)
unfoldable pub is_depth : ℕ → Bool
is_depth word = is_some (depth_word word)

-- the depth that it names; where it names none, 0 among them, the widest
unfoldable pub depth_of : ℕ → Depth
depth_of word = unwrap_or (depth_word word) ThirtyTwo

-- ---- frames and samples

-- how many frames of group g, of 512 at most, are active
unfoldable pub active : Frames → ℕ → ℕ
active frames g = min 512 (frames.0 - 512 * g)

-- samples are frames times channels
abbrev pub samples_in : Frames → ℕ → Samples
samples_in frames channels = record { 0 = frames.0 * channels }

-- over 4,294,967,295 frames
abbrev pub check_frame_count : ℕ → Checked
check_frame_count n = refuse (ltb 4294967295 n) TooManyFrames  -- 33

-- and back: no frames without a channel, only whole ones, and at most 4,294,967,295
unfoldable pub frames_in : Samples → ℕ → Result Frames Unframed
frames_in count channels =
    let n = count.0 / channels in
    let whole = cond (ltb 4294967295 n) (Err TooMany) (Ok (record { 0 = n })) in
    cond (eqb channels 0) (Err Incomplete) (cond (eqb (count.0 % channels) 0) whole (Err Incomplete))

-- what is no whole number of frames is refused by its number
abbrev pub framed_as : Result Frames Unframed → Checked
framed_as (Ok frames) = Fine
framed_as (Err Incomplete) = No IncompleteFrame nowhere  -- 31
framed_as (Err TooMany) = No TooManyFrames nowhere  -- 33

-- the same, by checks: 31 without a channel, or where a frame is not whole; then 33
unfoldable pub check_framed : Samples → ℕ → Checked
check_framed count channels =
    refuse (eqb channels 0) IncompleteFrame  -- 31
    then refuse (not (eqb (count.0 % channels) 0)) IncompleteFrame  -- 31
    then check_frame_count (count.0 / channels)  -- 33

-- what is promised of so many samples in frames: how many they are, and by what they are refused
abbrev pub Framing : Samples → ℕ → Result Frames Unframed → Type 0
Framing count channels framed =
    (framed ≡ frames_in count channels) × (framed_as framed ≡ check_framed count channels)
