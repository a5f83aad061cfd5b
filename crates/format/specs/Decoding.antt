-- Document 01, "Order of checks": decoding.
use Rattle.std.specs.Prelude.{ℕ, List, map, Bool, true, false, not, ◌&&◌, cond, length, get_or, ℤ, pos, ltb, eqb}
use Rattle.format.specs.Lists.{tab, joined}
use Rattle.format.specs.Header.{fields_of, groups_of, group_bytes}
use Rattle.format.specs.Packed.{is_beyond}
use Rattle.format.specs.Blocks.{is_block, bits_of, mid_bit, float_bit, coding_of, size_of, samples_of, from_block}
use Rattle.format.specs.MidSide.{left_right}
use Rattle.format.specs.Units.{samples_in, active}
use Rattle.format.specs.Refusals.{Checked, refuse, ◌then◌, in_order}
use Rattle.format.specs.Places.{in_group, in_channel}
use Rattle.format.specs.Answers.{answered, filled}
use Rattle.format.specs.Opening.{format_of, check_open}
use Rattle.format.specs.declared.refusals.Refusal.TheVariants.{TooShort, BlockSignature, BitsWord}
use Rattle.format.specs.declared.refusals.Refusal.TheVariants.{FloatDiffers, MidSideChannels}
use Rattle.format.specs.declared.refusals.Refusal.TheVariants.{BytesLeft, OutputTooShort}
use Rattle.format.specs.declared.settings.SampleFormat.{SampleFormat}
use Rattle.format.specs.declared.settings.SampleFormat.TheVariants.{Pcm, Float}
use Rattle.format.specs.declared.units.Samples.{Samples}
use Rattle.format.specs.declared.answers.Fields.{Fields}
use Rattle.format.specs.declared.answers.Outcome.TheVariants.{Read}
use Rattle.format.specs.declared.answers.Answer.{Answer}

-- ------------------------------------------------------------------------------------------------------------------

unfoldable pub is_float : SampleFormat → Bool
is_float Pcm = false
is_float Float = true

-- ---- a group's bytes, in a file of that format

-- channel c's block; 21 on the first channel; the first 1 is the header's, the second the values'
unfoldable pub check_block : Fields → SampleFormat → ℕ → List ℕ → Checked
check_block fields format c block =
    refuse (ltb (length block) 16) TooShort  -- 1
    then refuse (not (is_block block)) BlockSignature  -- 3
    then refuse (cond (is_float format) (not (float_bit block)) (float_bit block)) FloatDiffers  -- 20
    then refuse (eqb c 0 && (mid_bit block && not (eqb fields.channels 2))) MidSideChannels  -- 21
    then refuse (is_beyond (coding_of fields.depth block)) (BitsWord (bits_of block))  -- 4
    then refuse (ltb (length block) (size_of fields.depth block)) TooShort  -- 1

-- each channel in order; after the channels 22
unfoldable pub check_group : Fields → SampleFormat → List ℕ → Checked
check_group fields format group =
    let check : ℕ → Checked = λ c. in_channel c (check_block fields format c (from_block fields.depth group c)) in
    in_order check fields.channels  -- 1, 3, 20, 21, 4, 1
    then refuse (not (eqb (length (from_block fields.depth group fields.channels)) 0)) BytesLeft  -- 22

-- the channels as they are coded
unfoldable pub coded : ℕ → ℕ → List ℕ → List (List ℤ)
coded depth channels group = tab channels (λ c. samples_of depth (from_block depth group c))

-- only the first channel's bit 0 decides
unfoldable pub channels_of : Fields → SampleFormat → List ℕ → List (List ℤ)
channels_of fields format group =
    let chans = coded fields.depth fields.channels group in
    cond (mid_bit group) (left_right format chans) chans

-- frame i of the channels: a sample of each
abbrev pub frame_of : List (List ℤ) → ℕ → List ℤ
frame_of chans i = map (λ (xs : List ℤ). get_or xs i (pos 0)) chans

-- the first n frames of the channels, interleaved
unfoldable pub woven : ℕ → List (List ℤ) → List ℤ
woven n chans = joined (frame_of chans) n

unfoldable pub group_samples : Fields → SampleFormat → ℕ → List ℕ → List ℤ
group_samples fields format g group = woven (active fields.frames g) (channels_of fields format group)

-- ---- the whole file

-- opens afresh, then each group in order
unfoldable pub check_decode : List ℕ → Checked
check_decode file =
    let fields = fields_of file in
    let check : ℕ → Checked =
    λ g. in_group g (check_group fields (format_of file fields) (group_bytes file fields g)) in
    check_open file  -- 1, 2, 10 to 15, 1, 16 to 19, 3
    then in_order check (groups_of fields.frames)  -- 1, 3, 20, 21, 4, 1, 22

unfoldable pub decoded_of : List ℕ → List ℤ
decoded_of file =
    let fields = fields_of file in
    let part : ℕ → List ℤ = λ g. group_samples fields (format_of file fields) g (group_bytes file fields g) in
    joined part (groups_of fields.frames)

-- how many samples that is: frames × channels
abbrev pub decoded_count : List ℕ → Samples
decoded_count file = let fields = fields_of file in samples_in fields.frames fields.channels

-- room, against that count
unfoldable pub check_room : List ℕ → ℕ → Checked
check_room file room = refuse (ltb room (decoded_count file).0) OutputTooShort  -- 50

-- the answer, and what the lent samples then hold
unfoldable pub decode_of : List ℕ → ℕ → Answer
decode_of file room = answered (check_decode file then check_room file room) (Read (decoded_count file))

unfoldable pub decode_into : List ℕ → List ℤ → List ℤ
decode_into file lent = filled (check_decode file then check_room file (length lent)) (decoded_of file) lent
