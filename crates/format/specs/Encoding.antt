-- Document 01, "Encoding".
use Rattle.std.specs.Prelude.{ℕ, zero, suc, ◌+◌, ◌-◌, ◌*◌, ◌/◌, ◌%◌, List, [], ◌∷◌, ◌++◌, Bool, true, false, not}
use Rattle.std.specs.Prelude.{◌&&◌, cond, length, get_or, replicate, ℤ, pos, neg_ℤ, nat_abs, ◌+ℤ◌, ◌-ℤ◌, ltb, eqb}
use Rattle.std.specs.Int.Signed.{quot_z}
use Rattle.format.specs.Lists.{from, tab, joined, last_or, pairwise, every, is_in}
use Rattle.format.specs.Numbers.{le, code_of, holds, minus}
use Rattle.format.specs.Header.{signature, groups_of}
use Rattle.format.specs.Packed.{packing}
use Rattle.format.specs.Blocks.{block_mark}
use Rattle.format.specs.Units.{depth_of, within, check_frame_count}
use Rattle.format.specs.Refusals.{Checked, refuse, ◌then◌, in_order}
use Rattle.format.specs.Places.{in_group}
use Rattle.format.specs.Answers.{answered, filled}
use Rattle.format.specs.declared.refusals.Refusal.TheVariants.{WriterSpec, IncompleteFrame, ValueOutside}
use Rattle.format.specs.declared.refusals.Refusal.TheVariants.{NotStereo, ParityDiffers}
use Rattle.format.specs.declared.refusals.Refusal.TheVariants.{DataTooLarge, OutputTooShort}
use Rattle.format.specs.declared.units.Frames.{Frames}
use Rattle.format.specs.declared.settings.PcmSpec.{PcmSpec}
use Rattle.format.specs.declared.settings.StereoMode.{StereoMode}
use Rattle.format.specs.declared.settings.StereoMode.TheVariants.{Auto, Direct, MidSide}
use Rattle.format.specs.declared.answers.Outcome.TheVariants.{Wrote}
use Rattle.format.specs.declared.answers.Answer.{Answer}

-- ------------------------------------------------------------------------------------------------------------------

-- ---- the channels of interleaved samples

-- how many frames they are
abbrev pub frames_of : PcmSpec → List ℤ → Frames
frames_of spec samples = record { 0 = length samples / spec.channels }

-- channel c: its sample of each frame
unfoldable pub channel : ℕ → List ℤ → ℕ → List ℤ
channel channels samples c = tab (length samples / channels) (λ i. get_or samples (i * channels + c) (pos 0))

-- all of them, as they are
unfoldable pub unwoven : ℕ → List ℤ → List (List ℤ)
unwoven channels samples = tab channels (channel channels samples)

-- each channel is padded to 512 by its last sample
unfoldable pub padded : List ℤ → List ℤ
padded xs = xs ++ replicate (512 - length xs) (last_or (pos 0) xs)

unfoldable pub padded_channels : ℕ → List ℤ → List (List ℤ)
padded_channels channels samples = tab channels (λ c. padded (channel channels samples c))

-- ---- a block of the 512 samples xs of a channel

-- their differences, wrapped at 32 bits (document 02, L4), with 0 as the last
unfoldable pub differences : List ℤ → List ℤ
differences [] = []
differences (x ∷ []) = pos 0 ∷ []
differences (x ∷ y ∷ xs) = minus y x ∷ differences (y ∷ xs)

-- the least width, from that one on and at most n more, that holds all numbers
unfoldable pub least_from : ℕ → ℕ → List ℤ → ℕ
least_from zero width xs = width
least_from (suc n) width xs = let more = least_from n (width + 1) xs in cond (every (holds width) xs) width more

-- from 2 to 32; encoding never takes width 1: Kontakt decoded it otherwise on a natural 16-bit probe, width 2 brought
-- the exact samples back, and what width 1 means is unresolved
unfoldable pub least_width : List ℤ → ℕ
least_width xs = least_from 30 2 xs

-- the block's first value
unfoldable pub first_value : List ℤ → ℤ
first_value [] = pos 0
first_value (x ∷ xs) = x

-- a block's bytes; padding 0
unfoldable pub block_bytes : ℤ → ℤ → ℕ → List ℕ → List ℕ
block_bytes base bits flags run =
    block_mark
    ++ (le 4 (code_of 32 base)
    ++ (le 2 (code_of 16 bits)
    ++ (le 2 flags
    ++ (le 4 0
    ++ run))))

-- a width under the depth gives differences at it; otherwise raw, bits = −depth;
-- base is the block's first value, in raw blocks too.
-- The choice, as that of mid/side below, is the Rust's own: it does not reproduce the block selection of NI, the
-- format's vendor
unfoldable pub encoded_block : ℕ → ℕ → List ℤ → List ℕ
encoded_block depth flags xs =
    let width = least_width (differences xs) in
    let by_differences = block_bytes (first_value xs) (pos width) flags (packing width (differences xs)) in
    let raw = block_bytes (first_value xs) (neg_ℤ (pos depth)) flags (packing depth xs) in
    cond (ltb width depth) by_differences raw

-- one block per channel
unfoldable pub blocks : ℕ → ℕ → List (List ℤ) → List ℕ
blocks depth flags chans = joined (λ c. encoded_block depth flags (get_or chans c [])) (length chans)

-- ---- mid and side

-- mid = (l + r)/2, of the exact sum (document 02, L4)
unfoldable pub mid : ℤ → ℤ → ℤ
mid left right = quot_z (left +ℤ right) (pos 2)

-- side = (l − r)/2, of the exact difference
unfoldable pub side : ℤ → ℤ → ℤ
side left right = quot_z (left -ℤ right) (pos 2)

-- two channels of left and right as mid and side
unfoldable pub mid_side : List (List ℤ) → List (List ℤ)
mid_side chans =
    pairwise mid (get_or chans 0 []) (get_or chans 1 [])
    ∷ pairwise side (get_or chans 0 []) (get_or chans 1 [])
    ∷ []

-- only where every frame has equal parity
unfoldable pub equal_parity : ℤ → ℤ → Bool
equal_parity left right = eqb (nat_abs left % 2) (nat_abs right % 2)

unfoldable pub parity : List (List ℤ) → Bool
parity chans = every (λ (equal : Bool). equal) (pairwise equal_parity (get_or chans 0 []) (get_or chans 1 []))

-- ---- a group, of the samples of its frames

-- Direct; MidSide in every group, whatever its size; Auto per group where representable and strictly smaller, of two
-- channels alone (document 02, L4)
unfoldable pub takes_mid : StereoMode → ℕ → ℕ → List ℤ → Bool
takes_mid Direct channels depth samples = false
takes_mid MidSide channels depth samples = true
takes_mid Auto channels depth samples =
    let chans = padded_channels channels samples in
    eqb channels 2
    && (parity (unwoven channels samples)
    && ltb (length (blocks depth 1 (mid_side chans))) (length (blocks depth 0 chans)))

-- both blocks then have flags 1; direct has flags 0
unfoldable pub encoded_group : PcmSpec → StereoMode → List ℤ → List ℕ
encoded_group spec mode samples =
    let depth = spec.bits_per_sample in
    let chans = padded_channels spec.channels samples in
    let mid_sided = blocks depth 1 (mid_side chans) in
    let direct = blocks depth 0 chans in
    cond (takes_mid mode spec.channels depth samples) mid_sided direct

-- the samples of group g's frames
unfoldable pub group_in : ℕ → List ℤ → ℕ → List ℤ
group_in channels samples g = from (512 * channels * g) (512 * channels) samples

unfoldable pub encoded_group_at : PcmSpec → StereoMode → List ℤ → ℕ → List ℕ
encoded_group_at spec mode samples g = encoded_group spec mode (group_in spec.channels samples g)

-- ---- the file

-- encoding writes zeros to bytes 32 to 119; the table follows byte 120
unfoldable pub header_bytes : PcmSpec → Frames → ℕ → ℕ → List ℕ
header_bytes spec frames start size =
    signature 0x31
    ++ (le 2 spec.channels
    ++ (le 2 spec.bits_per_sample
    ++ (le 4 spec.sample_rate
    ++ (le 4 frames.0
    ++ (le 4 120
    ++ (le 4 start
    ++ (le 4 size
    ++ replicate 88 0)))))))

-- of so many groups' bytes: groups + 1 entries of 4 bytes, relative to the data offset; the last equals the data size
unfoldable pub table_of : (ℕ → List ℕ) → ℕ → List ℕ
table_of part groups = joined (λ g. le 4 (length (joined part g))) (groups + 1)

-- the data follow the table, and nothing follows the data
unfoldable pub assembled : PcmSpec → Frames → (ℕ → List ℕ) → List ℕ
assembled spec frames part =
    let groups = groups_of frames in
    header_bytes spec frames (120 + 4 * (groups + 1)) (length (joined part groups))
    ++ (table_of part groups ++ joined part groups)

unfoldable pub encoded_file : PcmSpec → StereoMode → List ℤ → List ℕ
encoded_file spec mode samples = assembled spec (frames_of spec samples) (encoded_group_at spec mode samples)

-- ---- the checks: 30, 31, 32, 33, 34, 35, 37, 50

-- of a writer that takes 1 to `most` channels and these depths
unfoldable pub check_spec : ℕ → List ℕ → PcmSpec → Checked
check_spec most depths spec =
    refuse (eqb spec.channels 0) WriterSpec  -- 30
    then refuse (ltb most spec.channels) WriterSpec  -- 30
    then refuse (not (is_in spec.bits_per_sample depths)) WriterSpec  -- 30
    then refuse (eqb spec.sample_rate 0) WriterSpec  -- 30

-- 1 to 8 channels, and every depth: document 02, L4, "Eight channels, 8 and 32 bits"
unfoldable pub check_encoder : PcmSpec → Checked
check_encoder spec = check_spec 8 (8 ∷ 16 ∷ 24 ∷ 32 ∷ []) spec

unfoldable pub check_samples : PcmSpec → List ℤ → Checked
check_samples spec samples =
    refuse (not (eqb (length samples % spec.channels) 0)) IncompleteFrame  -- 31
    then refuse (not (every (within (depth_of spec.bits_per_sample)) samples)) ValueOutside  -- 32
    then check_frame_count (frames_of spec samples).0  -- 33

unfoldable pub is_mid_side : StereoMode → Bool
is_mid_side MidSide = true
is_mid_side Auto = false
is_mid_side Direct = false

-- 34 (MidSide, not stereo), 35 (MidSide, over groups in order: a frame's samples differ in parity)
unfoldable pub check_stereo : PcmSpec → StereoMode → List ℤ → Checked
check_stereo spec mode samples =
    let channels = spec.channels in
    let groups = groups_of (frames_of spec samples) in
    let differs : ℕ → Bool = λ g. not (parity (unwoven channels (group_in channels samples g))) in
    refuse (is_mid_side mode && not (eqb channels 2)) NotStereo  -- 34
    then in_order (λ g. in_group g (refuse (is_mid_side mode && differs g) ParityDiffers)) groups  -- 35

-- the data size over 32 bits
abbrev pub check_data_size : ℕ → Checked
check_data_size size = refuse (ltb 4294967295 size) DataTooLarge  -- 37

unfoldable pub check_size : PcmSpec → StereoMode → List ℤ → Checked
check_size spec mode samples =
    let groups = groups_of (frames_of spec samples) in
    check_data_size (length (joined (encoded_group_at spec mode samples) groups))  -- 37

unfoldable pub check_encode : PcmSpec → StereoMode → List ℤ → Checked
check_encode spec mode samples =
    check_encoder spec  -- 30
    then check_samples spec samples  -- 31 to 33
    then check_stereo spec mode samples  -- 34, 35
    then check_size spec mode samples  -- 37

unfoldable pub check_encode_into : PcmSpec → StereoMode → List ℤ → ℕ → Checked
check_encode_into spec mode samples room =
    check_encode spec mode samples
    then refuse (ltb room (length (encoded_file spec mode samples))) OutputTooShort  -- 50

-- the answer, and what the lent bytes then hold
unfoldable pub encode_of : PcmSpec → StereoMode → List ℤ → ℕ → Answer
encode_of spec mode samples room =
    answered (check_encode_into spec mode samples room) (Wrote (length (encoded_file spec mode samples)))

unfoldable pub encode_into : PcmSpec → StereoMode → List ℤ → List ℕ → List ℕ
encode_into spec mode samples lent =
    filled (check_encode_into spec mode samples (length lent)) (encoded_file spec mode samples) lent
