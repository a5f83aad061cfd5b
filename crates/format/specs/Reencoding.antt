-- Document 01, "Re-encoding": every byte is the template's, but for the base of difference blocks and the packed values
-- that the samples determine.
use Rattle.std.specs.Prelude.{ℕ, ◌+◌, ◌-◌, ◌*◌, min, List, [], ◌∷◌, ◌++◌, Bool, not, ◌&&◌, cond, length, get_or, take}
use Rattle.std.specs.Prelude.{drop, ℤ, ltb, leb, eqb}
use Rattle.format.specs.Lists.{from, joined, any_below}
use Rattle.format.specs.Numbers.{le, code_of}
use Rattle.format.specs.Header.{is_signature, fields_of, groups_of, entry, group_bytes}
use Rattle.format.specs.Packed.{width_of, is_beyond, values, packing}
use Rattle.format.specs.declared.packed.Coding.{Coding}
use Rattle.format.specs.declared.packed.Coding.TheVariants.{Differences, Raw, Beyond}
use Rattle.format.specs.Blocks.{is_block, bits_word, bits_of, flags_of, mid_bit}
use Rattle.format.specs.Blocks.{coding_of, size_of, samples_of, from_block}
use Rattle.format.specs.Refusals.{Checked, refuse, ◌then◌, in_order}
use Rattle.format.specs.Places.{in_group, in_channel}
use Rattle.format.specs.Answers.{answered, filled}
use Rattle.format.specs.Fit.{check_fit}
use Rattle.format.specs.Encoding.{frames_of, unwoven, differences, first_value, mid_side, parity, group_in}
use Rattle.format.specs.Encoding.{check_spec, check_samples}
use Rattle.format.specs.declared.refusals.Refusal.TheVariants.{TooShort, FileSignature, BlockSignature, BitsWord}
use Rattle.format.specs.declared.refusals.Refusal.TheVariants.{NotStereo, ParityDiffers}
use Rattle.format.specs.declared.refusals.Refusal.TheVariants.{TemplateDiffers, TemplateBounds, TemplateOffsets}
use Rattle.format.specs.declared.refusals.Refusal.TheVariants.{ShortGroup, TemplateBits, TemplateFlags}
use Rattle.format.specs.declared.refusals.Refusal.TheVariants.{TemplateBytesLeft, OutputTooShort}
use Rattle.format.specs.declared.units.Frames.{Frames}
use Rattle.format.specs.declared.settings.PcmSpec.{PcmSpec}
use Rattle.format.specs.declared.answers.Fields.{Fields}
use Rattle.format.specs.declared.answers.Outcome.TheVariants.{Wrote}
use Rattle.format.specs.declared.answers.Answer.{Answer}

-- ------------------------------------------------------------------------------------------------------------------

-- ---- a block of the template; xs are the active samples of its channel

-- raw: values from the active count on stay; differences: those from the active count on, and always the last, stay
unfoldable pub new_values : Coding → List ℤ → List ℕ → List ℤ → List ℤ
new_values (Raw width) old run xs = xs ++ drop (length xs) (values width (take (64 * width) run))
new_values (Differences width) old run xs =
    let n = min (length xs) 511 in
    take n (differences (xs ++ drop (length xs) old)) ++ drop n (values width (take (64 * width) run))
new_values Beyond old run xs = []

-- old are the template's samples, so that padded samples stay
unfoldable pub values_for : ℕ → List ℕ → List ℤ → List ℤ
values_for depth block xs = new_values (coding_of depth block) (samples_of depth block) (drop 16 block) xs

-- the base of difference blocks is the first sample; that of raw ones stays
unfoldable pub base_for : Coding → List ℕ → List ℤ → List ℕ
base_for (Differences width) block xs = le 4 (code_of 32 (first_value xs))
base_for (Raw width) block xs = from 4 4 block
base_for Beyond block xs = from 4 4 block

unfoldable pub reencoded_block : ℕ → List ℕ → List ℤ → List ℕ
reencoded_block depth block xs =
    take 4 block
    ++ (base_for (coding_of depth block) block xs
    ++ (from 8 8 block
    ++ packing (width_of (coding_of depth block)) (values_for depth block xs)))

-- the block by itself; the first 1 is the header's, the second the values'
unfoldable pub check_template_block : ℕ → List ℕ → Checked
check_template_block depth block =
    refuse (ltb (length block) 16) TooShort  -- 1
    then refuse (not (is_block block)) BlockSignature  -- 3
    then refuse (eqb (bits_word block) 0) TemplateBits  -- 44
    then refuse (eqb (bits_word block) 1) TemplateBits  -- 44
    then refuse (ltb 1 (flags_of block)) TemplateFlags  -- 45
    then refuse (is_beyond (coding_of depth block)) (BitsWord (bits_of block))  -- 4
    then refuse (ltb (length block) (size_of depth block)) TooShort  -- 1

unfoldable pub check_reencode_block : ℕ → List ℕ → List ℤ → Checked
check_reencode_block depth block xs =
    check_template_block depth block  -- 1, 3, 44, 45, 4, 1
    then check_fit (width_of (coding_of depth block)) (values_for depth block xs)  -- 36

-- ---- a group of the template; samples are those of its frames

-- the active samples of each channel, in the mid/side domain where that applies
unfoldable pub active_in : ℕ → List ℕ → List ℤ → List (List ℤ)
active_in channels group samples =
    cond (mid_bit group) (mid_side (unwoven channels samples)) (unwoven channels samples)

-- 34 or 35 if bit 0 of the first block's flags is set; 46 after the channels
unfoldable pub check_reencode_group : ℕ → ℕ → List ℕ → List ℤ → Checked
check_reencode_group depth channels group samples =
    let chans =
    active_in channels group samples in
    let check : ℕ → Checked =
    λ c. in_channel c (check_reencode_block depth (from_block depth group c) (get_or chans c [])) in
    refuse (ltb (length group) 12) ShortGroup  -- 43
    then refuse (mid_bit group && not (eqb channels 2)) NotStereo  -- 34
    then refuse (mid_bit group && not (parity (unwoven channels samples))) ParityDiffers  -- 35
    then in_order check channels  -- 1, 3, 44, 45, 4, 1, 36
    then refuse (not (eqb (length (from_block depth group channels)) 0)) TemplateBytesLeft  -- 46

unfoldable pub reencoded_group : ℕ → ℕ → List ℕ → List ℤ → List ℕ
reencoded_group depth channels group samples =
    let chans = active_in channels group samples in
    joined (λ c. reencoded_block depth (from_block depth group c) (get_or chans c [])) channels

-- ---- the file

-- the template's channels, depth, rate or frames differ from the call's
unfoldable pub check_same : PcmSpec → Frames → Fields → Checked
check_same spec frames fields =
    refuse (not (eqb fields.channels spec.channels)) TemplateDiffers  -- 40
    then refuse (not (eqb fields.depth spec.bits_per_sample)) TemplateDiffers  -- 40
    then refuse (not (eqb fields.rate spec.sample_rate)) TemplateDiffers  -- 40
    then refuse (not (eqb fields.frames.0 frames.0)) TemplateDiffers  -- 40

-- of a template of so many bytes: table offset at least 120, data offset not before it,
-- their distance 4 × (groups + 1), data ending within the template
unfoldable pub check_bounds : Fields → ℕ → Checked
check_bounds fields template_size =
    refuse (ltb fields.table 120) TemplateBounds  -- 41
    then refuse (ltb fields.start fields.table) TemplateBounds  -- 41
    then refuse (not (eqb (fields.start - fields.table) (4 * (groups_of fields.frames + 1)))) TemplateBounds  -- 41
    then refuse (ltb template_size (fields.start + fields.size)) TemplateBounds  -- 41

-- offsets not rising from 0 to the data size
unfoldable pub check_rising : List ℕ → Fields → Checked
check_rising template fields =
    let groups = groups_of fields.frames in
    let not_rising : ℕ → Bool = λ k. leb (entry template fields (k + 1)) (entry template fields k) in
    refuse (not (eqb (entry template fields 0) 0)) TemplateOffsets  -- 42
    then refuse (not (eqb (entry template fields groups) fields.size)) TemplateOffsets  -- 42
    then refuse (any_below not_rising groups) TemplateOffsets  -- 42

-- 1 (under 120 bytes), 2, 40, 41, 42
unfoldable pub check_template : PcmSpec → List ℤ → List ℕ → Checked
check_template spec samples template =
    let fields = fields_of template in
    refuse (ltb (length template) 120) TooShort  -- 1
    then refuse (not (is_signature template)) FileSignature  -- 2
    then check_same spec (frames_of spec samples) fields  -- 40
    then check_bounds fields (length template)  -- 41
    then check_rising template fields  -- 42

-- 30, for itself: channels 1 or 2, depth 16 or 24
unfoldable pub check_reencoder : PcmSpec → Checked
check_reencoder spec = check_spec 2 (16 ∷ 24 ∷ []) spec

-- 30, 31 to 33, then the template, then its groups in order
unfoldable pub check_reencode : PcmSpec → List ℤ → List ℕ → Checked
check_reencode spec samples template =
    let fields = fields_of template in
    let channels = fields.channels in
    let old : ℕ → List ℕ = group_bytes template fields in
    let new : ℕ → List ℤ = group_in channels samples in
    let check : ℕ → Checked = λ g. in_group g (check_reencode_group fields.depth channels (old g) (new g)) in
    check_reencoder spec  -- 30
    then check_samples spec samples  -- 31 to 33
    then check_template spec samples template  -- 1, 2, 40 to 42
    then in_order check (groups_of fields.frames)  -- 43, 34, 35, 1, 3, 44, 45, 4, 1, 36, 46

-- the new file is as long as the template
unfoldable pub check_reencode_into : PcmSpec → List ℤ → List ℕ → ℕ → Checked
check_reencode_into spec samples template room =
    check_reencode spec samples template
    then refuse (ltb room (length template)) OutputTooShort  -- 50

-- bytes before the table and after the data stay, and so does the table
unfoldable pub reencoded_file : List ℤ → List ℕ → List ℕ
reencoded_file samples template =
    let fields = fields_of template in
    let channels = fields.channels in
    let old : ℕ → List ℕ = group_bytes template fields in
    let new : ℕ → List ℤ = group_in channels samples in
    let part : ℕ → List ℕ = λ g. reencoded_group fields.depth channels (old g) (new g) in
    take fields.start template
    ++ (joined part (groups_of fields.frames)
    ++ drop (fields.start + fields.size) template)

-- the answer, and what the lent bytes then hold
unfoldable pub reencode_of : PcmSpec → List ℤ → List ℕ → ℕ → Answer
reencode_of spec samples template room =
    answered (check_reencode_into spec samples template room) (Wrote (length template))

unfoldable pub reencode_into : PcmSpec → List ℤ → List ℕ → List ℕ → List ℕ
reencode_into spec samples template lent =
    filled (check_reencode_into spec samples template (length lent)) (reencoded_file samples template) lent
