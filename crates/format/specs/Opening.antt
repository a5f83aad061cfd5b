-- Document 01, "Order of checks": opening.
use Rattle.std.specs.Prelude.{ℕ, ◌+◌, ◌-◌, ◌*◌, List, Bool, not, ◌&&◌, ◌||◌, cond, length, drop, ltb, eqb}
use Rattle.format.specs.Header.{is_signature, fields_of, groups_of, entry}
use Rattle.format.specs.Blocks.{is_block, float_bit}
use Rattle.format.specs.Units.{is_depth, depth_of}
use Rattle.format.specs.Refusals.{Checked, refuse, ◌then◌, in_order}
use Rattle.format.specs.Places.{in_group}
use Rattle.format.specs.Answers.{answered}
use Rattle.format.specs.declared.refusals.Refusal.TheVariants.{TooShort, FileSignature, BlockSignature}
use Rattle.format.specs.declared.refusals.Refusal.TheVariants.{ZeroChannels, DepthUnknown, ZeroRate}
use Rattle.format.specs.declared.refusals.Refusal.TheVariants.{TableOffset, DataOffset, TableLength}
use Rattle.format.specs.declared.refusals.Refusal.TheVariants.{LastEntry, DataWithoutFrames}
use Rattle.format.specs.declared.refusals.Refusal.TheVariants.{FirstEntry, EntryBounds}
use Rattle.format.specs.declared.settings.SampleFormat.{SampleFormat}
use Rattle.format.specs.declared.settings.SampleFormat.TheVariants.{Pcm, Float}
use Rattle.format.specs.declared.answers.Fields.{Fields}
use Rattle.format.specs.declared.answers.Header.{Header}
use Rattle.format.specs.declared.answers.Outcome.TheVariants.{Opened}
use Rattle.format.specs.declared.answers.Answer.{Answer}

-- ------------------------------------------------------------------------------------------------------------------

unfoldable pub check_fields : Fields → Checked
check_fields fields =
    refuse (eqb fields.channels 0) ZeroChannels  -- 10
    then refuse (not (is_depth fields.depth)) DepthUnknown  -- 11
    then refuse (eqb fields.rate 0) ZeroRate  -- 12

-- of a file of so many bytes; the last is 1: the data offset and size past its end
unfoldable pub check_offsets : Fields → ℕ → Checked
check_offsets fields file_size =
    refuse (ltb fields.table 120) TableOffset  -- 13
    then refuse (ltb fields.start fields.table) DataOffset  -- 14
    then refuse (not (eqb (fields.start - fields.table) (4 * (groups_of fields.frames + 1)))) TableLength  -- 15
    then refuse (ltb file_size (fields.start + fields.size)) TooShort  -- 1

-- group g's end is past the data size, before its start, or under 80 × channels after it
unfoldable pub bad_entry : List ℕ → Fields → ℕ → Bool
bad_entry file fields g =
    ltb fields.size (entry file fields (g + 1))
    || (ltb (entry file fields (g + 1)) (entry file fields g)
    || ltb (entry file fields (g + 1) - entry file fields g) (80 * fields.channels))

-- 17 without groups, 18 with; 19 over groups in order
unfoldable pub check_table : List ℕ → Fields → Checked
check_table file fields =
    let groups = groups_of fields.frames in
    refuse (not (eqb (entry file fields groups) fields.size)) LastEntry  -- 16
    then refuse (eqb groups 0 && not (eqb fields.size 0)) DataWithoutFrames  -- 17
    then refuse (not (eqb groups 0) && not (eqb (entry file fields 0) 0)) FirstEntry  -- 18
    then in_order (λ g. in_group g (refuse (bad_entry file fields g) EntryBounds)) groups  -- 19

-- on the first block, where there is a group
unfoldable pub check_first : List ℕ → Fields → Checked
check_first file fields =
    refuse (not (eqb (groups_of fields.frames) 0) && not (is_block (drop fields.start file))) BlockSignature  -- 3

-- whose flags give the file's format; without groups PCM
unfoldable pub format_of : List ℕ → Fields → SampleFormat
format_of file fields =
    cond (not (eqb (groups_of fields.frames) 0) && float_bit (drop fields.start file)) Float Pcm

-- 1 (under 120 bytes), 2, 10 to 15, 1, 16, 17 or 18, 19, 3
unfoldable pub check_open : List ℕ → Checked
check_open file =
    let fields = fields_of file in
    refuse (ltb (length file) 120) TooShort  -- 1
    then refuse (not (is_signature file)) FileSignature  -- 2
    then check_fields fields  -- 10 to 12
    then check_offsets fields (length file)  -- 13 to 15, 1
    then check_table file fields  -- 16 to 19
    then check_first file fields  -- 3

-- opening returns the header's numbers, the group count and the format
abbrev pub header_for : Fields → SampleFormat → Header
header_for fields format =
    record {
      channels = fields.channels;
      depth = depth_of fields.depth;
      rate = fields.rate;
      frames = fields.frames;
      table = fields.table;
      start = fields.start;
      size = fields.size;
      groups = groups_of fields.frames;
      format = format;
    }

unfoldable pub header_of : List ℕ → Header
header_of file = let fields = fields_of file in header_for fields (format_of file fields)

unfoldable pub open_of : List ℕ → Answer
open_of file = answered (check_open file) (Opened (header_of file))
