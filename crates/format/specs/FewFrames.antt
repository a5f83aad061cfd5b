-- Document 02, L1, "Read a few frames": `count` frames from the frame `first` on.
use Rattle.std.specs.Prelude.{ℕ, ◌+◌, ◌-◌, ◌*◌, ◌/◌, ◌%◌, ◌<◌, ◌≤◌, ◌≡◌, List, cond, length, take, ℤ, ltb, eqb}
use Rattle.format.specs.Lists.{joined, from}
use Rattle.format.specs.Header.{fields_of, groups_of, group_bytes}
use Rattle.format.specs.Units.{samples_in}
use Rattle.format.specs.Refusals.{Checked, Fine, refuse, ◌then◌, in_order}
use Rattle.format.specs.Answers.{answered, filled}
use Rattle.format.specs.Opening.{format_of, check_open}
use Rattle.format.specs.Decoding.{channels_of, frame_of}
use Rattle.format.specs.Walking.{check_step}
use Rattle.format.specs.declared.refusals.Refusal.TheVariants.{OutputTooShort, RangePastEnd}
use Rattle.format.specs.declared.units.Frames.{Frames}
use Rattle.format.specs.declared.units.Samples.{Samples}
use Rattle.format.specs.declared.answers.Fields.{Fields}
use Rattle.format.specs.declared.answers.Outcome.TheVariants.{Read}
use Rattle.format.specs.declared.answers.Answer.{Answer}

-- ------------------------------------------------------------------------------------------------------------------

-- ---- the frames that are asked for, and the groups that these touch

-- the frame behind the last one: a sum of numbers, which may take more than 32 bits
abbrev pub range_end : Frames → Frames → Frames
range_end first count = record { 0 = first.0 + count.0 }

-- frame j is among them
abbrev pub IsAsked : Frames → Frames → ℕ → Type 0
IsAsked first count j = (first.0 ≤ j) × (j < (range_end first count).0)

-- the group of frame j
abbrev pub group_of : ℕ → ℕ
group_of j = j / 512

-- how many groups are touched, from that of the first frame on; for no frames none
unfoldable pub touched : Frames → Frames → ℕ
touched first count = cond (eqb count.0 0) 0 (groups_of (range_end first count) - group_of first.0)

-- ---- checks

-- after opening, 51; then the touched groups in order, each of them whole
unfoldable pub check_frames : List ℕ → Frames → Frames → Checked
check_frames file first count =
    check_open file  -- 1, 2, 10 to 15, 1, 16 to 19, 3
    then refuse (ltb (fields_of file).frames.0 (range_end first count).0) RangePastEnd  -- 51
    then in_order (λ k. check_step file (group_of first.0 + k)) (touched first count)  -- 1, 3, 20, 21, 4, 1, 22

-- how many samples are asked for
abbrev pub frames_count : List ℕ → Frames → Samples
frames_count file count = samples_in count (fields_of file).channels

-- room, against that count
unfoldable pub check_frames_into : List ℕ → Frames → Frames → ℕ → Checked
check_frames_into file first count room =
    check_frames file first count
    then refuse (ltb room (frames_count file count).0) OutputTooShort  -- 50

-- ---- samples

-- frame j of the file, from its own group
unfoldable pub frame_at : List ℕ → ℕ → List ℤ
frame_at file j =
    let fields = fields_of file in
    frame_of (channels_of fields (format_of file fields) (group_bytes file fields (group_of j))) (j % 512)

unfoldable pub frames_at : List ℕ → Frames → Frames → List ℤ
frames_at file first count = joined (λ i. frame_at file (first.0 + i)) count.0

-- ---- the answer, and what the lent samples then hold

unfoldable pub read_frames_of : List ℕ → Frames → Frames → ℕ → Answer
read_frames_of file first count room =
    answered (check_frames_into file first count room) (Read (frames_count file count))

unfoldable pub read_frames_into : List ℕ → Frames → Frames → List ℤ → List ℤ
read_frames_into file first count lent =
    filled (check_frames_into file first count (length lent)) (frames_at file first count) lent

-- ---- what they depend on

-- the table, and of the first block its signature and its flags, at the offsets that a header says
abbrev pub table_bytes : Fields → List ℕ → List ℕ
table_bytes fields file = from fields.table (4 * (groups_of fields.frames + 1)) file

abbrev pub first_signature : Fields → List ℕ → List ℕ
first_signature fields file = from fields.start 4 file

abbrev pub first_flags : Fields → List ℕ → List ℕ
first_flags fields file = from (fields.start + 10) 2 file

-- two files agree on their length, their first 32 bytes, which hold one header, the table, the signature and flags of
-- the first block where there is a group, and the groups touched: those of the frames asked for, unless opening or 51
-- refuses. Bytes that both lack count as agreed.
pub record SameView (s t : List ℕ) (first count : Frames) : Type 0 where
  pub long : length s ≡ length t
  pub front : take 32 s ≡ take 32 t
  pub table : let fields = fields_of s in table_bytes fields s ≡ table_bytes fields t
  pub mark : let fields = fields_of s in
      0 < groups_of fields.frames → first_signature fields s ≡ first_signature fields t
  pub flags : let fields = fields_of s in 0 < groups_of fields.frames → first_flags fields s ≡ first_flags fields t
  pub groups : let fields = fields_of s in check_open s ≡ Fine → (range_end first count).0 ≤ fields.frames.0
      → (j : ℕ) → IsAsked first count j → group_bytes s fields (group_of j) ≡ group_bytes t fields (group_of j)
