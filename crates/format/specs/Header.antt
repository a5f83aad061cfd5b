-- Document 01, "The file": the header and the offset table.
use Rattle.std.specs.Prelude.{ℕ, ◌+◌, ◌-◌, ◌*◌, ◌/◌, List, [], ◌∷◌, Bool, ◌||◌, take}
use Rattle.format.specs.Lists.{from, same}
use Rattle.format.specs.Numbers.{num_at}
use Rattle.format.specs.declared.units.Frames.{Frames}
use Rattle.format.specs.declared.answers.Fields.{Fields}

-- ------------------------------------------------------------------------------------------------------------------

-- the signature 01 A8 9E D6 31 01 00 00, or the same with 30 for 31
unfoldable pub signature : ℕ → List ℕ
signature fifth = 0x01 ∷ 0xA8 ∷ 0x9E ∷ 0xD6 ∷ fifth ∷ 0x01 ∷ 0x00 ∷ 0x00 ∷ []

unfoldable pub is_signature : List ℕ → Bool
is_signature file = same (take 8 file) (signature 0x31) || same (take 8 file) (signature 0x30)

-- then channels (2 bytes), depth (2), rate, frames, table offset, data offset, data size (4 each), ending at byte 32
unfoldable pub fields_of : List ℕ → Fields
fields_of file =
    record {
      channels = num_at 8 2 file;
      depth = num_at 10 2 file;
      rate = num_at 12 4 file;
      frames = record { 0 = num_at 16 4 file };
      table = num_at 20 4 file;
      start = num_at 24 4 file;
      size = num_at 28 4 file;
    }

-- groups = frames / 512 rounded up
unfoldable pub groups_of : Frames → ℕ
groups_of frames = (frames.0 + 511) / 512

-- the table's entry k, of 4 bytes
unfoldable pub entry : List ℕ → Fields → ℕ → ℕ
entry file fields k = num_at (fields.table + 4 * k) 4 file

-- the bytes of group g: entries are relative to the data offset
unfoldable pub group_bytes : List ℕ → Fields → ℕ → List ℕ
group_bytes file fields g =
    from (fields.start + entry file fields g) (entry file fields (g + 1) - entry file fields g) file
