-- The header, the table and the groups of an assembled file are read back: each number fits its bytes, and each entry
-- is the length of the groups before it.
use Prim.Native.Nat.{ℕ, ◌+◌, ◌-◌, ◌*◌, ◌≤◌, ◌<◌}
use mathlib.Core.Path.{◌≡◌, refl, sym, ap, ◌∙◌}
use mathlib.Core.Bool.{true, not}
use mathlib.Core.List.{List, [], ◌++◌, append-nil, append_assoc}
use native.Mathlib.Omega.{arith}
use lib.ListN.{length, drop}
use lib.Seq.{drop_at}
use borrow.Author.Tests.{le-ltb, eq-eqb}
use Rattle.format.specs.Refusals.{Fine}
use Rattle.format.specs.Lists.{joined, from, same}
use Rattle.format.specs.Numbers.{num, digits, le, num_at}
use Rattle.format.specs.Header.{signature, is_signature, fields_of, groups_of, entry, group_bytes}
use Rattle.format.specs.Opening.{check_offsets}
use Rattle.format.specs.Encoding.{header_bytes, table_of, assembled}
use Rattle.format.specs.declared.units.Frames.{Frames}
use Rattle.format.specs.declared.settings.PcmSpec.{PcmSpec}
use Rattle.format.specs.declared.answers.Fields.{Fields}
use Rattle.laws.proofs.Parts.{part_at, length_mono}
use Rattle.laws.proofs.Checks.{pass, ◌and_then◌}
use Rattle.laws.proofs.Digits.{length_le, num_le}
use Rattle.laws.proofs.Written.{header_length, entries_length, front_length, assembled_length}
use Rattle.promises.proofs.Laid.{Layout, between}

-- the numbers that a header holds
abbrev pub fields_for : PcmSpec → Frames → ℕ → ℕ → Fields
fields_for p frames start size = record { channels = p.channels; depth = p.bits_per_sample; rate = p.sample_rate; frames = frames; table = 120; start = start; size = size }

-- numbers that their bytes hold
pub record Small (p : PcmSpec) (frames : Frames) (start size : ℕ) : Type 0 where
  pub channels_16 : p.channels < 65536
  pub bits_16 : p.bits_per_sample < 65536
  pub rate_32 : p.sample_rate < 4294967296
  pub frames_32 : frames.0 < 4294967296
  pub start_32 : start < 4294967296
  pub size_32 : size < 4294967296

header_fields : (p : PcmSpec) (frames : Frames) (start size : ℕ) (t : List ℕ) → Small p frames start size → fields_of (header_bytes p frames start size ++ t) ≡ fields_for p frames start size
unfolding fields_of num_at from header_bytes signature le digits
header_fields p frames start size t s =
    λ i. record {
      channels = num_le 2 p.channels s.channels_16 i;
      depth = num_le 2 p.bits_per_sample s.bits_16 i;
      rate = num_le 4 p.sample_rate s.rate_32 i;
      frames = record { 0 = num_le 4 frames.0 s.frames_32 i };
      table = num_le 4 120 (omega arith) i;
      start = num_le 4 start s.start_32 i;
      size = num_le 4 size s.size_32 i;
    }

header_signature : (p : PcmSpec) (frames : Frames) (start size : ℕ) (t : List ℕ) → is_signature (header_bytes p frames start size ++ t) ≡ true
unfolding header_bytes signature is_signature same
header_signature p frames start size t = refl

-- ---- the assembled file of the groups part 0, part 1, ..
module _ (p : PcmSpec) (frames : Frames) (part : ℕ → List ℕ) where
  abbrev pub count : ℕ
  count = groups_of frames

  abbrev pub first : ℕ
  first = 120 + 4 * (count + 1)

  abbrev pub total : ℕ
  total = length (joined part count)

  abbrev pub file : List ℕ
  file = assembled p frames part

  abbrev pub head : Fields
  head = fields_for p frames first total

  module _ (small : Small p frames first total) where
    -- its header says what it was made of
    fields_are : fields_of file ≡ head
    unfolding assembled
    fields_are = header_fields p frames first total (table_of part count ++ joined part count) small

    signed : is_signature file ≡ true
    unfolding assembled
    signed = header_signature p frames first total (table_of part count ++ joined part count)

    -- entry k is the length of the groups before it
    entry_is : (k : ℕ) → k ≤ count → entry file head k ≡ length (joined part k)
    unfolding entry num_at assembled table_of
    entry_is k l =
        ap (num 256) (part_at (λ g. le 4 (length (joined part g))) k (count + 1) (120 + 4 * k) 4 (header_bytes p frames first total) (joined part count) (omega arith)
        (omega (arith, header_length p frames first total, entries_length part k)) (sym (length_le 4 (length (joined part k)))))
        ∙ num_le 4 (length (joined part k)) (omega (arith, length_mono part k count l, small.size_32))

    front_is : length (header_bytes p frames first total ++ table_of part count) ≡ first
    front_is = front_length p frames first total part

    file_is : file ≡ (header_bytes p frames first total ++ table_of part count) ++ joined part count
    unfolding assembled
    file_is = sym (append_assoc (header_bytes p frames first total) (table_of part count) (joined part count))

    -- what follows the data offset
    pub data_is : drop first file ≡ joined part count
    data_is = ap (drop first) file_is ∙ drop_at (header_bytes p frames first total ++ table_of part count) (joined part count) first front_is

    -- group g's bytes
    pub group_is : (g : ℕ) → g < count → group_bytes file head g ≡ part g
    unfolding group_bytes
    group_is g l =
        let a = header_bytes p frames first total ++ table_of part count in
        let e : file ≡ a ++ (joined part count ++ []) = file_is ∙ ap (λ (x : List ℕ). a ++ x) (sym (append-nil (joined part count))) in
        ap (from (first + entry file head g) (entry file head (g + 1) - entry file head g)) e
        ∙ between part g count first (entry file head g) (entry file head (g + 1)) a [] l front_is (entry_is g (omega arith)) (entry_is (g + 1) (omega arith))

    offsets_fine : check_offsets head (length file) ≡ Fine
    unfolding check_offsets
    offsets_fine =
        pass _ _ refl
        and_then pass _ _ (le-ltb first 120 (omega arith))
        and_then pass _ _ (ap not (eq-eqb (first - 120) (4 * (count + 1)) (omega arith)))
        and_then pass _ _ (le-ltb (length file) (first + total) (omega (arith, assembled_length p frames part)))

    -- all of it together
    pub assembled_layout : Layout file head part
    assembled_layout =
        record {
          fields = fields_are;
          long = omega (arith, assembled_length p frames part);
          signed = signed;
          offsets = offsets_fine;
          size = refl;
          entries = entry_is;
          groups = group_is;
          after = [];
          data_is = data_is ∙ sym (append-nil (joined part count));
        }
