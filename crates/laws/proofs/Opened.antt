-- What holds of a file that opens: each check that passed, read backwards.
use Prim.Native.Nat.{ℕ, zero, suc, ◌+◌, ◌-◌, ◌*◌, ◌≤◌, ◌<◌}
use mathlib.Core.Path.{◌≡◌, ap, subst}
use mathlib.Core.Bool.{Bool, true, false, ◌||◌}
use mathlib.Core.List.{List}
use native.Mathlib.Omega.{arith}
use native.Mathlib.Nat.{mul-suc, mul_comm, mul_assoc}
use native.Mathlib.Numerals.{add-one}
use lib.ListN.{length}
use lib.Dec.{ltb}
use borrow.Author.Tests.{ltb-false, eqb-true, eqb-false, not-false}
use Rattle.format.specs.Header.{fields_of, groups_of, entry}
use Rattle.format.specs.Units.{bits_in, is_depth, depth_of}
use Rattle.format.specs.Refusals.{Fine, refuse}
use Rattle.format.specs.Places.{at_group}
use Rattle.format.specs.Opening.{check_fields, check_offsets, bad_entry, check_table, check_open}
use Rattle.format.specs.declared.units.Depth.{Depth}
use Rattle.format.specs.declared.units.Depth.TheVariants.{Eight, Sixteen, TwentyFour, ThirtyTwo}
use Rattle.format.specs.declared.refusals.Refusal.TheVariants.{EntryBounds}
use Rattle.format.specs.declared.answers.Fields.{Fields}
use Rattle.format.proofs.UnitLaws.{depth_bits}
use Rattle.laws.proofs.Tests.{or_left, or_right}
use Rattle.laws.proofs.Checks.{passed, first_fine, others_fine}
use Rattle.laws.proofs.Places.{located_at}

bits_range : (d : Depth) → (8 ≤ bits_in d) × (bits_in d ≤ 32)
bits_range Eight = (omega arith, omega arith)
bits_range Sixteen = (omega arith, omega arith)
bits_range TwentyFour = (omega arith, omega arith)
bits_range ThirtyTwo = (omega arith, omega arith)

-- ---- 10 to 12
module _ (h : Fields) (fine : check_fields h ≡ Fine) where
  pub some_channels : 1 ≤ h.channels
  unfolding check_fields
  some_channels = let e = eqb-false h.channels 0 (passed _ _ (first_fine _ _ fine)) in omega arith

  depth_known : is_depth h.depth ≡ true
  unfolding check_fields
  depth_known = not-false _ (passed _ _ (first_fine _ _ (others_fine _ _ fine)))

  pub depth_least : 8 ≤ h.depth
  depth_least = subst (λ (b : ℕ). 8 ≤ b) (depth_bits h.depth depth_known) (bits_range (depth_of h.depth)).0

  pub depth_most : h.depth ≤ 32
  depth_most = subst (λ (b : ℕ). b ≤ 32) (depth_bits h.depth depth_known) (bits_range (depth_of h.depth)).1

-- ---- 13 to 15, and 1
module _ (h : Fields) (n : ℕ) (fine : check_offsets h n ≡ Fine) where
  pub data_past : h.table + 4 * (groups_of h.frames + 1) ≡ h.start
  unfolding check_offsets
  data_past =
      let l = ltb-false h.start h.table (passed _ _ (first_fine _ _ (others_fine _ _ fine))) in
      let e = eqb-true (h.start - h.table) (4 * (groups_of h.frames + 1)) (not-false _ (passed _ _ (first_fine _ _ (others_fine _ _ (others_fine _ _ fine))))) in
      omega arith

  pub data_within : h.start + h.size ≤ n
  unfolding check_offsets
  data_within = ltb-false n (h.start + h.size) (passed _ _ (others_fine _ _ (others_fine _ _ (others_fine _ _ fine))))

-- ---- 16 to 19
module _ (s : List ℕ) (h : Fields) (fine : check_table s h ≡ Fine) (k : ℕ) (l : k < groups_of h.frames) where
  entry_good : bad_entry s h k ≡ false
  unfolding check_table
  entry_good = passed _ EntryBounds (located_at (λ g. refuse (bad_entry s h g) EntryBounds) at_group k (groups_of h.frames) l (others_fine _ _ (others_fine _ _ (others_fine _ _ fine))))

  abbrev past : Bool
  past = ltb h.size (entry s h (k + 1))

  abbrev falls : Bool
  falls = ltb (entry s h (k + 1)) (entry s h k)

  abbrev short : Bool
  short = ltb (entry s h (k + 1) - entry s h k) (80 * h.channels)

  pub end_within : entry s h (k + 1) ≤ h.size
  unfolding bad_entry
  end_within = ltb-false h.size (entry s h (k + 1)) (or_left past (falls || short) entry_good)

  pub entry_rises : entry s h k ≤ entry s h (k + 1)
  unfolding bad_entry
  entry_rises = ltb-false (entry s h (k + 1)) (entry s h k) (or_left falls short (or_right past (falls || short) entry_good))

  pub entry_room : 80 * h.channels ≤ entry s h (k + 1) - entry s h k
  unfolding bad_entry
  entry_room = ltb-false (entry s h (k + 1) - entry s h k) (80 * h.channels) (or_right falls short (or_right past (falls || short) entry_good))

-- ---- the whole file
module _ (s : List ℕ) (fine : check_open s ≡ Fine) where
  pub opened_long : 120 ≤ length s
  unfolding check_open
  opened_long = ltb-false (length s) 120 (passed _ _ (first_fine _ _ fine))

  pub opened_fields : check_fields (fields_of s) ≡ Fine
  unfolding check_open
  opened_fields = first_fine _ _ (others_fine _ _ (others_fine _ _ fine))

  pub opened_offsets : check_offsets (fields_of s) (length s) ≡ Fine
  unfolding check_open
  opened_offsets = first_fine _ _ (others_fine _ _ (others_fine _ _ (others_fine _ _ fine)))

  pub opened_table : check_table s (fields_of s) ≡ Fine
  unfolding check_open
  opened_table = first_fine _ _ (others_fine _ _ (others_fine _ _ (others_fine _ _ (others_fine _ _ fine))))

-- the first block's header lies in the file
pub first_within : (s : List ℕ) (h : Fields) → check_fields h ≡ Fine → check_offsets h (length s) ≡ Fine → check_table s h ≡ Fine
    → (groups_of h.frames ≡ 0 → ⊥) → h.start + 16 ≤ length s
first_within s h f o t some =
    let l : 0 < groups_of h.frames = omega arith in
    omega (arith, some_channels h f, data_within h (length s) o, end_within s h t 0 l, entry_room s h t 0 l)

-- the data has at least 80 bytes for each block, behind the header and the table
module _ (s : List ℕ) (opened : check_open s ≡ Fine) where
  entries_grow : (k : ℕ) → k ≤ groups_of (fields_of s).frames → 80 * (fields_of s).channels * k ≤ entry s (fields_of s) k
  entries_grow zero l = omega arith
  entries_grow (suc k) l =
      let h = fields_of s in
      let t = opened_table s opened in
      let e = ap (entry s h) (add-one k) in
      omega (arith, entries_grow k (omega arith), mul-suc (80 * h.channels) k, entry_rises s h t k (omega arith), entry_room s h t k (omega arith), e)

  pub blocks_take : 120 + 80 * (groups_of (fields_of s).frames * (fields_of s).channels) ≤ length s
  unfolding check_offsets check_table
  blocks_take =
      let h = fields_of s in
      let n = groups_of h.frames in
      let o = opened_offsets s opened in
      let low = ltb-false h.table 120 (passed _ _ (first_fine _ _ o)) in
      let last = eqb-true (entry s h n) h.size (not-false _ (passed _ _ (first_fine _ _ (opened_table s opened)))) in
      omega (arith, entries_grow n (omega arith), mul_assoc 80 h.channels n, mul_comm h.channels n, data_past h (length s) o, data_within h (length s) o)
