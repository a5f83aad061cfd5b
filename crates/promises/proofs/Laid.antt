-- A file whose table and groups are those of `part` decodes to what its groups decode to: the entries lead to the
-- groups.
use Prim.Native.Nat.{ℕ, zero, suc, ◌+◌, ◌-◌, ◌*◌, ◌≤◌, ◌<◌}
use mathlib.Core.Path.{◌≡◌, refl, sym, ap, ap₂, ◌∙◌}
use mathlib.Core.Bool.{Bool, true, false, cond, not, ◌&&◌}
use mathlib.Core.List.{List, ◌++◌, append_assoc}
use native.Mathlib.Omega.{arith}
use lib.ListN.{length, drop}
use lib.Dec.{ltb, eqb, eqb-suc-zero}
use borrow.Author.Tests.{le-ltb, eq-eqb, ne_eqb}
use lib.IntN.{ℤ}
use Rattle.format.specs.Lists.{joined, from}
use Rattle.format.specs.Header.{is_signature, fields_of, groups_of, entry, group_bytes}
use Rattle.format.specs.Blocks.{is_block, float_bit}
use Rattle.format.specs.Units.{is_depth}
use Rattle.format.specs.Refusals.{Checked, Fine, refuse, in_order}
use Rattle.format.specs.Places.{at_group, in_group}
use Rattle.format.specs.Answers.{answered_by, answered}
use Rattle.format.specs.Opening.{bad_entry, check_fields, check_offsets, check_table, check_first, format_of, check_open, header_for, header_of, open_of}
use Rattle.format.specs.Decoding.{check_group, group_samples, check_decode, decoded_of}
use Rattle.format.specs.declared.refusals.Refusal.TheVariants.{EntryBounds}
use Rattle.format.specs.declared.settings.SampleFormat.TheVariants.{Pcm, Float}
use Rattle.format.specs.declared.settings.SampleFormat.{SampleFormat}
use Rattle.format.specs.declared.answers.Fields.{Fields}
use Rattle.format.specs.declared.answers.Outcome.TheVariants.{Opened}
use Rattle.laws.proofs.Tests.{and_no}
use Rattle.laws.proofs.Parts.{around, part_at, length_mono, joined_cong, one_more}
use Rattle.laws.proofs.Checks.{pass, ◌and_then◌}
use Rattle.laws.proofs.Places.{located_all}
use Rattle.promises.proofs.GroupCoding.{Group}

-- s has the fields h, and its groups are part 0, part 1, ..
pub record Layout (s : List ℕ) (h : Fields) (part : ℕ → List ℕ) : Type 0 where
  pub fields : fields_of s ≡ h
  pub long : 120 ≤ length s
  pub signed : is_signature s ≡ true
  pub offsets : check_offsets h (length s) ≡ Fine
  pub size : h.size ≡ length (joined part (groups_of h.frames))
  pub entries : (k : ℕ) → k ≤ groups_of h.frames → entry s h k ≡ length (joined part k)
  pub groups : (g : ℕ) → g < groups_of h.frames → group_bytes s h g ≡ part g
  pub after : List ℕ
  pub data_is : drop h.start s ≡ joined part (groups_of h.frames) ++ after

-- what lies between two entries is a part
pub between : (P : ℕ → List ℕ) (g n start e0 e1 : ℕ) (a c : List ℕ) → g < n → length a ≡ start → e0 ≡ length (joined P g) → e1 ≡ length (joined P (g + 1))
    → from (start + e0) (e1 - e0) (a ++ (joined P n ++ c)) ≡ P g
between P g n start e0 e1 a c l la p q = part_at P g n (start + e0) (e1 - e0) a c l (omega arith) (omega (arith, one_more P g))

-- of such a file whose groups read as xs 0, xs 1, ..
module _ {s : List ℕ} {h : Fields} {part : ℕ → List ℕ} (lay : Layout s h part) (xs : ℕ → List ℤ) (some : 1 ≤ h.channels) (depth : is_depth h.depth ≡ true) (rate : 1 ≤ h.rate)
    (ok : (g : ℕ) → g < groups_of h.frames → Group h g (xs g) (part g)) where
  abbrev count : ℕ
  count = groups_of h.frames

  fields_fine : check_fields h ≡ Fine
  unfolding check_fields
  fields_fine =
      pass _ _ (ne_eqb h.channels 0 (λ e. omega arith))
      and_then pass _ _ (ap not depth)
      and_then pass _ _ (ne_eqb h.rate 0 (λ e. omega arith))

  entry_fine : (k : ℕ) → k < count → bad_entry s h k ≡ false
  unfolding bad_entry
  entry_fine k l =
      let e0 : entry s h k ≡ length (joined part k) = lay.entries k (omega arith) in
      let e1 : entry s h (k + 1) ≡ length (joined part (k + 1)) = lay.entries (k + 1) (omega arith) in
      let s1 = one_more part k in
      let m : length (joined part (k + 1)) ≤ length (joined part count) = length_mono part (k + 1) count (omega arith) in
      let z : h.size ≡ length (joined part count) = lay.size in
      let a : ltb h.size (entry s h (k + 1)) ≡ false = le-ltb h.size (entry s h (k + 1)) (omega arith) in
      let b : ltb (entry s h (k + 1)) (entry s h k) ≡ false = le-ltb (entry s h (k + 1)) (entry s h k) (omega arith) in
      let d : ltb (entry s h (k + 1) - entry s h k) (80 * h.channels) ≡ false = le-ltb (entry s h (k + 1) - entry s h k) (80 * h.channels) (omega (arith, (ok k l).long)) in
      rw (a, b, d)

  no_groups_lem : (n : ℕ) → count ≡ n → (eqb n 0 && not (eqb h.size 0)) ≡ false
  unfolding joined
  no_groups_lem zero e = ap (λ (x : ℕ). not (eqb x 0)) (lay.size ∙ ap (λ (k : ℕ). length (joined part k)) e)
  no_groups_lem (suc n) e = ap (λ (b : Bool). b && not (eqb h.size 0)) (eqb-suc-zero n)

  table_fine : check_table s h ≡ Fine
  unfolding check_table joined
  table_fine =
      pass _ _ (ap not (eq-eqb (entry s h count) h.size (lay.entries count (omega arith) ∙ sym lay.size)))
      and_then pass _ _ (no_groups_lem count refl)
      and_then pass _ _ (and_no (not (eqb count 0)) _ (ap not (eq-eqb (entry s h 0) 0 (lay.entries 0 (omega arith)))))
      and_then located_all (λ g. refuse (bad_entry s h g) EntryBounds) at_group count (λ g l. pass _ _ (entry_fine g l))

  -- the first block
  starts : 1 ≤ count → (t : List ℕ) × (drop h.start s ≡ part 0 ++ t)
  unfolding joined
  starts l =
      let i = around part 0 count l in
      (i.0 ++ lay.after, lay.data_is ∙ ap (λ (x : List ℕ). x ++ lay.after) i.1 ∙ append_assoc (part 0) i.0 lay.after)

  first_block : check_first s h ≡ Fine
  unfolding check_first
  first_block = pass _ _ (by count refl)
    where
      by : (n : ℕ) → count ≡ n → (not (eqb n 0) && not (is_block (drop h.start s))) ≡ false
      by zero e = refl
      by (suc n) e = let f = starts (omega arith) in and_no (not (eqb (suc n) 0)) _ (ap not (ap is_block f.1 ∙ (ok 0 (omega arith)).mark f.0))

  format_is : format_of s h ≡ Pcm
  unfolding format_of
  format_is = ap (λ (b : Bool). cond b Float Pcm) (by count refl)
    where
      by : (n : ℕ) → count ≡ n → (not (eqb n 0) && float_bit (drop h.start s)) ≡ false
      by zero e = refl
      by (suc n) e = let f = starts (omega arith) in and_no (not (eqb (suc n) 0)) _ (ap float_bit f.1 ∙ (ok 0 (omega arith)).pcm f.0)

  -- opening refuses nothing
  open_fine : check_open s ≡ Fine
  unfolding check_open
  open_fine =
      pass _ _ (le-ltb (length s) 120 lay.long)
      and_then pass _ _ (ap not lay.signed)
      and_then (ap check_fields lay.fields ∙ fields_fine)
      and_then (ap (λ (x : Fields). check_offsets x (length s)) lay.fields ∙ lay.offsets)
      and_then (ap (check_table s) lay.fields ∙ table_fine)
      and_then (ap (check_first s) lay.fields ∙ first_block)

  -- and says its numbers
  pub open_says : open_of s ≡ answered_by (Opened (header_for h Pcm))
  unfolding open_of header_of
  open_says =
      ap₂ (λ (c : Checked) (x : Fields). answered c (Opened (header_for x (format_of s x)))) open_fine lay.fields
      ∙ ap (λ (f : SampleFormat). answered_by (Opened (header_for h f))) format_is

  -- decoding refuses nothing
  pub decode_fine : check_decode s ≡ Fine
  unfolding check_decode
  decode_fine =
      open_fine and_then (
      ap (λ (x : Fields). in_order (λ g. in_group g (check_group x (format_of s x) (group_bytes s x g))) (groups_of x.frames)) lay.fields
      ∙ located_all (λ g. check_group h (format_of s h) (group_bytes s h g)) at_group count
      (λ g l. ap₂ (λ (f : SampleFormat) (bs : List ℕ). check_group h f bs) format_is (lay.groups g l) ∙ (ok g l).fine))

  -- and gives the groups' samples
  pub decode_gives : decoded_of s ≡ joined xs count
  unfolding decoded_of
  decode_gives =
      ap (λ (x : Fields). joined (λ g. group_samples x (format_of s x) g (group_bytes s x g)) (groups_of x.frames)) lay.fields
      ∙ joined_cong (λ g. group_samples h (format_of s h) g (group_bytes s h g)) xs count
      (λ g l. ap₂ (λ (f : SampleFormat) (bs : List ℕ). group_samples h f g bs) format_is (lay.groups g l) ∙ (ok g l).samples)
