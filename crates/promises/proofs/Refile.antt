-- Re-encoding, then decoding, gives the samples back; re-encoding what the template decodes to gives the template.
-- The new file has the template's layout, and its groups are the new ones.
use Prim.Native.Nat.{ℕ, zero, suc, ◌+◌, ◌-◌, ◌*◌, ◌≤◌, ◌<◌, min}
use mathlib.Core.Path.{◌≡◌, refl, sym, ap, ap₂, ◌∙◌, subst}
use mathlib.Core.Bool.{true, not, ◌||◌}
use mathlib.Core.List.{List, [], ◌++◌, append-nil}
use native.Mathlib.Omega.{arith}
use native.Mathlib.Numerals.{add-one}
use native.Mathlib.Decide.{dec_le}
use lib.ListN.{length, take, drop, take-append-drop}
use lib.Seq.{drop_at, drop-drop, take_all, length-take-le}
use lib.IntN.{ℤ, pos}
use mir.Syntax.{w32}
use mir.Val.{SFits}
use borrow.Author.Tests.{le-ltb, eq-eqb}
use Rattle.format.specs.Refusals.{Fine}
use Rattle.format.specs.Lists.{joined, from, same}
use Rattle.format.specs.Numbers.{num, num_at, Below}
use Rattle.format.specs.Header.{signature, is_signature, fields_of, groups_of, entry, group_bytes}
use Rattle.format.specs.Units.{is_depth, active}
use Rattle.format.specs.Opening.{check_offsets, open_of}
use Rattle.format.specs.Decoding.{group_samples, check_decode, decoded_of}
use Rattle.format.specs.Encoding.{group_in}
use Rattle.format.specs.Reencoding.{check_template, check_reencode, reencoded_file}
use Rattle.format.specs.declared.settings.PcmSpec.{PcmSpec}
use Rattle.format.specs.declared.settings.SampleFormat.TheVariants.{Pcm}
use Rattle.format.specs.declared.answers.Fields.{Fields}
use Rattle.laws.proofs.Parts.{from_within, from_from, length_from, part_at, joined_cong, meet}
use Rattle.laws.proofs.Checks.{pass, ◌and_then◌}
use Rattle.laws.proofs.Each.{each_joined}
use Rattle.laws.proofs.Wrap.{Fit, zero_fits}
use Rattle.laws.proofs.Lengths.{group_writes, active_sum, decode_writes}
use Rattle.laws.proofs.Channels.{some_active, group_starts, group_length, group_holds, groups_joined}
use Rattle.promises.proofs.GroupCoding.{Group}
use Rattle.promises.proofs.Laid.{Layout, between, open_says, decode_fine, decode_gives}
use Rattle.laws.proofs.SampleChecks.{Valid, reencoder_ok, values_ok}
use Rattle.laws.proofs.TemplateFiles as F
use Rattle.promises.proofs.Bytes.{below_group}
use Rattle.promises.proofs.MidSums.{NoneLeaves}
use Rattle.promises.proofs.NewGroups.{Accepted, new_group, template_group, group_fit, group_kept, group_stays}

from_none : (i : ℕ) (s : List ℕ) → from i 0 s ≡ []
unfolding from
from_none i s = refl

-- a part by its length
take_own : (m : ℕ) (l : List ℤ) (q : ℕ) → length (take m l) ≡ q → take m l ≡ take q l
take_own m l q e =
    elim (dec_le m (length l)) [
      | yes h ↦ ap (λ (x : ℕ). take x l) (sym (length-take-le m l h) ∙ e)
      | no h ↦ let a : length l ≤ m = omega arith in let b : take m l ≡ l = take_all m l a in b ∙ sym (take_all q l (omega (arith, ap length b)))
    ]

-- re-encoding accepts s with the template t
module _ (p : PcmSpec) (s : List ℤ) (t : List ℕ) (ok : check_reencode p s t ≡ Fine) where
  abbrev pub h : Fields
  h = fields_of t

  abbrev pub count : ℕ
  count = groups_of h.frames

  template : check_template p s t ≡ Fine
  template = F.template_ok p s t ok

  -- ---- each new group
  abbrev part : ℕ → List ℕ
  part = F.part p s t ok

  all_frames : length s ≡ h.channels * h.frames.0
  all_frames = F.all_frames p s t template (F.samples_ok p s t ok)

  writer : Valid 2 p
  writer = reencoder_ok p (F.writer_ok p s t ok)

  pub some : 1 ≤ h.channels
  some = rw (F.channels_are p s t template) writer.some

  depth : is_depth h.depth ≡ true
  depth = rw (F.bits_are p s t template) writer.depth

  rate : 1 ≤ h.rate
  rate = rw (F.rate_is p s t template) writer.rate

  pub accepted : (g : ℕ) → g < count → Accepted h g (group_bytes t h g) (group_in h.channels s g)
  accepted g l =
      record {
        some = some;
        low = rw (F.bits_are p s t template) writer.low;
        high = rw (F.bits_are p s t template) writer.high;
        begun = omega (arith, some_active h.frames g l);
        long = group_length h.channels h.frames s all_frames g;
        hold = group_holds h.depth h.channels s g (λ i. rw (F.bits_are p s t template) (values_ok p s (F.samples_ok p s t ok) writer.depth i));
        fine = F.groups_ok p s t ok g l;
      }

  parts_ok : (g : ℕ) → g < count → Group h g (group_in h.channels s g) (part g)
  parts_ok g l = new_group (accepted g l)

  -- ---- the file
  abbrev front : List ℕ
  front = F.front p s t ok

  abbrev back : List ℕ
  back = F.back p s t ok

  -- what lies before the data is the template's
  front_same : (i k : ℕ) → i + k ≤ h.start → from i k (reencoded_file s t) ≡ from i k t
  unfolding from
  front_same i k l =
      ap (from i k) (F.file_is p s t ok) ∙ from_within i k front (joined part count ++ back) (omega (arith, F.front_length p s t ok))
      ∙ from_from i k 0 h.start t l ∙ ap (λ (x : ℕ). from x k t) zero_plus
    where
      zero_plus : 0 + i ≡ i
      zero_plus = omega arith

  early : 120 ≤ h.start
  early = omega (arith, F.table_ok p s t template, F.start_ok p s t template)

  same_number : (i k : ℕ) → i + k ≤ h.start → num_at i k (reencoded_file s t) ≡ num_at i k t
  unfolding num_at
  same_number i k l = ap (num 256) (front_same i k l)

  -- so its header's numbers stay
  pub fields_same : fields_of (reencoded_file s t) ≡ h
  unfolding fields_of
  fields_same =
      λ i. record {
        channels = same_number 8 2 (omega (arith, early)) i;
        depth = same_number 10 2 (omega (arith, early)) i;
        rate = same_number 12 4 (omega (arith, early)) i;
        frames = record { 0 = same_number 16 4 (omega (arith, early)) i };
        table = same_number 20 4 (omega (arith, early)) i;
        start = same_number 24 4 (omega (arith, early)) i;
        size = same_number 28 4 (omega (arith, early)) i;
      }

  pub signed_same : is_signature (reencoded_file s t) ≡ true
  unfolding is_signature from
  signed_same = ap (λ (x : List ℕ). same x (signature 0x31) || same x (signature 0x30)) (front_same 0 8 (omega (arith, early))) ∙ F.signed_ok p s t template

  pub entry_same : (k : ℕ) → k ≤ count → entry (reencoded_file s t) h k ≡ length (joined part k)
  unfolding entry
  entry_same k l = same_number (h.table + 4 * k) 4 (omega (arith, F.room_ok p s t template, F.start_ok p s t template)) ∙ F.entries_same p s t ok k l

  -- its groups are the new ones
  pub group_new : (g : ℕ) → g < count → group_bytes (reencoded_file s t) h g ≡ part g
  unfolding group_bytes
  group_new g l =
      ap (from (h.start + entry (reencoded_file s t) h g) (entry (reencoded_file s t) h (g + 1) - entry (reencoded_file s t) h g)) (F.file_is p s t ok)
      ∙ between part g count h.start (entry (reencoded_file s t) h g) (entry (reencoded_file s t) h (g + 1)) front back l (F.front_length p s t ok) (entry_same g (omega arith)) (entry_same (g + 1) (omega arith))

  offsets_fine : check_offsets h (length (reencoded_file s t)) ≡ Fine
  unfolding check_offsets
  offsets_fine =
      pass _ _ (le-ltb h.table 120 (F.table_ok p s t template))
      and_then pass _ _ (le-ltb h.start h.table (F.start_ok p s t template))
      and_then pass _ _ (ap not (eq-eqb (h.start - h.table) (4 * (count + 1)) (F.room_ok p s t template)))
      and_then pass _ _ (le-ltb (length (reencoded_file s t)) (h.start + h.size) (omega (arith, F.same_length p s t ok, F.end_ok p s t template)))

  pub layout : Layout (reencoded_file s t) h part
  layout =
      record {
        fields = fields_same;
        long = omega (arith, F.same_length p s t ok, F.long_ok p s t template);
        signed = signed_same;
        offsets = offsets_fine;
        size = F.size_is p s t ok;
        entries = entry_same;
        groups = group_new;
        after = back;
        data_is = ap (drop h.start) (F.file_is p s t ok) ∙ drop_at front (joined part count ++ back) h.start (F.front_length p s t ok);
      }

  -- decoding accepts the new file
  pub decodes : check_decode (reencoded_file s t) ≡ Fine
  decodes = decode_fine layout (group_in h.channels s) some depth rate parts_ok

  -- and gives the samples
  pub gives_back : decoded_of (reencoded_file s t) ≡ s
  gives_back = decode_gives layout (group_in h.channels s) some depth rate parts_ok ∙ groups_joined h.channels h.frames s all_frames

  -- ---- the template itself: its groups, joined
  groups_so_far : (k : ℕ) → k ≤ count → joined (group_bytes t h) k ≡ from h.start (entry t h k) t
  unfolding joined group_bytes
  groups_so_far zero l = sym (ap (λ (x : ℕ). from h.start x t) (F.entry_zero p s t template) ∙ from_none h.start t)
  groups_so_far (suc k) l =
      let r = rw add-one at (F.entry_rises p s t template k l) in
      let j : entry t h k + (entry t h (suc k) - entry t h k) ≡ entry t h (suc k) = omega arith in
      ap₂ (λ (x y : List ℕ). x ++ y) (groups_so_far k (omega arith)) (ap (λ (x : ℕ). from (h.start + entry t h k) (entry t h x - entry t h k) t) (add-one k))
      ∙ meet h.start (entry t h k) (entry t h (suc k) - entry t h k) t
      ∙ ap (λ (x : ℕ). from h.start x t) j

  -- with what lies after them they are all from the data offset on
  data_there : joined (group_bytes t h) count ++ back ≡ drop h.start t
  unfolding from
  data_there =
      ap (λ (x : List ℕ). x ++ back) (groups_so_far count (omega arith) ∙ ap (λ (x : ℕ). from h.start x t) (F.entry_last p s t template))
      ∙ ap (λ (x : List ℕ). take h.size (drop h.start t) ++ x) (sym (drop-drop h.size h.start t)) ∙ take-append-drop h.size (drop h.start t)

  group_offset : (k : ℕ) → k ≤ count → entry t h k ≡ length (joined (group_bytes t h) k)
  group_offset k l = sym (ap length (groups_so_far k l) ∙ length_from h.start (entry t h k) t (F.entry_within p s t template k l))

  template_layout : Layout t h (group_bytes t h)
  template_layout =
      record {
        fields = refl;
        long = F.long_ok p s t template;
        signed = F.signed_ok p s t template;
        offsets = subst (λ (n : ℕ). check_offsets h n ≡ Fine) (F.same_length p s t ok) offsets_fine;
        size = sym (F.entry_last p s t template) ∙ group_offset count (omega arith);
        entries = group_offset;
        groups = λ g l. refl;
        after = back;
        data_is = sym data_there;
      }

  abbrev P : ℕ → List ℤ
  P g = group_samples h Pcm g (group_bytes t h g)

  templates_ok : (g : ℕ) → g < count → Group h g (P g) (group_bytes t h g)
  templates_ok g l = template_group (accepted g l)

  -- opening says the same of both
  pub opens_same : open_of (reencoded_file s t) ≡ open_of t
  opens_same =
      open_says layout (group_in h.channels s) some depth rate parts_ok ∙ sym (open_says template_layout (λ g. group_samples h Pcm g (group_bytes t h g)) some depth rate templates_ok)

  -- what re-encoding accepts as a template, decoding accepts
  pub template_decodes : check_decode t ≡ Fine
  template_decodes = decode_fine template_layout P some depth rate templates_ok

  -- as many samples
  pub template_count : length (decoded_of t) ≡ length s
  template_count = decode_writes t template_decodes ∙ sym all_frames

  template_gives : decoded_of t ≡ joined P count
  template_gives = decode_gives template_layout P some depth rate templates_ok

  -- to samples of 32 bits
  pub template_fit : Fit (decoded_of t)
  template_fit = subst Fit (sym template_gives) (each_joined (SFits w32) (pos 0) zero_fits P count (λ g l. group_fit (accepted g l)))

  -- what the template decodes to, re-encoded, where no mid plus side or mid minus side leaves 32 bits: sums wrap, so
  -- that others may be read as the same samples
  module _ (byte : Below 256 t) (own : s ≡ decoded_of t) (none : NoneLeaves t) where
    P-length : (g : ℕ) → g < count → length (P g) ≡ h.channels * active h.frames g
    P-length g l = group_writes h Pcm (group_bytes t h g) some (templates_ok g l).fine g

    -- group g's samples
    group_own : (g : ℕ) → g < count → group_in h.channels s g ≡ P g
    unfolding group_in from groups_of
    group_own g l =
        let n = h.channels in
        let len : length (group_in n s g) ≡ length (P g) = group_length n h.frames s all_frames g ∙ sym (P-length g l) in
        let e : min h.frames.0 (512 * g) ≡ 512 * g = omega arith in
        let off : 512 * n * g ≡ length (joined P g) = group_starts n g ∙ ap (λ (x : ℕ). n * x) (sym e) ∙ sym (active_sum h.frames n P g (λ j q. P-length j (omega arith))) in
        take_own (512 * n) (drop (512 * n * g) s) (length (P g)) len
        ∙ ap (from (512 * n * g) (length (P g))) (own ∙ template_gives ∙ sym (append-nil (joined P count)))
        ∙ part_at P g count (512 * n * g) (length (P g)) [] [] l (off ∙ sum_zero (length (joined P g))) refl
      where
        sum_zero : (x : ℕ) → x ≡ 0 + x
        sum_zero x = omega arith

    part_kept : (g : ℕ) → g < count → part g ≡ group_bytes t h g
    part_kept g l = group_kept (accepted g l) (below_group t byte h g) (group_own g l) (λ m i q. none g i l m q)

    -- is the template
    pub template_kept : reencoded_file s t ≡ t
    template_kept =
        F.file_is p s t ok ∙ ap (λ (x : List ℕ). front ++ (x ++ back)) (joined_cong part (group_bytes t h) count part_kept)
        ∙ ap (λ (x : List ℕ). front ++ x) data_there ∙ take-append-drop h.start t

  -- and only then: where the new file is the template, no sum leaves 32 bits
  pub kept_stays : reencoded_file s t ≡ t → NoneLeaves t
  kept_stays kept g i l m q = group_stays (accepted g l) (sym (group_new g l) ∙ ap (λ (f : List ℕ). group_bytes f h g) kept) m i q
