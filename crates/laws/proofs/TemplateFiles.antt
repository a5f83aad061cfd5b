-- What the passed checks of a template tell; as each new group is as long as the template's, the new file is too, and
-- the table's entries stay true.
use Prim.Native.Nat.{ℕ, zero, suc, ◌+◌, ◌-◌, ◌*◌, ◌/◌, ◌≤◌, ◌<◌}
use mathlib.Core.Path.{◌≡◌, refl, sym, ap, ◌∙◌}
use mathlib.Core.List.{List, ◌++◌}
use mathlib.Core.Logic.{⊎_elim}
use native.Mathlib.Omega.{arith}
use native.Mathlib.Numerals.{add-one}
use lib.ListN.{length, take, drop, length-append, length-drop}
use lib.Seq.{length-take-le}
use lib.IntN.{ℤ}
use lib.Dec.{leb}
use borrow.Author.Tests.{ltb-false, leb-false, eqb-true, not-false}
use mathlib.Core.Bool.{true}
use Rattle.format.specs.Refusals.{Fine}
use Rattle.format.specs.Lists.{joined}
use Rattle.format.specs.Header.{is_signature, fields_of, groups_of, entry, group_bytes}
use Rattle.format.specs.Encoding.{group_in, check_samples, frames_of}
use Rattle.format.specs.Places.{at_group}
use Rattle.format.specs.Reencoding.{check_reencode_group, reencoded_group, check_same, check_bounds, check_rising, check_template, check_reencoder, check_reencode, reencoded_file}
use Rattle.format.specs.declared.settings.PcmSpec.{PcmSpec}
use Rattle.format.specs.declared.answers.Fields.{Fields}
use Rattle.laws.proofs.Parts.{below_suc, length_from}
use Rattle.laws.proofs.Checks.{first_fine, others_fine, passed, found_below}
use Rattle.laws.proofs.Places.{located_at}
use Rattle.laws.proofs.SampleChecks.{frames_ok}
use Rattle.laws.proofs.Templates.{new_group_length}

-- what rises is below its end
rising : (f : ℕ → ℕ) (n : ℕ) → ((k : ℕ) → k < n → f k < f (k + 1)) → (k : ℕ) → k ≤ n → f k ≤ f n
rising f zero h k l = let e : k ≡ 0 = omega arith in rw e (omega arith)
rising f (suc n) h k l =
    ⊎_elim
    (λ (e : k ≡ suc n). rw e (omega arith))
    (λ (q : k < suc n). let i = rising f n (λ j p. h j (omega arith)) k (omega arith) in let s = rw add-one at (h n (omega arith)) in omega arith)
    (below_suc k (suc n) (omega arith))

-- ---- the template t of the samples s passed: 1, 2, 40 to 42
module _ (p : PcmSpec) (s : List ℤ) (t : List ℕ) (template : check_template p s t ≡ Fine) where
  abbrev pub h : Fields
  h = fields_of t

  abbrev pub count : ℕ
  count = groups_of h.frames

  pub long_ok : 120 ≤ length t
  unfolding check_template
  long_ok = ltb-false (length t) 120 (passed _ _ (first_fine _ _ template))

  pub signed_ok : is_signature t ≡ true
  unfolding check_template
  signed_ok = not-false _ (passed _ _ (first_fine _ _ (others_fine _ _ template)))

  same_ok : check_same p (frames_of p s) h ≡ Fine
  unfolding check_template
  same_ok = first_fine _ _ (others_fine _ _ (others_fine _ _ template))

  bounds_ok : check_bounds h (length t) ≡ Fine
  unfolding check_template
  bounds_ok = first_fine _ _ (others_fine _ _ (others_fine _ _ (others_fine _ _ template)))

  rising_ok : check_rising t h ≡ Fine
  unfolding check_template
  rising_ok = others_fine _ _ (others_fine _ _ (others_fine _ _ (others_fine _ _ template)))

  pub channels_are : h.channels ≡ p.channels
  unfolding check_same
  channels_are = eqb-true h.channels p.channels (not-false _ (passed _ _ (first_fine _ _ same_ok)))

  pub bits_are : h.depth ≡ p.bits_per_sample
  unfolding check_same
  bits_are = eqb-true h.depth p.bits_per_sample (not-false _ (passed _ _ (first_fine _ _ (others_fine _ _ same_ok))))

  pub rate_is : h.rate ≡ p.sample_rate
  unfolding check_same
  rate_is = eqb-true h.rate p.sample_rate (not-false _ (passed _ _ (first_fine _ _ (others_fine _ _ (others_fine _ _ same_ok)))))

  pub frames_are : h.frames.0 ≡ length s / p.channels
  unfolding check_same
  frames_are = eqb-true h.frames.0 (length s / p.channels) (not-false _ (passed _ _ (others_fine _ _ (others_fine _ _ (others_fine _ _ same_ok)))))

  pub table_ok : 120 ≤ h.table
  unfolding check_bounds
  table_ok = ltb-false h.table 120 (passed _ _ (first_fine _ _ bounds_ok))

  pub start_ok : h.table ≤ h.start
  unfolding check_bounds
  start_ok = ltb-false h.start h.table (passed _ _ (first_fine _ _ (others_fine _ _ bounds_ok)))

  pub room_ok : h.start - h.table ≡ 4 * (count + 1)
  unfolding check_bounds
  room_ok = eqb-true (h.start - h.table) (4 * (count + 1)) (not-false _ (passed _ _ (first_fine _ _ (others_fine _ _ (others_fine _ _ bounds_ok)))))

  pub end_ok : h.start + h.size ≤ length t
  unfolding check_bounds
  end_ok = ltb-false (length t) (h.start + h.size) (passed _ _ (others_fine _ _ (others_fine _ _ (others_fine _ _ bounds_ok))))

  pub entry_zero : entry t h 0 ≡ 0
  unfolding check_rising
  entry_zero = eqb-true (entry t h 0) 0 (not-false _ (passed _ _ (first_fine _ _ rising_ok)))

  pub entry_last : entry t h count ≡ h.size
  unfolding check_rising
  entry_last = eqb-true (entry t h count) h.size (not-false _ (passed _ _ (first_fine _ _ (others_fine _ _ rising_ok))))

  pub entry_rises : (k : ℕ) → k < count → entry t h k < entry t h (k + 1)
  unfolding check_rising
  entry_rises k l = leb-false (entry t h (k + 1)) (entry t h k) (found_below (λ k. leb (entry t h (k + 1)) (entry t h k)) k count l (passed _ _ (others_fine _ _ (others_fine _ _ rising_ok))))

  -- ---- where its groups lie
  pub entry_there : (k : ℕ) → k ≤ count → h.table + 4 * k + 4 ≤ length t
  entry_there k l = omega (arith, start_ok, room_ok, end_ok)

  pub entry_within : (k : ℕ) → k ≤ count → h.start + entry t h k ≤ length t
  entry_within k l = omega (arith, rising (entry t h) count entry_rises k l, entry_last, end_ok)

  old_length : (g : ℕ) → g < count → length (group_bytes t h g) ≡ entry t h (g + 1) - entry t h g
  unfolding group_bytes
  old_length g l =
      length_from (h.start + entry t h g) (entry t h (g + 1) - entry t h g) t (omega (arith, entry_within (g + 1) (omega arith), entry_rises g l))

  -- ---- and so did the samples: s is whole frames, as many as the template has
  pub all_frames : check_samples p s ≡ Fine → length s ≡ h.channels * h.frames.0
  all_frames samples = rw (channels_are, frames_are) (frames_ok p s samples)

-- ---- re-encoding accepts s with the template t
module _ (p : PcmSpec) (s : List ℤ) (t : List ℕ) (ok : check_reencode p s t ≡ Fine) where
  abbrev f : Fields
  f = fields_of t

  abbrev n : ℕ
  n = groups_of f.frames

  pub writer_ok : check_reencoder p ≡ Fine
  unfolding check_reencode
  writer_ok = first_fine _ _ ok

  pub samples_ok : check_samples p s ≡ Fine
  unfolding check_reencode
  samples_ok = first_fine _ _ (others_fine _ _ ok)

  pub template_ok : check_template p s t ≡ Fine
  unfolding check_reencode
  template_ok = first_fine _ _ (others_fine _ _ (others_fine _ _ ok))

  pub groups_ok : (g : ℕ) → g < n → check_reencode_group f.depth f.channels (group_bytes t f g) (group_in f.channels s g) ≡ Fine
  unfolding check_reencode
  groups_ok g l =
      located_at (λ g. check_reencode_group f.depth f.channels (group_bytes t f g) (group_in f.channels s g)) at_group g n l
      (others_fine _ _ (others_fine _ _ (others_fine _ _ ok)))

  abbrev pub part : ℕ → List ℕ
  part g = reencoded_group f.depth f.channels (group_bytes t f g) (group_in f.channels s g)

  part_length : (g : ℕ) → g < n → length (part g) ≡ entry t f (g + 1) - entry t f g
  part_length g l = new_group_length f.depth f.channels (group_bytes t f g) (group_in f.channels s g) (groups_ok g l) ∙ old_length p s t template_ok g l

  -- the table's entries are where the new groups begin
  pub entries_same : (k : ℕ) → k ≤ n → entry t f k ≡ length (joined part k)
  unfolding joined
  entries_same zero l = entry_zero p s t template_ok
  entries_same (suc k) l =
      let i = entries_same k (omega arith) in
      let r = rw add-one at (entry_rises p s t template_ok k l) in
      let e = rw add-one at (part_length k l) in
      omega (arith, length-append (joined part k) (part k))

  pub size_is : f.size ≡ length (joined part n)
  size_is = sym (entry_last p s t template_ok) ∙ entries_same n (omega arith)

  -- what lies before the data and after them
  abbrev pub front : List ℕ
  front = take f.start t

  abbrev pub back : List ℕ
  back = drop (f.start + f.size) t

  pub front_length : length front ≡ f.start
  front_length = length-take-le f.start t (omega (arith, end_ok p s t template_ok))

  pub file_is : reencoded_file s t ≡ front ++ (joined part n ++ back)
  unfolding reencoded_file
  file_is = refl

  -- the new file is as long as the template
  pub same_length : length (reencoded_file s t) ≡ length t
  same_length =
      ap length file_is ∙ length-append front (joined part n ++ back)
      ∙ omega (arith, front_length, length-append (joined part n) back, length-drop (f.start + f.size) t, size_is, end_ok p s t template_ok)
