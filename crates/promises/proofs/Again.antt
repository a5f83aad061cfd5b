-- The new file serves as template exactly as the old one did: all that is read of a template stays in it, but for the
-- values and bases that the samples determine, and these any new samples replace.
use Rattle.std.specs.Prelude.{Ok, Err}
use Prim.Native.Nat.{ℕ, ◌+◌, ◌≤◌, ◌<◌}
use mathlib.Core.Path.{◌≡◌, refl, sym, ap, ap₂, ◌∙◌}
use mathlib.Core.Bool.{Bool, not}
use mathlib.Core.List.{List, ◌++◌, append_assoc}
use native.Mathlib.Omega.{arith}
use lib.ListN.{length, take, drop, length-append}
use lib.Seq.{take_at, drop_at}
use lib.IntN.{ℤ}
use lib.Dec.{ltb, leb, eqb}
use Rattle.laws.proofs.TemplateFiles as F
use Rattle.promises.proofs.Refile as R
use Rattle.format.specs.Lists.{joined}
use Rattle.format.specs.Header.{fields_of, groups_of, entry, group_bytes}
use Rattle.format.specs.Refusals.{Checked, Fine, refuse, ◌then◌, in_order}
use Rattle.format.specs.Places.{in_group}
use Rattle.format.specs.Answers.{answered, filled}
use Rattle.format.specs.Encoding.{group_in, check_samples, frames_of}
use Rattle.format.specs.Reencoding.{check_reencode_group, reencoded_group, check_same, check_bounds, check_rising, check_template, check_reencode, check_reencode_into, reencoded_file, reencode_of, reencode_into}
use Rattle.format.specs.Boundary.{samples_from, check_bytes, result_of, check_host_reencode, host_reencode, host_reencode_into, refusal_word, host_reencode_refusal}
use Rattle.format.specs.declared.refusals.Refusal.TheVariants.{TooShort, FileSignature, TemplateOffsets, OutputTooShort}
use Rattle.format.specs.declared.settings.PcmSpec.{PcmSpec}
use Rattle.format.specs.declared.answers.Fields.{Fields}
use Rattle.format.specs.declared.answers.Outcome.TheVariants.{Wrote}
use Rattle.format.specs.declared.answers.Answer.{Answer}
use Rattle.laws.proofs.Parts.{joined_cong}
use Rattle.laws.proofs.Checks.{◌then_same◌, first_fine, order_cong, any_cong}
use Rattle.laws.proofs.Channels.{group_length}
use Rattle.promises.proofs.Outcomes.{filled_same}
use Rattle.promises.proofs.NewGroups.{group_checks_same, group_same}

-- re-encoding accepts s with the template t, and gives t'
module _ (p : PcmSpec) (s : List ℤ) (t : List ℕ) (ok : check_reencode p s t ≡ Fine) where
  abbrev h : Fields
  h = fields_of t

  abbrev n : ℕ
  n = h.channels

  abbrev count : ℕ
  count = groups_of h.frames

  abbrev t' : List ℕ
  t' = reencoded_file s t

  -- ---- before the data and after them
  abbrev fields_same : fields_of t' ≡ h
  fields_same = R.fields_same p s t ok

  entry_kept : (k : ℕ) → k ≤ count → entry t' h k ≡ entry t h k
  entry_kept k l = R.entry_same p s t ok k l ∙ sym (F.entries_same p s t ok k l)

  rising_same : check_rising t' h ≡ check_rising t h
  unfolding check_rising
  rising_same =
      ap (λ (x : ℕ). refuse (not (eqb x 0)) TemplateOffsets) (entry_kept 0 (omega arith))
      then_same λ a. ap (λ (x : ℕ). refuse (not (eqb x h.size)) TemplateOffsets) (entry_kept count (omega arith))
      then_same λ a. ap (λ (b : Bool). refuse b TemplateOffsets) (any_cong _ _ count (λ k l. ap₂ leb (entry_kept (k + 1) (omega arith)) (entry_kept k (omega arith))))

  front_kept : take h.start t' ≡ take h.start t
  front_kept = ap (take h.start) (F.file_is p s t ok) ∙ take_at (F.front p s t ok) (joined (F.part p s t ok) count ++ F.back p s t ok) h.start (F.front_length p s t ok)

  back_kept : drop (h.start + h.size) t' ≡ drop (h.start + h.size) t
  back_kept =
      let front = F.front p s t ok in
      let parts = joined (F.part p s t ok) count in
      let back = F.back p s t ok in
      ap (drop (h.start + h.size)) (F.file_is p s t ok ∙ sym (append_assoc front parts back))
      ∙ drop_at (front ++ parts) back (h.start + h.size) (length-append front parts ∙ omega (arith, F.front_length p s t ok, F.size_is p s t ok))

  -- ---- with any settings and samples
  module _ (q : PcmSpec) (z : List ℤ) where
    template_same : check_template q z t' ≡ check_template q z t
    unfolding check_template
    template_same =
        ap (λ (x : ℕ). refuse (ltb x 120) TooShort) (F.same_length p s t ok)
        then_same λ a. ap (λ (b : Bool). refuse (not b) FileSignature) (R.signed_same p s t ok ∙ sym (F.signed_ok p s t (F.template_ok p s t ok)))
        then_same λ a. ap (check_same q (frames_of q z)) fields_same
        then_same λ a. ap₂ check_bounds fields_same (F.same_length p s t ok)
        then_same λ a. ap (check_rising t') fields_same ∙ rising_same

    -- where the template has as many frames as z, each group of z is as long as that of s
    parts_long : check_template q z t ≡ Fine → check_samples q z ≡ Fine → (g : ℕ) → g < count → length (group_in n z g) ≡ length (group_in n s g)
    parts_long template samples g l = group_length n h.frames z (F.all_frames q z t template samples) g ∙ sym (R.accepted p s t ok g l).long

    -- re-encoding refuses with the new file as with the old one
    pub same_checks : check_reencode q z t' ≡ check_reencode q z t
    unfolding check_reencode
    same_checks =
        refl
        then_same λ a. refl
        then_same λ samples. template_same
        then_same λ template. ap (λ (x : Fields). in_order (λ g. in_group g (check_reencode_group x.depth x.channels (group_bytes t' x g) (group_in x.channels z g))) (groups_of x.frames)) fields_same
        ∙ order_cong _ _ count
        (λ g l. ap (λ (k : Checked). in_group g k)
        (ap (λ (b : List ℕ). check_reencode_group h.depth n b (group_in n z g)) (R.group_new p s t ok g l)
        ∙ group_checks_same (R.accepted p s t ok g l) (group_in n z g) (parts_long template samples g l)))

    -- and gives the same
    pub same_file : check_reencode q z t ≡ Fine → reencoded_file z t' ≡ reencoded_file z t
    unfolding reencoded_file
    same_file fine =
        ap (λ (x : Fields). take x.start t' ++ (joined (λ g. reencoded_group x.depth x.channels (group_bytes t' x g) (group_in x.channels z g)) (groups_of x.frames) ++ drop (x.start + x.size) t')) fields_same
        ∙ ap₂ (λ (x y : List ℕ). x ++ (joined (λ g. reencoded_group h.depth n (group_bytes t' h g) (group_in n z g)) count ++ y)) front_kept back_kept
        ∙ ap (λ (x : List ℕ). take h.start t ++ (x ++ drop (h.start + h.size) t))
        (joined_cong _ _ count
        (λ g l. ap (λ (b : List ℕ). reencoded_group h.depth n b (group_in n z g)) (R.group_new p s t ok g l)
        ∙ group_same (R.accepted p s t ok g l) (group_in n z g) (parts_long (F.template_ok q z t fine) (F.samples_ok q z t fine) g l)))

    -- ---- so re-encoding answers the same, and leaves the same
    into_same : (room : ℕ) → check_reencode_into q z t' room ≡ check_reencode_into q z t room
    unfolding check_reencode_into
    into_same room = same_checks then_same λ a. ap (λ (x : ℕ). refuse (ltb room x) OutputTooShort) (F.same_length p s t ok)

    pub says_same : (room : ℕ) → reencode_of q z t' room ≡ reencode_of q z t room
    unfolding reencode_of
    says_same room = ap₂ (λ (c : Checked) (x : ℕ). answered c (Wrote x)) (into_same room) (F.same_length p s t ok)

    pub leaves_same : (lent : List ℕ) → reencode_into q z t' lent ≡ reencode_into q z t lent
    unfolding reencode_into check_reencode_into
    leaves_same lent =
        filled_same (check_reencode_into q z t' (length lent)) (check_reencode_into q z t (length lent)) (reencoded_file z t') (reencoded_file z t) lent
        (into_same (length lent)) (λ e. same_file (first_fine _ _ e))

  -- ---- and so it does at the host boundary, of any bytes
  module _ (b : List ℕ) (q : PcmSpec) (room : List ℕ) where
    abbrev z : List ℤ
    z = samples_from b

    pub host_says_same : host_reencode b q t' (length room) ≡ host_reencode b q t (length room)
    unfolding host_reencode check_host_reencode reencode_of ◌then◌
    host_says_same = by (check_bytes b)
      where
        by : (c : Checked) → result_of (answered (c then check_reencode_into q z t' (length room)) (Wrote (length t'))).outcome ≡ result_of (answered (c then check_reencode_into q z t (length room)) (Wrote (length t))).outcome
        by (Ok ok) = ap (λ (a : Answer). result_of a.outcome) (says_same q z (length room))
        by (Err refused) = refl

    -- and what it would refuse, and where
    pub host_word_same : (much : ℕ) → host_reencode_refusal b q t' much ≡ host_reencode_refusal b q t much
    unfolding host_reencode_refusal check_host_reencode
    host_word_same much = ap (λ (c : Checked). refusal_word (check_bytes b then c)) (into_same q z much)

    pub host_leaves_same : host_reencode_into b q t' room ≡ host_reencode_into b q t room
    unfolding host_reencode_into check_host_reencode reencode_into ◌then◌
    host_leaves_same = by (check_bytes b)
      where
        by : (c : Checked) → filled (c then check_reencode_into q z t' (length room)) (reencoded_file z t') room ≡ filled (c then check_reencode_into q z t (length room)) (reencoded_file z t) room
        by (Ok ok) = leaves_same q z room
        by (Err refused) = refl
