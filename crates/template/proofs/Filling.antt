-- What the lent output holds: the template, and over it the groups so far.
use Prim.Native.Nat.{ℕ, ◌+◌, ◌-◌, ◌*◌, ◌≤◌, ◌<◌}
use mathlib.Core.Path.{◌≡◌, refl, sym, ap, ap₂, ◌∙◌}
use mathlib.Core.List.{List, ◌++◌}
use native.Mathlib.Omega.{arith}
use native.Mathlib.Numerals.{add-one}
use lib.IntN.{ℤ}
use lib.ListN.{length, take, drop, length-take, length-drop}
use lib.Seq.{sets, length-sets}
use Rattle.format.specs.Refusals.{Fine}
use Rattle.format.specs.Lists.{joined, over}
use Rattle.format.specs.Header.{fields_of, groups_of, entry, group_bytes}
use Rattle.format.specs.Units.{active}
use Rattle.format.specs.Encoding.{group_in}
use Rattle.format.specs.Reencoding.{check_reencode_group, reencoded_group, check_reencode, reencoded_file}
use Rattle.format.specs.declared.settings.PcmSpec.{PcmSpec}
use Rattle.format.specs.declared.answers.Fields.{Fields}
use Rattle.laws.proofs.Over.{sets_join, lent_sets, length_over, over_within}
use Rattle.laws.proofs.Parts.{one_more}
use Rattle.laws.proofs.TemplateFiles.{long_ok, end_ok, entry_within, samples_ok, template_ok, groups_ok, entries_same, size_is, file_is}
use Rattle.lent_samples.specs.Lent.{frames_from}
use Rattle.template.proofs.Groups.{part_of, part_rises, part_within, part_new, part_fine}

-- the new groups
abbrev pub new_groups : List ℤ → List ℕ → ℕ → List ℕ
new_groups s t g = reencoded_group (fields_of t).depth (fields_of t).channels (group_bytes t (fields_of t) g) (group_in (fields_of t).channels s g)

-- out with the first g of them in their places
abbrev pub laid : List ℤ → List ℕ → List ℕ → ℕ → List ℕ
laid s t out g = sets out (fields_of t).start (joined (new_groups s t) g)

pub none_laid : (s : List ℤ) (t out : List ℕ) → out ≡ laid s t out 0
unfolding joined
none_laid s t out = refl

-- the loop's end
pub loop_laid : (P : ℕ → List ℕ) (t out d : List ℕ) (h : Fields) (start groups g : ℕ) → d ≡ sets out start (joined P g) → h ≡ fields_of t → groups ≡ groups_of h.frames → g ≤ groups → groups ≤ g
    → d ≡ sets out start (joined P (groups_of (fields_of t).frames))
loop_laid P t out d h start groups g e reads all most least =
    let n : g ≡ groups_of h.frames = omega arith in
    e ∙ ap (λ (k : ℕ). sets out start (joined P k)) (n ∙ ap (λ (f : Fields). groups_of f.frames) reads)

module _ (p : PcmSpec) (s : List ℤ) (t : List ℕ) (ok : check_reencode p s t ≡ Fine) where
  pub fields_there : 32 ≤ length t
  fields_there = omega (arith, long_ok p s t (template_ok p s t ok))

  -- group g, from its entry x to the next, y
  module _ (h : Fields) (reads : h ≡ fields_of t) (groups g : ℕ) (all : groups ≡ groups_of h.frames) (below : g < groups) (x y : ℕ) (starts : x ≡ entry t h g) (ends : y ≡ entry t h (g + 1)) where
    inside : g < groups_of (fields_of t).frames
    inside = let l : g < groups_of h.frames = omega arith in rw reads at l

    pub ends_within : h.start + y ≤ length t
    ends_within = part_within p s t h (template_ok p s t ok) reads groups g all below x y starts ends

    rises : h.start + x ≤ h.start + y
    rises = part_rises p s t h (template_ok p s t ok) reads groups g all below x y starts ends

    pub lent_from : (out d : List ℕ) → length t ≤ length out → length d ≡ length out → h.start + x ≤ length d
    lent_from out d room long = omega (arith, ends_within, rises)

    pub old_fits : (out d : List ℕ) → length t ≤ length out → length d ≡ length out
        → length (part_of t h x y) ≤ length (take (length d - (h.start + x)) (drop (h.start + x) d))
    old_fits out d room long =
        let a = h.start + x in
        let e = h.start + y in
        omega (arith, ends_within, length-take (e - a) (drop a t), length-drop a t, length-take (length d - a) (drop a d), length-drop a d)

    -- with its n active frames
    module _ (n : ℕ) (count : n ≡ active h.frames g) where
      pub group_fine : check_reencode_group p.bits_per_sample p.channels (part_of t h x y) (frames_from p.channels (512 * g) n s) ≡ Fine
      group_fine = part_fine p s t h (template_ok p s t ok) reads groups g all below (samples_ok p s t ok) n count x y starts ends (rw reads (groups_ok p s t ok g inside))

      new_is : reencoded_group p.bits_per_sample p.channels (part_of t h x y) (frames_from p.channels (512 * g) n s) ≡ new_groups s t g
      new_is =
          part_new p s t h (template_ok p s t ok) reads groups g all below (samples_ok p s t ok) n count x y starts ends
          ∙ ap (λ (f : Fields). reencoded_group f.depth f.channels (group_bytes t f g) (group_in f.channels s g)) reads

      pub turn_laid : (out d ys : List ℕ) → length t ≤ length out → d ≡ laid s t out g
          → ys ≡ over (reencoded_group p.bits_per_sample p.channels (part_of t h x y) (frames_from p.channels (512 * g) n s)) (take (length d - (h.start + x)) (drop (h.start + x) d))
          → take (h.start + x) d ++ (ys ++ drop (length d - (h.start + x)) (drop (h.start + x) d)) ≡ laid s t out (g + 1)
      unfolding joined
      turn_laid out d ys room e put =
          let i = (fields_of t).start in
          let a = h.start + x in
          let P = new_groups s t in
          let at : a ≡ i + length (joined P g) = rw (starts, reads, entries_same p s t ok g (omega (arith, inside))) refl in
          let next = entries_same p s t ok (g + 1) (omega (arith, inside)) in
          let end = entry_within p s t (template_ok p s t ok) (g + 1) (omega (arith, inside)) in
          let long : length d ≡ length out = ap length e ∙ length-sets out i (joined P g) in
          lent_sets a (P g) d ys (omega (arith, one_more P g)) (rw new_is at put)
          ∙ ap₂ (λ (l : List ℕ) (k : ℕ). sets l k (P g)) e at
          ∙ sets_join (joined P g) (P g) out i
          ∙ ap (λ (k : ℕ). sets out i (joined P k)) (sym (add-one g))

  -- the template first, then all groups: the file
  module _ (out d : List ℕ) (room : length t ≤ length out) (copied : d ≡ over t out) where
    pub copy_long : length t ≤ length d
    copy_long = omega (arith, ap length copied ∙ length_over t out room)

    pub file_put : (d' : List ℕ) → d' ≡ laid s t d (groups_of (fields_of t).frames) → d' ≡ over (reencoded_file s t) out
    file_put d' put =
        let i = (fields_of t).start in
        let J = joined (new_groups s t) (groups_of (fields_of t).frames) in
        put ∙ ap (λ (l : List ℕ). sets l i J) copied
        ∙ over_within i J t out (omega (arith, size_is p s t ok, end_ok p s t (template_ok p s t ok)))
        ∙ ap (λ (l : List ℕ). over l out) (ap (λ (k : ℕ). take i t ++ (J ++ drop (i + k) t)) (sym (size_is p s t ok)) ∙ sym (file_is p s t ok))
