-- 36 tells its place: it comes from the block of one group and channel, before which all pass, and in that block the
-- place is the first whose value the width does not hold. No other check says 36; and where that is so, 36 is said.
use Prim.Native.Nat.{ℕ, ◌+◌, ◌-◌, ◌*◌, ◌^◌, ◌≤◌, ◌<◌, min}
use mathlib.Core.Path.{◌≡◌, refl, sym, ap, ◌∙◌, subst}
use mathlib.Core.Bool.{false, not, ◌&&◌}
use mathlib.Core.List.{List, [], ◌∷◌, ◌++◌}
use native.Mathlib.Nat.{lt_of_not-le}
use native.Mathlib.Omega.{arith}
use lib.ListN.{length, get_or, take, drop}
use lib.Seq.{get_or-append-add, get_or-drop}
use lib.IntN.{ℤ, pos}
use lib.Signed.{mag}
use lib.Dec.{eqb}
use borrow.Author.Tests.{lt-ltb, le-ltb, ltb-false}
use Rattle.format.specs.Lists.{is_in}
use Rattle.format.specs.Header.{fields_of, groups_of, group_bytes}
use Rattle.format.specs.Packed.{width_of, values, is_beyond, rebuilt}
use Rattle.format.specs.Blocks.{base_of, bits_of, mid_bit, coding_of, decoded, samples_of, from_block}
use Rattle.format.specs.Units.{active}
use Rattle.format.specs.Refusals.{Checked, Fine, No, nowhere, ◌then◌}
use Rattle.format.specs.Places.{at_group, at_channel}
use Rattle.format.specs.Encoding.{differences, unwoven, parity, group_in, check_samples}
use Rattle.format.specs.Reencoding.{new_values, values_for, active_in, check_template_block, check_reencode_block, check_reencode_group}
use Rattle.format.specs.Reencoding.{check_template, check_reencoder, check_reencode, check_reencode_into}
use Rattle.format.specs.declared.packed.Coding.{Coding}
use Rattle.format.specs.declared.packed.Coding.TheVariants.{Differences, Raw, Beyond}
use Rattle.format.specs.declared.refusals.Refusal.{Refusal}
use Rattle.format.specs.declared.refusals.Place.{Place}
use Rattle.format.specs.declared.refusals.Refusal.TheVariants.{WidthTooSmall}
use Rattle.format.specs.declared.settings.PcmSpec.{PcmSpec}
use Rattle.format.specs.declared.answers.Fields.{Fields}
use Rattle.laws.proofs.Tests.{never}
use Rattle.laws.proofs.Checks.{pass, passed, ◌and_then◌, first_fine, others_fine, Unsaid, unsaid, said_after_lem, said_before}
use Rattle.laws.proofs.Located.{only_unsaid, template_says, template_block_says, first_in, in_first, reencode_block_nowhere}
use Rattle.laws.proofs.Signs.{Holds, AllHold, values_hold}
use Rattle.laws.proofs.Widths.{width_some}
use Rattle.laws.proofs.Misfits.{FirstMisfit, misfit_told_lem, tells_misfit}
use Rattle.laws.proofs.Channels.{group_length}
use Rattle.laws.proofs.SampleChecks.{reencoder_ok, spec_unsaid, samples_unsaid}
use Rattle.laws.proofs.Templates.{template_told, actives_long}
use Rattle.laws.proofs.TemplateFiles.{channels_are, bits_are, all_frames}
use Rattle.promises.proofs.NewBlocks.{new_some, new_raw, new_differences}

-- ---- what stays of a template's block is held by its width

-- what lies from n on, behind n others
rest_held : (b n : ℕ) (us vs : List ℤ) → length us ≡ n → AllHold b vs → (j : ℕ) → n ≤ j → Holds b (get_or (us ++ drop n vs) j (pos 0))
rest_held b n us vs l h j p =
    let e : length us + (j - n) ≡ j = omega arith in
    let f : n + (j - n) ≡ j = omega arith in
    let q : get_or (us ++ drop n vs) j (pos 0) ≡ get_or vs j (pos 0) =
    ap (λ (x : ℕ). get_or (us ++ drop n vs) x (pos 0)) (sym e) ∙ get_or-append-add us (drop n vs) (j - n) (pos 0) ∙ get_or-drop n vs (j - n) (pos 0) ∙ ap (λ (x : ℕ). get_or vs x (pos 0)) f in
    rw q (h j)

-- how many values of a block are new with n active samples
abbrev pub fresh : Coding → ℕ → ℕ
fresh (Raw b) n = n
fresh (Differences b) n = min n 511
fresh Beyond n = 0

fresh_most : (c : Coding) (n : ℕ) → n ≤ 512 → fresh c n ≤ 512
fresh_most (Raw b) n l = l
fresh_most (Differences b) n l = omega arith
fresh_most Beyond n l = omega arith

stays_held : (base : ℤ) (run : List ℕ) (xs : List ℤ) → length xs ≤ 512 → (k : Coding) → is_beyond k ≡ false → 1 ≤ width_of k → (j : ℕ) → fresh k (length xs) ≤ j
    → Holds (width_of k) (get_or (new_values k (decoded k base run) run xs) j (pos 0))
unfolding width_of is_beyond decoded
stays_held base run xs l (Raw b) e w j p =
    let vs = values b (take (64 * b) run) in
    rw (new_raw b vs run xs) (rest_held b (length xs) xs vs refl (values_hold b (take (64 * b) run) w) j p)
stays_held base run xs l (Differences b) e w j p =
    let vs = values b (take (64 * b) run) in
    let old = rebuilt base vs in
    let n = min (length xs) 511 in
    rw (new_differences b old run xs)
    (rest_held b n (take n (differences (xs ++ drop (length xs) old))) vs (new_some base run [] b xs l) (values_hold b (take (64 * b) run) w) j p)
stays_held base run xs l Beyond e w j p = never e

-- ---- a block that is refused by 36; xs are the active samples of its channel
module _ (depth : ℕ) (r : List ℕ) (xs : List ℤ) (k : ℕ) where
  abbrev coded : Coding
  coded = coding_of depth r

  abbrev FirstOf : Type 0
  FirstOf = FirstMisfit (width_of coded) (values_for depth r xs) k

  itself_unsaid : Unsaid (WidthTooSmall k) (check_template_block depth r)
  unfolding is_in
  itself_unsaid = only_unsaid (1 ∷ 3 ∷ 44 ∷ 45 ∷ 4 ∷ []) _ (template_block_says depth r) (WidthTooSmall k) refl

  -- its own checks pass, and k is its first misfit
  block_so : (at : Place) → check_reencode_block depth r xs ≡ No (WidthTooSmall k) at → (check_template_block depth r ≡ Fine) × FirstOf
  unfolding check_reencode_block
  block_so at said =
      let e = said_after_lem (WidthTooSmall k) at _ _ itself_unsaid said in
      (e.0, misfit_told_lem (width_of coded) (values_for depth r xs) k (e.1 ∙ ap (No (WidthTooSmall k)) (reencode_block_nowhere depth r xs (WidthTooSmall k) at said)))

  so_block : check_template_block depth r ≡ Fine → FirstOf → check_reencode_block depth r xs ≡ No (WidthTooSmall k) nowhere
  unfolding check_reencode_block
  so_block fine f = fine and_then tells_misfit (width_of coded) (values_for depth r xs) k f

  -- the place is that of a new value
  block_fresh : check_template_block depth r ≡ Fine → FirstOf → 1 ≤ depth → length xs ≤ 512 → k < fresh coded (length xs)
  unfolding values_for samples_of coding_of
  block_fresh fine f d l =
      let b = width_of coded in
      let known = (template_told depth r fine).within in
      lt_of_not-le (λ (p : fresh coded (length xs) ≤ k).
      let held = stays_held (base_of r) (drop 16 r) xs l coded known (width_some depth (bits_of r) d known) k p in
      never (sym (lt-ltb (mag (get_or (values_for depth r xs) k (pos 0))) (2 ^ (b - 1)) held) ∙ f.fails))

-- ---- the file: samples s with the settings p, and the template t
module _ (p : PcmSpec) (s : List ℤ) (t : List ℕ) where
  abbrev h : Fields
  h = fields_of t

  -- the template's group g, and the samples of its frames
  abbrev pub old : ℕ → List ℕ
  old g = group_bytes t h g

  abbrev pub new : ℕ → List ℤ
  new g = group_in h.channels s g

  -- what is said of group g
  abbrev pub group_says : ℕ → Checked
  group_says g = check_reencode_group h.depth h.channels (old g) (new g)

  -- of its channel c: what begins with the template's block, and the samples, mid or side where that applies
  abbrev pub block_at : ℕ → ℕ → List ℕ
  block_at g c = from_block h.depth (old g) c

  abbrev pub active_at : ℕ → ℕ → List ℤ
  active_at g c = get_or (active_in h.channels (old g) (new g)) c []

  -- what is said of that block
  abbrev pub block_says : ℕ → ℕ → Checked
  block_says g c = check_reencode_block h.depth (block_at g c) (active_at g c)

  -- how it is coded, and the 512 values or differences that would be packed
  abbrev pub coding_at : ℕ → ℕ → Coding
  coding_at g c = coding_of h.depth (block_at g c)

  abbrev pub packed_at : ℕ → ℕ → List ℤ
  packed_at g c = values_for h.depth (block_at g c) (active_at g c)

  -- k is the place of the first misfit in the order group, channel, place: it is in the block at `at`, and nothing is
  -- refused before it
  pub record Misfit (at : Place) (k : ℕ) : Type 0 where
    -- 30 to 33, and the template's 1, 2 and 40 to 42 pass
    pub earlier : (check_reencoder p then check_samples p s then check_template p s t) ≡ Fine
    pub in_file : at.group < groups_of h.frames
    pub groups_pass : (g : ℕ) → g < at.group → group_says g ≡ Fine
    -- of the group 43, 34 and 35 pass
    pub long : 12 ≤ length (old at.group)
    pub stereo : (mid_bit (old at.group) && not (eqb h.channels 2)) ≡ false
    pub even : (mid_bit (old at.group) && not (parity (unwoven h.channels (new at.group)))) ≡ false
    pub in_group : at.channel < h.channels
    pub channels_pass : (c : ℕ) → c < at.channel → block_says at.group c ≡ Fine
    -- of the template's block 1, 3, 44, 45, 4 and 1 pass
    pub block_passes : check_template_block h.depth (block_at at.group at.channel) ≡ Fine
    -- the width does not hold value k, and holds all before it
    pub first : FirstMisfit (width_of (coding_at at.group at.channel)) (packed_at at.group at.channel) k

  -- ---- no other check says 36
  module _ (k : ℕ) where
    abbrev x : Refusal
    x = WidthTooSmall k

    template_unsaid : Unsaid x (check_template p s t)
    unfolding is_in
    template_unsaid = only_unsaid (1 ∷ 2 ∷ 40 ∷ 41 ∷ 42 ∷ []) _ (template_says p s t) x refl

    reencoder_unsaid : Unsaid x (check_reencoder p)
    unfolding check_reencoder
    reencoder_unsaid = spec_unsaid x refl _ _ p

    -- group g says it, and all before pass
    group_so : (g : ℕ) (from : Place) → (check_reencoder p then check_samples p s then check_template p s t) ≡ Fine
        → g < groups_of h.frames → ((i : ℕ) → i < g → group_says i ≡ Fine) → group_says g ≡ No x from → Misfit (at_group g from) k
    unfolding check_reencode_group
    group_so g from earlier below before says =
        let a = said_after_lem x from _ _ (unsaid x _ _ refl) says in
        let b = said_after_lem x from _ _ (unsaid x _ _ refl) a.1 in
        let c = said_after_lem x from _ _ (unsaid x _ _ refl) b.1 in
        let f = first_in (block_says g) at_channel h.channels x from (said_before x from _ _ (unsaid x _ _ refl) c.1) in
        let block = block_so h.depth (block_at g f.index) (active_at g f.index) k f.from f.refuses in
        subst (λ (l : Place). Misfit (at_group g l) k) (sym f.moved)
        (record {
          earlier = earlier;
          in_file = below;
          groups_pass = before;
          long = ltb-false (length (old g)) 12 (passed _ _ a.0);
          stereo = passed _ _ b.0;
          even = passed _ _ c.0;
          in_group = f.below;
          channels_pass = f.before;
          block_passes = block.0;
          first = block.1;
        })

  module _ (at : Place) (k : ℕ) where
    abbrev g : ℕ
    g = at.group

    abbrev c : ℕ
    c = at.channel

    -- ---- what is told is a new value's place
    module _ (m : Misfit at k) where
      -- the block has as many active samples as the group has active frames
      active_is : (1 ≤ h.depth) × (length (active_at g c) ≡ active h.frames g)
      unfolding active
      active_is =
          let rest = others_fine _ _ m.earlier in
          let d = others_fine _ _ rest in
          let ok = reencoder_ok p (first_fine _ _ m.earlier) in
          let n = channels_are p s t d in
          let w = bits_are p s t d in (
            omega (arith, ok.low),
            actives_long h.channels (old g) m.stereo (active h.frames g) (omega (arith, ok.some)) (new g)
                (group_length h.channels h.frames s (all_frames p s t d (first_fine _ _ rest)) g) c m.in_group,
          )

      pub misfit_new : k < fresh (coding_at g c) (active h.frames g)
      unfolding active
      misfit_new =
          subst (λ (n : ℕ). k < fresh (coding_at g c) n) active_is.1
          (block_fresh h.depth (block_at g c) (active_at g c) k m.block_passes m.first active_is.0 (omega (arith, active_is.1)))

      pub misfit_below : k < 512
      unfolding active
      misfit_below = omega (arith, misfit_new, fresh_most (coding_at g c) (active h.frames g) (omega arith))

    -- ---- 36 with the place k, and what it tells

    -- the group of the misfit says it
    so_group : Misfit at k → group_says g ≡ No (WidthTooSmall k) (record { group = 0; channel = c })
    unfolding check_reencode_group ◌then◌
    so_group m =
        let says = so_block h.depth (block_at g c) (active_at g c) k m.block_passes m.first in
        let f = in_first (block_says g) at_channel h.channels (WidthTooSmall k) (record { group = 0; channel = c })
        (record { index = c; below = m.in_group; before = m.channels_pass; from = nowhere; refuses = says; moved = refl }) in
        pass _ _ (le-ltb (length (old g)) 12 m.long)
        and_then pass _ _ m.stereo
        and_then pass _ _ m.even
        and_then rw f refl

    module _ (room : ℕ) where
      pub misfit_so : check_reencode_into p s t room ≡ No (WidthTooSmall k) at → Misfit at k
      unfolding check_reencode_into check_reencode
      misfit_so said =
          let y = WidthTooSmall k in
          let a = said_before y at _ _ (unsaid y _ _ refl) said in
          let b = said_after_lem y at _ _ (reencoder_unsaid k) a in
          let d = said_after_lem y at _ _ (samples_unsaid y refl refl refl p s) b.1 in
          let e = said_after_lem y at _ _ (template_unsaid k) d.1 in
          let f = first_in group_says at_group (groups_of h.frames) y at e.1 in
          subst (λ (l : Place). Misfit l k) (sym f.moved) (group_so k f.index f.from (b.0 and_then d.0 and_then e.0) f.below f.before f.refuses)

      pub so_misfit : Misfit at k → check_reencode_into p s t room ≡ No (WidthTooSmall k) at
      unfolding check_reencode_into check_reencode ◌then◌
      so_misfit m =
          let a = first_fine (check_reencoder p) (check_samples p s then check_template p s t) m.earlier in
          let rest = others_fine (check_reencoder p) (check_samples p s then check_template p s t) m.earlier in
          let b = first_fine (check_samples p s) (check_template p s t) rest in
          let d = others_fine (check_samples p s) (check_template p s t) rest in
          let f = in_first group_says at_group (groups_of h.frames) (WidthTooSmall k) at
          (record { index = g; below = m.in_file; before = m.groups_pass; from = record { group = 0; channel = c }; refuses = so_group m; moved = refl }) in
          rw (a, b, d, f) refl
