-- Document 02, L6: where it refused. What a refusal names is what the table says of its number (format, Places), for
-- each entry; and it is the first: all groups before pass, and in the group all channels before.
use Rattle.std.specs.Prelude.{Ok, Err}
use Prim.Native.Nat.{ℕ, ◌+◌, ◌≤◌, ◌<◌}
use mathlib.Core.Path.{◌≡◌, refl, sym, ap, ◌∙◌, subst}
use mathlib.Core.Bool.{Bool, true, false, not, ◌&&◌, cond}
use mathlib.Core.List.{List, [], ◌∷◌}
use mathlib.Core.Logic.{◌⊎◌, ⊎_elim, inl, inr}
use native.Mathlib.Omega.{arith}
use lib.ListN.{length}
use lib.IntN.{ℤ}
use lib.Dec.{ltb, eqb}
use borrow.Author.Tests.{lt-ltb, le-ltb, ltb-true, ltb-false, not-true}
use Rattle.format.specs.Lists.{every, is_in}
use Rattle.format.specs.Header.{fields_of, groups_of, group_bytes}
use Rattle.format.specs.Blocks.{from_block}
use Rattle.format.specs.Refusals.{Checked, Fine, No, number, nowhere, refuse, ◌then◌, in_order}
use Rattle.format.specs.Places.{at_group, at_channel, in_group, in_channel, of_groups, of_blocks, outside, inside, IsNamed}
use Rattle.format.specs.declared.places.Named.{Named}
use Rattle.format.specs.declared.places.Named.TheVariants.{NoGroup, TheGroup, TheBlock}
use Rattle.format.specs.Answers.{refused_by}
use Rattle.format.specs.Opening.{format_of, bad_entry, check_open}
use Rattle.format.specs.Decoding.{is_float, check_block, check_group, check_decode, decoded_count, check_room}
use Rattle.format.specs.Walking.{step_count, has_group, check_step, check_step_into, check_walk}
use Rattle.format.specs.FewFrames.{range_end, IsAsked, group_of, touched, check_frames, frames_count, check_frames_into}
use Rattle.format.specs.Encoding.{frames_of, check_spec, check_encoder, check_samples, check_stereo, check_size, check_encode, check_encode_into}
use Rattle.format.specs.Reencoding.{check_reencode_group}
use Rattle.format.specs.Reencoding.{check_template, check_reencoder, check_reencode, check_reencode_into}
use Rattle.format.specs.Peaks.{summary_of, check_peaks, check_peaks_into, check_peak, check_all_peaks}
use Rattle.format.specs.Promises.{Opens, Decodes, Steps, ReadsFrames, BuildsPeaks, ComparesPeaks, ReadsPeak, ReadsPeaks, Encodes, Reencodes}
use Rattle.format.specs.declared.refusals.Refusal.{Refusal}
use Rattle.format.specs.declared.refusals.Refusal.TheVariants.{EntryBounds, ParityDiffers, OutputTooShort, RangePastEnd, FloatFile}
use Rattle.format.specs.declared.refusals.Place.{Place}
use Rattle.format.specs.declared.units.Frames.{Frames}
use Rattle.format.specs.declared.settings.PcmSpec.{PcmSpec}
use Rattle.format.specs.declared.settings.StereoMode.{StereoMode}
use Rattle.format.specs.declared.answers.Fields.{Fields}
use Rattle.laws.proofs.Tests.{never, and_left, and_right}
use Rattle.laws.proofs.Checks.{same_refusal, passed, ◌and_then◌, then_assoc, first_fine, others_fine, said_before, in_order_lem, order_cong, order_add}
use Rattle.laws.proofs.Places.{fine_located, located_no}
use Rattle.laws.proofs.FewFrames.{touched_steps, touched_asked, touched_within}
use Rattle.laws.proofs.Located.{Says, says_fine, says_refuse, says_located, says_order, ◌says_then◌, ◌and_says◌, refused_so, first_in}
use Rattle.laws.proofs.Located.{Nowhere, nowhere_refuse, only_nowhere}
use Rattle.laws.proofs.Located.{Only, only_says, block_says_lem, spec_says, samples_say, template_says, reencode_block_says, open_says}
use Rattle.laws.proofs.Summaries.{summary_says}
use Rattle.promises.proofs.Certain.{refused_exactly}
use Rattle.promises.proofs.WalkLaws.{room_passes}
use Rattle.promises.proofs.Misfits.{group_says, block_says}

-- ---- THE TABLE

-- What a refusal names, of an entry that reads groups; `before` are its checks before them. It refuses before the
-- groups, or in one of them, or after them for want of room; 66, after the groups too, names none as `inside` has it.
pub data ByTable (before : Checked) (groups channels : ℕ) (x : Refusal) (at : Place) : Type 0 where
  Before : before ≡ No x at → IsNamed groups channels at (outside (number x)) → ByTable before groups channels x at
  InGroup : before ≡ Fine → (x ≡ OutputTooShort → ⊥) → IsNamed groups channels at (inside (number x))
      → ByTable before groups channels x at
  NoRoom : before ≡ Fine → x ≡ OutputTooShort → at ≡ nowhere → ByTable before groups channels x at

-- re-encoding's checks before its groups: 30 to 33, then the template's 1, 2 and 40 to 42
abbrev pub before_groups : PcmSpec → List ℤ → List ℕ → Checked
before_groups p s t = check_reencoder p then check_samples p s then check_template p s t

-- those of a few frames before the groups: opening's, then 51
abbrev pub before_frames : List ℕ → Frames → Frames → Checked
before_frames s first count = check_open s then refuse (ltb (fields_of s).frames.0 (range_end first count).0) RangePastEnd

pub record KeepsTable : Type 0 where
  pub opens : (s : List ℕ) (x : Refusal) (at : Place)
      → Opens s (refused_by x at)
      → IsNamed (groups_of (fields_of s).frames) (fields_of s).channels at (outside (number x))
  pub decodes : (s : List ℕ) (lent after : List ℤ) (x : Refusal) (at : Place)
      → Decodes s lent (refused_by x at) after
      → ByTable (check_open s) (groups_of (fields_of s).frames) (fields_of s).channels x at
  pub steps : (s : List ℕ) (g : ℕ) (lent after : List ℤ) (x : Refusal) (at : Place)
      → Steps s g lent (refused_by x at) after
      → ByTable (check_open s) (groups_of (fields_of s).frames) (fields_of s).channels x at
  -- and in a group it is the step's own
  pub steps_group : (s : List ℕ) (g : ℕ) (lent after : List ℤ) (x : Refusal) (at : Place)
      → Steps s g lent (refused_by x at) after
      → check_open s ≡ Fine
      → (x ≡ OutputTooShort → ⊥)
      → at.group ≡ g
  pub reads_frames : (s : List ℕ) (first count : Frames) (lent after : List ℤ) (x : Refusal) (at : Place)
      → ReadsFrames s first count lent (refused_by x at) after
      → ByTable (before_frames s first count) (groups_of (fields_of s).frames) (fields_of s).channels x at
  -- and in a group it is that of a frame which is asked for
  pub reads_frames_group : (s : List ℕ) (first count : Frames) (lent after : List ℤ) (x : Refusal) (at : Place)
      → ReadsFrames s first count lent (refused_by x at) after
      → before_frames s first count ≡ Fine
      → (x ≡ OutputTooShort → ⊥)
      → (j : ℕ) × IsAsked first count j × (at.group ≡ group_of j)
  pub builds_peaks : (s lent after : List ℕ) (x : Refusal) (at : Place)
      → BuildsPeaks s lent (refused_by x at) after
      → ByTable (check_open s) (groups_of (fields_of s).frames) (fields_of s).channels x at
  pub compares_peaks : (b s : List ℕ) (x : Refusal) (at : Place)
      → ComparesPeaks b s (refused_by x at)
      → ByTable (check_open s) (groups_of (fields_of s).frames) (fields_of s).channels x at
  -- a summary names nothing
  pub reads_peak : (s : List ℕ) (g c : ℕ) (lent after : List ℤ) (x : Refusal) (at : Place)
      → ReadsPeak s g c lent (refused_by x at) after
      → at ≡ nowhere
  pub reads_peaks : (s : List ℕ) (lent after : List ℤ) (x : Refusal) (at : Place)
      → ReadsPeaks s lent (refused_by x at) after
      → at ≡ nowhere
  pub encodes : (p : PcmSpec) (mode : StereoMode) (s : List ℤ) (lent after : List ℕ) (x : Refusal) (at : Place)
      → Encodes p mode s lent (refused_by x at) after
      → IsNamed (groups_of (frames_of p s)) p.channels at (outside (number x))
  pub reencodes : (p : PcmSpec) (s : List ℤ) (t lent after : List ℕ) (x : Refusal) (at : Place)
      → Reencodes p s t lent (refused_by x at) after
      → ByTable (before_groups p s t) (groups_of (fields_of t).frames) (fields_of t).channels x at

-- ---- THE FIRST

-- x is refused in the group of `at`, where group g says `groupSays g` and the block of its channel c `blockSays g c`:
-- all groups before it pass; and where the number names the block, all channels before it pass, and that block refuses
pub record First (group_says : ℕ → Checked) (block_says : ℕ → ℕ → Checked) (x : Refusal) (at : Place) : Type 0 where
  pub groups_pass : (g : ℕ) → g < at.group → group_says g ≡ Fine
  pub group_refuses : group_says at.group ≡ No x (record { group = 0; channel = at.channel })
  pub channels_pass : inside (number x) ≡ TheBlock → (c : ℕ) → c < at.channel → block_says at.group c ≡ Fine
  pub block_refuses : inside (number x) ≡ TheBlock → block_says at.group at.channel ≡ No x nowhere

-- what decoding says of group g, and of the block of its channel c
abbrev pub group_read : List ℕ → ℕ → Checked
group_read s g = let h = fields_of s in check_group h (format_of s h) (group_bytes s h g)

abbrev pub block_read : List ℕ → ℕ → ℕ → Checked
block_read s g c = let h = fields_of s in check_block h (format_of s h) c (from_block h.depth (group_bytes s h g) c)

-- what reading frames from `first` on says of group g: of those before that frame's nothing
abbrev pub touched_read : List ℕ → Frames → ℕ → Checked
touched_read s first g = cond (ltb g (group_of first.0)) Fine (group_read s g)

-- the group of `at` is the first whose entries are bad
pub record FirstBad (s : List ℕ) (at : Place) : Type 0 where
  pub below : at.group < groups_of (fields_of s).frames
  pub bad : bad_entry s (fields_of s) at.group ≡ true
  pub before : (g : ℕ) → g < at.group → bad_entry s (fields_of s) g ≡ false

-- ---- before the groups, and in them
abbrev Outer : ℕ → ℕ → Refusal → Place → Type 0
Outer groups channels r at = IsNamed groups channels at (outside (number r))

abbrev Inner : ℕ → ℕ → Refusal → Place → Type 0
Inner groups channels r at = (r ≡ OutputTooShort → ⊥) × IsNamed groups channels at (inside (number r))

-- ---- one check after another

refused_not : {A : Type 0} (c : Checked) (x : Refusal) (at : Place) → c ≡ No x at → c ≡ Fine → A
refused_not c x at e fine = let q : No x at ≡ Fine = sym e ∙ fine in let z : true ≡ false = cc in never z

-- checks before the groups, those of the groups, and then the room
module _ (before inner : Checked) (b : Bool) where
  abbrev whole : Checked
  whole = (before then inner) then refuse b OutputTooShort

  -- what is refused neither before nor for want of room the groups refuse
  only_inner : (x : Refusal) (at : Place) → whole ≡ No x at → before ≡ Fine → (x ≡ OutputTooShort → ⊥) → inner ≡ No x at
  unfolding ◌then◌ refuse
  only_inner x at e fine other = by before inner b e fine
    where
      by : (a i : Checked) (t : Bool) → ((a then i) then refuse t OutputTooShort) ≡ No x at → a ≡ Fine → i ≡ No x at
      by (Err refused) i t e q = let z : true ≡ false = cc in never z
      by (Ok ok) (Err refused) t e q = e
      by (Ok ok) (Ok too) true e q = let w : x ≡ OutputTooShort = sym (same_refusal e) in absurd (other w)
      by (Ok ok) (Ok too) false e q = e

  module _ (groups channels : ℕ) where
    by_table : Says (Outer groups channels) before → (before ≡ Fine → Says (Inner groups channels) inner) → Says (ByTable before groups channels) whole
    by_table p q =
        ((λ r at e. Before e (p r at e)) says_then (λ fine r at e. InGroup fine (q fine r at e).0 (q fine r at e).1))
        says_then (λ fine. says_refuse (ByTable before groups channels) b OutputTooShort (NoRoom (first_fine before inner fine) refl refl))

-- ---- a number that the table does not list
unlisted : (a b : Named) (t : Bool) → not t ≡ true → cond t a b ≡ b
unlisted a b true e = never (sym e)
unlisted a b false e = refl

-- ---- before the groups: what names none, by its number
abbrev names_none : ℕ → Bool
names_none n = not (is_in n (19 ∷ 35 ∷ []))

module _ (groups channels : ℕ) where
  abbrev Bare : Refusal → Place → Type 0
  Bare = Outer groups channels

  none : (r : Refusal) → names_none (number r) ≡ true → Bare r nowhere
  unfolding outside
  none r e = subst (IsNamed groups channels nowhere) (sym (unlisted TheGroup NoGroup (is_in (number r) (19 ∷ 35 ∷ [])) e)) refl

  -- checks that say only these numbers
  says_none : (ns : List ℕ) (k : Checked) → every names_none ns ≡ true → Says (Only ns) k → Says Bare k
  says_none ns k all says = only_says ns k says Bare names_none all none

  given_none : (most : ℕ) (depths : List ℕ) (p : PcmSpec) (s : List ℤ) (k : Checked) → Says Bare k → Says Bare (check_spec most depths p then check_samples p s then k)
  unfolding every is_in
  given_none most depths p s k rest = says_none (30 ∷ []) _ refl (spec_says most depths p) and_says says_none (31 ∷ 32 ∷ 33 ∷ []) _ refl (samples_say p s) and_says rest

  before_none : (p : PcmSpec) (s : List ℤ) (t : List ℕ) → Says Bare (before_groups p s t)
  unfolding check_reencoder every is_in
  before_none p s t = given_none _ _ p s (check_template p s t) (says_none (1 ∷ 2 ∷ 40 ∷ 41 ∷ 42 ∷ []) _ refl (template_says p s t))

-- encoding: 35 names its group
module _ (p : PcmSpec) (mode : StereoMode) (s : List ℤ) (room : ℕ) where
  abbrev count : ℕ
  count = groups_of (frames_of p s)

  abbrev Coded : Refusal → Place → Type 0
  Coded = Outer count p.channels

  encode_names : Says Coded (check_encode_into p mode s room)
  unfolding check_encode_into check_encode check_encoder check_stereo check_size outside is_in
  encode_names =
      let one : (b : Bool) (r : Refusal) → names_none (number r) ≡ true → Says Coded (refuse b r) = λ b r e. says_refuse Coded b r (none count p.channels r e) in
      given_none count p.channels _ _ p s _
      ((one _ _ refl
      and_says says_order Coded _ count (λ g l. says_located Coded (λ r at. Coded r (at_group g at)) (at_group g) _ (λ r at q. q) (says_refuse (λ r at. Coded r (at_group g at)) _ ParityDiffers (l, refl))))
      and_says one _ _ refl)
      and_says one _ _ refl

-- opening: 19 names its group, and that is the first whose entries are bad
module _ (s : List ℕ) where
  abbrev h : Fields
  h = fields_of s

  abbrev size : ℕ
  size = groups_of h.frames

  abbrev Opening : Refusal → Place → Type 0
  Opening r at = Outer size h.channels r at × (eqb (number r) 19 ≡ true → FirstBad s at)

  no_entry : (r : Refusal) → (names_none (number r) && not (eqb (number r) 19)) ≡ true → Opening r nowhere
  no_entry r e = (none size h.channels r (and_left _ _ e), λ t. never (sym t ∙ not-true _ (and_right (names_none (number r)) _ e)))

  entries : Says Opening (in_order (λ g. in_group g (refuse (bad_entry s h g) EntryBounds)) size)
  unfolding outside is_in
  entries r at e =
      let f = first_in (λ g. refuse (bad_entry s h g) EntryBounds) at_group size r at e in
      let g = f.index in
      let l = f.below in
      let b = refused_so (bad_entry s h g) EntryBounds r f.from f.refuses in
      let there : at ≡ record { group = g; channel = 0 } = f.moved ∙ ap (at_group g) b.2 in
      let first : FirstBad s (record { group = g; channel = 0 }) = record { below = l; bad = b.0; before = λ i m. passed _ EntryBounds (f.before i m) } in
      subst (Opening r) (sym there) (subst (λ (x : Refusal). Opening x (record { group = g; channel = 0 })) (sym b.1) ((l, refl), λ t. first))

  open_names : Says Opening (check_open s)
  unfolding every is_in
  open_names = open_says Opening s (λ n. names_none n && not (eqb n 19)) refl no_entry entries

-- ---- in a group: a check that names nothing by itself, whose number names so much, and is not 50
abbrev Alone : Named → Refusal → Place → Type 0
Alone n r at = (at ≡ nowhere) × (inside (number r) ≡ n) × (eqb (number r) 50 ≡ false)

not_room : (r : Refusal) → eqb (number r) 50 ≡ false → r ≡ OutputTooShort → ⊥
not_room r f q = never (sym (ap (λ (x : Refusal). eqb (number x) 50) q) ∙ f)

-- checks of a block: each of their numbers names it
abbrev names_block : ℕ → Bool
names_block n = not (is_in n of_groups) && (is_in n of_blocks && not (eqb n 50))

listed : (a b c : Named) (t u : Bool) → not t ≡ true → u ≡ true → cond t a (cond u b c) ≡ b
listed a b c t u e f = unlisted a (cond u b c) t e ∙ ap (λ (x : Bool). cond x b c) f

says_block : (ns : List ℕ) (k : Checked) → every names_block ns ≡ true → Says (Only ns) k → Says (Alone TheBlock) k
unfolding inside
says_block ns k all says = only_says ns k says (Alone TheBlock) names_block all
    (λ r e.
    let f = and_right (not (is_in (number r) of_groups)) _ e in
    (refl, listed TheGroup TheBlock NoGroup (is_in (number r) of_groups) (is_in (number r) of_blocks) (and_left _ _ e) (and_left _ _ f), not-true _ (and_right (is_in (number r) of_blocks) _ f)))

-- the blocks of group g's channels, in order
module _ (channels : ℕ) (block : ℕ → ℕ → Checked) where
  -- a channel's block refuses, and all before it pass
  record OfBlock (g : ℕ) (r : Refusal) (from : Place) : Type 0 where
    names : inside (number r) ≡ TheBlock
    roomy : eqb (number r) 50 ≡ false
    there : from ≡ record { group = 0; channel = from.channel }
    below : from.channel < channels
    passes : (c : ℕ) → c < from.channel → block g c ≡ Fine
    refuses : block g from.channel ≡ No r nowhere

  of_blocks_lem : (g : ℕ) → ((c : ℕ) → Says (Alone TheBlock) (block g c)) → Says (OfBlock g) (in_order (λ c. in_channel c (block g c)) channels)
  of_blocks_lem g each r from e =
      let f = first_in (block g) at_channel channels r from e in
      let a = each f.index r f.from f.refuses in
      let t : from ≡ record { group = 0; channel = f.index } = f.moved ∙ ap (at_channel f.index) a.0 in
      subst (OfBlock g r) (sym t) (record { names = a.1; roomy = a.2; there = refl; below = f.below; passes = f.before; refuses = f.refuses ∙ ap (No r) a.0 })

  -- what a group refuses: by itself, or by a block
  abbrev OfGroup : ℕ → Refusal → Place → Type 0
  OfGroup g r from = Alone TheGroup r from ⊎ OfBlock g r from

  alone : (g : ℕ) (b : Bool) (r : Refusal) → inside (number r) ≡ TheGroup → eqb (number r) 50 ≡ false → Says (OfGroup g) (refuse b r)
  alone g b r e f = says_refuse (OfGroup g) b r (inl (refl, e, f))

  -- groups that refuse so, in order
  module _ (groups : ℕ) (group : ℕ → Checked) (each : (g : ℕ) → Says (OfGroup g) (group g)) where
    abbrev Here : Refusal → Place → Type 0
    Here = Inner groups channels

    named : (g : ℕ) → g < groups → (r : Refusal) (from : Place) → OfGroup g r from → Here r (at_group g from)
    named g l r from =
        ⊎_elim
        (λ (a : Alone TheGroup r from). (not_room r a.2, subst (IsNamed groups channels (at_group g from)) (sym a.1) (l, ap (λ (y : Place). y.channel) a.0)))
        (λ (b : OfBlock g r from). (not_room r b.roomy, subst (IsNamed groups channels (at_group g from)) (sym b.names) (l, b.below)))

    group_names : (g : ℕ) → g < groups → Says Here (in_group g (group g))
    group_names g l = says_located Here (OfGroup g) (at_group g) (group g) (named g l) (each g)

    groups_name : Says Here (in_order (λ g. in_group g (group g)) groups)
    groups_name = says_order Here (λ g. in_group g (group g)) groups group_names

    only_channel : (g : ℕ) (r : Refusal) (from : Place) → OfGroup g r from → from ≡ record { group = 0; channel = from.channel }
    only_channel g r from =
        ⊎_elim
        (λ (a : Alone TheGroup r from). a.0 ∙ ap (λ (y : Place). record { group = 0; channel = y.channel }) (sym a.0))
        (λ (b : OfBlock g r from). b.there)

    by_block : (g : ℕ) (r : Refusal) (from : Place) → OfGroup g r from → inside (number r) ≡ TheBlock → OfBlock g r from
    by_block g r from o e =
        ⊎_elim
        (λ (a : Alone TheGroup r from). let q : TheGroup ≡ TheBlock = sym a.1 ∙ e in let z : true ≡ false = cc in never z)
        (λ (b : OfBlock g r from). b)
        o

    groups_first : Says (First group block) (in_order (λ g. in_group g (group g)) groups)
    groups_first r at e =
        let f = first_in group at_group groups r at e in
        let g = f.index in
        let o = each g r f.from f.refuses in
        subst (First group block r) (sym f.moved)
        (record {
          groups_pass = f.before;
          group_refuses = f.refuses ∙ ap (No r) (only_channel g r f.from o);
          channels_pass = λ q. (by_block g r f.from o q).passes;
          block_refuses = λ q. (by_block g r f.from o q).refuses;
        })

-- decoding
module _ (s : List ℕ) where
  read_block : (g c : ℕ) → Says (Alone TheBlock) (block_read s g c)
  unfolding every is_in
  read_block g c = says_block (1 ∷ 3 ∷ 20 ∷ 21 ∷ 4 ∷ []) _ refl (block_says_lem _ _ c _)

  read_group : (g : ℕ) → Says (OfGroup (fields_of s).channels (block_read s) g) (group_read s g)
  unfolding check_group inside is_in
  read_group g =
      (λ r at e. inr (of_blocks_lem (fields_of s).channels (block_read s) g (read_block g) r at e))
      and_says alone (fields_of s).channels (block_read s) g _ _ refl refl

  decode_inner : (g : ℕ) → g < size s → Says (Inner (size s) (fields_of s).channels) (check_step s g)
  unfolding check_step
  decode_inner = group_names (fields_of s).channels (block_read s) (size s) (group_read s) read_group

  open_outer : Says (Outer (size s) (fields_of s).channels) (check_open s)
  open_outer r at e = (open_names s r at e).0

  abbrev Tabled : Refusal → Place → Type 0
  Tabled = ByTable (check_open s) (size s) (fields_of s).channels

  pub decode_table : (room : ℕ) → Says (ByTable (check_open s) (groups_of (fields_of s).frames) (fields_of s).channels) (check_decode s then check_room s room)
  unfolding check_decode check_room
  decode_table room =
      by_table (check_open s) (in_order (λ g. in_group g (group_read s g)) (size s)) (ltb room (decoded_count s).0) (size s) (fields_of s).channels
      open_outer (λ fine. groups_name (fields_of s).channels (block_read s) (size s) (group_read s) read_group)

  decode_first : (room : ℕ) (x : Refusal) (at : Place) → (check_decode s then check_room s room) ≡ No x at → check_open s ≡ Fine → (x ≡ OutputTooShort → ⊥) → First (group_read s) (block_read s) x at
  unfolding check_decode check_room
  decode_first room x at e opens other =
      groups_first (fields_of s).channels (block_read s) (size s) (group_read s) read_group x at
      (only_inner (check_open s) (in_order (λ g. in_group g (group_read s g)) (size s)) (ltb room (decoded_count s).0) x at e opens other)

  -- building a summary, and checking one: after the groups 66
  build_table : (room : ℕ) → Says Tabled (check_peaks_into s room)
  unfolding check_peaks_into check_peaks check_decode inside is_in
  build_table room x at e =
      let inner = in_order (λ g. in_group g (group_read s g)) (size s) in
      let float = refuse (is_float (format_of s (fields_of s))) FloatFile in
      let few = ltb room (length (summary_of s)) in
      by_table (check_open s) (inner then float) few (size s) (fields_of s).channels open_outer
      (λ fine. groups_name (fields_of s).channels (block_read s) (size s) (group_read s) read_group and_says says_refuse (Inner (size s) (fields_of s).channels) _ FloatFile (not_room FloatFile refl, refl))
      x at (sym (ap (λ (k : Checked). k then refuse few OutputTooShort) (then_assoc (check_open s) inner float)) ∙ e)

  check_table_lem : Says Tabled (check_peaks s)
  unfolding check_peaks_into
  check_table_lem x at e = build_table (length (summary_of s)) x at (room_passes (check_peaks s) (length (summary_of s)) (length (summary_of s)) OutputTooShort (omega arith) ∙ e)

  check_first_lem : (x : Refusal) (at : Place) → check_peaks s ≡ No x at → check_open s ≡ Fine → (x ≡ FloatFile → ⊥) → First (group_read s) (block_read s) x at
  unfolding check_peaks check_decode
  check_first_lem x at e opens other =
      let decoded = said_before x at (check_decode s) _ (λ l q. other (refused_so _ FloatFile x l q).1) e in
      groups_first (fields_of s).channels (block_read s) (size s) (group_read s) read_group x at (sym (opens and_then refl) ∙ decoded)

  build_first : (room : ℕ) (x : Refusal) (at : Place) → check_peaks_into s room ≡ No x at → check_open s ≡ Fine → (x ≡ OutputTooShort → ⊥) → (x ≡ FloatFile → ⊥) → First (group_read s) (block_read s) x at
  unfolding check_peaks_into
  build_first room x at e opens roomy other = check_first_lem x at (said_before x at (check_peaks s) _ (λ l q. roomy (refused_so _ OutputTooShort x l q).1) e) opens other

  -- a step: of the group alone, where there is one
  module _ (g room : ℕ) where
    abbrev few : Bool
    few = ltb room (step_count s g).0

    walk_is : (b : Bool) → has_group s g ≡ b → check_walk s g room ≡ ((check_open s then cond b (check_step s g) Fine) then cond b (refuse few OutputTooShort) Fine)
    unfolding check_walk check_step_into ◌then◌
    walk_is b e = ap (λ (t : Bool). check_open s then cond t (check_step s g then refuse few OutputTooShort) Fine) e ∙ by b
      where
        by : (t : Bool) → (check_open s then cond t (check_step s g then refuse few OutputTooShort) Fine) ≡ ((check_open s then cond t (check_step s g) Fine) then cond t (refuse few OutputTooShort) Fine)
        by true = sym (then_assoc (check_open s) (check_step s g) (refuse few OutputTooShort))
        by false = sym (then_assoc (check_open s) Fine Fine)

    step_table : Says Tabled (check_walk s g room)
    unfolding has_group
    step_table x at e = by (has_group s g) refl
      where
        by : (b : Bool) → has_group s g ≡ b → Tabled x at
        by true left =
            by_table (check_open s) (check_step s g) few (size s) (fields_of s).channels open_outer (λ fine. decode_inner g (ltb-true g (size s) left)) x at
            (sym (walk_is true left) ∙ e)
        by false left =
            (((λ r l q. Before q (open_outer r l q)) and_says says_fine Tabled) and_says says_fine Tabled) x at (sym (walk_is false left) ∙ e)

    step_group : (x : Refusal) (at : Place) → check_walk s g room ≡ No x at → check_open s ≡ Fine → (x ≡ OutputTooShort → ⊥) → at.group ≡ g
    unfolding check_step ◌then◌
    step_group x at e opens other = by (has_group s g) refl
      where
        by : (b : Bool) → has_group s g ≡ b → at.group ≡ g
        by true left =
            let q = only_inner (check_open s) (check_step s g) few x at (sym (walk_is true left) ∙ e) opens other in
            ap (λ (y : Place). y.group) (located_no (at_group g) (group_read s g) x at q).2
        by false left = refused_not _ x at (sym (walk_is false left) ∙ e) (ap (λ (o : Checked). (o then Fine) then Fine) opens)

  -- a few frames: of the groups touched
  module _ (first count : Frames) where
    abbrev least : ℕ
    least = group_of first.0

    abbrev those : Checked
    those = touched_steps s first count

    frames_is : (room : ℕ) → check_frames_into s first count room ≡ ((before_frames s first count then those) then refuse (ltb room (frames_count s count).0) OutputTooShort)
    unfolding check_frames_into check_frames
    frames_is room = ap (λ (c : Checked). c then refuse (ltb room (frames_count s count).0) OutputTooShort) (sym (then_assoc (check_open s) _ those))

    frames_inner : before_frames s first count ≡ Fine → Says (Inner (size s) (fields_of s).channels) those
    frames_inner fine =
        let within = ltb-false (fields_of s).frames.0 (range_end first count).0 (passed _ RangePastEnd (others_fine (check_open s) _ fine)) in
        let below = touched_within first count (fields_of s).frames within in
        says_order (Inner (size s) (fields_of s).channels) (λ k. check_step s (least + k)) (touched first count) (λ k l. decode_inner (least + k) (omega arith))

    frames_table : (room : ℕ) → Says (ByTable (before_frames s first count) (size s) (fields_of s).channels) (check_frames_into s first count room)
    unfolding is_in
    frames_table room x at e =
        by_table (before_frames s first count) those (ltb room (frames_count s count).0) (size s) (fields_of s).channels
        (open_outer and_says says_refuse (Outer (size s) (fields_of s).channels) _ RangePastEnd (none (size s) (fields_of s).channels RangePastEnd refl)) frames_inner
        x at (sym (frames_is room) ∙ e)

    -- refused in a group
    module _ (room : ℕ) (x : Refusal) (at : Place) (e : check_frames_into s first count room ≡ No x at) (fine : before_frames s first count ≡ Fine) (other : x ≡ OutputTooShort → ⊥) where
      in_touched : those ≡ No x at
      in_touched = only_inner (before_frames s first count) those (ltb room (frames_count s count).0) x at (sym (frames_is room) ∙ e) fine other

      frames_group : (j : ℕ) × IsAsked first count j × (at.group ≡ group_of j)
      unfolding check_step
      frames_group =
          let f = first_in (λ k. group_read s (least + k)) (λ k. at_group (least + k)) (touched first count) x at in_touched in
          let j = touched_asked first count f.index f.below in
          (j.0, j.1, ap (λ (y : Place). y.group) f.moved ∙ sym j.2)

      -- the groups before the first frame's say nothing
      with_earlier : in_order (λ g. in_group g (touched_read s first g)) (least + touched first count) ≡ those
      unfolding check_step
      with_earlier =
          order_add (λ g. in_group g (touched_read s first g)) least (touched first count)
          ∙ (in_order_lem _ least (λ g l. fine_located (at_group g) _ (ap (λ (b : Bool). cond b Fine (group_read s g)) (lt-ltb g least l)))
          and_then order_cong _ _ (touched first count)
          (λ k l. let m : least ≤ least + k = omega arith in ap (λ (b : Bool). in_group (least + k) (cond b Fine (group_read s (least + k)))) (le-ltb (least + k) least m)))

      frames_first : First (touched_read s first) (block_read s) x at
      frames_first = groups_first (fields_of s).channels (block_read s) (least + touched first count) (touched_read s first) (λ g. by (ltb g least) g) x at (with_earlier ∙ in_touched)
        where
          by : (b : Bool) (g : ℕ) → Says (OfGroup (fields_of s).channels (block_read s) g) (cond b Fine (group_read s g))
          by true g = says_fine (OfGroup (fields_of s).channels (block_read s) g)
          by false g = read_group g

-- a summary's bytes
pair_nowhere : (s : List ℕ) (g c room : ℕ) → Nowhere (check_peak s g c room)
unfolding check_peak
pair_nowhere s g c room = only_nowhere _ _ (summary_says s) and_says nowhere_refuse _ _ and_says nowhere_refuse _ _ and_says nowhere_refuse _ _

pairs_nowhere : (s : List ℕ) (room : ℕ) → Nowhere (check_all_peaks s room)
unfolding check_all_peaks
pairs_nowhere s room = only_nowhere _ _ (summary_says s) and_says nowhere_refuse _ _

-- re-encoding
module _ (p : PcmSpec) (s : List ℤ) (t : List ℕ) where
  abbrev groups : ℕ
  groups = groups_of (fields_of t).frames

  abbrev channels : ℕ
  channels = (fields_of t).channels

  new_block : (g c : ℕ) → Says (Alone TheBlock) (block_says p s t g c)
  unfolding every is_in
  new_block g c = says_block (1 ∷ 3 ∷ 44 ∷ 45 ∷ 4 ∷ 36 ∷ []) _ refl (reencode_block_says _ _ _)

  new_group : (g : ℕ) → Says (OfGroup channels (block_says p s t) g) (group_says p s t g)
  unfolding check_reencode_group inside is_in
  new_group g =
      alone channels (block_says p s t) g _ _ refl refl
      and_says alone channels (block_says p s t) g _ _ refl refl
      and_says alone channels (block_says p s t) g _ _ refl refl
      and_says (λ r at e. inr (of_blocks_lem channels (block_says p s t) g (new_block g) r at e))
      and_says alone channels (block_says p s t) g _ _ refl refl

  abbrev inner : Checked
  inner = in_order (λ g. in_group g (group_says p s t g)) groups

  into_is : (room : ℕ) → check_reencode_into p s t room ≡ ((before_groups p s t then inner) then refuse (ltb room (length t)) OutputTooShort)
  unfolding check_reencode_into check_reencode
  into_is room =
      ap (λ (c : Checked). c then refuse (ltb room (length t)) OutputTooShort)
      (sym (then_assoc (check_reencoder p) (check_samples p s then check_template p s t) inner ∙ ap (λ (c : Checked). check_reencoder p then c) (then_assoc (check_samples p s) (check_template p s t) inner)))

  pub reencode_table : (room : ℕ) → Says (ByTable (before_groups p s t) (groups_of (fields_of t).frames) (fields_of t).channels) (check_reencode_into p s t room)
  reencode_table room x at e =
      by_table (before_groups p s t) inner (ltb room (length t)) groups channels (before_none groups channels p s t)
      (λ fine. groups_name channels (block_says p s t) groups (group_says p s t) new_group) x at (sym (into_is room) ∙ e)

  reencode_first : (room : ℕ) (x : Refusal) (at : Place) → check_reencode_into p s t room ≡ No x at → before_groups p s t ≡ Fine → (x ≡ OutputTooShort → ⊥) → First (group_says p s t) (block_says p s t) x at
  reencode_first room x at e fine other =
      groups_first channels (block_says p s t) groups (group_says p s t) new_group x at
      (only_inner (before_groups p s t) inner (ltb room (length t)) x at (sym (into_is room) ∙ e) fine other)

-- ---- the theorems

pub keeps_table : KeepsTable
keeps_table =
    record {
      opens = λ s x at e. (open_names s x at ((refused_exactly.opens s (refused_by x at) x at e).0 refl)).0;
      decodes = λ s lent after x at d. decode_table s (length lent) x at ((refused_exactly.decodes s lent after (refused_by x at) x at d).0 refl);
      steps = λ s g lent after x at d. step_table s g (length lent) x at ((refused_exactly.steps s g lent after (refused_by x at) x at d).0 refl);
      steps_group = λ s g lent after x at d. step_group s g (length lent) x at ((refused_exactly.steps s g lent after (refused_by x at) x at d).0 refl);
      reads_frames = λ s first count lent after x at d. frames_table s first count (length lent) x at ((refused_exactly.reads_frames s first count lent after (refused_by x at) x at d).0 refl);
      reads_frames_group = λ s first count lent after x at d.
          frames_group s first count (length lent) x at ((refused_exactly.reads_frames s first count lent after (refused_by x at) x at d).0 refl);
      builds_peaks = λ s lent after x at d. build_table s (length lent) x at ((refused_exactly.builds_peaks s lent after (refused_by x at) x at d).0 refl);
      compares_peaks = λ b s x at d. check_table_lem s x at ((refused_exactly.compares_peaks b s (refused_by x at) x at d).0 refl);
      reads_peak = λ s g c lent after x at d. pair_nowhere s g c (length lent) x at ((refused_exactly.reads_peak s g c lent after (refused_by x at) x at d).0 refl);
      reads_peaks = λ s lent after x at d. pairs_nowhere s (length lent) x at ((refused_exactly.reads_peaks s lent after (refused_by x at) x at d).0 refl);
      encodes = λ p mode s lent after x at e. encode_names p mode s (length lent) x at ((refused_exactly.encodes p mode s lent after (refused_by x at) x at e).0 refl);
      reencodes = λ p s t lent after x at e. reencode_table p s t (length lent) x at ((refused_exactly.reencodes p s t lent after (refused_by x at) x at e).0 refl);
    }

-- opening's 19 names the first group whose entries are bad
pub first_opens : (s : List ℕ) (at : Place)
    → Opens s (refused_by EntryBounds at)
    → FirstBad s at
first_opens s at e = (open_names s EntryBounds at ((refused_exactly.opens s (refused_by EntryBounds at) EntryBounds at e).0 refl)).1 refl

-- where decoding opens the file and refuses, not for want of room, it names the first
pub first_decodes : (s : List ℕ) (lent after : List ℤ) (x : Refusal) (at : Place)
    → Decodes s lent (refused_by x at) after
    → check_open s ≡ Fine
    → (x ≡ OutputTooShort → ⊥)
    → First (group_read s) (block_read s) x at
first_decodes s lent after x at d = decode_first s (length lent) x at ((refused_exactly.decodes s lent after (refused_by x at) x at d).0 refl)

-- where the file opens and has the frames, and reading them refuses, not for want of room, it names the first of the
-- groups touched
pub first_reads_frames : (s : List ℕ) (first count : Frames) (lent after : List ℤ) (x : Refusal) (at : Place)
    → ReadsFrames s first count lent (refused_by x at) after
    → before_frames s first count ≡ Fine
    → (x ≡ OutputTooShort → ⊥)
    → First (touched_read s first) (block_read s) x at
first_reads_frames s first count lent after x at d =
    frames_first s first count (length lent) x at ((refused_exactly.reads_frames s first count lent after (refused_by x at) x at d).0 refl)

-- where building a summary opens the file and refuses, not for want of room nor a float file, it names the first
pub first_builds_peaks : (s lent after : List ℕ) (x : Refusal) (at : Place)
    → BuildsPeaks s lent (refused_by x at) after
    → check_open s ≡ Fine
    → (x ≡ OutputTooShort → ⊥)
    → (x ≡ FloatFile → ⊥)
    → First (group_read s) (block_read s) x at
first_builds_peaks s lent after x at d = build_first s (length lent) x at ((refused_exactly.builds_peaks s lent after (refused_by x at) x at d).0 refl)

-- where checking a summary opens the file and refuses, not a float file, it names the first
pub first_compares_peaks : (b s : List ℕ) (x : Refusal) (at : Place)
    → ComparesPeaks b s (refused_by x at)
    → check_open s ≡ Fine
    → (x ≡ FloatFile → ⊥)
    → First (group_read s) (block_read s) x at
first_compares_peaks b s x at d = check_first_lem s x at ((refused_exactly.compares_peaks b s (refused_by x at) x at d).0 refl)

-- where re-encoding comes to the template's groups and refuses, not for want of room, it names the first
pub first_reencodes : (p : PcmSpec) (s : List ℤ) (t lent after : List ℕ) (x : Refusal) (at : Place)
    → Reencodes p s t lent (refused_by x at) after
    → before_groups p s t ≡ Fine
    → (x ≡ OutputTooShort → ⊥)
    → First (group_says p s t) (block_says p s t) x at
first_reencodes p s t lent after x at e = reencode_first p s t (length lent) x at ((refused_exactly.reencodes p s t lent after (refused_by x at) x at e).0 refl)
