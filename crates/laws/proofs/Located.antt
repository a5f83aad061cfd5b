-- Where the checks refuse: what holds of each refusal of theirs and its place, told from the checks that they are made
-- of. Those of no group and no channel name nothing; checks in order name the first that refuses.
use Rattle.std.specs.Prelude.{Ok, Err}
use Prim.Native.Nat.{ℕ, ◌<◌, ◌≤◌}
use mathlib.Core.Path.{◌≡◌, refl, sym, ap, ◌∙◌, subst}
use mathlib.Core.Bool.{Bool, true, false}
use mathlib.Core.List.{List, [], ◌∷◌}
use mathlib.Core.Logic.{⊎_elim}
use native.Mathlib.Omega.{arith}
use lib.IntN.{ℤ}
use lib.Dec.{eqb}
use borrow.Author.Tests.{eqb-true}
use Rattle.format.specs.Lists.{every, is_in}
use Rattle.format.specs.Numbers.{Below}
use Rattle.format.specs.Header.{fields_of, groups_of, group_bytes}
use Rattle.format.specs.Refusals.{Checked, Fine, No, number, nowhere, refuse, ◌then◌, in_order}
use Rattle.format.specs.Blocks.{from_block}
use Rattle.format.specs.Places.{at_group, at_channel, located, in_group}
use Rattle.format.specs.Fit.{check_fit}
use Rattle.format.specs.Opening.{check_fields, check_offsets, bad_entry, check_table, check_first, check_open, format_of}
use Rattle.format.specs.Decoding.{check_block, check_group, check_decode, check_room}
use Rattle.format.specs.Encoding.{group_in, check_spec, check_samples}
use Rattle.format.specs.Reencoding.{check_template_block, check_reencode_block, check_reencode_group, check_same, check_bounds, check_rising, check_template}
use Rattle.format.specs.Reencoding.{check_reencoder, check_reencode, check_reencode_into}
use Rattle.format.specs.Boundary.{samples_from, check_bytes, check_host_reencode}
use Rattle.format.specs.declared.refusals.Refusal.{Refusal}
use Rattle.format.specs.declared.refusals.Refusal.TheVariants.{EntryBounds, BytesLeft}
use Rattle.format.specs.declared.refusals.Place.{Place}
use Rattle.format.specs.declared.settings.PcmSpec.{PcmSpec}
use Rattle.format.specs.declared.settings.SampleFormat.{SampleFormat}
use Rattle.format.specs.declared.answers.Fields.{Fields}
use Rattle.laws.proofs.Tests.{never, and_left, and_right, either}
use Rattle.laws.proofs.Checks.{same_refusal, same_place, Unsaid, in_order_lem, order_fine, order_refuses, refusal_first}
use Rattle.laws.proofs.Places.{fine_located, located_fine, no_located, located_no}
use Rattle.laws.proofs.Reading.{number_lt}

-- ---- P holds of whatever k refuses, and its place
abbrev pub Says : (Refusal → Place → Type 0) → Checked → Type 0
Says P k = (r : Refusal) (at : Place) → k ≡ No r at → P r at

module _ (P : Refusal → Place → Type 0) where
  pub says_fine : Says P Fine
  says_fine r at e = let z : true ≡ false = cc in never z

  pub says_one : (x : Refusal) (from : Place) → P x from → Says P (No x from)
  says_one x from p r at e =
      let q : x ≡ r = same_refusal e in
      let l : from ≡ at = same_place e in
      subst (P r) l (subst (λ (y : Refusal). P y from) q p)

  -- a check says its refusal, and no place
  pub says_refuse : (b : Bool) (r : Refusal) → P r nowhere → Says P (refuse b r)
  unfolding refuse
  says_refuse true r p = says_one r nowhere p
  says_refuse false r p = says_fine

  -- of another place
  pub says_located : (Q : Refusal → Place → Type 0) (move : Place → Place) (k : Checked)
      → ((r : Refusal) (at : Place) → Q r at → P r (move at)) → Says Q k → Says P (located move k)
  says_located Q move k moved q r at e =
      let f = located_no move k r at e in
      subst (P r) (sym f.2) (moved r f.0 (q r f.0 f.1))

  -- each of them in order
  pub says_order : (check : ℕ → Checked) (n : ℕ) → ((i : ℕ) → i < n → Says P (check i)) → Says P (in_order check n)
  says_order check n each r at e = let f = refusal_first check n r at e in each f.at f.below r at f.refuses

-- one that refuses: its test holds, and it says its own refusal
pub refused_so : (b : Bool) (x r : Refusal) (at : Place) → refuse b x ≡ No r at → (b ≡ true) × (r ≡ x) × (at ≡ nowhere)
unfolding refuse
refused_so true x r at e = (refl, sym (same_refusal e), sym (same_place e))
refused_so false x r at e = let z : true ≡ false = cc in never z

-- what both say; the second says it where the first passes
infixr 20 ◌says_then◌
pub ◌says_then◌ : {P : Refusal → Place → Type 0} {a b : Checked} → Says P a → (a ≡ Fine → Says P b) → Says P (a then b)
unfolding ◌then◌
◌says_then◌ {P} {a} {b} p q = by a p q
  where
    by : (c : Checked) → Says P c → (c ≡ Fine → Says P b) → Says P (c then b)
    by (Ok ok) h next = next refl
    by (Err refused) h next = h

infixr 20 ◌and_says◌
pub ◌and_says◌ : {P : Refusal → Place → Type 0} {a b : Checked} → Says P a → Says P b → Says P (a then b)
◌and_says◌ p q = p says_then (λ fine. q)

-- ---- checks in order, each in its own place: the first that refuses, its index and what it says of that place
pub record FirstIn (check : ℕ → Checked) (move : ℕ → Place → Place) (n : ℕ) (r : Refusal) (at : Place) : Type 0 where
  pub index : ℕ
  pub below : index < n
  pub before : (i : ℕ) → i < index → check i ≡ Fine
  pub from : Place
  pub refuses : check index ≡ No r from
  pub moved : at ≡ move index from

module _ (check : ℕ → Checked) (move : ℕ → Place → Place) (n : ℕ) (r : Refusal) (at : Place) where
  abbrev each : ℕ → Checked
  each i = located (move i) (check i)

  pub first_in : in_order (λ i. located (move i) (check i)) n ≡ No r at → FirstIn check move n r at
  first_in e =
      let f = refusal_first each n r at e in
      let q = located_no (move f.at) (check f.at) r at f.refuses in
      record {
        index = f.at;
        below = f.below;
        before = λ i l. located_fine (move i) (check i) (order_fine each i f.at l f.before);
        from = q.0;
        refuses = q.1;
        moved = q.2;
      }

  pub in_first : FirstIn check move n r at → in_order (λ i. located (move i) (check i)) n ≡ No r at
  in_first f =
      order_refuses each n r at
      (record {
        at = f.index;
        below = f.below;
        before = in_order_lem each f.index (λ i l. fine_located (move i) (check i) (f.before i l));
        refuses = no_located (move f.index) (check f.index) r f.from f.refuses ∙ ap (No r) (sym f.moved);
      })

-- ---- checks that name nothing
abbrev pub Nowhere : Checked → Type 0
Nowhere k = (r : Refusal) (at : Place) → k ≡ No r at → at ≡ nowhere

-- and that say only refusals of these numbers
abbrev pub Only : List ℕ → Refusal → Place → Type 0
Only ns r at = (is_in (number r) ns ≡ true) × (at ≡ nowhere)

pub nowhere_refuse : (b : Bool) (r : Refusal) → Nowhere (refuse b r)
nowhere_refuse b r = says_refuse (λ x at. at ≡ nowhere) b r refl

-- what holds of a refusal that names nothing, whichever it is
pub says_nowhere : (P : Refusal → Place → Type 0) (k : Checked) → Nowhere k → ((r : Refusal) → P r nowhere) → Says P k
says_nowhere P k none p r at e = subst (P r) (sym (none r at e)) (p r)

-- a number among these passes a test that each of them passes
each_in_lem : (test : ℕ → Bool) (ns : List ℕ) → every test ns ≡ true → (n : ℕ) → is_in n ns ≡ true → test n ≡ true
unfolding every is_in
each_in_lem test [] all n e = never (sym e)
each_in_lem test (m ∷ ns) all n e =
    ⊎_elim
    (λ (q : eqb n m ≡ true). ap test (eqb-true n m q) ∙ and_left _ _ all)
    (λ (q : is_in n ns ≡ true). each_in_lem test ns (and_right (test m) _ all) n q)
    (either (eqb n m) (is_in n ns) e)

module _ (ns : List ℕ) where
  pub only : (b : Bool) (r : Refusal) → is_in (number r) ns ≡ true → Says (Only ns) (refuse b r)
  only b r e = says_refuse (Only ns) b r (e, refl)

  module _ (k : Checked) (says : Says (Only ns) k) where
    pub only_nowhere : Nowhere k
    only_nowhere r at e = (says r at e).1

    pub only_unsaid : (x : Refusal) → is_in (number x) ns ≡ false → Unsaid x k
    only_unsaid x out at e = never (sym (says x at e).0 ∙ out)

    -- what holds where a test of the number holds, which each of them passes
    pub only_says : (P : Refusal → Place → Type 0) (test : ℕ → Bool)
        → every test ns ≡ true → ((r : Refusal) → test (number r) ≡ true → P r nowhere) → Says P k
    only_says P test all p r at e =
        let o = says r at e in
        subst (P r) (sym o.1) (p r (each_in_lem test ns all (number r) o.0))

    -- more numbers
    pub only_among : (ms : List ℕ) → every (λ n. is_in n ms) ns ≡ true → Says (Only ms) k
    only_among ms all = only_says (Only ms) (λ n. is_in n ms) all (λ r q. (q, refl))

-- ---- what each says
module _ (h : Fields) where
  pub fields_say : Says (Only (10 ∷ 11 ∷ 12 ∷ [])) (check_fields h)
  unfolding check_fields is_in
  fields_say =
      let one = only (10 ∷ 11 ∷ 12 ∷ []) in
      one _ _ refl and_says one _ _ refl and_says one _ _ refl

  pub offsets_say : (n : ℕ) → Says (Only (13 ∷ 14 ∷ 15 ∷ 1 ∷ [])) (check_offsets h n)
  unfolding check_offsets is_in
  offsets_say n =
      let one = only (13 ∷ 14 ∷ 15 ∷ 1 ∷ []) in
      one _ _ refl and_says one _ _ refl and_says one _ _ refl and_says one _ _ refl

  pub first_says : (s : List ℕ) → Says (Only (3 ∷ [])) (check_first s h)
  unfolding check_first is_in
  first_says s = only (3 ∷ []) _ _ refl

  pub block_says_lem : (f : SampleFormat) (c : ℕ) (r : List ℕ) → Says (Only (1 ∷ 3 ∷ 20 ∷ 21 ∷ 4 ∷ [])) (check_block h f c r)
  unfolding check_block is_in
  block_says_lem f c r =
      let one = only (1 ∷ 3 ∷ 20 ∷ 21 ∷ 4 ∷ []) in
      one _ _ refl and_says one _ _ refl and_says one _ _ refl
      and_says one _ _ refl and_says one _ _ refl and_says one _ _ refl

pub room_says : (s : List ℕ) (room : ℕ) → Says (Only (50 ∷ [])) (check_room s room)
unfolding check_room is_in
room_says s room = only (50 ∷ []) _ _ refl

pub spec_says : (most : ℕ) (depths : List ℕ) (p : PcmSpec) → Says (Only (30 ∷ [])) (check_spec most depths p)
unfolding check_spec is_in
spec_says most depths p =
    let one = only (30 ∷ []) in
    one _ _ refl and_says one _ _ refl and_says one _ _ refl and_says one _ _ refl

pub samples_say : (p : PcmSpec) (s : List ℤ) → Says (Only (31 ∷ 32 ∷ 33 ∷ [])) (check_samples p s)
unfolding check_samples is_in
samples_say p s =
    let one = only (31 ∷ 32 ∷ 33 ∷ []) in
    one _ _ refl and_says one _ _ refl and_says one _ _ refl

pub template_says : (p : PcmSpec) (s : List ℤ) (t : List ℕ) → Says (Only (1 ∷ 2 ∷ 40 ∷ 41 ∷ 42 ∷ [])) (check_template p s t)
unfolding check_template check_same check_bounds check_rising is_in
template_says p s t =
    let one = only (1 ∷ 2 ∷ 40 ∷ 41 ∷ 42 ∷ []) in
    one _ _ refl and_says one _ _ refl
    and_says (one _ _ refl and_says one _ _ refl and_says one _ _ refl and_says one _ _ refl)
    and_says (one _ _ refl and_says one _ _ refl and_says one _ _ refl and_says one _ _ refl)
    and_says (one _ _ refl and_says one _ _ refl and_says one _ _ refl)

pub template_block_says : (depth : ℕ) (r : List ℕ) → Says (Only (1 ∷ 3 ∷ 44 ∷ 45 ∷ 4 ∷ [])) (check_template_block depth r)
unfolding check_template_block is_in
template_block_says depth r =
    let one = only (1 ∷ 3 ∷ 44 ∷ 45 ∷ 4 ∷ []) in
    one _ _ refl and_says one _ _ refl and_says one _ _ refl and_says one _ _ refl
    and_says one _ _ refl and_says one _ _ refl and_says one _ _ refl

pub reencode_block_says : (depth : ℕ) (r : List ℕ) (xs : List ℤ)
    → Says (Only (1 ∷ 3 ∷ 44 ∷ 45 ∷ 4 ∷ 36 ∷ [])) (check_reencode_block depth r xs)
unfolding check_reencode_block check_fit every is_in
reencode_block_says depth r xs =
    let all : List ℕ = 1 ∷ 3 ∷ 44 ∷ 45 ∷ 4 ∷ 36 ∷ [] in
    only_among (1 ∷ 3 ∷ 44 ∷ 45 ∷ 4 ∷ []) _ (template_block_says depth r) all refl and_says only all _ _ refl

pub bytes_say : (b : List ℕ) → Says (Only (39 ∷ [])) (check_bytes b)
unfolding check_bytes is_in
bytes_say b = only (39 ∷ []) _ _ refl

-- so they name nothing
pub room_nowhere : (s : List ℕ) (room : ℕ) → Nowhere (check_room s room)
room_nowhere s room = only_nowhere _ _ (room_says s room)

pub spec_nowhere : (most : ℕ) (depths : List ℕ) (p : PcmSpec) → Nowhere (check_spec most depths p)
spec_nowhere most depths p = only_nowhere _ _ (spec_says most depths p)

pub samples_nowhere : (p : PcmSpec) (s : List ℤ) → Nowhere (check_samples p s)
samples_nowhere p s = only_nowhere _ _ (samples_say p s)

pub template_nowhere : (p : PcmSpec) (s : List ℤ) (t : List ℕ) → Nowhere (check_template p s t)
template_nowhere p s t = only_nowhere _ _ (template_says p s t)

pub reencode_block_nowhere : (depth : ℕ) (r : List ℕ) (xs : List ℤ) → Nowhere (check_reencode_block depth r xs)
reencode_block_nowhere depth r xs = only_nowhere _ _ (reencode_block_says depth r xs)

pub bytes_nowhere : (b : List ℕ) → Nowhere (check_bytes b)
bytes_nowhere b = only_nowhere _ _ (bytes_say b)

-- ---- opening says these and names nothing, but for 19, over groups in order
abbrev pub open_numbers : List ℕ
open_numbers = 1 ∷ 2 ∷ 3 ∷ 10 ∷ 11 ∷ 12 ∷ 13 ∷ 14 ∷ 15 ∷ 16 ∷ 17 ∷ 18 ∷ []

module _ (P : Refusal → Place → Type 0) (s : List ℕ) (test : ℕ → Bool) (all : every test open_numbers ≡ true)
    (holds : (r : Refusal) → test (number r) ≡ true → P r nowhere) where
  pub open_says : Says P (in_order (λ g. in_group g (refuse (bad_entry s (fields_of s) g) EntryBounds)) (groups_of (fields_of s).frames)) → Says P (check_open s)
  unfolding check_open check_table every is_in
  open_says entries =
      let h = fields_of s in
      let from : (ns : List ℕ) (k : Checked) → Says (Only ns) k → every (λ n. is_in n open_numbers) ns ≡ true → Says P k = λ ns k says among. only_says open_numbers k (only_among ns k says open_numbers among) P test all holds in
      from (1 ∷ []) _ (only (1 ∷ []) _ _ refl) refl
      and_says from (2 ∷ []) _ (only (2 ∷ []) _ _ refl) refl
      and_says from (10 ∷ 11 ∷ 12 ∷ []) _ (fields_say h) refl
      and_says from (13 ∷ 14 ∷ 15 ∷ 1 ∷ []) _ (offsets_say h _) refl
      and_says (from (16 ∷ []) _ (only (16 ∷ []) _ _ refl) refl
      and_says from (17 ∷ []) _ (only (17 ∷ []) _ _ refl) refl
      and_says from (18 ∷ []) _ (only (18 ∷ []) _ _ refl) refl
      and_says entries)
      and_says from (3 ∷ []) _ (first_says h s) refl

-- ---- the numbers that reading says of an opening, of a group and of a file pass a test which each of these passes
abbrev pub group_numbers : List ℕ
group_numbers = 22 ∷ 1 ∷ 3 ∷ 20 ∷ 21 ∷ 4 ∷ []

abbrev pub Passes : (ℕ → Bool) → Refusal → Place → Type 0
Passes test r at = test (number r) ≡ true

module _ (test : ℕ → Bool) where
  pub passes_unsaid : (x : Refusal) (k : Checked) → Says (Passes test) k → test (number x) ≡ false → Unsaid x k
  passes_unsaid x k says out at e = never (sym (says x at e) ∙ out)

  -- of checks in order, each in its place
  pub each_passes : (check : ℕ → Checked) (move : ℕ → Place → Place) (n : ℕ) → ((i : ℕ) → Says (Passes test) (check i)) → Says (Passes test) (in_order (λ i. located (move i) (check i)) n)
  each_passes check move n each = says_order (Passes test) _ n (λ i l. says_located (Passes test) (Passes test) (move i) (check i) (λ r at e. e) (each i))

  pub open_passes : every test (19 ∷ open_numbers) ≡ true → (s : List ℕ) → Says (Passes test) (check_open s)
  unfolding every
  open_passes all s =
      let h = fields_of s in
      open_says (Passes test) s test (and_right (test 19) _ all) (λ r e. e)
      (each_passes (λ g. refuse (bad_entry s h g) EntryBounds) at_group (groups_of h.frames) (λ g. says_refuse (Passes test) _ EntryBounds (and_left (test 19) _ all)))

  pub group_passes : every test group_numbers ≡ true → (h : Fields) (f : SampleFormat) (group : List ℕ) → Says (Passes test) (check_group h f group)
  unfolding check_group every
  group_passes all h f group =
      each_passes (λ c. check_block h f c (from_block h.depth group c)) at_channel h.channels
      (λ c. only_says (1 ∷ 3 ∷ 20 ∷ 21 ∷ 4 ∷ []) _ (block_says_lem h f c _) (Passes test) test (and_right (test 22) _ all) (λ r e. e))
      and_says says_refuse (Passes test) _ BytesLeft (and_left (test 22) _ all)

  pub decode_passes : every test (19 ∷ open_numbers) ≡ true → every test group_numbers ≡ true → (s : List ℕ) → Says (Passes test) (check_decode s)
  unfolding check_decode
  decode_passes all also s =
      let h = fields_of s in
      open_passes all s and_says each_passes (λ g. check_group h (format_of s h) (group_bytes s h g)) at_group (groups_of h.frames) (λ g. group_passes also h (format_of s h) _)

-- ---- numbers of a header: a file has fewer than 2 ^ 16 channels, and at most 2 ^ 23 groups
module _ (s : List ℕ) (byte : Below 256 s) where
  pub channels_few : (fields_of s).channels < 65536
  unfolding fields_of
  channels_few = number_lt 8 2 s byte

  pub groups_few : groups_of (fields_of s).frames ≤ 8388608
  unfolding fields_of groups_of
  groups_few = let l : (fields_of s).frames.0 < 4294967296 = number_lt 16 4 s byte in omega arith

-- so a group that is named is below that
abbrev Few : Refusal → Place → Type 0
Few r at = at.group < 8388608

few_nowhere : (k : Checked) → Nowhere k → Says Few k
few_nowhere k none = says_nowhere Few k none (λ r. omega arith)

-- checks of each group, in order
few_groups : (check : ℕ → Checked) (n : ℕ) → n ≤ 8388608 → Says Few (in_order (λ g. located (at_group g) (check g)) n)
few_groups check n few =
    says_order Few (λ g. located (at_group g) (check g)) n
    (λ g l. says_located Few (λ r at. g < 8388608) (at_group g) (check g) (λ r at q. q) (λ r at e. omega arith))

few_open : (s : List ℕ) → Below 256 s → Says Few (check_open s)
unfolding every
few_open s byte =
    let h = fields_of s in
    open_says Few s (λ n. true) refl (λ r q. omega arith) (few_groups (λ g. refuse (bad_entry s h g) EntryBounds) (groups_of h.frames) (groups_few s byte))

pub decode_group_few : (s : List ℕ) (room : ℕ) → Below 256 s
    → (r : Refusal) (at : Place) → (check_decode s then check_room s room) ≡ No r at → at.group < 8388608
unfolding check_decode
decode_group_few s room byte =
    let h = fields_of s in
    (few_open s byte and_says few_groups (λ g. check_group h (format_of s h) (group_bytes s h g)) (groups_of h.frames) (groups_few s byte))
    and_says few_nowhere _ (room_nowhere s room)

pub reencode_group_few : (b : List ℕ) (p : PcmSpec) (t : List ℕ) (room : ℕ) → Below 256 t
    → (r : Refusal) (at : Place) → check_host_reencode b p t room ≡ No r at → at.group < 8388608
unfolding check_host_reencode check_reencode_into check_reencode check_reencoder
reencode_group_few b p t room byte =
    let h = fields_of t in
    let s = samples_from b in
    few_nowhere _ (bytes_nowhere b)
    and_says (few_nowhere _ (spec_nowhere _ _ p)
    and_says few_nowhere _ (samples_nowhere p s)
    and_says few_nowhere _ (template_nowhere p s t)
    and_says few_groups (λ g. check_reencode_group h.depth h.channels (group_bytes t h g) (group_in h.channels s g)) (groups_of h.frames) (groups_few t byte))
    and_says few_nowhere _ (nowhere_refuse _ _)
