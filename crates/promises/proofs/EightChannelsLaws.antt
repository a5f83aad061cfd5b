-- Laws of the encoder's settings: which numbers its checks never say, what Auto makes of any channel count but two, and
-- how long a file can be.
use Rattle.std.specs.Prelude.{Ok, Err}
use Prim.Native.Nat.{ℕ, ◌+◌, ◌*◌, ◌/◌, ◌^◌, ◌<◌, ◌≤◌, min, ◌%◌}
use mathlib.Core.Path.{◌≡◌, refl, sym, ap, ap₂, ◌∙◌, subst, fun_ext}
use mathlib.Core.Logic.{◌≢◌}
use mathlib.Core.Bool.{Bool, true, false, not, cond}
use mathlib.Core.List.{List, [], ◌∷◌}
use native.Mathlib.Omega.{arith}
use lib.ListN.{length, get_or}
use lib.IntN.{ℤ, pos}
use lib.Pow.{pow_pos}
use lib.Dec.{eqb, ltb}
use borrow.Author.Tests.{eqb-true, ltb-true, ltb-false, le-ltb, ne_eqb, not-false, eq-eqb, not-true}
use Rattle.format.specs.Lists.{joined, every}
use Rattle.format.specs.Numbers.{Below, num_at, value, holds}
use Rattle.format.specs.Header.{fields_of, groups_of, group_bytes}
use Rattle.format.specs.Units.{within, depth_word, depth_of}
use Rattle.format.specs.Refusals.{Checked, Fine, No, number, refuse, ◌then◌, in_order, nowhere}
use Rattle.format.specs.Places.{located, at_group, at_channel, in_group}
use Rattle.format.specs.Answers.{answered}
use Rattle.format.specs.Encoding.{differences, least_width, encoded_block, blocks, mid_side, padded_channels, frames_of, takes_mid, is_mid_side, encoded_group, group_in, encoded_group_at, assembled, encoded_file, check_spec, check_encoder, check_samples, check_stereo, check_data_size, check_size, check_encode, check_encode_into}
use Rattle.format.specs.Reencoding.{check_template, check_reencoder, check_reencode, check_reencode_group, check_reencode_into}
use Rattle.format.specs.Boundary.{samples_from, is_mode, mode_of, result_of, check_mode, check_bytes, check_host_encode, check_host_reencode}
use Rattle.format.specs.declared.refusals.Refusal.{Refusal}
use Rattle.format.specs.declared.refusals.Refusal.TheVariants.{WriterSpec, ValueOutside, OutputTooShort, NotStereo}
use Rattle.format.specs.declared.refusals.Place.{Place}
use Rattle.format.specs.declared.units.Depth.TheVariants.{ThirtyTwo}
use Rattle.format.specs.declared.settings.PcmSpec.{PcmSpec}
use Rattle.format.specs.declared.settings.StereoMode.{StereoMode}
use Rattle.format.specs.declared.settings.StereoMode.TheVariants.{Auto, Direct, MidSide}
use Rattle.format.specs.declared.answers.Answer.{Answer}
use Rattle.format.specs.declared.answers.Outcome.TheVariants.{Wrote, Refused}
use Rattle.laws.proofs.Tests.{never, and_left, and_right}
use Rattle.format.proofs.UnitLaws.{within_holds}
use Rattle.laws.proofs.Checks.{pass, passed, ◌and_then◌, then_assoc, first_fine, others_fine, has_room, unsaid, said_after_lem, said_before}
use Rattle.laws.proofs.Each.{each_tab}
use Rattle.laws.proofs.Signs.{Holds, value_holds, holds_every}
use Rattle.laws.proofs.Reading.{number_lt}
use Rattle.laws.proofs.Parts.{length_tab, length_most}
use Rattle.laws.proofs.Written.{width_in, block_size, assembled_length}
use Rattle.laws.proofs.Located.{Says, says_fine, says_refuse, ◌says_then◌, ◌and_says◌, Only, Passes, passes_unsaid, each_passes, only_says, spec_says, samples_say, template_says, reencode_block_says, refused_so}
use Rattle.promises.proofs.Outcomes.{exactly_number, host_number}
use Rattle.format.specs.declared.answers.Fields.{Fields}
use Rattle.laws.proofs.SampleChecks.{Taken, taken_fine, fine_taken, spec_unsaid, samples_unsaid}

-- ---- checks that refuse by other numbers than n
abbrev pub Other : ℕ → Checked → Type 0
Other n c = Says (Passes (λ m. not (eqb m n))) c

module _ (n : ℕ) where
  pub one_other : (b : Bool) (x : Refusal) → not (eqb (number x) n) ≡ true → Other n (refuse b x)
  one_other b x ok = says_refuse (Passes (λ m. not (eqb m n))) b x ok

  pub only_other : (ns : List ℕ) (c : Checked) → Says (Only ns) c → every (λ m. not (eqb m n)) ns ≡ true → Other n c
  only_other ns c says all = only_says ns c says (Passes (λ m. not (eqb m n))) (λ m. not (eqb m n)) all (λ x q. q)

  pub fine_other : (c : Checked) → c ≡ Fine → Other n c
  fine_other c fine = subst (Other n) (sym fine) (says_fine (Passes (λ m. not (eqb m n))))

  -- each in its place
  pub each_other : (check : ℕ → Checked) (move : ℕ → Place → Place) (k : ℕ) → ((i : ℕ) → Other n (check i)) → Other n (in_order (λ i. located (move i) (check i)) k)
  each_other = each_passes (λ m. not (eqb m n))

  -- the checks of encoding behind 31 to 33, without the room
  pub late_other : (p : PcmSpec) (mode : StereoMode) (s : List ℤ) → every (λ m. not (eqb m n)) (34 ∷ 35 ∷ 37 ∷ []) ≡ true → Other n (check_stereo p mode s then check_size p mode s)
  unfolding check_stereo check_size every
  late_other p mode s all =
      let rest = and_right (not (eqb 34 n)) _ all in
      (one_other _ _ (and_left _ _ all) and_says each_other _ at_group (groups_of (frames_of p s)) (λ g. one_other _ _ (and_left _ _ rest)))
      and_says one_other _ _ (and_left _ _ (and_right (not (eqb 35 n)) _ rest))

-- ---- 30: a writer's check of its settings, and then others that never say 30
module _ (most : ℕ) (depths : List ℕ) (p : PcmSpec) (others : Checked) (unsaid : Other 30 others) where
  says_30 : Says (λ r at. r ≡ WriterSpec) (check_spec most depths p)
  unfolding check_spec
  says_30 =
      let own : (b : Bool) → Says (λ r at. r ≡ WriterSpec) (refuse b WriterSpec) = λ b. says_refuse (λ r at. r ≡ WriterSpec) b WriterSpec refl in
      own _ and_says own _ and_says own _ and_says own _

  -- where the settings are taken 30 is not said
  pub taken_other : Taken most depths p → Other 30 (check_spec most depths p then others)
  taken_other t = fine_other 30 _ (taken_fine most depths p t) and_says unsaid

  -- and otherwise it is
  pub not_taken : (Taken most depths p → ⊥) → (at : Place) × ((check_spec most depths p then others) ≡ No WriterSpec at)
  unfolding ◌then◌
  not_taken none = by (check_spec most depths p) refl
    where
      by : (c : Checked) → check_spec most depths p ≡ c → (at : Place) × ((check_spec most depths p then others) ≡ No WriterSpec at)
      by (Ok ok) e = absurd (none (fine_taken most depths p e))
      by (Err refused) e = (refused.place, ap (λ (c : Checked). c then others) (e ∙ ap (λ (x : Refusal). No x refused.place) (says_30 refused.why refused.place e)))

-- of encoding
module _ (p : PcmSpec) (mode : StereoMode) (s : List ℤ) (room : ℕ) where
  abbrev behind : Checked
  behind = check_samples p s then check_stereo p mode s then check_size p mode s

  abbrev last : Checked
  last = refuse (ltb room (length (encoded_file p mode s))) OutputTooShort

  behind_other : Other 30 (behind then last)
  unfolding every
  behind_other = (only_other 30 _ _ (samples_say p s) refl and_says late_other 30 p mode s refl) and_says one_other 30 _ OutputTooShort refl

  in_order_lem : check_encode_into p mode s room ≡ (check_encoder p then behind then last)
  unfolding check_encode_into check_encode
  in_order_lem = then_assoc (check_encoder p) behind last

  pub encoder_other : Taken 8 (8 ∷ 16 ∷ 24 ∷ 32 ∷ []) p → Other 30 (check_encode_into p mode s room)
  unfolding check_encoder
  encoder_other t = subst (Other 30) (sym in_order_lem) (taken_other _ _ p (behind then last) behind_other t)

  pub encoder_30 : (Taken 8 (8 ∷ 16 ∷ 24 ∷ 32 ∷ []) p → ⊥) → (at : Place) × (check_encode_into p mode s room ≡ No WriterSpec at)
  unfolding check_encoder
  encoder_30 none = let n = not_taken _ _ p (behind then last) behind_other none in (n.0, in_order_lem ∙ n.1)

-- of re-encoding
group_other : (depth channels : ℕ) (old : List ℕ) (new : List ℤ) → Other 30 (check_reencode_group depth channels old new)
unfolding check_reencode_group every
group_other depth channels old new =
    one_other 30 _ _ refl
    and_says one_other 30 _ _ refl
    and_says one_other 30 _ _ refl
    and_says each_other 30 _ at_channel channels (λ c. only_other 30 _ _ (reencode_block_says depth _ _) refl)
    and_says one_other 30 _ _ refl

module _ (p : PcmSpec) (s : List ℤ) (t : List ℕ) (room : ℕ) where
  abbrev h : Fields
  h = fields_of t

  abbrev group : ℕ → Checked
  group g = check_reencode_group h.depth h.channels (group_bytes t h g) (group_in h.channels s g)

  abbrev those : Checked
  those = check_samples p s then check_template p s t then in_order (λ g. in_group g (group g)) (groups_of h.frames)

  abbrev at_last : Checked
  at_last = refuse (ltb room (length t)) OutputTooShort

  those_other : Other 30 (those then at_last)
  unfolding every
  those_other =
      (only_other 30 _ _ (samples_say p s) refl
      and_says only_other 30 _ _ (template_says p s t) refl
      and_says each_other 30 group at_group (groups_of h.frames) (λ g. group_other h.depth h.channels (group_bytes t h g) (group_in h.channels s g)))
      and_says one_other 30 _ OutputTooShort refl

  in_turn : check_reencode_into p s t room ≡ (check_reencoder p then those then at_last)
  unfolding check_reencode_into check_reencode
  in_turn = then_assoc (check_reencoder p) those at_last

  pub reencoder_other : Taken 2 (16 ∷ 24 ∷ []) p → Other 30 (check_reencode_into p s t room)
  unfolding check_reencoder
  reencoder_other t = subst (Other 30) (sym in_turn) (taken_other _ _ p (those then at_last) those_other t)

  pub reencoder_30 : (Taken 2 (16 ∷ 24 ∷ []) p → ⊥) → (at : Place) × (check_reencode_into p s t room ≡ No WriterSpec at)
  unfolding check_reencoder
  reencoder_30 none = let n = not_taken _ _ p (those then at_last) those_other none in (n.0, in_turn ∙ n.1)

-- ---- what an answer tells of a refusal x: where the checks never say its number it is not told, and where they say it, it is
itself : (n : ℕ) → not (eqb n n) ≡ false
itself n = ap not (eq-eqb n n refl)

module _ (c : Checked) (m : ℕ) (x : Refusal) where
  pub never_told : (r : Answer) → Other (number x) c → r ≡ answered c (Wrote m) → r.outcome ≢ Refused x
  never_told r other e said =
      let n = (exactly_number c (Wrote m) refl x r e).0 said in
      passes_unsaid (λ k. not (eqb k (number x))) x c other (itself (number x)) n.0 n.1

  pub told_so : (r : Answer) (at : Place) → r ≡ answered c (Wrote m) → c ≡ No x at → r.outcome ≡ Refused x
  told_so r at e said = (exactly_number c (Wrote m) refl x r e).1 (at, said)

  -- at the host boundary, where what is written fits a slice
  pub host_never_told : (r : ℕ) → (c ≡ Fine → m < 2 ^ 63) → Other (number x) c → r ≡ result_of (answered c (Wrote m)).outcome → r ≢ 2 ^ 63 + number x
  host_never_told r few other e said =
      let n = host_number c (Wrote m) few (number x) r e said in
      never (sym (other n.0 n.1 n.3) ∙ ap (λ (k : ℕ). not (eqb k (number x))) n.2 ∙ itself (number x))

  pub host_told_so : (r : ℕ) (at : Place) → r ≡ result_of (answered c (Wrote m)).outcome → c ≡ No x at → r ≡ 2 ^ 63 + number x
  host_told_so r at e said = e ∙ ap (λ (k : Checked). result_of (answered k (Wrote m)).outcome) said

-- what encoding and re-encoding write fits the lent slice
module _ (b : List ℕ) (p : PcmSpec) (mode room : ℕ) (short : room < 2 ^ 63) where
  pub file_few : check_host_encode b p mode room ≡ Fine → length (encoded_file p (mode_of mode) (samples_from b)) < 2 ^ 63
  unfolding check_host_encode check_encode_into
  file_few fine =
      let l = has_room (check_encode p (mode_of mode) (samples_from b)) room (length (encoded_file p (mode_of mode) (samples_from b))) OutputTooShort (others_fine _ _ (others_fine _ _ fine)) in
      omega arith

  -- 38 and 39 are other numbers
  pub host_other : (n : ℕ) → not (eqb 38 n) ≡ true → not (eqb 39 n) ≡ true → Other n (check_encode_into p (mode_of mode) (samples_from b) room) → Other n (check_host_encode b p mode room)
  unfolding check_host_encode check_mode check_bytes
  host_other n not_38 not_39 other = one_other n _ _ not_38 and_says one_other n _ _ not_39 and_says other

  -- where they pass, the entry's checks are the boundary's
  pub host_inner : is_mode mode ≡ true → length b % 4 ≡ 0 → check_host_encode b p mode room ≡ check_encode_into p (mode_of mode) (samples_from b) room
  unfolding check_host_encode check_mode check_bytes
  host_inner known whole = pass _ _ (ap not known) and_then pass _ _ (ap not (eq-eqb (length b % 4) 0 whole)) and_then refl

module _ (b : List ℕ) (p : PcmSpec) (t : List ℕ) (room : ℕ) where
  pub template_few : room < 2 ^ 63 → check_host_reencode b p t room ≡ Fine → length t < 2 ^ 63
  unfolding check_host_reencode check_reencode_into
  template_few short fine = let l = has_room (check_reencode p (samples_from b) t) room (length t) OutputTooShort (others_fine _ _ fine) in omega arith

  pub again_other : (n : ℕ) → not (eqb 39 n) ≡ true → Other n (check_reencode_into p (samples_from b) t room) → Other n (check_host_reencode b p t room)
  unfolding check_host_reencode check_bytes
  again_other n not_39 other = one_other n _ _ not_39 and_says other

  pub again_inner : length b % 4 ≡ 0 → check_host_reencode b p t room ≡ check_reencode_into p (samples_from b) t room
  unfolding check_host_reencode check_bytes
  again_inner whole = pass _ _ (ap not (eq-eqb (length b % 4) 0 whole)) and_then refl

-- ---- 34
is_mid_side_lem : (mode : StereoMode) → is_mid_side mode ≡ true → mode ≡ MidSide
unfolding is_mid_side
is_mid_side_lem Auto e = never (sym e)
is_mid_side_lem Direct e = never (sym e)
is_mid_side_lem MidSide e = refl

-- a refusal is told, whatever comes after it
stays_refused : (a b : Checked) (x : Refusal) (at : Place) → a ≡ No x at → (a then b) ≡ No x at
unfolding ◌then◌
stays_refused a b x at e = ap (λ (k : Checked). k then b) e

module _ (p : PcmSpec) (mode : StereoMode) (s : List ℤ) where
  -- 34 is what the checks of mid/side say without two channels, and 35 is another
  stereo_so : (at : Place) → check_stereo p mode s ≡ No NotStereo at → (mode ≡ MidSide) × (p.channels ≢ 2)
  unfolding check_stereo
  stereo_so at e =
      let later = passes_unsaid (λ m. not (eqb m 34)) NotStereo _ (each_other 34 _ at_group (groups_of (frames_of p s)) (λ g. one_other 34 _ _ refl)) refl in
      let b = (refused_so _ NotStereo NotStereo at (said_before NotStereo at _ _ later e)).0 in
      (is_mid_side_lem mode (and_left _ _ b), λ two. never (sym (eq-eqb p.channels 2 two) ∙ not-true _ (and_right (is_mid_side mode) _ b)))

  so_stereo : mode ≡ MidSide → p.channels ≢ 2 → (others : Checked) → (check_stereo p mode s then others) ≡ No NotStereo nowhere
  unfolding check_stereo is_mid_side refuse ◌then◌
  so_stereo m other others = rw (m, ne_eqb p.channels 2 other)

  module _ (room : ℕ) where
    pub not_stereo_so : (at : Place) → check_encode_into p mode s room ≡ No NotStereo at → ((check_encoder p then check_samples p s) ≡ Fine) × (mode ≡ MidSide) × (p.channels ≢ 2)
    unfolding check_encode_into check_encode check_encoder check_size
    not_stereo_so at e =
        let a = said_before NotStereo at _ _ (unsaid NotStereo OutputTooShort _ refl) e in
        let b = said_after_lem NotStereo at _ _ (spec_unsaid NotStereo refl _ _ p) a in
        let c = said_after_lem NotStereo at _ _ (samples_unsaid NotStereo refl refl refl p s) b.1 in
        let d = said_before NotStereo at _ _ (unsaid NotStereo _ _ refl) c.1 in
        let f = stereo_so at d in
        (b.0 and_then c.0, f.0, f.1)

    pub so_not_stereo : (check_encoder p then check_samples p s) ≡ Fine → mode ≡ MidSide → p.channels ≢ 2 → check_encode_into p mode s room ≡ No NotStereo nowhere
    unfolding check_encode_into check_encode
    so_not_stereo fine m other =
        let spec = first_fine _ _ fine in
        let given = others_fine _ _ fine in
        stays_refused _ _ NotStereo nowhere (spec and_then given and_then so_stereo m other (check_size p mode s))

-- ---- 32 at depth 32

-- four bytes are a number of 32 bits
pub bytes_hold : (b : List ℕ) → Below 256 b → every (holds 32) (samples_from b) ≡ true
unfolding samples_from
bytes_hold b byte =
    holds_every 32 (samples_from b)
    (each_tab (Holds 32) (pos 0) (pow_pos 31) (length b / 4) (λ k. value 32 (num_at (4 * k) 4 b)) (λ k l. value_holds 32 (num_at (4 * k) 4 b) (omega arith) (number_lt (4 * k) 4 b byte)))

module _ (p : PcmSpec) (s : List ℤ) (deep : p.bits_per_sample ≡ 32) (all : every (holds 32) s ≡ true) where
  inside : every (within (depth_of p.bits_per_sample)) s ≡ true
  unfolding depth_of depth_word
  inside = ap (λ (b : ℕ). every (within (depth_of b)) s) deep ∙ ap (λ (f : ℤ → Bool). every f s) (fun_ext (within_holds ThirtyTwo)) ∙ all

  pub outside_unsaid : (mode : StereoMode) (room : ℕ) → Other 32 (check_encode_into p mode s room)
  unfolding check_encode_into check_encode check_encoder check_samples every
  outside_unsaid mode room =
      (only_other 32 _ _ (spec_says 8 _ p) refl
      and_says (one_other 32 _ _ refl and_says fine_other 32 _ (pass _ ValueOutside (ap not inside)) and_says one_other 32 _ _ refl)
      and_says late_other 32 p mode s refl)
      and_says one_other 32 _ OutputTooShort refl

-- ---- Auto
module _ (p : PcmSpec) (s : List ℤ) (other : p.channels ≢ 2) where
  group_same : (x : List ℤ) → encoded_group p Auto x ≡ encoded_group p Direct x
  unfolding encoded_group takes_mid
  group_same x = rw (ne_eqb p.channels 2 other)

  parts_same : encoded_group_at p Auto s ≡ encoded_group_at p Direct s
  unfolding encoded_group_at
  parts_same = fun_ext (λ g. group_same (group_in p.channels s g))

  pub file_same : encoded_file p Auto s ≡ encoded_file p Direct s
  unfolding encoded_file
  file_same = ap (assembled p (frames_of p s)) parts_same

  pub checks_same : (room : ℕ) → check_encode_into p Auto s room ≡ check_encode_into p Direct s room
  unfolding check_encode_into check_encode check_stereo check_size is_mid_side
  checks_same room =
      ap₂ (λ (part : ℕ → List ℕ) (file : List ℕ). (check_encoder p then check_samples p s then check_stereo p Direct s then check_data_size (length (joined part (groups_of (frames_of p s)))))
      then refuse (ltb room (length file)) OutputTooShort)
      parts_same file_same

-- ---- the room

-- how long a file of these samples can be: the header and the table, and every block raw, up to what 37 lets pass
abbrev pub longest : PcmSpec → List ℤ → ℕ
longest p s =
    let groups = groups_of (frames_of p s) in
    124 + 4 * groups + min ((16 + 64 * p.bits_per_sample) * p.channels * groups) 4294967295

block_most : (depth flags : ℕ) (xs : List ℤ) → length (encoded_block depth flags xs) ≤ 16 + 64 * depth
unfolding width_in
block_most depth flags xs = let w = least_width (differences xs) in by (ltb w depth) refl (block_size depth flags xs)
  where
    by : (t : Bool) → ltb (least_width (differences xs)) depth ≡ t → length (encoded_block depth flags xs) ≡ 16 + 64 * cond t (least_width (differences xs)) depth → length (encoded_block depth flags xs) ≤ 16 + 64 * depth
    by true l e = let q = ltb-true (least_width (differences xs)) depth l in omega arith
    by false l e = omega arith

blocks_most : (depth flags : ℕ) (chans : List (List ℤ)) → length (blocks depth flags chans) ≤ (16 + 64 * depth) * length chans
unfolding blocks
blocks_most depth flags chans = length_most (λ c. encoded_block depth flags (get_or chans c [])) (16 + 64 * depth) (λ c. block_most depth flags (get_or chans c [])) (length chans)

-- mid/side is taken of two channels alone
mid_two : (p : PcmSpec) (mode : StereoMode) (s x : List ℤ) → check_stereo p mode s ≡ Fine → takes_mid mode p.channels p.bits_per_sample x ≡ true → p.channels ≡ 2
unfolding takes_mid check_stereo is_mid_side
mid_two p Direct s x ok e = never (sym e)
mid_two p MidSide s x ok e = eqb-true p.channels 2 (not-false _ (passed _ _ (first_fine _ _ ok)))
mid_two p Auto s x ok e = eqb-true p.channels 2 (and_left _ _ e)

module _ (p : PcmSpec) (mode : StereoMode) (s : List ℤ) (stereo : check_stereo p mode s ≡ Fine) where
  abbrev depth : ℕ
  depth = p.bits_per_sample

  group_most : (x : List ℤ) → length (encoded_group p mode x) ≤ (16 + 64 * depth) * p.channels
  unfolding encoded_group mid_side padded_channels
  group_most x = by (takes_mid mode p.channels depth x) refl
    where
      chans : List (List ℤ)
      chans = padded_channels p.channels x

      by : (t : Bool) → takes_mid mode p.channels depth x ≡ t → length (cond t (blocks depth 1 (mid_side chans)) (blocks depth 0 chans)) ≤ (16 + 64 * depth) * p.channels
      by true e = subst (λ (n : ℕ). length (blocks depth 1 (mid_side chans)) ≤ (16 + 64 * depth) * n) (sym (mid_two p mode s x stereo e)) (blocks_most depth 1 (mid_side chans))
      by false e = subst (λ (n : ℕ). length (blocks depth 0 chans) ≤ (16 + 64 * depth) * n) (length_tab p.channels _) (blocks_most depth 0 chans)

  file_most : check_size p mode s ≡ Fine → length (encoded_file p mode s) ≤ longest p s
  unfolding encoded_file encoded_group_at check_size
  file_most fine =
      let groups = groups_of (frames_of p s) in
      let most = length_most (encoded_group_at p mode s) ((16 + 64 * depth) * p.channels) (λ g. group_most (group_in p.channels s g)) groups in
      let small = ltb-false 4294967295 (length (joined (encoded_group_at p mode s) groups)) (passed _ _ fine) in
      omega (arith, assembled_length p (frames_of p s) (encoded_group_at p mode s), most, small)

-- before the room nothing says 50, and then the file fits
pub room_unsaid : (p : PcmSpec) (mode : StereoMode) (s : List ℤ) (room : ℕ) → longest p s ≤ room → Other 50 (check_encode_into p mode s room)
unfolding check_encode_into check_encode check_encoder every
room_unsaid p mode s room enough =
    (only_other 50 _ _ (spec_says 8 _ p) refl and_says only_other 50 _ _ (samples_say p s) refl and_says late_other 50 p mode s refl)
    says_then (λ fine. let later = others_fine _ _ (others_fine _ _ fine) in
    let fits = file_most p mode s (first_fine _ _ later) (others_fine _ _ later) in
    fine_other 50 _ (pass _ OutputTooShort (le-ltb room (length (encoded_file p mode s)) (omega arith))))
