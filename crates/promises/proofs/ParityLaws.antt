-- MidSide refuses 35, parity differs, exactly when some frame's two samples differ in parity, and names the group of
-- the first: frame i of group g is the file's frame 512 g + i, and no other check says 35.
use Rattle.std.specs.Prelude.{Ok, Err}
use Prim.Native.Nat.{ℕ, suc, ◌+◌, ◌*◌, ◌/◌, ◌%◌, ◌<◌}
use mathlib.Core.Path.{◌≡◌, refl, sym, ap, ap₂, ◌∙◌, subst}
use mathlib.Core.Bool.{Bool, true, false, not, ◌&&◌}
use mathlib.Core.List.{List, [], ◌∷◌}
use native.Mathlib.Omega.{arith}
use lib.ListN.{length, get_or, drop}
use lib.Seq.{get_or-take, get_or-drop}
use lib.IntN.{ℤ, pos}
use lib.Dec.{eqb}
use borrow.Author.Tests.{not-true}
use Rattle.format.specs.Lists.{from, pairwise, every}
use Rattle.format.specs.Header.{groups_of}
use Rattle.format.specs.Refusals.{Checked, Fine, No, number, nowhere, refuse, ◌then◌, in_order}
use Rattle.format.specs.Places.{at_group, in_group}
use Rattle.format.specs.Units.{active}
use Rattle.format.specs.Encoding.{equal_parity, parity, unwoven, group_in, check_encoder, check_samples, is_mid_side, check_stereo, check_size, check_encode, check_encode_into}
use Rattle.format.specs.declared.units.Frames.{Frames}
use Rattle.format.specs.declared.settings.PcmSpec.{PcmSpec}
use Rattle.format.specs.declared.settings.StereoMode.{StereoMode}
use Rattle.format.specs.declared.settings.StereoMode.TheVariants.{MidSide}
use Rattle.format.specs.declared.refusals.Refusal.{Refusal}
use Rattle.format.specs.declared.refusals.Place.{Place}
use Rattle.format.specs.declared.refusals.Refusal.TheVariants.{NotStereo, ParityDiffers, OutputTooShort}
use Rattle.laws.proofs.Tests.{never}
use Rattle.laws.proofs.Checks.{pass, passed, ◌and_then◌, first_fine, others_fine, Unsaid, unsaid, said_after_lem, said_before}
use Rattle.laws.proofs.Places.{located_at}
use Rattle.laws.proofs.Located.{refused_so, first_in, in_first}
use Rattle.laws.proofs.SampleChecks.{frames_ok, spec_unsaid, samples_unsaid}
use Rattle.laws.proofs.Halves.{even_at_lem}
use Rattle.laws.proofs.Channels.{unwoven_at, unwoven_long, group_length}

-- some index below n has p
pub record Some (p : ℕ → Bool) (n : ℕ) : Type 0 where
  pub at : ℕ
  pub below : at < n
  pub holds : p at ≡ true

-- frame i of two channels has equal parity
abbrev even_at : List ℤ → List ℤ → ℕ → Bool
even_at l r i = equal_parity (get_or l i (pos 0)) (get_or r i (pos 0))

-- where not every frame has, some frame has not
odd_at : (l r : List ℤ) → length l ≡ length r → every (λ (b : Bool). b) (pairwise equal_parity l r) ≡ false → (i : ℕ) × (i < length l) × (even_at l r i ≡ false)
unfolding every pairwise
odd_at [] r n e = never e
odd_at (x ∷ l) [] n e = absurd (omega arith)
odd_at (x ∷ l) (y ∷ r) n e = by (equal_parity x y) refl e (λ f. odd_at l r (omega arith) f)
  where
    by : (b : Bool) → equal_parity x y ≡ b → (b && every (λ (b : Bool). b) (pairwise equal_parity l r)) ≡ false
        → (every (λ (b : Bool). b) (pairwise equal_parity l r) ≡ false → (i : ℕ) × (i < length l) × (even_at l r i ≡ false))
        → (i : ℕ) × (i < length (x ∷ l)) × (even_at (x ∷ l) (y ∷ r) i ≡ false)
    by true q f h = let o = h f in (suc o.0, up o.0 (length l) o.1, o.2)
      where
        up : (a n : ℕ) → a < n → suc a < suc n
        up a n l = omega arith
    by false q f h = (0, omega arith, q)

-- the two samples of frame i of interleaved stereo samples differ in parity
abbrev pub odd_frame : List ℤ → ℕ → Bool
odd_frame s i = not (equal_parity (get_or s (i * 2) (pos 0)) (get_or s (i * 2 + 1) (pos 0)))

-- group g of stereo samples
module _ (s : List ℤ) (frames : Frames) (l : length s ≡ 2 * frames.0) (g : ℕ) where
  abbrev k : ℕ
  k = active frames g

  abbrev chans : List (List ℤ)
  chans = unwoven 2 (group_in 2 s g)

  in_group_lem : (c i : ℕ) → c < 2 → i < k → get_or (group_in 2 s g) (i * 2 + c) (pos 0) ≡ get_or s ((512 * g + i) * 2 + c) (pos 0)
  unfolding group_in from active
  in_group_lem c i q p =
      let e : 1024 * g + (i * 2 + c) ≡ (512 * g + i) * 2 + c = omega arith in
      get_or-take 1024 (drop (1024 * g) s) (i * 2 + c) (pos 0) (omega arith) ∙ get_or-drop (1024 * g) s (i * 2 + c) (pos 0) ∙ ap (λ (x : ℕ). get_or s x (pos 0)) e

  -- sample i of its channel c is a sample of the list
  sample_at : (c i : ℕ) → c < 2 → i < k → get_or (get_or chans c []) i (pos 0) ≡ get_or s ((512 * g + i) * 2 + c) (pos 0)
  sample_at c i q p = unwoven_at 2 k (omega arith) (group_in 2 s g) (group_length 2 frames s l g) c i q p ∙ in_group_lem c i q p

  long : (c : ℕ) → c < 2 → length (get_or chans c []) ≡ k
  long = unwoven_long 2 k (omega arith) (group_in 2 s g) (group_length 2 frames s l g)

  -- its frame i is the list's frame 512 g + i
  frame_is : (i : ℕ) → i < k → even_at (get_or chans 0 []) (get_or chans 1 []) i ≡ equal_parity (get_or s ((512 * g + i) * 2) (pos 0)) (get_or s ((512 * g + i) * 2 + 1) (pos 0))
  frame_is i p =
      let e : (512 * g + i) * 2 + 0 ≡ (512 * g + i) * 2 = omega arith in
      ap₂ equal_parity (sample_at 0 i (omega arith) p ∙ ap (λ (x : ℕ). get_or s x (pos 0)) e) (sample_at 1 i (omega arith) p)

  odd_in : parity chans ≡ false → (i : ℕ) × (i < k) × (odd_frame s (512 * g + i) ≡ true)
  unfolding parity
  odd_in e =
      let o = odd_at (get_or chans 0 []) (get_or chans 1 []) (long 0 (omega arith) ∙ sym (long 1 (omega arith))) e in
      let p : o.0 < k = subst (λ (x : ℕ). o.0 < x) (long 0 (omega arith)) o.1 in
      (o.0, p, ap not (sym (frame_is o.0 p) ∙ o.2))

  odd_so : (i : ℕ) → i < k → odd_frame s (512 * g + i) ≡ true → parity chans ≡ false
  unfolding parity
  odd_so i p o = by (parity chans) refl
    where
      by : (b : Bool) → parity chans ≡ b → b ≡ false
      by false e = refl
      by true e = sym (even_at_lem (get_or chans 0 []) (get_or chans 1 []) i (omega (arith, long 0 (omega arith))) (omega (arith, long 1 (omega arith))) e) ∙ frame_is i p ∙ not-true _ o

-- g is the group of the first frame of s whose two samples differ in parity
pub record FirstOdd (s : List ℤ) (g : ℕ) : Type 0 where
  pub at : ℕ
  pub below : at < length s / 2
  pub differs : odd_frame s at ≡ true
  pub in_group : at / 512 ≡ g
  pub before : (i : ℕ) → i < 512 * g → odd_frame s i ≡ false

-- that frame is one whose samples differ
pub odd_some_lem : (s : List ℤ) (g : ℕ) → FirstOdd s g → Some (odd_frame s) (length s / 2)
odd_some_lem s g f = record { at = f.at; below = f.below; holds = f.differs }

-- ---- MidSide of stereo samples
module _ (p : PcmSpec) (s : List ℤ) (two : p.channels ≡ 2) (l : length s ≡ 2 * (length s / 2)) where
  abbrev frames : Frames
  frames = record { 0 = length s / 2 }

  -- some frame of group g differs
  abbrev odd : ℕ → Bool
  odd g = not (parity (unwoven 2 (group_in 2 s g)))

  abbrev check : ℕ → Checked
  check g = refuse (odd g) ParityDiffers

  stereo_is : check_stereo p MidSide s ≡ in_order (λ g. in_group g (check g)) (groups_of frames)
  unfolding check_stereo is_mid_side refuse ◌then◌
  stereo_is =
      ap (λ (n : ℕ). refuse (not (eqb n 2)) NotStereo then in_order (λ g. in_group g (refuse (not (parity (unwoven n (group_in n s g)))) ParityDiffers)) (groups_of (record { 0 = length s / n }))) two

  -- frame i differs: so does its group
  group_odd : (i : ℕ) → i < length s / 2 → odd_frame s i ≡ true → odd (i / 512) ≡ true
  unfolding active
  group_odd i b o =
      let e : 512 * (i / 512) + i % 512 ≡ i = omega arith in
      ap not (odd_so s frames l (i / 512) (i % 512) (omega arith) (ap (odd_frame s) e ∙ o))

  not_both : {A : Type 0} (b : Bool) → b ≡ true → b ≡ false → A
  not_both b t f = never (sym t ∙ f)

  even_else : (b : Bool) → (b ≡ true → ⊥) → b ≡ false
  even_else true h = absurd (h refl)
  even_else false h = refl

  -- where it refuses, it names the group of the first frame whose samples differ in parity
  pub refuses_when : (x : Refusal) (at : Place) → check_stereo p MidSide s ≡ No x at → (at ≡ record { group = at.group; channel = 0 }) × FirstOdd s at.group
  unfolding groups_of active
  refuses_when x at e =
      let f = first_in check at_group (groups_of frames) x at (sym stereo_is ∙ e) in
      let g = f.index in
      let q = f.below in
      let this = refused_so (odd g) ParityDiffers x f.from f.refuses in
      let there : at ≡ record { group = g; channel = 0 } = f.moved ∙ ap (at_group g) this.2 in
      let i = odd_in s frames l g (not-true _ this.0) in
      let m = i.1 in
      let first : FirstOdd s g =
      record {
        at = 512 * g + i.0;
        below = omega arith;
        differs = i.2;
        in_group = omega arith;
        before = λ j b. even_else (odd_frame s j)
            (λ o. not_both (odd (j / 512)) (group_odd j (omega arith) o) (passed _ _ (f.before (j / 512) (omega arith))));
      } in
      subst (λ (y : Place). (y ≡ record { group = y.group; channel = 0 }) × FirstOdd s y.group) (sym there) (refl, first)

  -- where g is that group, it refuses 35 and names it
  pub when_refuses : (g : ℕ) → FirstOdd s g → check_stereo p MidSide s ≡ No ParityDiffers (record { group = g; channel = 0 })
  unfolding groups_of active refuse
  when_refuses g o =
      let b = o.below in
      let i = o.in_group in
      let this : odd g ≡ true = subst (λ (k : ℕ). odd k ≡ true) i (group_odd o.at b o.differs) in
      let passes : (k : ℕ) → k < g → check k ≡ Fine =
      λ k m. pass _ _ (even_else (odd k) (λ t. let j = odd_in s frames l k (not-true _ t) in
      let n = j.1 in
      not_both (odd_frame s (512 * k + j.0)) j.2 (o.before (512 * k + j.0) (omega arith)))) in
      stereo_is ∙ in_first check at_group (groups_of frames) ParityDiffers (record { group = g; channel = 0 })
      (record { index = g; below = omega arith; before = passes; from = nowhere; refuses = ap (λ (t : Bool). refuse t ParityDiffers) this; moved = refl })

  -- where some frame's samples differ, some group is the first
  pub some_first : Some (odd_frame s) (length s / 2) → (g : ℕ) × FirstOdd s g
  unfolding groups_of
  some_first o = by (check_stereo p MidSide s) refl
    where
      by : (k : Checked) → check_stereo p MidSide s ≡ k → (g : ℕ) × FirstOdd s g
      by (Err refused) e = (refused.place.group, (refuses_when refused.why refused.place e).1)
      by (Ok ok) e =
          let b = o.below in
          not_both (odd (o.at / 512)) (group_odd o.at b o.holds)
          (passed _ _ (located_at check at_group (o.at / 512) (groups_of frames) (omega arith) (sym stereo_is ∙ e)))

-- ---- so does encoding: its other checks do not say 35
module _ (x : Refusal) (e : number x ≡ 35) where
  other : (r : Refusal) (b : Bool) → eqb (number r) 35 ≡ false → Unsaid x (refuse b r)
  other r b differ = unsaid x r b (ap (eqb (number r)) e ∙ differ)

  encoder_unsaid : (p : PcmSpec) → Unsaid x (check_encoder p)
  unfolding check_encoder
  encoder_unsaid p = spec_unsaid x (ap (eqb 30) e) _ _ p

  given_unsaid : (p : PcmSpec) (s : List ℤ) → Unsaid x (check_samples p s)
  given_unsaid = samples_unsaid x (ap (eqb 31) e) (ap (eqb 32) e) (ap (eqb 33) e)

  size_unsaid : (p : PcmSpec) (mode : StereoMode) (s : List ℤ) → Unsaid x (check_size p mode s)
  unfolding check_size
  size_unsaid p mode s = other _ _ refl

  room_unsaid : (b : Bool) → Unsaid x (refuse b OutputTooShort)
  room_unsaid b = other _ _ refl

module _ (p : PcmSpec) (s : List ℤ) (two : p.channels ≡ 2) (room : ℕ) where
  -- 30 to 33
  abbrev pub earlier : Checked
  earlier = check_encoder p then check_samples p s

  abbrev pub odd_some : Type 0
  odd_some = Some (odd_frame s) (length s / 2)

  whole : check_samples p s ≡ Fine → length s ≡ 2 * (length s / 2)
  whole ok = subst (λ (c : ℕ). length s ≡ c * (length s / c)) two (frames_ok p s ok)

  pub parity_so : (x : Refusal) (at : Place) → number x ≡ 35 → check_encode_into p MidSide s room ≡ No x at
      → (earlier ≡ Fine) × (at ≡ record { group = at.group; channel = 0 }) × FirstOdd s at.group
  unfolding check_encode_into check_encode
  parity_so x at e refused =
      let a = said_before x at _ _ (room_unsaid x e _) refused in
      let b = said_after_lem x at _ _ (encoder_unsaid x e p) a in
      let c = said_after_lem x at _ _ (given_unsaid x e p s) b.1 in
      let d = said_before x at _ _ (size_unsaid x e p MidSide s) c.1 in
      let f = refuses_when p s two (whole c.0) x at d in
      (b.0 and_then c.0, f.0, f.1)

  pub so_parity : (g : ℕ) → earlier ≡ Fine → FirstOdd s g → check_encode_into p MidSide s room ≡ No ParityDiffers (record { group = g; channel = 0 })
  unfolding check_encode_into check_encode ◌then◌
  so_parity g e o =
      let a : check_encoder p ≡ Fine = first_fine (check_encoder p) (check_samples p s) e in
      let b : check_samples p s ≡ Fine = others_fine (check_encoder p) (check_samples p s) e in
      let c : check_stereo p MidSide s ≡ No ParityDiffers (record { group = g; channel = 0 }) = when_refuses p s two (whole b) g o in
      rw (a, b, c) refl

  -- by its number alone, of whichever group
  pub parity_some : (x : Refusal) (at : Place) → number x ≡ 35 → check_encode_into p MidSide s room ≡ No x at → (earlier ≡ Fine) × odd_some
  parity_some x at e refused = let f = parity_so x at e refused in (f.0, odd_some_lem s at.group f.2)

  pub some_parity : earlier ≡ Fine → odd_some → (at : Place) × (check_encode_into p MidSide s room ≡ No ParityDiffers at)
  some_parity e o =
      let f = some_first p s two (whole (others_fine (check_encoder p) (check_samples p s) e)) o in
      (record { group = f.0; channel = 0 }, so_parity f.0 e f.1)
