-- Samples taken from what is lent: their range, and channels apart.
use mathlib.Core.Path.{◌≡◌, refl, sym, ap, ap₂, ◌∙◌}
use mathlib.Core.Bool.{Bool, true, false, not, ◌&&◌}
use mathlib.Core.List.{List, [], ◌∷◌}
use Prim.Native.Nat.{ℕ, ◌+◌, ◌*◌, ◌^◌, ◌<◌, ◌≤◌}
use native.Mathlib.Nat.{add-mul, mul_comm}
use native.Mathlib.Omega.{arith}
use borrow.Author.Tests.{ltb-true, ltb-false, le-leb, lt-leb}
use lib.Arith.{digits_lt}
use lib.Dec.{ltb, leb}
use lib.IntN.{ℤ, pos, negsuc}
use lib.ListN.{length, get_or, take, drop}
use lib.Seq.{length-take-le, get_or-take, get_or-drop, ext_get_or}
use lib.Signed.{lt_z, le_z, mag}
use mir.Syntax.{w32}
use mir.Val.{to_z, of_z, SFits}
use mir.ValLaws.{to_z-of_z}
use Rattle.format.specs.Lists.{tab, from, every}
use Rattle.format.specs.Units.{lowest, highest, within}
use Rattle.format.specs.Encoding.{channel, padded, padded_channels}
use Rattle.format.specs.declared.units.Depth.{Depth}
use Rattle.laws.proofs.Parts.{length_from}
use Rattle.laws.proofs.Channels.{channel_length, channel_at}
use Rattle.sample.proofs.Words.{given}
use Rattle.lent_samples.specs.Lent.{frames_from}
use Rattle.laws.proofs.Each.{every_turn, every_done}

-- ---- the range
abbrev pub between : ℤ → ℤ → ℤ → Bool
between lo hi z = le_z lo z && le_z z hi

leb_ltb : (a b : ℕ) → leb b a ≡ not (ltb a b)
leb_ltb a b = by (ltb a b) refl
  where
    by : (t : Bool) → ltb a b ≡ t → leb b a ≡ not t
    by true e = lt-leb b a (ltb-true a b e)
    by false e = le-leb b a (ltb-false a b e)

pub le_z_lt_z : (a b : ℤ) → le_z b a ≡ not (lt_z a b)
le_z_lt_z (pos a) (pos b) = leb_ltb a b
le_z_lt_z (pos a) (negsuc b) = refl
le_z_lt_z (negsuc a) (pos b) = refl
le_z_lt_z (negsuc a) (negsuc b) = leb_ltb b a

module _ {x lo : ℤ} (hi : ℤ) (f : SFits w32 x) (g : SFits w32 lo) where
  lower : {t : Bool} → lt_z (to_z w32 (of_z w32 x)) (to_z w32 (of_z w32 lo)) ≡ t → le_z lo x ≡ not t
  lower e = le_z_lt_z x lo ∙ ap not (sym (ap₂ lt_z (to_z-of_z w32 x f) (to_z-of_z w32 lo g)) ∙ e)

  pub below_lowest : lt_z (to_z w32 (of_z w32 x)) (to_z w32 (of_z w32 lo)) ≡ true → false ≡ between lo hi x
  below_lowest e = rw (lower e)

  pub up_to_highest : SFits w32 hi → lt_z (to_z w32 (of_z w32 x)) (to_z w32 (of_z w32 lo)) ≡ false → le_z (to_z w32 (of_z w32 x)) (to_z w32 (of_z w32 hi)) ≡ between lo hi x
  up_to_highest h e = rw (lower e, to_z-of_z w32 x f, to_z-of_z w32 hi h)

pub within_is : (d : Depth) (s : List ℤ) {lo hi : ℤ} → lo ≡ lowest d → hi ≡ highest d → every (between lo hi) s ≡ every (within d) s
unfolding within
within_is d s p q = ap₂ (λ (lo hi : ℤ). every (between lo hi) s) p q

pub within_turn : (lo hi : ℤ) (s : List ℤ) (i : ℕ) {t : Bool} (ok : Bool) {x : ℤ} {o : Bool} → i < length s → mag x < 2 ^ 31 → x ≡ get_or s i (pos 0)
    → o ≡ between lo hi (to_z w32 (of_z w32 x)) → (ok && every (between lo hi) (drop i s)) ≡ t → ((ok && o) && every (between lo hi) (drop (i + 1) s)) ≡ t
within_turn lo hi s i ok h f e p q = every_turn (between lo hi) s i (pos 0) ok h (p ∙ ap (between lo hi) (given f e)) q

pub within_done : (d : Depth) (s : List ℤ) (i : ℕ) (ok : Bool) {lo hi : ℤ} → length s ≤ i → lo ≡ lowest d → hi ≡ highest d
    → (ok && every (between lo hi) (drop i s)) ≡ every (between lo hi) s → ok ≡ every (within d) s
within_done d s i ok {lo} {hi} h p q e = every_done (between lo hi) s i ok h e ∙ within_is d s p q

-- ---- a channel
pub frames_length : (ch first n : ℕ) (s : List ℤ) → (first + n) * ch ≤ length s → length (frames_from ch first n s) ≡ ch * n
unfolding frames_from
frames_length ch first n s room = length_from (first * ch) (n * ch) s (omega (arith, add-mul first n ch)) ∙ mul_comm n ch

module _ (ch c first n : ℕ) (s run : List ℤ) (h : c < ch) (room : (first + n) * ch ≤ length s) where
  abbrev frames : List ℤ
  frames = frames_from ch first n s

  frames_long : length frames ≡ ch * n
  frames_long = frames_length ch first n s room

  frames_at_lem : (i : ℕ) → i < n → get_or frames (i * ch + c) (pos 0) ≡ get_or s ((first + i) * ch + c) (pos 0)
  unfolding frames_from from
  frames_at_lem i l =
      let e : first * ch + (i * ch + c) ≡ (first + i) * ch + c = omega (arith, add-mul first i ch) in
      get_or-take (n * ch) (drop (first * ch) s) (i * ch + c) (pos 0) (digits_lt l h) ∙ get_or-drop (first * ch) s (i * ch + c) (pos 0) ∙ ap (λ (k : ℕ). get_or s k (pos 0)) e

  pub channel_taken : n ≤ length run → ((j : ℕ) → j < n → get_or run j (pos 0) ≡ get_or s ((first + j) * ch + c) (pos 0)) → take n run ≡ channel ch frames c
  channel_taken l each =
      let some : 1 ≤ ch = omega arith in
      let long : length (take n run) ≡ n = length-take-le n run l in
      ext_get_or (pos 0) (take n run) (channel ch frames c) (long ∙ sym (channel_length ch n some frames frames_long c))
      (λ i p. let q : i < n = omega (arith, long) in
      get_or-take n run i (pos 0) q ∙ each i q ∙ sym (channel_at ch n some frames frames_long c i q ∙ frames_at_lem i q))

-- two channels, padded
pub split_taken : (s : List ℤ) {l r : List ℤ} {a : List (List ℤ)} → l ≡ channel 2 s 0 → r ≡ channel 2 s 1 → a ≡ padded l ∷ padded r ∷ [] → a ≡ padded_channels 2 s
unfolding padded_channels tab
split_taken s p q e = e ∙ ap₂ (λ (x y : List ℤ). padded x ∷ padded y ∷ []) p q
