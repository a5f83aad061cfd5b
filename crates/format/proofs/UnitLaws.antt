-- Laws of depths and of the two counts: a depth is one of four, and frames times channels are samples.
use Rattle.std.specs.Prelude.{Option, Some, None, is_some, Result, Ok, Err}
use Rattle.std.specs.Option.{unwrap_or}
use Prim.Native.Nat.{ℕ, zero, suc, ◌-◌, ◌*◌, ◌/◌, ◌%◌, ◌^◌, ◌≤◌, ◌<◌}
use mathlib.Core.Path.{◌≡◌, refl, sym, ap, ◌∙◌}
use mathlib.Core.Bool.{Bool, true, false, not, ◌&&◌, cond}
use native.Mathlib.Nat.{mul-le-mul_left, mul-lt-mul_of_pos_right, lt_of_le_of_lt, le_of_lt}
use native.Mathlib.Omega.{arith}
use lib.IntN.{ℤ, pos, negsuc, neg_ℤ}
use lib.Signed.{mag, le_z}
use lib.Dec.{eqb, ltb, leb}
use lib.Pow.{pow_pos}
use borrow.Author.Tests.{eq-eqb, ne_eqb, lt-ltb, le-ltb, le-leb, lt-leb, ltb-true, ltb-false, eqb-true}
use Rattle.format.specs.Numbers.{holds}
use Rattle.format.specs.Units.{bits_in, bytes_in, within, depth_word, is_depth, depth_of, frames_in, framed_as, check_framed, Framing}
use Rattle.format.specs.Refusals.{refuse, ◌then◌}
use Rattle.format.specs.declared.refusals.Refusal.TheVariants.{IncompleteFrame, TooManyFrames}
use Rattle.format.specs.declared.units.Depth.{Depth}
use Rattle.format.specs.declared.units.Depth.TheVariants.{Eight, Sixteen, TwentyFour, ThirtyTwo}
use Rattle.format.specs.declared.units.Samples.{Samples}
use Rattle.format.specs.declared.units.Frames.{Frames}
use Rattle.format.specs.declared.units.Unframed.{Unframed}
use Rattle.format.specs.declared.units.Unframed.TheVariants.{Incomplete, TooMany}

-- ---- the depth word

pub depth_unknown : (b : ℕ) → (b ≡ 8 → ⊥) → (b ≡ 16 → ⊥) → (b ≡ 24 → ⊥) → (b ≡ 32 → ⊥) → None ≡ depth_word b
unfolding depth_word
depth_unknown b p q r s = rw (ne_eqb b 8 p, ne_eqb b 16 q, ne_eqb b 24 r, ne_eqb b 32 s)

-- a number is that of the depth which it names
pub depth_bits : (b : ℕ) → is_depth b ≡ true → bits_in (depth_of b) ≡ b
unfolding is_depth depth_of depth_word
depth_bits b = by (eqb b 8) (eqb b 16) (eqb b 24) (eqb b 32) (eqb-true b 8) (eqb-true b 16) (eqb-true b 24) (eqb-true b 32)
  where
    word : Bool → Bool → Bool → Bool → Option Depth
    word p q r s = cond p (Some Eight) (cond q (Some Sixteen) (cond r (Some TwentyFour) (cond s (Some ThirtyTwo) None)))

    by : (p q r s : Bool) → (p ≡ true → b ≡ 8) → (q ≡ true → b ≡ 16) → (r ≡ true → b ≡ 24) → (s ≡ true → b ≡ 32)
        → is_some (word p q r s) ≡ true → bits_in (unwrap_or (word p q r s) ThirtyTwo) ≡ b
    by true q r s e8 e16 e24 e32 k = sym (e8 refl)
    by false true r s e8 e16 e24 e32 k = sym (e16 refl)
    by false false true s e8 e16 e24 e32 k = sym (e24 refl)
    by false false false true e8 e16 e24 e32 k = sym (e32 refl)
    by false false false false e8 e16 e24 e32 k = let z : ◌≡◌ {A = ℕ} 0 1 = cc in absurd (omega arith)

-- ---- the range

leb_below : (n H : ℕ) → 0 < H → leb n (H - 1) ≡ ltb n H
leb_below n H p = by (ltb n H) refl
  where
    by : (t : Bool) → ltb n H ≡ t → leb n (H - 1) ≡ t
    by true e = le-leb n (H - 1) (omega (arith, ltb-true n H e))
    by false e = lt-leb n (H - 1) (omega (arith, ltb-false n H e))

and_true : (b : Bool) → (b && true) ≡ b
and_true true = refl
and_true false = refl

-- from − H to H − 1
range_is : (H : ℕ) (z : ℤ) → 0 < H → (le_z (neg_ℤ (pos H)) z && le_z z (pos (H - 1))) ≡ ltb (mag z) H
range_is zero z p = absurd (omega arith)
range_is (suc h) (pos n) p = leb_below n (suc h) p
range_is (suc h) (negsuc n) p = and_true (leb n h) ∙ ap (leb n) (top h) ∙ leb_below n (suc h) p
  where
    top : (h : ℕ) → h ≡ suc h - 1
    top h = omega arith

-- a depth's own range is what its bits hold
pub within_holds : (d : Depth) (z : ℤ) → within d z ≡ holds (bits_in d) z
unfolding within
within_holds d z = range_is (2 ^ (bits_in d - 1)) z (pow_pos (bits_in d - 1))

-- 512 samples at the depth: by its bytes, and by its bits
pub depth_bytes : (d : Depth) → 512 * bytes_in d ≡ 64 * bits_in d
depth_bytes Eight = refl
depth_bytes Sixteen = refl
depth_bytes TwentyFour = refl
depth_bytes ThirtyTwo = refl

-- ---- the two counts

pub product_below : (A B : ℕ) {a b : ℕ} → 0 < B → a < A → b < B → a * b < A * B
product_below A B {a} {b} p ha hb = lt_of_le_of_lt (mul-le-mul_left a (le_of_lt hb)) (mul-lt-mul_of_pos_right ha p)

module _ (s : Samples) (channels : ℕ) where
  pub no_channels : channels ≡ 0 → Err Incomplete ≡ frames_in s channels
  unfolding frames_in
  no_channels e = rw (eq-eqb channels 0 e)

  module _ (some : channels ≡ 0 → ⊥) where
    pub no_frame : (s.0 % channels ≡ 0 → ⊥) → Err Incomplete ≡ frames_in s channels
    unfolding frames_in
    no_frame r = rw (ne_eqb channels 0 some, ne_eqb (s.0 % channels) 0 r)

    module _ (even : s.0 % channels ≡ 0) where
      pub too_many : 4294967295 < s.0 / channels → Err TooMany ≡ frames_in s channels
      unfolding frames_in
      too_many h = rw (ne_eqb channels 0 some, eq-eqb (s.0 % channels) 0 even, lt-ltb 4294967295 (s.0 / channels) h)

      pub whole_frames : s.0 / channels ≤ 4294967295 → Ok (record { 0 = s.0 / channels }) ≡ frames_in s channels
      unfolding frames_in
      whole_frames h = rw (ne_eqb channels 0 some, eq-eqb (s.0 % channels) 0 even, le-ltb 4294967295 (s.0 / channels) h)

-- the frames of samples are refused by 31 and 33 as checks say it
pub frames_refused : (s : Samples) (channels : ℕ) → framed_as (frames_in s channels) ≡ check_framed s channels
unfolding frames_in check_framed refuse ◌then◌
frames_refused s channels = by (eqb channels 0) (eqb (s.0 % channels) 0) (ltb 4294967295 (s.0 / channels))
  where
    by : (none whole many : Bool)
        → framed_as (cond none (Err Incomplete) (cond whole (cond many (Err TooMany) (Ok (record { 0 = s.0 / channels }))) (Err Incomplete)))
        ≡ (refuse none IncompleteFrame then refuse (not whole) IncompleteFrame then refuse many TooManyFrames)
    by true whole many = refl
    by false true true = refl
    by false true false = refl
    by false false many = refl

-- a count of frames that is framed so, is refused so
pub framing : (s : Samples) (channels : ℕ) (f : Result Frames Unframed) → f ≡ frames_in s channels → Framing s channels f
framing s channels f e = (e, ap framed_as e ∙ frames_refused s channels)
