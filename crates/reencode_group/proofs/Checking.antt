-- The checks of a template's group: of each block, for the first samples of its channel, and at each way out.
use Rattle.std.specs.Prelude.{Err}
use Prim.Native.Nat.{ℕ, ◌+◌, ◌-◌, ◌*◌, ◌≤◌, ◌<◌}
use mathlib.Core.Path.{◌≡◌, sym, ap, ◌∙◌}
use mathlib.Core.Bool.{Bool, true, false, not, ◌&&◌, cond}
use mathlib.Core.List.{List, []}
use lib.IntN.{ℤ}
use lib.ListN.{length, get_or, take, drop, length-drop}
use native.Mathlib.Omega.{arith}
use lib.Dec.{eqb, ltb}
use borrow.Author.Tests.{eqb-true, not-false}
use Rattle.std.proofs.lemmas.Bool.Decides.{nat_tests}
use Rattle.format.specs.Blocks.{mid_bit, from_block}
use Rattle.format.specs.Encoding.{unwoven, mid_side, parity}
use Rattle.format.specs.Refusals.{Checked, Fine, refuse, ◌then◌, in_order}
use Rattle.format.specs.Places.{in_channel}
use Rattle.format.specs.Reencoding.{check_reencode_block, active_in, check_reencode_group}
use Rattle.format.specs.declared.refusals.Refusal.{Refusal}
use Rattle.format.specs.declared.refusals.RefusedAt.{RefusedAt}
use Rattle.format.specs.declared.refusals.Refusal.TheVariants.{NotStereo, ParityDiffers, TemplateBytesLeft}
use Rattle.lent_samples.specs.Lent.{frames_from}
use Rattle.group.proofs.Places.{part, part_is, Begins}
use Rattle.laws.proofs.Checks.{order_cong}
use Rattle.laws.proofs.Chain.{stops_with}
use Rattle.laws.proofs.Templates.{Template, template_ok}
use Rattle.laws.proofs.Places.{located_fine}
use Rattle.reencode_group.proofs.Apart.{Apart}
use Rattle.reencode_group.proofs.Active.{parity_apart, active_plain, active_both}

-- n blocks in order, each of its channel, and then that no bytes are left; a check is of a channel and of what begins
-- with its block
abbrev pub each_in : ℕ → (ℕ → List ℕ → Checked) → List ℕ → ℕ → Checked
each_in depth check bs c = in_channel c (check c (from_block depth bs c))

abbrev pub blocks_then : ℕ → (ℕ → List ℕ → Checked) → List ℕ → ℕ → Refusal → Checked
blocks_then depth check bs n left = in_order (each_in depth check bs) n then refuse (not (eqb (length (from_block depth bs n)) 0)) left

-- the check of channel c's block, for these active samples; and for the first n of each of these channels
abbrev each_of : ℕ → List (List ℤ) → ℕ → List ℕ → Checked
each_of depth chans c r = check_reencode_block depth r (get_or chans c [])

abbrev pub first_of : ℕ → ℕ → List (List ℤ) → ℕ → List ℕ → Checked
first_of depth n a c r = check_reencode_block depth r (take n (get_or a c []))

pub first_each : (depth channels n : ℕ) (bs : List ℕ) (a chans : List (List ℤ)) → ((c : ℕ) → c < channels → take n (get_or a c []) ≡ get_or chans c [])
    → blocks_then depth (first_of depth n a) bs channels TemplateBytesLeft ≡ blocks_then depth (each_of depth chans) bs channels TemplateBytesLeft
first_each depth channels n bs a chans same =
    ap (λ (k : Checked). k then refuse (not (eqb (length (from_block depth bs channels)) 0)) TemplateBytesLeft)
    (order_cong (each_in depth (first_of depth n a) bs) (each_in depth (each_of depth chans) bs) channels
    (λ c h. ap (λ (xs : List ℤ). in_channel c (check_reencode_block depth (from_block depth bs c) xs)) (same c h)))

-- in a loop over them: k is what the check of the block at `at` says, l the same of its channel
module _ (depth n : ℕ) (a : List (List ℤ)) (bs : List ℕ) (c at : ℕ) (left : from_block depth bs c ≡ drop at bs)
    (k l : Checked) (says : k ≡ first_of depth n a c (part at bs)) (there : l ≡ in_channel c k) where
  pub channel_says : l ≡ each_in depth (first_of depth n a) bs c
  channel_says = there ∙ ap (in_channel c) (says ∙ ap (first_of depth n a c) (part_is at bs ∙ sym left))

  pub channel_template : l ≡ Fine → Template depth (part at bs)
  channel_template e = template_ok depth (part at bs) (take n (get_or a c [])) (sym says ∙ located_fine _ k (sym there ∙ e))

-- and past the loop: whether bytes are left
pub none_left : (depth : ℕ) (bs : List ℕ) (c at : ℕ) → Begins depth bs c at → (n : ℕ) → c ≡ n → (r : Refusal)
    → refuse (not (eqb at (length bs))) r ≡ refuse (not (eqb (length (from_block depth bs n)) 0)) r
none_left depth bs c at b n e r = ap (λ (t : Bool). refuse (not t) r) (same_test (λ z. omega (arith, size, b.inside)) (λ z. omega (arith, size, b.inside)))
  where
    size : length (from_block depth bs n) ≡ length bs - at
    size = ap (λ (m : ℕ). length (from_block depth bs m)) (sym e) ∙ ap length b.left ∙ length-drop at bs

    same_test : (at ≡ length bs → length (from_block depth bs n) ≡ 0) → (length (from_block depth bs n) ≡ 0 → at ≡ length bs)
        → eqb at (length bs) ≡ eqb (length (from_block depth bs n)) 0
    same_test p q = grind (arith, nat_tests, p, q)

module _ (depth channels : ℕ) (bs : List ℕ) (fs : List ℤ) where
  by_bit : (t : Bool) → ltb (length bs) 12 ≡ false → t ≡ mid_bit bs
      → (refuse (t && not (eqb channels 2)) NotStereo
      then refuse (t && not (parity (unwoven channels fs))) ParityDiffers
      then blocks_then depth (each_of depth (cond t (mid_side (unwoven channels fs)) (unwoven channels fs))) bs channels TemplateBytesLeft)
      ≡ check_reencode_group depth channels bs fs
  unfolding check_reencode_group active_in refuse ◌then◌
  by_bit t long e = rw (long, ← e)

module _ (depth channels first n : ℕ) (s : List ℤ) (bs : List ℕ) (m : Bool) (long : ltb (length bs) 12 ≡ false) (bit : m ≡ mid_bit bs) where
  abbrev fs : List ℤ
  fs = frames_from channels first n s

  pub not_stereo : m ≡ true → (k : Checked) → k ≡ refuse (not (eqb channels 2)) NotStereo → (e : RefusedAt) → k ≡ Err e → Err e ≡ check_reencode_group depth channels bs fs
  not_stereo y k says e h = stops_with k _ says _ e h ∙ by_bit depth channels bs fs true long (sym y ∙ bit)

  -- a are the padded channels
  module _ (a : List (List ℤ)) (are : Apart channels first n s a) (some : 1 ≤ channels) (room : (first + n) * channels ≤ length s) where
    pub plain_checked : (k : Checked) → m ≡ false → k ≡ blocks_then depth (first_of depth n a) bs channels TemplateBytesLeft → k ≡ check_reencode_group depth channels bs fs
    unfolding refuse ◌then◌
    plain_checked k y e =
        e ∙ first_each depth channels n bs a (unwoven channels fs) (active_plain channels first n s a some room are) ∙ by_bit depth channels bs fs false long (sym y ∙ bit)

    -- two of them, as mid and side
    module _ (y : m ≡ true) (pair : not (eqb channels 2) ≡ false) (p : Bool) (even : p ≡ parity a) where
      two : channels ≡ 2
      two = eqb-true channels 2 (not-false _ pair)

      even_is : parity (unwoven channels fs) ≡ p
      even_is = sym (even ∙ parity_apart channels first n s a two are)

      pub parity_differs : (k : Checked) → k ≡ refuse (not p) ParityDiffers → (e : RefusedAt) → k ≡ Err e → Err e ≡ check_reencode_group depth channels bs fs
      unfolding refuse ◌then◌
      parity_differs k says e h = stops_with k _ says _ e h ∙ rw (pair, even_is) at (by_bit depth channels bs fs true long (sym y ∙ bit))

      pub both_checked : (b : List (List ℤ)) (k : Checked) → not p ≡ false → b ≡ mid_side a → k ≡ blocks_then depth (first_of depth n b) bs channels TemplateBytesLeft → k ≡ check_reencode_group depth channels bs fs
      unfolding refuse ◌then◌
      both_checked b k q e f =
          f ∙ ap (λ (x : List (List ℤ)). blocks_then depth (first_of depth n x) bs channels TemplateBytesLeft) e
          ∙ first_each depth channels n bs (mid_side a) (mid_side (unwoven channels fs)) (active_both channels first n s a some room are two)
          ∙ rw (pair, even_is, q) at (by_bit depth channels bs fs true long (sym y ∙ bit))
