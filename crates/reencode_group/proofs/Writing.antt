-- The new blocks of a template's group, one after another.
use Prim.Native.Nat.{ℕ, ◌+◌, ◌-◌, ◌*◌, ◌^◌, ◌≤◌, ◌<◌}
use mathlib.Core.Path.{◌≡◌, refl, sym, ap, ◌∙◌, subst}
use mathlib.Core.Bool.{Bool, true, false}
use mathlib.Core.List.{List, [], ◌++◌}
use native.Mathlib.Omega.{arith}
use native.Mathlib.Numerals.{add-one}
use lib.IntN.{ℤ}
use lib.ListN.{length, get_or, take, drop, length-drop}
use mir.Syntax.{w64}
use mir.Val.{Fits}
use Rattle.format.specs.Lists.{joined, over}
use Rattle.format.specs.Blocks.{mid_bit, size_of, from_block}
use Rattle.format.specs.Refusals.{Checked, Fine, in_order}
use Rattle.format.specs.Places.{at_channel}
use Rattle.format.specs.Encoding.{mid_side, parity}
use Rattle.format.specs.Reencoding.{reencoded_block, check_reencode_block, active_in, check_reencode_group, reencoded_group}
use Rattle.lent_samples.specs.Lent.{frames_from}
use Rattle.laws.proofs.Over.{lend_turn}
use Rattle.laws.proofs.Parts.{one_more, joined_cong}
use Rattle.laws.proofs.Checks.{first_fine, others_fine, order_fine}
use Rattle.laws.proofs.Places.{located_order}
use Rattle.laws.proofs.Templates.{Template, template_ok, new_length, two_ok, even_ok, chans_plain, chans_both}
use Rattle.group.proofs.Places.{part, part_is, Begins, begins_more}
use Rattle.reencode_group.proofs.Apart.{Apart}
use Rattle.reencode_group.proofs.Active.{parity_apart, active_plain, active_both}
use Rattle.reencode_group.proofs.Checking.{first_of, first_each}

-- the first n samples of the channels a, with the template's group bs
module _ (depth n : ℕ) (bs : List ℕ) (a : List (List ℤ)) where
  abbrev check : ℕ → Checked
  check c = first_of depth n a c (from_block depth bs c)

  abbrev B : ℕ → List ℕ
  B c = reencoded_block depth (from_block depth bs c) (take n (get_or a c []))

  -- the new blocks of the channels before c
  abbrev pub new_before : ℕ → List ℕ
  new_before c = joined B c

  -- channel c's block begins at `at`, and the new ones before it are as long
  module _ (c at : ℕ) (begins : Begins depth bs c at) (so_far : at ≡ length (new_before c)) where
    module _ (C : ℕ) (fine : in_order check C ≡ Fine) (below : c < C) where
      here : Template depth (from_block depth bs c)
      here = template_ok depth (from_block depth bs c) (take n (get_or a c [])) (order_fine check c C below fine)

      lent : part at bs ≡ from_block depth bs c
      lent = part_is at bs ∙ sym begins.left

      size : size_of depth (part at bs) ≡ length (B c)
      size = ap (size_of depth) lent ∙ sym (new_length depth (from_block depth bs c) (take n (get_or a c [])) here.head)

      fits : size_of depth (part at bs) ≤ length (part at bs)
      fits = subst (λ (r : List ℕ). size_of depth r ≤ length r) (sym lent) here.sized

      ends : at + size_of depth (part at bs) ≤ length bs
      ends = (begins_more depth bs c at _ begins fits refl).inside

      pub next_fine : check_reencode_block depth (part at bs) (take n (get_or a c [])) ≡ Fine
      next_fine = ap (λ (r : List ℕ). check_reencode_block depth r (take n (get_or a c []))) lent ∙ order_fine check c C below fine

      module _ (k : ℕ) (is : k ≡ size_of depth (part at bs)) where
        pub next_begins : Begins depth bs (c + 1) (at + k)
        next_begins = begins_more depth bs c at k begins fits is

        pub next_length : at + k ≡ length (new_before (c + 1))
        next_length = omega (arith, size, one_more B c)

      -- they are written into xs, which gives d
      module _ (xs d : List ℕ) (room : length bs ≤ length xs) (same : length d ≡ length xs) where
        pub next_starts : at ≤ length d
        next_starts = omega (arith, begins.inside)

        pub next_fits : size_of depth (part at bs) ≤ length (part at d)
        next_fits = rw (part_is at d) (omega (arith, ends, length-drop at d))

        pub next_ends : (k : ℕ) → k ≡ size_of depth (part at bs) → length xs < 2 ^ 64 → Fits w64 (at + k)
        next_ends k e h = record { fits = omega (arith, ends) }

        pub next_written : (ys : List ℕ) → d ≡ over (new_before c) xs → ys ≡ over (reencoded_block depth (part at bs) (take n (get_or a c []))) (part at d)
            → take at d ++ (ys ++ drop (length d - at) (drop at d)) ≡ over (new_before (c + 1)) xs
        unfolding joined
        next_written ys e f = rw add-one (lend_turn at (new_before c) (B c) xs d ys so_far e (rw lent at f))

-- ---- the group of n frames from `first` on

-- the first n samples of the channels a are the active ones of the samples s
pub record Actives (channels n : ℕ) (bs : List ℕ) (s : List ℤ) (a : List (List ℤ)) : Type 0 where
  pub are : (c : ℕ) → c < channels → take n (get_or a c []) ≡ get_or (active_in channels bs s) c []

module _ (depth channels : ℕ) (bs : List ℕ) (s : List ℤ) (fine : check_reencode_group depth channels bs s ≡ Fine) where
  module _ (n : ℕ) (a : List (List ℤ)) (same : Actives channels n bs s a) where
    pub order_ok : in_order (check depth n bs a) channels ≡ Fine
    unfolding check_reencode_group
    order_ok =
        located_order (check depth n bs a) at_channel channels
        (first_fine _ _ (first_each depth channels n bs a (active_in channels bs s) same.are ∙ others_fine _ _ (others_fine _ _ (others_fine _ _ fine))))

    pub group_written : (xs d : List ℕ) → d ≡ over (new_before depth n bs a channels) xs → d ≡ over (reencoded_group depth channels bs s) xs
    unfolding reencoded_group
    group_written xs d e =
        e ∙ ap (λ (w : List ℕ). over w xs)
        (joined_cong (B depth n bs a) (λ c. reencoded_block depth (from_block depth bs c) (get_or (active_in channels bs s) c [])) channels
        (λ c h. ap (reencoded_block depth (from_block depth bs c)) (same.are c h)))

-- a are the padded channels, t says whether they are taken as mid and side
module _ (depth channels first n : ℕ) (bs : List ℕ) (s : List ℤ) (fine : check_reencode_group depth channels bs (frames_from channels first n s) ≡ Fine)
    (a : List (List ℤ)) (some : 1 ≤ channels) (room : (first + n) * channels ≤ length s)
    (are : Apart channels first n s a) (t : Bool) (mid : t ≡ mid_bit bs) where
  abbrev frames : List ℤ
  frames = frames_from channels first n s

  pub as_plain : t ≡ false → Actives channels n bs frames a
  as_plain e = record {
    are = λ c h. active_plain channels first n s a some room are c h ∙ ap (λ (l : List (List ℤ)). get_or l c []) (sym (chans_plain depth channels bs frames fine (sym mid ∙ e)));
  }

  pub as_even : t ≡ true → parity a ≡ true
  as_even e =
      let m = sym mid ∙ e in
      parity_apart channels first n s a (two_ok depth channels bs frames fine m) are ∙ even_ok depth channels bs frames fine m

  pub as_both : t ≡ true → (b : List (List ℤ)) → b ≡ mid_side a → Actives channels n bs frames b
  as_both e b q = record {
    are = λ c h. ap (λ (l : List (List ℤ)). take n (get_or l c [])) q
        ∙ active_both channels first n s a some room are (two_ok depth channels bs frames fine (sym mid ∙ e)) c h
        ∙ ap (λ (l : List (List ℤ)). get_or l c []) (sym (chans_both depth channels bs frames fine (sym mid ∙ e)));
  }
