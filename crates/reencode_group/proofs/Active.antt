-- Of a group's padded channels the first n samples are the active ones, as left and right and as mid and side; padding keeps their parity.
use Prim.Native.Nat.{ℕ, zero, suc, ◌+◌, ◌*◌, ◌≤◌, ◌<◌}
use mathlib.Core.Path.{◌≡◌, sym, ap, ap₂, ◌∙◌, subst}
use mathlib.Core.Bool.{Bool}
use mathlib.Core.List.{List, []}
use native.Mathlib.Omega.{arith}
use lib.ListN.{length, get_or, take}
use lib.Seq.{take_at}
use lib.IntN.{ℤ}
use Rattle.format.specs.Lists.{tab, pairwise, every}
use Rattle.format.specs.Encoding.{channel, unwoven, padded, padded_channels, mid, side, mid_side, equal_parity, parity}
use Rattle.lent_samples.specs.Lent.{frames_from}
use Rattle.lent_samples.proofs.Taken.{frames_length}
use Rattle.laws.proofs.Channels.{channel_length, unwoven_is}
use Rattle.laws.proofs.Halves.{take_pairwise}
use Rattle.laws.proofs.Stereo.{parity_padded}
use Rattle.reencode_group.proofs.Apart.{Apart}

-- padding keeps the parity of two channels
pub parity_apart : (channels first n : ℕ) (s : List ℤ) (a : List (List ℤ)) → channels ≡ 2 → Apart channels first n s a → parity a ≡ parity (unwoven channels (frames_from channels first n s))
unfolding parity padded_channels tab
parity_apart channels first n s a two are =
    subst (λ (k : ℕ). Apart k first n s a → parity a ≡ parity (unwoven k (frames_from k first n s))) (sym two) by are
  where
    by : Apart 2 first n s a → parity a ≡ parity (unwoven 2 (frames_from 2 first n s))
    by p = ap₂ (λ (l r : List ℤ). every (λ (b : Bool). b) (pairwise equal_parity l r)) (p 0 (omega arith)) (p 1 (omega arith)) ∙ parity_padded (frames_from 2 first n s)

take_padded : (n : ℕ) (xs : List ℤ) → length xs ≡ n → take n (padded xs) ≡ xs
unfolding padded
take_padded n xs l = take_at xs _ n l

-- a are the padded channels of the n frames from `first` on
module _ (channels first n : ℕ) (s : List ℤ) (a : List (List ℤ)) (some : 1 ≤ channels) (room : (first + n) * channels ≤ length s)
    (are : Apart channels first n s a) where
  pub active_plain : (c : ℕ) → c < channels → take n (get_or a c []) ≡ get_or (unwoven channels (frames_from channels first n s)) c []
  active_plain c h =
      let fs = frames_from channels first n s in
      let l = frames_length channels first n s room in
      ap (take n) (are c h) ∙ take_padded n (channel channels fs c) (channel_length channels n some fs l c) ∙ sym (unwoven_is channels n some fs l c h)

  module _ (two : channels ≡ 2) where
    pairs : (f : ℤ → ℤ → ℤ) → take n (pairwise f (get_or a 0 []) (get_or a 1 []))
        ≡ pairwise f (get_or (unwoven channels (frames_from channels first n s)) 0 []) (get_or (unwoven channels (frames_from channels first n s)) 1 [])
    pairs f = take_pairwise f n (get_or a 0 []) (get_or a 1 []) ∙ ap₂ (pairwise f) (active_plain 0 (omega arith)) (active_plain 1 (omega arith))

    pub active_both : (c : ℕ) → c < channels → take n (get_or (mid_side a) c []) ≡ get_or (mid_side (unwoven channels (frames_from channels first n s))) c []
    unfolding mid_side
    active_both zero h = pairs mid
    active_both (suc zero) h = pairs side
    active_both (suc (suc c)) h = absurd (omega arith)
