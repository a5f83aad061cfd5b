-- One or two channels of frames, taken apart and padded.
use Prim.Native.Nat.{ℕ, zero, suc, ◌*◌, ◌<◌, ◌≤◌}
use mathlib.Core.Path.{◌≡◌, sym, ap, ◌∙◌, subst}
use mathlib.Core.List.{List, [], ◌∷◌}
use native.Mathlib.Omega.{arith}
use native.Mathlib.Nat.{mul-le-mul_left}
use lib.ListN.{get_or}
use lib.IntN.{ℤ}
use Rattle.format.specs.Encoding.{channel, padded, padded_channels}
use Rattle.lent_samples.specs.Lent.{frames_from}
use Rattle.laws.proofs.Parts.{get_d_tab}

-- there is room for fewer channels too
pub room_for : (frames channels k room : ℕ) → k ≤ channels → frames * channels ≤ room → frames * k ≤ room
room_for frames channels k room e l = omega (arith, mul-le-mul_left frames e)

-- a are the padded channels of the n frames from `first` on
abbrev pub Apart : ℕ → ℕ → ℕ → List ℤ → List (List ℤ) → Type 0
Apart channels first n s a = (c : ℕ) → c < channels → get_or a c [] ≡ padded (channel channels (frames_from channels first n s) c)

module _ (channels first n : ℕ) (s : List ℤ) where
  pub apart_two : (a : List (List ℤ)) → channels ≡ 2 → a ≡ padded_channels 2 (frames_from 2 first n s) → Apart channels first n s a
  unfolding padded_channels
  apart_two a two e =
      subst (λ (k : ℕ). Apart k first n s a) (sym two)
      (λ c h. ap (λ (x : List (List ℤ)). get_or x c []) e ∙ get_d_tab 2 (λ c. padded (channel 2 (frames_from 2 first n s) c)) c [] h)

  pub apart_one : (l : List ℤ) → channels ≡ 1 → l ≡ padded (channel 1 (frames_from 1 first n s) 0) → Apart channels first n s (l ∷ l ∷ [])
  apart_one l one e = subst (λ (k : ℕ). Apart k first n s (l ∷ l ∷ [])) (sym one) by
    where
      by : Apart 1 first n s (l ∷ l ∷ [])
      by zero h = e
      by (suc c) h = absurd (omega arith)
