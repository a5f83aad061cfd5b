-- Samples in bytes, four to a sample: how many there are, what each is, and what a store does. And samples in words.
use mathlib.Core.Path.{◌≡◌, refl, sym, ap, ◌∙◌}
use mathlib.Core.List.{List, [], ◌∷◌, append_assoc}
use Prim.Native.Nat.{ℕ, suc, ◌+◌, ◌-◌, ◌*◌, ◌/◌, ◌^◌, ◌<◌, ◌≤◌}
use native.Mathlib.Decide.{dec_lt, ℕ_discrete}
use native.Mathlib.Omega.{arith}
use lib.IntN.{ℤ, pos}
use lib.ListN.{length, get_or, set, take, drop, length-set}
use lib.Seq.{sets, sets-eq, length-sets, length-take-le, get_or-set_same, get_or-set_other, drop-set-lt, drop-set-add, take-set-le}
use mir.Syntax.{w32}
use mir.Val.{to_z, of_z, SFits}
use mir.ValLaws.{to_z-of_z}
use Rattle.format.specs.Lists.{from}
use Rattle.format.specs.Numbers.{num, le, num_at, value, code_of}
use Rattle.format.specs.Boundary.{samples_from}
use Rattle.laws.proofs.Parts.{length_tab, get_d_tab, is_tab}
use Rattle.laws.proofs.Digits.{length_le, num_at_lem}
use Rattle.laws.proofs.Signs.{value_code}
use Rattle.lent_samples.specs.Lent.{bytes_behind}
use Rattle.lent_samples.specs.Containers.{Container, Words, lent_of, rest_of}

-- ---- a run of stores, and the parts beside it
module _ {A : Type 0} where
  set_behind : (l : List A) (j n i : ℕ) (a : A) → j + n ≤ i → from j n (set l i a) ≡ from j n l
  unfolding from
  set_behind l j n i a h =
      let e : i ≡ j + (i - j) = omega arith in
      rw (e, drop-set-add j l (i - j) a, take-set-le n (drop j l) (i - j) a (omega arith))

  pub sets_behind : (vs l : List A) (i j n : ℕ) → j + n ≤ i → from j n (sets l i vs) ≡ from j n l
  sets_behind [] l i j n h = refl
  sets_behind (a ∷ vs) l i j n h = sets_behind vs (set l i a) (suc i) j n (omega arith) ∙ set_behind l j n i a h

  pub drop_sets : (vs l : List A) (i n : ℕ) → i + length vs ≤ n → drop n (sets l i vs) ≡ drop n l
  drop_sets [] l i n h = refl
  drop_sets (a ∷ vs) l i n h = drop_sets vs (set l i a) (suc i) n (omega arith) ∙ drop-set-lt n l i a (omega arith)

-- ---- the bytes
pub length_lent : (b : List ℕ) → length (samples_from b) ≡ length b / 4
unfolding samples_from
length_lent b = length_tab _ _

lent_at : (b : List ℕ) (k : ℕ) → k < length b / 4 → get_or (samples_from b) k (pos 0) ≡ value 32 (num_at (4 * k) 4 b)
unfolding samples_from
lent_at b k h = get_d_tab _ _ k (pos 0) h

module _ (b : List ℕ) (i n : ℕ) (h : i < length b / 4) where
  abbrev b' : List ℕ
  b' = sets b (i * 4) (le 4 n)

  four : length (le 4 n) ≡ 4
  four = length_le 4 n

  number_same : n < 2 ^ 32 → num_at (4 * i) 4 b' ≡ n
  number_same f =
      let e : i * 4 ≡ 4 * i = omega arith in
      ap (num_at (4 * i) 4) (sets-eq (le 4 n) b (i * 4) (omega (arith, four)) ∙ append_assoc (take (i * 4) b) (le 4 n) (drop (i * 4 + length (le 4 n)) b))
      ∙ num_at_lem (take (i * 4) b) (drop (i * 4 + length (le 4 n)) b) (4 * i) 4 n (length-take-le (i * 4) b (omega arith) ∙ e) f

  number_other : (k : ℕ) → (k ≡ i → ⊥) → num_at (4 * k) 4 b ≡ num_at (4 * k) 4 b'
  unfolding num_at from
  number_other k ne =
      elim (dec_lt k i) [
        | yes l ↦ ap (num 256) (sym (sets_behind (le 4 n) b (i * 4) (4 * k) 4 (omega arith)))
        | no l ↦ let g : i < k = omega arith in ap (λ (s : List ℕ). num 256 (take 4 s)) (sym (drop_sets (le 4 n) b (i * 4) (4 * k) (omega (arith, four))))
      ]

  -- four bytes stored are one sample stored
  pub lent_put : n < 2 ^ 32 → samples_from b' ≡ set (samples_from b) i (value 32 n)
  unfolding samples_from
  lent_put f =
      is_tab (pos 0) (length b' / 4) (λ k. value 32 (num_at (4 * k) 4 b')) (set (samples_from b) i (value 32 n))
      (length-set (samples_from b) i (value 32 n) ∙ length_lent b ∙ ap (λ (m : ℕ). m / 4) (sym (length-sets b (i * 4) (le 4 n))))
      elements
    where
      elements : (k : ℕ) → k < length b' / 4 → get_or (set (samples_from b) i (value 32 n)) k (pos 0) ≡ value 32 (num_at (4 * k) 4 b')
      elements k l =
          elim (ℕ_discrete k i) [
            | yes e ↦ rw e (get_or-set_same (samples_from b) i (value 32 n) (pos 0) (omega (arith, length_lent b)) ∙ ap (value 32) (sym (number_same f)))
            | no e ↦ get_or-set_other (samples_from b) i k (value 32 n) (pos 0) e ∙ lent_at b k (omega (arith, length-sets b (i * 4) (le 4 n))) ∙ ap (value 32) (number_other k e)
          ]

  pub rest_put : bytes_behind b' ≡ bytes_behind b
  rest_put = rw (length-sets b (i * 4) (le 4 n)) (drop_sets (le 4 n) b (i * 4) (length b / 4 * 4) (omega (arith, four)))

-- ---- sample i by a call that reads four bytes, or stores them
module _ (b : List ℕ) (i : ℕ) (h : i < length (samples_from b)) where
  among : i < length b / 4
  among = omega (arith, length_lent b)

  pub bytes_say : {n : ℕ} {v : ℤ} → n ≡ num_at (i * 4) 4 b → v ≡ value 32 n → v ≡ get_or (samples_from b) i (pos 0)
  bytes_say p q =
      let m : i * 4 ≡ 4 * i = omega arith in
      q ∙ ap (value 32) (p ∙ ap (λ (j : ℕ). num_at j 4 b) m) ∙ sym (lent_at b i among)

  module _ (n : ℕ) {b'' : List ℕ} (stored : b'' ≡ sets b (i * 4) (le 4 n)) where
    pub bytes_put : (v : ℤ) → SFits w32 v → n < 2 ^ 32 → n ≡ code_of 32 (to_z w32 (of_z w32 v)) → samples_from b'' ≡ set (samples_from b) i v
    bytes_put v f g p =
        let s : value 32 n ≡ v = ap (value 32) (p ∙ ap (code_of 32) (to_z-of_z w32 v f)) ∙ value_code 32 (omega arith) v f.sfits in
        rw (stored, lent_put b i n among g) (ap (set (samples_from b) i) s)

    pub bytes_keep : bytes_behind b'' ≡ bytes_behind b
    bytes_keep = rw stored (rest_put b i n among)

-- ---- either container, where it is words
module _ {k : Container} (w : List ℤ) (b : List ℕ) where
  pub in_words : k ≡ Words → lent_of k w b ≡ w
  in_words e = rw e

  pub count_words : k ≡ Words → length w ≡ length (lent_of k w b)
  count_words e = rw (in_words e)

  module _ (i : ℕ) (h : i < length (lent_of k w b)) where
    pub word_in : k ≡ Words → i < length w
    word_in e = rw (in_words e) at h

    pub words_say : k ≡ Words → get_or w i (pos 0) ≡ get_or (lent_of k w b) i (pos 0)
    words_say e = rw e

    pub words_put : k ≡ Words → (v : ℤ) → lent_of k (set w i v) b ≡ set (lent_of k w b) i v
    words_put e v = rw e

    pub words_keep : k ≡ Words → (v : ℤ) → rest_of k (set w i v) b ≡ rest_of k w b
    words_keep e v = rw e
