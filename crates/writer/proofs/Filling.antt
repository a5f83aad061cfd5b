-- What the lent output holds: the table and the groups so far.
use Prim.Native.Nat.{ℕ, ◌+◌, ◌-◌, ◌*◌, ◌≤◌, ◌<◌}
use mathlib.Core.Path.{◌≡◌, refl, sym, ap, ◌∙◌}
use mathlib.Core.List.{List, ◌++◌}
use native.Mathlib.Omega.{arith}
use native.Mathlib.Numerals.{add-one}
use lib.ListN.{length, take, drop}
use lib.Seq.{sets, length-sets}
use Rattle.format.specs.Lists.{joined, over}
use Rattle.format.specs.Numbers.{le}
use Rattle.format.specs.Encoding.{table_of}
use Rattle.laws.proofs.Over.{sets_join, sets_swap, lent_sets}
use Rattle.laws.proofs.Written.{entries_length}
use Rattle.laws.proofs.Parts.{one_more, length_mono}

-- the table's first k entries
abbrev pub entries : (ℕ → List ℕ) → ℕ → List ℕ
entries P k = joined (λ g. le 4 (length (joined P g))) k

-- of n groups the first g, from the data offset on, and the first k entries, put into s
unfoldable pub laid : (ℕ → List ℕ) → List ℕ → ℕ → ℕ → ℕ → List ℕ
laid P s n g k = sets (sets s (120 + 4 * (n + 1)) (joined P g)) 120 (entries P k)

module _ (P : ℕ → List ℕ) (s : List ℕ) (n : ℕ) where
  pub none_laid : laid P s n 0 0 ≡ s
  unfolding laid joined
  none_laid = refl

  module _ (g : ℕ) where
    -- one more entry
    pub entry_laid : (i : ℕ) → i ≡ 120 + 4 * g → sets (laid P s n g g) i (le 4 (length (joined P g))) ≡ laid P s n g (g + 1)
    unfolding laid joined
    entry_laid i put =
        let e : i ≡ 120 + length (entries P g) = omega (arith, entries_length P g) in
        ap (λ (k : ℕ). sets (laid P s n g g) k (le 4 (length (joined P g)))) e
        ∙ sets_join (entries P g) (le 4 (length (joined P g))) (sets s (120 + 4 * (n + 1)) (joined P g)) 120
        ∙ ap (λ (k : ℕ). sets (sets s (120 + 4 * (n + 1)) (joined P g)) 120 (entries P k)) (sym (add-one g))

    -- nothing is longer, and there is room for one more group
    pub laid_room : (k : ℕ) → g < n → (length (laid P s n g k) ≡ length s) × (length (joined P g) + length (P g) ≤ length (joined P n))
    unfolding laid
    laid_room k l = (
      length-sets (sets s (120 + 4 * (n + 1)) (joined P g)) 120 (entries P k) ∙ length-sets s (120 + 4 * (n + 1)) (joined P g),
      omega (arith, one_more P g, length_mono P (g + 1) n (omega arith)),
    )

    -- which is put into the part from k on
    module _ (k : ℕ) (here : k ≡ 120 + 4 * (n + 1) + length (joined P g)) (below : g < n) where
      abbrev d : List ℕ
      d = laid P s n g (g + 1)

      pub group_laid : (ys : List ℕ) → k + length (P g) ≤ length d → ys ≡ over (P g) (take (length d - k) (drop k d))
          → take k d ++ (ys ++ drop (length d - k) (drop k d)) ≡ laid P s n (g + 1) (g + 1)
      unfolding laid joined
      group_laid ys room put =
          let start = 120 + 4 * (n + 1) in
          let h : 120 + length (entries P (g + 1)) ≤ k = omega (arith, entries_length P (g + 1)) in
          lent_sets k (P g) d ys room put
          ∙ sets_swap (P g) (entries P (g + 1)) (sets s start (joined P g)) 120 k h
          ∙ ap (λ (l : List ℕ). sets l 120 (entries P (g + 1)))
          (ap (λ (k : ℕ). sets (sets s start (joined P g)) k (P g)) here ∙ sets_join (joined P g) (P g) s start ∙ ap (λ (k : ℕ). sets s start (joined P k)) (sym (add-one g)))

    -- the table and the data of all groups are one run
    pub all_laid : g ≤ n → n ≤ g → laid P s n g (g + 1) ≡ sets s 120 (table_of P n ++ joined P n)
    unfolding laid table_of
    all_laid most least =
        let e : g ≡ n = omega arith in
        let start = 120 + 4 * (n + 1) in
        let h : start ≡ 120 + length (entries P (n + 1)) = omega (arith, entries_length P (n + 1)) in
        rw e (sym (sets_swap (joined P n) (entries P (n + 1)) s 120 start (omega arith))) ∙ ap (λ (k : ℕ). sets (sets s 120 (entries P (n + 1))) k (joined P n)) h
        ∙ sets_join (entries P (n + 1)) (joined P n) s 120
