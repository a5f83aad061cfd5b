-- What a new block's header, bytes and length are, by what its parts' calls ensure.
use Rattle.std.proofs.Common.{◌≡◌, ℕ, ◌+◌, ◌-◌, ◌*◌, ◌≤◌, ◌<◌, Bool, true, false, cond, List, [], ◌∷◌, ◌++◌, ℤ, pos, length, get_or, take, drop, min, refl, sym, ap, ◌∙◌, arith, ltb, w32, SFits, to_z, of_z, lt-ltb, le-ltb, ltb-true, ltb-false}
use lib.IntN.{neg_ℤ}
use mir.ValLaws.{to_z-of_z}
use borrow.Rule.Slice.PartMut.{put_mid}
use Rattle.std.proofs.lemmas.List.Edits.{sets}
use Rattle.format.specs.Lists.{over, every}
use Rattle.format.specs.Numbers.{le, digits, code_of, holds}
use Rattle.format.specs.Packed.{packing}
use Rattle.format.specs.Blocks.{block_mark}
use Rattle.format.specs.Answers.{filled}
use Rattle.format.specs.Fit.{check_fit}
use Rattle.format.specs.Encoding.{differences, least_width, first_value, block_bytes, encoded_block}
use Rattle.laws.proofs.Signs.{minus_is, length_packing}
use Rattle.laws.proofs.Widths.{width_low, width_every}
use Rattle.laws.proofs.Misfits.{fit_fine}
use Rattle.laws.proofs.Over.{over_sets, lent_behind}
use Rattle.laws.proofs.Written.{width_in, block_size}
use Rattle.encode_block.specs.Front.{front}

-- ---- the header

module _ (base : ℤ) (bits flags : ℕ) where
  pub length_front : length (front base bits flags) ≡ 16
  unfolding front block_mark le digits
  length_front = refl

  front_puts : (xs : List ℕ) → sets xs 0 (front base bits flags) ≡ sets (sets (sets (sets (sets xs 0 (le 4 0x3E9A0C16)) 4 (le 4 (code_of 32 base))) 8 (le 2 bits)) 10 (le 2 flags)) 12 (le 4 0)
  unfolding front block_mark le digits
  front_puts xs = refl

  -- five stores, one behind the other; the base as an argument passes it
  pub header_put : (xs : List ℕ) → 16 ≤ length xs → SFits w32 base
      → over (front base bits flags) xs ≡ sets (sets (sets (sets (sets xs 0 (le 4 0x3E9A0C16)) 4 (le 4 (code_of 32 (to_z w32 (of_z w32 base))))) 8 (le 2 bits)) 10 (le 2 flags)) 12 (le 4 0)
  header_put xs room fits =
      over_sets (front base bits flags) xs (rw length_front room) ∙ rw (to_z-of_z w32 base fits) (front_puts xs)

  -- ---- the bytes

  module _ (b : ℕ) (vs : List ℤ) (all : every (holds b) vs ≡ true) where
    -- the values are packed behind the header
    pub behind : (xs : List ℕ) → SFits w32 base
        → let d = over (front (to_z w32 (of_z w32 base)) bits flags) xs in
        over (front base bits flags ++ packing b vs) xs ≡ put_mid 16 (16 + 64 * b - 16) d (filled (check_fit b vs) (packing b vs) (take (16 + 64 * b - 16) (drop 16 d)))
    behind xs fits =
        let n = 16 + 64 * b - 16 in
        let m : length (packing b vs) ≡ n = omega (arith, length_packing b vs) in
        rw (to_z-of_z w32 base fits, fit_fine b vs all) (sym (lent_behind (front base bits flags) (packing b vs) xs (over (front base bits flags) xs) 16 n length_front m refl))

pub ruleset block_put = (fit_fine, behind)

-- ---- the block

-- the first value, as a local holds it
pub base_is : (xs : List ℤ) → SFits w32 (get_or xs 0 (pos 0)) → to_z w32 (of_z w32 (get_or xs 0 (pos 0))) ≡ first_value xs
unfolding first_value
base_is [] fits = refl
base_is (x ∷ xs) fits = to_z-of_z w32 x fits

bytes_are : (base bits : ℤ) (flags : ℕ) (run : List ℕ) → block_bytes base bits flags run ≡ front base (code_of 16 bits) flags ++ run
unfolding block_bytes front block_mark le digits
bytes_are base bits flags run = refl

module _ (depth flags : ℕ) (xs : List ℤ) where
  abbrev w : ℕ
  w = least_width (differences xs)

  pub size : length (encoded_block depth flags xs) ≡ 16 + 64 * min w depth
  unfolding width_in
  size = block_size depth flags xs ∙ by (ltb w depth) refl
    where
      by : (t : Bool) → ltb w depth ≡ t → 16 + 64 * cond t w depth ≡ 16 + 64 * min w depth
      by true e = omega (arith, ltb-true w depth e)
      by false e = omega (arith, ltb-false w depth e)

  -- differences where their width is under the depth, otherwise the samples themselves
  pub narrow : w < depth → encoded_block depth flags xs ≡ front (first_value xs) w flags ++ packing w (differences xs)
  unfolding encoded_block
  narrow h = rw (lt-ltb w depth h) (bytes_are (first_value xs) (pos w) flags (packing w (differences xs)))

  pub wide : 1 ≤ depth → depth ≤ w → encoded_block depth flags xs ≡ front (first_value xs) (65536 - depth) flags ++ packing depth xs
  unfolding encoded_block
  wide l h =
      let word : code_of 16 (neg_ℤ (pos depth)) ≡ 65536 - depth = ap (code_of 16) (minus_is depth l) ∙ omega arith in
      rw (le-ltb w depth h, bytes_are, word)

pub ruleset block_is = (size, narrow, wide, base_is, width_low, width_every)
