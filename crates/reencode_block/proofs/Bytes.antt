-- The new block's bytes, by what its parts' calls ensure.
use Rattle.std.proofs.Common.{◌≡◌, ℕ, zero, suc, ◌-◌, ◌<◌, ◌≤◌, List, [], ◌∷◌, ◌++◌, ℤ, pos, length, get_or, take, drop, sym, refl, ap, ◌∙◌, append_assoc, length-append, arith, w32, SFits, to_z, of_z}
use lib.Seq.{length-take-le, take-add}
use mir.ValLaws.{to_z-of_z}
use borrow.Rule.Slice.PartMut.{put_mid}
use Rattle.std.proofs.lemmas.List.Edits.{sets}
use Rattle.format.specs.Lists.{from, over}
use Rattle.format.specs.Numbers.{le, code_of}
use Rattle.format.specs.Packed.{width_of, packing}
use Rattle.format.specs.Blocks.{coding_of, size_of}
use Rattle.format.specs.Refusals.{Fine}
use Rattle.format.specs.Answers.{filled}
use Rattle.format.specs.Fit.{check_fit}
use Rattle.format.specs.Encoding.{first_value}
use Rattle.format.specs.Reencoding.{values_for, base_for, reencoded_block, check_reencode_block}
use Rattle.format.specs.declared.packed.Coding.{Coding}
use Rattle.format.specs.declared.packed.Coding.TheVariants.{Differences, Raw, Beyond}
use Rattle.laws.proofs.Parts.{length_from, meet}
use Rattle.laws.proofs.Digits.{length_le}
use Rattle.laws.proofs.Signs.{length_packing}
use Rattle.laws.proofs.Over.{lent_behind, sets_over}
use Rattle.laws.proofs.Templates.{template_ok, fit_decides, base_4}
use Rattle.block.specs.Read.{Whole}
use Rattle.block.proofs.Headers.{coded}
use Rattle.block.proofs.Samples.{run_is, size_least, run_length}

-- ---- the header: the template's 16 bytes are copied, and only differences have a base of their own

module _ (r : List ℕ) (k : Coding) (first : ℤ) (xs d : List ℕ) (copied : d ≡ over (take 16 r) xs) where
  header_parts : take 16 r ≡ take 4 r ++ (from 4 4 r ++ from 8 8 r)
  unfolding from
  header_parts = take-add 4 12 r ∙ ap (λ (l : List ℕ). take 4 r ++ l) (sym (meet 4 4 8 r))

  stays : (j : Coding) → ((w : ℕ) → j ≡ Differences w → ⊥) → base_for j r (first ∷ []) ≡ from 4 4 r
  unfolding base_for
  stays (Differences w) other = absurd (other w refl)
  stays (Raw w) other = refl
  stays Beyond other = refl

  pub other_header : ((w : ℕ) → k ≡ Differences w → ⊥) → d ≡ over (take 4 r ++ (base_for k r (first ∷ []) ++ from 8 8 r)) xs
  other_header other = copied ∙ rw (stays k other, header_parts)

  pub difference_header : 16 ≤ length r → (w : ℕ) → k ≡ Differences w → SFits w32 first → (code : ℕ) → code ≡ code_of 32 (to_z w32 (of_z w32 first)) → (after : List ℕ) → after ≡ sets d 4 (le 4 code)
      → after ≡ over (take 4 r ++ (base_for k r (first ∷ []) ++ from 8 8 r)) xs
  unfolding base_for first_value
  difference_header long w e fits code c after put =
      let same : length (from 4 4 r) ≡ length (le 4 (code_of 32 first)) = length_from 4 4 r (omega arith) ∙ sym (length_le 4 (code_of 32 first)) in
      let four : length (take 4 r) ≡ 4 = length-take-le 4 r (omega arith) in
      put ∙ rw (c, to_z-of_z w32 first fits, copied, header_parts, e) (sets_over (take 4 r) (from 4 4 r) (le 4 (code_of 32 first)) (from 8 8 r) xs 4 four same)

-- ---- the block

front_16 : (k : Coding) (r : List ℕ) (xs : List ℤ) → 16 ≤ length r → length (take 4 r ++ (base_for k r xs ++ from 8 8 r)) ≡ 16
front_16 k r xs long =
    length-append (take 4 r) (base_for k r xs ++ from 8 8 r)
    ∙ omega (arith, length-take-le 4 r (omega arith), length-append (base_for k r xs) (from 8 8 r), base_4 k r xs long, length_from 8 8 r (omega arith))

-- the base is the first of the active samples
base_first : (k : Coding) (r : List ℕ) (zs : List ℤ) (m : ℕ) → 0 < m → base_for k r (get_or zs 0 (pos 0) ∷ []) ≡ base_for k r (take m zs)
unfolding base_for first_value
base_first k r zs zero h = absurd (omega arith)
base_first (Differences b) r [] (suc m) h = refl
base_first (Differences b) r (z ∷ zs) (suc m) h = refl
base_first (Raw b) r zs (suc m) h = refl
base_first Beyond r zs (suc m) h = refl

-- what passed
module _ (depth : ℕ) (r : List ℕ) (xs : List ℤ) (fine : check_reencode_block depth r xs ≡ Fine) where
  pub passed : (check_reencode_block depth r xs ≡ check_reencode_block depth r xs) × (1 ≤ depth → depth ≤ 32 → Whole depth r)
  passed = let told = template_ok depth r xs fine in (refl, λ some most. record { some = some; most = most; header = told.head; known = told.within; run = told.sized })

  pub passed_fit : check_fit (width_of (coding_of depth r)) (values_for depth r xs) ≡ Fine
  passed_fit = sym (fit_decides depth r xs (template_ok depth r xs fine)) ∙ fine

module _ (depth : ℕ) (r : List ℕ) (zs : List ℤ) (m : ℕ) where
  abbrev c : Coding
  c = coding_of depth r

  abbrev run : List ℕ
  run = packing (width_of c) (values_for depth r (take m zs))

  abbrev n : ℕ
  n = size_of depth r - 16

  -- the values are packed behind the header
  pub block_written : (xs : List ℕ) → 0 < m → check_reencode_block depth r (take m zs) ≡ Fine → SFits w32 (get_or zs 0 (pos 0))
      → let d = over (take 4 r ++ (base_for c r (to_z w32 (of_z w32 (get_or zs 0 (pos 0))) ∷ []) ++ from 8 8 r)) xs in
      over (reencoded_block depth r (take m zs)) xs ≡ put_mid 16 n d (filled (check_fit (width_of c) (values_for depth r (take m zs))) run (take n (drop 16 d)))
  unfolding reencoded_block
  block_written xs active fine fits =
      let head = (template_ok depth r (take m zs) fine).head in
      let base = base_for c r (take m zs) in
      let front = take 4 r ++ (base ++ from 8 8 r) in
      let p : length run ≡ n = length_packing (width_of c) (values_for depth r (take m zs)) ∙ sym (run_is depth r) in
      rw (to_z-of_z w32 (get_or zs 0 (pos 0)) fits, base_first c r zs m active, passed_fit depth r (take m zs) fine)
      (sym (lent_behind front run xs (over front xs) 16 n (front_16 c r (take m zs) head) p refl ∙ rw (append_assoc (take 4 r), append_assoc base)))

pub ruleset bytes = (coded, size_least, run_is, run_length, passed, passed_fit, block_written)
