-- A template's block with its own samples is the template's block: they give the base and the values that it has.
use Prim.Native.Nat.{ℕ, zero, suc, ◌+◌, ◌*◌, ◌^◌, ◌≤◌, ◌<◌, min}
use mathlib.Core.Path.{◌≡◌, refl, ap, ap₂, ◌∙◌, subst}
use mathlib.Core.Bool.{false}
use mathlib.Core.List.{List, [], ◌∷◌, ◌++◌}
use native.Mathlib.Omega.{arith}
use lib.ListN.{length, take, drop, take-append-drop, length-drop}
use lib.Seq.{length-take-le}
use lib.IntN.{ℤ}
use mir.Syntax.{w32}
use mir.Val.{SFits}
use Rattle.format.specs.Lists.{from}
use Rattle.format.specs.Numbers.{num, Below, le, num_at, code_of}
use Rattle.format.specs.Packed.{width_of, values, packing, rebuilt, is_beyond}
use Rattle.format.specs.declared.packed.Coding.{Coding}
use Rattle.format.specs.declared.packed.Coding.TheVariants.{Differences, Raw, Beyond}
use Rattle.format.specs.Blocks.{base_of, bits_of, coding_of, size_of, decoded, samples_of}
use Rattle.format.specs.Encoding.{differences, first_value}
use Rattle.format.specs.Reencoding.{new_values, values_for, base_for, reencoded_block}
use Rattle.laws.proofs.Lengths.{length_values}
use Rattle.laws.proofs.Tests.{never}
use Rattle.laws.proofs.Parts.{length_from, meet}
use Rattle.laws.proofs.Digits.{num_lt, le_num}
use Rattle.laws.proofs.Signs.{code_value, values_hold, packing_values}
use Rattle.laws.proofs.Wrap.{Fit, differences_rebuilt}
use Rattle.laws.proofs.Templates.{Template}
use Rattle.laws.proofs.Widths.{width_some, width_most}
use Rattle.promises.proofs.BlockLaws.{fit}
use Rattle.promises.proofs.NewBlocks.{value_fits, new_raw, new_differences, rebuilt_fit}
use Rattle.promises.proofs.Bytes.{below_from}

values_fit : (b : ℕ) (s : List ℕ) → 1 ≤ b → b ≤ 32 → Fit (values b s)
values_fit b s l u = fit b u (values b s) (values_hold b s l)

head_take : (n : ℕ) (base : ℤ) (vs : List ℤ) → 1 ≤ n → 1 ≤ length vs → first_value (take n (rebuilt base vs)) ≡ base
unfolding first_value rebuilt
head_take zero base vs p q = absurd (omega arith)
head_take (suc n) base [] p q = absurd (omega arith)
head_take (suc n) base (v ∷ vs) p q = refl

-- the values and the base stay
module _ (base : ℤ) (fb : SFits w32 base) (run : List ℕ) (xs : List ℤ) (some : 1 ≤ length xs) where
  pub values_kept : (k : Coding) → is_beyond k ≡ false → 1 ≤ width_of k → width_of k ≤ 32 → xs ≡ take (length xs) (decoded k base run)
      → new_values k (decoded k base run) run xs ≡ values (width_of k) (take (64 * width_of k) run)
  unfolding decoded is_beyond width_of
  values_kept (Raw b) e l u q =
      let vs = values b (take (64 * b) run) in
      new_raw b vs run xs ∙ ap (λ (ys : List ℤ). ys ++ drop (length xs) vs) q ∙ take-append-drop (length xs) vs
  values_kept (Differences b) e l u q =
      let vs = values b (take (64 * b) run) in
      let m = min (length xs) 511 in
      let v = length_values b (take (64 * b) run) in
      new_differences b (rebuilt base vs) run xs
      ∙ ap (λ (ys : List ℤ). take m (differences ys) ++ drop m vs) (ap (λ (ys : List ℤ). ys ++ drop (length xs) (rebuilt base vs)) q ∙ take-append-drop (length xs) (rebuilt base vs))
      ∙ ap (λ (ys : List ℤ). ys ++ drop m vs) (differences_rebuilt m base vs fb (values_fit b (take (64 * b) run) l u) (omega arith))
      ∙ take-append-drop m vs
  values_kept Beyond e l u q = never e

  base_kept : (k : Coding) (r : List ℕ) → xs ≡ take (length xs) (decoded k base run) → le 4 (code_of 32 base) ≡ from 4 4 r → base_for k r xs ≡ from 4 4 r
  unfolding decoded base_for
  base_kept (Raw b) r q z = refl
  base_kept (Differences b) r q z =
      let v = length_values b (take (64 * b) run) in
      ap (λ (x : ℤ). le 4 (code_of 32 x)) (ap first_value q ∙ head_take (length xs) base (values b (take (64 * b) run)) some (omega arith)) ∙ z
  base_kept Beyond r q z = refl

-- a template's block, with samples xs that it holds at its front
module _ (depth : ℕ) (low : 1 ≤ depth) (high : depth ≤ 32) (r : List ℕ) (byte : Below 256 r) (xs : List ℤ) (some : 1 ≤ length xs) (ok : Template depth r)
    (own : xs ≡ take (length xs) (samples_of depth r)) where
  abbrev c : Coding
  c = coding_of depth r

  abbrev b : ℕ
  b = width_of (coding_of depth r)

  wide : 1 ≤ b
  unfolding coding_of
  wide = width_some depth (bits_of r) low ok.within

  narrow : b ≤ 32
  unfolding coding_of
  narrow = width_most depth (bits_of r) high ok.within

  base_bytes : le 4 (code_of 32 (base_of r)) ≡ from 4 4 r
  unfolding base_of num_at
  base_bytes =
      let f : length (from 4 4 r) ≡ 4 = length_from 4 4 r (omega (arith, ok.head)) in
      let small : num 256 (from 4 4 r) < 2 ^ 32 = subst (λ (n : ℕ). num 256 (from 4 4 r) < 256 ^ n) f (num_lt 256 (from 4 4 r) (below_from r byte 4 4)) in
      ap (le 4) (code_value 32 (num 256 (from 4 4 r)) small) ∙ le_num 4 (from 4 4 r) f (below_from r byte 4 4)

  own_is : xs ≡ take (length xs) (decoded c (base_of r) (drop 16 r))
  unfolding samples_of
  own_is = own

  run_kept : packing b (values_for depth r xs) ≡ from 16 (64 * b) r
  unfolding values_for samples_of from base_of size_of
  run_kept =
      let z = ok.sized in
      let l : length (take (64 * b) (drop 16 r)) ≡ 64 * b = length-take-le (64 * b) (drop 16 r) (omega (arith, length-drop 16 r)) in
      ap (packing b) (values_kept (base_of r) (value_fits (num_at 4 4 r)) (drop 16 r) xs some c ok.within wide narrow own_is)
      ∙ packing_values b (take (64 * b) (drop 16 r)) l (below_from r byte 16 (64 * b))

  -- the new block is the template's
  pub block_kept : reencoded_block depth r xs ≡ take (size_of depth r) r
  unfolding reencoded_block size_of from base_of
  block_kept =
      ap₂ (λ (x y : List ℕ). take 4 r ++ (x ++ (from 8 8 r ++ y))) (base_kept (base_of r) (value_fits (num_at 4 4 r)) (drop 16 r) xs some c r own_is base_bytes) run_kept
      ∙ ap (λ (x : List ℕ). take 4 r ++ (from 4 4 r ++ x)) (meet 8 8 (64 * b) r)
      ∙ ap (λ (x : List ℕ). take 4 r ++ x) (meet 4 4 (8 + 64 * b) r)
      ∙ meet 0 4 (4 + (8 + 64 * b)) r
      ∙ ap (λ (n : ℕ). take n r) sum
    where
      sum : 4 + (4 + (8 + 64 * b)) ≡ 16 + 64 * b
      sum = omega arith

-- ---- a template's samples are of 32 bits
module _ (base : ℤ) (fb : SFits w32 base) (run : List ℕ) where
  decoded_fit : (k : Coding) → is_beyond k ≡ false → 1 ≤ width_of k → width_of k ≤ 32 → Fit (decoded k base run)
  unfolding decoded is_beyond width_of
  decoded_fit (Raw b) e l u = values_fit b (take (64 * b) run) l u
  decoded_fit (Differences b) e l u = rebuilt_fit base (values b (take (64 * b) run)) fb
  decoded_fit Beyond e l u = never e

pub samples_fit : (depth : ℕ) (r : List ℕ) → 1 ≤ depth → depth ≤ 32 → is_beyond (coding_of depth r) ≡ false → Fit (samples_of depth r)
unfolding samples_of base_of coding_of
samples_fit depth r l u e =
    decoded_fit (base_of r) (value_fits (num_at 4 4 r)) (drop 16 r) (coding_of depth r) e (width_some depth (bits_of r) l e) (width_most depth (bits_of r) u e)
