-- The values of a template's block with new samples: those that they determine, and what stays.
use Rattle.std.proofs.Common.{◌≡◌, ℕ, suc, ◌-◌, ◌*◌, ◌^◌, ◌<◌, ◌≤◌, min, List, ◌++◌, ℤ, pos, length, get_or, take, drop, sym, ◌∙◌, append-nil, refl, arith, w32, to_z, of_z}
use lib.ListN.{set, drop_of_length-le}
use lib.Seq.{length-take-le, take_all, drop-cons, set_split}
use lib.Signed.{mag}
use Rattle.format.specs.Packed.{width_of, values}
use Rattle.format.specs.Blocks.{coding_of, size_of, decoded, samples_of}
use Rattle.format.specs.Encoding.{differences}
use Rattle.format.specs.Reencoding.{new_values, values_for}
use Rattle.format.specs.declared.packed.Coding.TheVariants.{Differences, Raw}
use Rattle.laws.proofs.Lengths.{length_values, samples_512}
use Rattle.block.specs.Read.{Whole}
use Rattle.block.proofs.Samples.{samples, run_is}
use Rattle.sample.proofs.Words.{given}

module _ (xs ys : List ℤ) where
  -- the last of k + 1 elements is that of another list
  set_last : (k : ℕ) (d : ℤ) → length xs ≡ suc k → length ys ≡ suc k → set xs k (get_or ys k d) ≡ take k xs ++ drop k ys
  set_last k d l m =
      let none : drop (suc k) xs ≡ drop (suc k) ys = drop_of_length-le xs {i = suc k} (omega arith) ∙ sym (drop_of_length-le ys {i = suc k} (omega arith)) in
      rw (drop-cons ys k d (omega arith), ← none) (set_split xs k (get_or ys k d) (omega arith))

  -- nothing of a list as long stays
  none_stays : (m : ℕ) → length xs ≡ m → length ys ≡ m → take m xs ++ drop m ys ≡ xs
  none_stays m l k = rw (take_all m xs (omega arith), drop_of_length-le ys {i = m} (omega arith), append-nil)

-- a sample that a local holds
pub local_is : (z : ℤ) → mag z < 2 ^ 31 → to_z w32 (of_z w32 z) ≡ z
local_is z h = given h refl

-- ---- by the block's coding and width; the first m of xs are active
module _ (depth : ℕ) (r : List ℕ) (xs : List ℤ) (m : ℕ) (whole : Whole depth r) (long : length xs ≡ 512) where
  abbrev w : ℕ
  w = width_of (coding_of depth r)

  -- the block's own values
  abbrev old : List ℤ
  old = values w (take (size_of depth r - 16) (drop 16 r))

  active : m ≤ 512 → length (take m xs) ≡ m
  active h = length-take-le m xs (omega arith)

  full : m ≡ 512 → take m xs ++ drop m (samples_of depth r) ≡ xs
  full h = none_stays xs (samples_of depth r) m (omega arith) (samples_512 depth r whole.known ∙ sym h)

  of_width : (b k : ℕ) → coding_of depth r ≡ Differences b → m ≤ 512 → min m 511 ≡ k
      → values_for depth r (take m xs) ≡ take k (differences (take m xs ++ drop m (samples_of depth r))) ++ drop k (values b (take (64 * b) (drop 16 r)))
  unfolding values_for new_values
  of_width b k is h e = rw (is, active h, e)

  module _ (is : coding_of depth r ≡ Differences w) where
    new : (k : ℕ) → m ≤ 512 → min m 511 ≡ k → values_for depth r (take m xs) ≡ take k (differences (take m xs ++ drop m (samples_of depth r))) ++ drop k old
    new k h e = rw run_is (of_width w k is h e)

    pub differences_some : m < 512 → values_for depth r (take m xs) ≡ take m (differences (take m xs ++ drop m (samples_of depth r))) ++ drop m old
    differences_some h = new m (omega arith) (omega arith)

    pub differences_all : m ≡ 512 → length (differences xs) ≡ 512 → values_for depth r (take m xs) ≡ set (differences xs) 511 (get_or old 511 (pos 0))
    differences_all h l =
        new 511 (omega arith) (omega arith) ∙ rw (full h) (sym (set_last (differences xs) old 511 (pos 0) l (length_values w _)))

  module _ (is : coding_of depth r ≡ Raw w) where
    pub raw_some : m ≤ 512 → values_for depth r (take m xs) ≡ take m xs ++ drop m (samples_of depth r)
    unfolding values_for new_values samples_of decoded
    raw_some h = rw (is, active h)

    pub raw_all : m ≡ 512 → values_for depth r (take m xs) ≡ xs
    raw_all h = raw_some (omega arith) ∙ full h

pub ruleset differ = (samples, local_is, differences_some, differences_all)

pub ruleset value = (samples, raw_some, raw_all)
