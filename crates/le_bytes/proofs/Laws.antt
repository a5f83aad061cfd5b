-- The bytes of a number, as the library reads and writes them.
use Rattle.std.proofs.Common.{◌≡◌, ℕ, ◌+◌, ◌-◌, ◌*◌, ◌/◌, ◌≤◌, List, length, get_or, refl, sym, append_assoc, arith, w16, w32}
use lib.Seq.{drop-drop}
use borrow.Rule.Slice.PartMut.{put_mid}
use Rattle.std.specs.Int.{to_le_bytes}
use Rattle.std.proofs.lemmas.List.Edits.{sets, sets-eq}
use Rattle.format.specs.Numbers.{num_at, digits, le}
use Rattle.laws.proofs.Digits.{length_le}
use Rattle.laws.proofs.Reading.{number_4, number_8}

pub number_of_8 : (i : ℕ) (s : List ℕ) → i + 8 ≤ length s
    → num_at i 8 s ≡ get_or s i 0 + 256 * get_or s (i + 1) 0 + 65536 * get_or s (i + 2) 0 + 16777216 * get_or s (i + 3) 0
    + 4294967296 * (get_or s (i + 4) 0 + 256 * get_or s (i + 5) 0 + 65536 * get_or s (i + 6) 0 + 16777216 * get_or s (i + 7) 0)
number_of_8 i s h =
    let a : i + 4 + 1 ≡ i + 5 = omega arith in
    let b : i + 4 + 2 ≡ i + 6 = omega arith in
    let c : i + 4 + 3 ≡ i + 7 = omega arith in
    omega (arith, number_8 i s (omega arith), number_4 i s (omega arith), rw (a, b, c) at (number_4 (i + 4) s (omega arith)))

-- a number's bytes, put into as many from `at` on
module _ (s : List ℕ) (at n : ℕ) where
  put_le : (k : ℕ) (ys : List ℕ) → ys ≡ le k n → at + k ≤ length s → put_mid at (at + k - at) s ys ≡ sets s at (le k n)
  put_le k ys is h =
      let e : at + k - at ≡ k = omega arith in
      rw (e, drop-drop, is, ← append_assoc) (sym (rw length_le at (sets-eq (le k n) s at (rw length_le h))))

  two : to_le_bytes w16 n ≡ le 2 n
  unfolding le digits
  two = refl

  four : to_le_bytes w32 n ≡ le 4 n
  unfolding le digits
  four =
      let p : n / 65536 ≡ n / 256 / 256 = omega arith in
      let q : n / 16777216 ≡ n / 256 / 256 / 256 = omega arith in
      rw (p, q)

  pub put_two : at + 2 ≤ length s → put_mid at (at + 2 - at) s (to_le_bytes w16 n) ≡ sets s at (le 2 n)
  put_two h = put_le 2 _ two h

  pub put_four : at + 4 ≤ length s → put_mid at (at + 4 - at) s (to_le_bytes w32 n) ≡ sets s at (le 4 n)
  put_four h = put_le 4 _ four h
