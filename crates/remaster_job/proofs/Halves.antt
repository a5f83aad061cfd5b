-- Half of a sample by its 32 bits, its parity, and samples halved one by one.
use Rattle.std.proofs.Common.{◌≡◌, ℕ, suc, ◌+◌, ◌-◌, ◌*◌, ◌/◌, ◌%◌, ◌^◌, ◌<◌, ◌≤◌, Bool, true, false, cond, eqb, ltb, List, ◌++◌, map, length, get_or, take, drop, set, to_z-of_z, ℤ, pos, negsuc, nat_abs, sym, refl, ap, ◌∙◌, ap₂, zero-add, add-one, arith, w32, SFits, to_z, of_z, ltb-false, ltb-true}
use lib.ListN.{length-map, get_or-map}
use lib.Seq.{paste, paste-suc}
use lib.IntN.{sub_ℕ, ◌+ℤ◌, ◌*ℤ◌}
use Rattle.std.specs.Int.Signed.{shr_z}
use Rattle.std.proofs.lemmas.Int.{ints}
use Rattle.std.proofs.lemmas.Nat.{and_mask}
use lib.Bits.{bit_and}
use Rattle.format.specs.Encoding.{equal_parity}
use Rattle.sample.specs.Raised.{raised}
use Rattle.remaster_job.specs.Halving.{halved}

-- ---- as the code has it: a quarter, rounded down, twice, and the lowest bit
lowered : (v : ℕ) (z : ℤ) → z +ℤ pos (2 ^ 30) ≡ pos v → z ≡ sub_ℕ v (2 ^ 30)
lowered v z e = by (ltb v (2 ^ 30)) refl
  where
    by : (t : Bool) → ltb v (2 ^ 30) ≡ t → z ≡ cond t (negsuc (2 ^ 30 - suc v)) (pos (v - 2 ^ 30))
    by true t = let less : v < 2 ^ 30 = ltb-true v (2 ^ 30) t in omega (arith, ints)
    by false t = let more : 2 ^ 30 ≤ v = ltb-false v (2 ^ 30) t in omega (arith, ints)

half_by : (x : ℤ) → SFits w32 x → shr_z x 4 *ℤ pos 2 +ℤ pos (of_z w32 x % 2) ≡ halved x
unfolding halved
half_by (pos n) f = lowered (raised (pos n) / 4 * 2 + raised (pos n) % 2) _ (omega (arith, ints, f.sfits))
half_by (negsuc n) f = lowered (raised (negsuc n) / 4 * 2 + raised (negsuc n) % 2) _ (omega (arith, ints, f.sfits))

held : (x : ℤ) → SFits w32 x → to_z w32 (of_z w32 (to_z w32 (of_z w32 (to_z w32 (of_z w32 (shr_z x 4)) *ℤ pos 2)) +ℤ to_z w32 (of_z w32 x % 2)))
    ≡ shr_z x 4 *ℤ pos 2 +ℤ pos (of_z w32 x % 2)
held (pos n) f = omega (arith, ints, f.sfits)
held (negsuc n) f = omega (arith, ints, f.sfits)

pub half_is : (x : ℤ) → SFits w32 x
    → to_z w32 (of_z w32 (to_z w32 (of_z w32 (to_z w32 (of_z w32 (shr_z (to_z w32 (of_z w32 x)) 4)) *ℤ pos 2)) +ℤ to_z w32 (bit_and (of_z w32 x) 1)))
    ≡ halved x
half_is x f = rw (to_z-of_z f, and_mask (of_z w32 x) 1) (held x f ∙ half_by x f)

-- ---- it is half: x ≤ 2 · halved x + 2 and 2 · halved x ≤ x + 1, here with 2^32 more on each side
raised_lowered : (v : ℕ) → raised (sub_ℕ v (2 ^ 30)) ≡ v + 2 ^ 30
raised_lowered v = by (ltb v (2 ^ 30)) refl
  where
    by : (t : Bool) → ltb v (2 ^ 30) ≡ t → raised (cond t (negsuc (2 ^ 30 - suc v)) (pos (v - 2 ^ 30))) ≡ v + 2 ^ 30
    by true t = let less : v < 2 ^ 30 = ltb-true v (2 ^ 30) t in omega arith
    by false t = let more : 2 ^ 30 ≤ v = ltb-false v (2 ^ 30) t in omega arith

pub half_of : (x : ℤ) → (raised x + 2 ^ 31 ≤ 2 * raised (halved x) + 2) × (2 * raised (halved x) ≤ raised x + 2 ^ 31 + 1)
unfolding halved
half_of x =
    let e = raised_lowered (raised x / 4 * 2 + raised x % 2) in
    (omega (arith, e), omega (arith, e))

-- ---- the parity is kept, so frames of equal parity stay so
parity_lowered : (v : ℕ) → nat_abs (sub_ℕ v (2 ^ 30)) % 2 ≡ v % 2
parity_lowered v = by (ltb v (2 ^ 30)) refl
  where
    by : (t : Bool) → ltb v (2 ^ 30) ≡ t → nat_abs (cond t (negsuc (2 ^ 30 - suc v)) (pos (v - 2 ^ 30))) % 2 ≡ v % 2
    by true t = let less : v < 2 ^ 30 = ltb-true v (2 ^ 30) t in omega arith
    by false t = let more : 2 ^ 30 ≤ v = ltb-false v (2 ^ 30) t in omega arith

parity_raised : (x : ℤ) → SFits w32 x → raised x % 2 ≡ nat_abs x % 2
parity_raised (pos n) f = omega arith
parity_raised (negsuc n) f = omega (arith, f.sfits)

parity_kept : (x : ℤ) → SFits w32 x → nat_abs (halved x) % 2 ≡ nat_abs x % 2
unfolding halved
parity_kept x f =
    let n = raised x / 4 * 2 + raised x % 2 in
    let same : n % 2 ≡ raised x % 2 = omega arith in
    parity_lowered n ∙ same ∙ parity_raised x f

pub equal_parity_kept : (l r : ℤ) → SFits w32 l → SFits w32 r → equal_parity (halved l) (halved r) ≡ equal_parity l r
unfolding equal_parity
equal_parity_kept l r f g = ap₂ eqb (parity_kept l f) (parity_kept r g)

-- ---- one by one: so far n of `old` are in place of as many of `new`
abbrev pub so_far : List ℤ → List ℤ → ℕ → List ℤ
so_far old new n = take n (map halved old) ++ drop n new

module _ (old new : List ℤ) where
  pasted : (n : ℕ) → so_far old new n ≡ paste new 0 (map halved old) n
  pasted n = ap (λ (k : ℕ). take n (map halved old) ++ drop k new) (sym (zero-add n))

  module _ (i : ℕ) {s : List ℤ} (e : s ≡ so_far old new i) where
    pub into_turn : {z : ℤ} → i < length old → i < length new → SFits w32 (get_or old i (pos 0)) → SFits w32 z → z ≡ halved (to_z w32 (of_z w32 (get_or old i (pos 0))))
        → set s i (to_z w32 (of_z w32 z)) ≡ so_far old new (i + 1)
    into_turn {z} h k f g ez =
        let there : i < length (map halved old) = rw (length-map old halved) h in
        let y : to_z w32 (of_z w32 z) ≡ get_or (map halved old) i (halved (pos 0))
        = to_z-of_z g ∙ ez ∙ ap halved (to_z-of_z f) ∙ sym (get_or-map halved old i (pos 0)) in
        ap₂ (λ (l : List ℤ) (v : ℤ). set l i v) (e ∙ pasted i) y
        ∙ ap (λ (n : ℕ). set (paste new 0 (map halved old) i) n (get_or (map halved old) i (halved (pos 0)))) (sym (zero-add i))
        ∙ paste-suc new 0 (map halved old) i (halved (pos 0)) (omega arith) there
        ∙ sym (pasted (suc i)) ∙ ap (so_far old new) (sym (add-one i))
