-- Which questions read or build, and which write, by their numbers in the list.
use Rattle.std.proofs.Common.{◌≡◌, ℕ, Bool, true, false, cond, eqb, refl, eqb-true}
use mathlib.Core.Bool.{◌||◌}
use Rattle.replay_list.specs.declared.kinds.Kind.{Kind}
use Rattle.replay_list.specs.Kinds.{kind_of}
use Rattle.replay.specs.Places.{is_read, is_written}

-- a kind of number k, or another one where the number is not k
module _ (test : Kind → Bool) (of : ℕ → Bool) where
  step : (n k : ℕ) (x y : Kind) → test x ≡ of k → (eqb n k ≡ false → test y ≡ of n) → test (cond (eqb n k) x y) ≡ of n
  step n k x y e f = by (eqb n k) refl
    where
      by : (t : Bool) → eqb n k ≡ t → test (cond t x y) ≡ of n
      by true h = rw (eqb-true n k h) e
      by false h = f h

-- decoding, 17, and building a summary, 22
abbrev pub reads : ℕ → Bool
reads n = eqb n 17 || eqb n 22

-- encoding, 19, and re-encoding, 20
abbrev pub writes : ℕ → Bool
writes n = eqb n 19 || eqb n 20

none : (n a b : ℕ) → eqb n a ≡ false → eqb n b ≡ false → false ≡ (eqb n a || eqb n b)
none n a b e f = rw (e, f)

pub read_by_number : (n : ℕ) → is_read (kind_of n) ≡ reads n
read_by_number n = search (step is_read reads, none) depth 40

pub written_by_number : (n : ℕ) → is_written (kind_of n) ≡ writes n
written_by_number n = search (step is_written writes, none) depth 40
