-- What building and checking answer, from what the checks tell.
use mathlib.Core.List.{List}
use Prim.Native.Nat.{ℕ, ◌+◌}
use Rattle.std.specs.Prelude.{Some, None}
use mathlib.Core.Path.{◌≡◌, refl, ap, ◌∙◌}
use mathlib.Core.Bool.{Bool, true, false, cond}
use native.Mathlib.Nat.{zero-add}
use native.Mathlib.Omega.{arith}
use lib.ListN.{length}
use lib.Seq.{take_all}
use lib.Dec.{ltb}
use borrow.Author.Tests.{le-ltb, lt-ltb, lt-leb, le-leb}
use Rattle.format.specs.Lists.{from, same}
use Rattle.format.specs.Refusals.{Fine, refuse, ◌then◌}
use Rattle.format.specs.Decoding.{is_float, check_decode}
use Rattle.format.specs.Answers.{answered, filled}
use Rattle.format.specs.Peaks.{check_peaks, summary_of, check_peaks_into, build_peaks_of, build_peaks_into, verdict, compare_peaks_of}
use Rattle.format.specs.declared.refusals.Refusal.TheVariants.{OutputTooShort}
use Rattle.format.specs.declared.answers.Outcome.TheVariants.{Wrote}
use Rattle.format.specs.declared.settings.SampleFormat.TheVariants.{Float, Pcm}
use Rattle.laws.proofs.Checks.{first_fine}
use Rattle.laws.proofs.Chain.{settled, stops_with, passes_on, room_short, room_enough}
use Rattle.laws.proofs.Marks.{same_equal, same_itself}
use Rattle.laws.proofs.Over.{over_sets}
use Rattle.peaks.specs.Passes.{found}
use Rattle.peaks.specs.declared.pass.Pass.TheVariants.{Compare}
use Rattle.peaks.proofs.Bounds.{summary_short}
use Rattle.peaks.proofs.Groups.{decode_opens, decode_fields}

pub float_is : is_float Float ≡ true
unfolding is_float
float_is = refl

pub pcm_is : is_float Pcm ≡ false
unfolding is_float
pcm_is = refl

pub ruleset checks = (settled, stops_with, passes_on, decode_opens, decode_fields, float_is, pcm_is)

-- ---- a file that they pass
pub peaks_decode : (s : List ℕ) → check_peaks s ≡ Fine → check_decode s ≡ Fine
unfolding check_peaks
peaks_decode s fine = first_fine _ _ fine

pub ruleset rooms = (peaks_decode, decode_fields, summary_short, le-ltb, lt-ltb, lt-leb, le-leb)

-- ---- building
pub build_answer : (s : List ℕ) (room : ℕ)
    → build_peaks_of s room ≡ answered (check_peaks s then refuse (ltb room (length (summary_of s))) OutputTooShort) (Wrote (length (summary_of s)))
unfolding build_peaks_of check_peaks_into
build_answer s room = refl

pub build_put : (s lent : List ℕ)
    → build_peaks_into s lent ≡ filled (check_peaks s then refuse (ltb (length lent) (length (summary_of s))) OutputTooShort) (summary_of s) lent
unfolding build_peaks_into check_peaks_into
build_put s lent = refl

pub ruleset builds = (settled, stops_with, peaks_decode, room_short, room_enough, over_sets, build_answer, build_put)

-- ---- checking: b are the bytes, m the summary
from_all : (n : ℕ) (b : List ℕ) → n ≡ length b → from 0 n b ≡ b
unfolding from
from_all n b e = take_all n b (omega arith)

-- the same would have been found to its end
found_same : (b m : List ℕ) → same b m ≡ true → found Compare 0 m b ≡ Some (length b)
found_same b m y = let e = same_equal b m y in rw (← e, from_all (length b) b refl, same_itself b, zero-add)

unlike : (b m : List ℕ) → (found Compare 0 m b ≡ Some (length b) → ⊥) → same b m ≡ false
unlike b m h = by (same b m) refl
  where
    by : (x : Bool) → same b m ≡ x → x ≡ false
    by true y = absurd (h (found_same b m y))
    by false y = refl

module _ (b m : List ℕ) where
  pub alike : (n : ℕ) → found Compare 0 m b ≡ Some n → n ≡ length b → same b m ≡ true
  alike n on e = by (same m (from 0 (length m) b)) refl on
    where
      by : (t : Bool) → same m (from 0 (length m) b) ≡ t → cond t (Some (0 + length m)) None ≡ Some n → same b m ≡ true
      by true q o =
          let l : n ≡ 0 + length m = cc in
          let whole : from 0 (length m) b ≡ b = from_all (length m) b (omega arith) in
          ap (same b) (same_equal m b (rw whole at q)) ∙ same_itself b
      by false q o = cc

  pub another_length : (n : ℕ) → found Compare 0 m b ≡ Some n → (n ≡ length b → ⊥) → same b m ≡ false
  another_length n on h = unlike b m (λ e. h (let z : n ≡ length b = cc in z))

  pub another_byte : found Compare 0 m b ≡ None → same b m ≡ false
  another_byte stop = unlike b m (λ e. let z : ◌≡◌ {A = ℕ} 0 1 = cc in omega arith)

pub compare_answer : (b s : List ℕ) → compare_peaks_of b s ≡ answered (check_peaks s) (verdict (same b (summary_of s)))
unfolding compare_peaks_of
compare_answer b s = refl

pub ruleset compares = (settled, peaks_decode, compare_answer, alike, another_length, another_byte)
