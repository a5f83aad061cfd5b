-- What the host is told of encoding, and finds in its bytes: 38 and 39, then what encoding answers and puts.
use Prim.Native.Nat.{ℕ, ◌%◌, ◌<◌, ◌≤◌}
use mathlib.Core.Path.{◌≡◌, refl, ap, ◌∙◌}
use mathlib.Core.List.{List}
use lib.ListN.{length}
use borrow.Author.Tests.{lt-ltb, le-ltb, ne_eqb}
use Rattle.format.specs.Refusals.{No, nowhere, refuse, ◌then◌}
use Rattle.format.specs.Encoding.{encoded_file, check_encode_into, encode_of, encode_into}
use Rattle.format.specs.Boundary.{samples_from, is_mode, mode_of, check_mode, result_of, check_host_encode, host_encode, host_encode_into}
use Rattle.format.specs.declared.refusals.Refusal.{Refusal}
use Rattle.format.specs.declared.refusals.Refusal.TheVariants.{UnknownMode, SampleBytes}
use Rattle.format.specs.declared.settings.PcmSpec.{PcmSpec}
use Rattle.format.specs.declared.settings.StereoMode.{StereoMode}
use Rattle.format.specs.declared.settings.StereoMode.TheVariants.{Auto, Direct, MidSide}
use Rattle.format.specs.declared.answers.Outcome.TheVariants.{Wrote, Refused}
use Rattle.format.specs.declared.answers.Answer.{Answer}
use Rattle.ncw.proofs.Writers.{bytes_refused, bytes_fine, refusal_told, refusal_keeps}

module _ (m : ℕ) where
  pub mode_auto : m ≡ 0 → Auto ≡ mode_of m
  unfolding mode_of
  mode_auto e = rw e

  pub mode_direct : m ≡ 1 → Direct ≡ mode_of m
  unfolding mode_of
  mode_direct e = rw e

  pub mode_both : (m ≡ 0 → ⊥) → (m ≡ 1 → ⊥) → MidSide ≡ mode_of m
  unfolding mode_of
  mode_both p q = rw (ne_eqb m 0 p, ne_eqb m 1 q)

module _ (b : List ℕ) (p : PcmSpec) (m : ℕ) where
  told_no : (room : ℕ) (r : Refusal) (x : ℕ) → check_host_encode b p m room ≡ No r nowhere → x ≡ result_of (Refused r) → x ≡ host_encode b p m room
  unfolding host_encode
  told_no room r x e t = refusal_told (check_host_encode b p m room) r nowhere e (Wrote (length (encoded_file p (mode_of m) (samples_from b)))) x t

  keeps : (out : List ℕ) (r : Refusal) → check_host_encode b p m (length out) ≡ No r nowhere → out ≡ host_encode_into b p m out
  unfolding host_encode_into
  keeps out r e = refusal_keeps (check_host_encode b p m (length out)) r nowhere e (encoded_file p (mode_of m) (samples_from b)) out

  module _ (other : 3 ≤ m) where
    mode_no : (room : ℕ) → check_host_encode b p m room ≡ No UnknownMode nowhere
    unfolding check_host_encode check_mode is_mode refuse ◌then◌
    mode_no room = rw (le-ltb m 3 other) refl

    pub told_mode : (room x : ℕ) → x ≡ result_of (Refused UnknownMode) → x ≡ host_encode b p m room
    told_mode room x t = told_no room UnknownMode x (mode_no room) t

    pub mode_keeps : (out : List ℕ) → out ≡ host_encode_into b p m out
    mode_keeps out = keeps out UnknownMode (mode_no (length out))

  module _ (known : m < 3) where
    module _ (part : length b % 4 ≡ 0 → ⊥) where
      bytes_no : (room : ℕ) → check_host_encode b p m room ≡ No SampleBytes nowhere
      unfolding check_host_encode check_mode is_mode refuse ◌then◌
      bytes_no room = rw (lt-ltb m 3 known, bytes_refused b part) refl

      pub told_bytes : (room x : ℕ) → x ≡ result_of (Refused SampleBytes) → x ≡ host_encode b p m room
      told_bytes room x t = told_no room SampleBytes x (bytes_no room) t

      pub bytes_keep : (out : List ℕ) → out ≡ host_encode_into b p m out
      bytes_keep out = keeps out SampleBytes (bytes_no (length out))

    module _ (whole : length b % 4 ≡ 0) (mode : StereoMode) (read : mode ≡ mode_of m) where
      passes : (room : ℕ) → check_host_encode b p m room ≡ check_encode_into p mode (samples_from b) room
      unfolding check_host_encode check_mode is_mode refuse ◌then◌
      passes room = rw (lt-ltb m 3 known, bytes_fine b whole, read) refl

      pub told_encode : (room : ℕ) (a : Answer) (x : ℕ) → x ≡ result_of a.outcome → a ≡ encode_of p mode (samples_from b) room → x ≡ host_encode b p m room
      unfolding encode_of host_encode
      told_encode room a x t e = t ∙ ap (λ (y : Answer). result_of y.outcome) e ∙ rw (passes room, read) refl

      pub put_file : (out after : List ℕ) → after ≡ encode_into p mode (samples_from b) out → after ≡ host_encode_into b p m out
      unfolding encode_into host_encode_into
      put_file out after e = e ∙ rw (passes (length out), read) refl
