-- What the host is told of re-encoding, and finds in its bytes: 39, then what re-encoding answers and puts.
use Prim.Native.Nat.{ℕ, ◌%◌, ◌<◌}
use mathlib.Core.Path.{◌≡◌, refl, sym, ap, ◌∙◌}
use mathlib.Core.List.{List}
use lib.ListN.{length}
use Rattle.format.specs.Numbers.{Below}
use Rattle.format.specs.Refusals.{Checked, No, nowhere, ◌then◌}
use Rattle.format.specs.Reencoding.{reencoded_file, check_reencode_into, reencode_of, reencode_into}
use Rattle.format.specs.Boundary.{samples_from, result_of, check_host_reencode, host_reencode, host_reencode_into, refusal_word, host_reencode_refusal}
use Rattle.format.specs.declared.refusals.Refusal.{Refusal}
use Rattle.format.specs.declared.refusals.Refusal.TheVariants.{SampleBytes}
use Rattle.format.specs.declared.refusals.Place.{Place}
use Rattle.format.specs.declared.settings.PcmSpec.{PcmSpec}
use Rattle.format.specs.declared.answers.Outcome.TheVariants.{Wrote, Refused}
use Rattle.format.specs.declared.answers.Answer.{Answer}
use Rattle.laws.proofs.Located.{reencode_group_few}
use Rattle.ncw.proofs.Writers.{bytes_refused, bytes_fine, refusal_told, refusal_keeps}

module _ (b : List ℕ) (p : PcmSpec) (t : List ℕ) where
  module _ (part : length b % 4 ≡ 0 → ⊥) where
    bytes_no : (room : ℕ) → check_host_reencode b p t room ≡ No SampleBytes nowhere
    unfolding check_host_reencode ◌then◌
    bytes_no room = rw (bytes_refused b part) refl

    pub told_bytes : (room x : ℕ) → x ≡ result_of (Refused SampleBytes) → x ≡ host_reencode b p t room
    unfolding host_reencode
    told_bytes room x e = refusal_told (check_host_reencode b p t room) SampleBytes nowhere (bytes_no room) (Wrote (length t)) x e

    pub word_bytes : (room : ℕ) (k : Checked) (x : ℕ) → k ≡ No SampleBytes nowhere → x ≡ refusal_word k → x ≡ host_reencode_refusal b p t room
    unfolding host_reencode_refusal
    word_bytes room k x e w = w ∙ ap refusal_word (e ∙ sym (bytes_no room))

    pub bytes_keep : (out : List ℕ) → out ≡ host_reencode_into b p t out
    unfolding host_reencode_into
    bytes_keep out = refusal_keeps (check_host_reencode b p t (length out)) SampleBytes nowhere (bytes_no (length out)) (reencoded_file (samples_from b) t) out

  module _ (whole : length b % 4 ≡ 0) where
    passes : (room : ℕ) → check_host_reencode b p t room ≡ check_reencode_into p (samples_from b) t room
    unfolding check_host_reencode ◌then◌
    passes room = rw (bytes_fine b whole) refl

    pub told_reencode : (room : ℕ) (a : Answer) (x : ℕ) → x ≡ result_of a.outcome → a ≡ reencode_of p (samples_from b) t room → x ≡ host_reencode b p t room
    unfolding reencode_of host_reencode
    told_reencode room a x e f = e ∙ ap (λ (y : Answer). result_of y.outcome) f ∙ rw (passes room) refl

    pub put_refile : (out after : List ℕ) → after ≡ reencode_into p (samples_from b) t out → after ≡ host_reencode_into b p t out
    unfolding reencode_into host_reencode_into
    put_refile out after e = e ∙ rw (passes (length out)) refl

    pub word_reencode : (room : ℕ) (k : Checked) (x : ℕ) → k ≡ check_reencode_into p (samples_from b) t room → x ≡ refusal_word k → x ≡ host_reencode_refusal b p t room
    unfolding host_reencode_refusal
    word_reencode room k x e w = w ∙ ap refusal_word (e ∙ sym (passes room))

    -- the group that is named is one of the template's
    pub group_few : Below 256 t → (room : ℕ) (k : Checked) → k ≡ check_reencode_into p (samples_from b) t room → (r : Refusal) (at : Place) → k ≡ No r at → at.group < 8388608
    group_few byte room k e r at n = reencode_group_few b p t room byte r at (passes room ∙ sym e ∙ n)
