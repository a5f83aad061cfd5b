-- What a writer's answer tells: nothing was refused, and the bytes that it says it wrote are the file.
use Prim.Native.Nat.{ℕ, ◌^◌, ◌<◌}
use mathlib.Core.Path.{◌≡◌, sym, ap, ◌∙◌}
use mathlib.Core.List.{List}
use lib.ListN.{length, take}
use lib.IntN.{ℤ}
use Rattle.format.specs.Refusals.{Checked, Fine}
use Rattle.format.specs.Lists.{over}
use Rattle.format.specs.Numbers.{Below}
use Rattle.format.specs.Answers.{filled, wrote}
use Rattle.format.specs.Decoding.{decoded_of}
use Rattle.format.specs.Encoding.{encoded_file, check_encode, check_encode_into, encode_of, encode_into}
use Rattle.format.specs.Reencoding.{check_reencode, check_reencode_into, reencoded_file, reencode_of, reencode_into}
use Rattle.format.specs.Promises.{Encodes, Reencodes}
use Rattle.format.specs.declared.settings.PcmSpec.{PcmSpec}
use Rattle.format.specs.declared.settings.StereoMode.{StereoMode}
use Rattle.laws.proofs.Checks.{first_fine}
use Rattle.laws.proofs.TemplateFiles.{same_length}
use Rattle.promises.proofs.Outcomes.{written_front, wrote_fine, wrote_length}
use Rattle.promises.proofs.RoundTrip as RoundTrip
use Rattle.promises.proofs.MidSums.{NoneLeaves}
use Rattle.promises.proofs.Refile as Refile

-- ---- encoding wrote n bytes
module _ (p : PcmSpec) (mode : StereoMode) (s : List ℤ) (lent file : List ℕ) (n : ℕ) (e : Encodes p mode s lent (wrote n) file) where
  into_fine : check_encode_into p mode s (length lent) ≡ Fine
  unfolding encode_of
  into_fine = wrote_fine (check_encode_into p mode s (length lent)) (length (encoded_file p mode s)) n e.0

  pub encode_ok : check_encode p mode s ≡ Fine
  unfolding check_encode_into
  encode_ok = first_fine _ _ into_fine

  pub file_long : n ≡ length (encoded_file p mode s)
  unfolding encode_of
  file_long = wrote_length (check_encode_into p mode s (length lent)) (length (encoded_file p mode s)) n e.0

  pub file_written : take n file ≡ encoded_file p mode s
  unfolding encode_into
  file_written = written_front (check_encode_into p mode s (length lent)) n (encoded_file p mode s) lent file into_fine file_long e.1

  -- they decode to the samples
  pub file_tells : p.sample_rate < 2 ^ 32 → decoded_of (take n file) ≡ s
  file_tells rate = ap decoded_of file_written ∙ RoundTrip.gives_back p mode s encode_ok rate

-- ---- re-encoding did
module _ (p : PcmSpec) (s : List ℤ) (t lent file : List ℕ) (n : ℕ) (e : Reencodes p s t lent (wrote n) file) where
  into_ok : check_reencode_into p s t (length lent) ≡ Fine
  unfolding reencode_of
  into_ok = wrote_fine (check_reencode_into p s t (length lent)) (length t) n e.0

  pub reencode_ok : check_reencode p s t ≡ Fine
  unfolding check_reencode_into
  reencode_ok = first_fine _ _ into_ok

  pub as_long : n ≡ length t
  unfolding reencode_of
  as_long = wrote_length (check_reencode_into p s t (length lent)) (length t) n e.0

  pub new_file : take n file ≡ reencoded_file s t
  unfolding reencode_into
  new_file = written_front (check_reencode_into p s t (length lent)) n (reencoded_file s t) lent file into_ok (as_long ∙ sym (same_length p s t reencode_ok)) e.1

  new_lies : file ≡ over (reencoded_file s t) lent
  unfolding reencode_into
  new_lies = e.1 ∙ ap (λ (c : Checked). filled c (reencoded_file s t) lent) into_ok

  -- with what the template decodes to, that is the template
  pub template_written : Below 256 t → s ≡ decoded_of t → NoneLeaves t → (n ≡ length t) × (file ≡ over t lent)
  template_written byte own none = (as_long, new_lies ∙ ap (λ (f : List ℕ). over f lent) (Refile.template_kept p s t reencode_ok byte own none))

  pub new_tells : decoded_of (take n file) ≡ s
  new_tells = ap decoded_of new_file ∙ Refile.gives_back p s t reencode_ok
