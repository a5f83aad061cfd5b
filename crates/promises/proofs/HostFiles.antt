-- What the host's number tells: below 2 ^ 63 it is a length, so nothing was refused, and its call wrote or read so
-- much.
use Prim.Native.Nat.{ℕ, ◌*◌, ◌/◌, ◌%◌, ◌^◌, ◌≤◌, ◌<◌}
use mathlib.Core.Path.{◌≡◌, sym, ap, ◌∙◌}
use mathlib.Core.List.{List}
use native.Mathlib.Omega.{arith}
use lib.ListN.{length, take}
use borrow.Author.Tests.{eqb-true, not-false}
use Rattle.format.specs.Lists.{over}
use Rattle.format.specs.Numbers.{Below}
use Rattle.format.specs.Refusals.{Checked, Fine, ◌then◌}
use Rattle.format.specs.Answers.{answered, filled, wrote}
use Rattle.format.specs.Decoding.{check_decode, decoded_of, decoded_count, check_room, decode_of}
use Rattle.format.specs.Encoding.{encoded_file, check_encode_into, encode_of, encode_into}
use Rattle.format.specs.Reencoding.{check_reencode_into, reencoded_file, reencode_of, reencode_into}
use Rattle.format.specs.Boundary.{samples_from, sample_bytes, mode_of, check_mode, check_bytes, result_of, host_decode, host_decode_into, check_host_encode, host_encode, host_encode_into, check_host_reencode, host_reencode, host_reencode_into}
use Rattle.format.specs.Promises.{Encodes, Reencodes, HostDecodes, HostEncodes, HostReencodes}
use Rattle.format.specs.declared.settings.PcmSpec.{PcmSpec}
use Rattle.format.specs.declared.answers.Outcome.TheVariants.{Read, Wrote}
use Rattle.laws.proofs.Checks.{passed, first_fine, others_fine}
use Rattle.laws.proofs.Lengths.{decode_count}
use Rattle.laws.proofs.SampleBytes.{sample_bytes_length, bytes_back}
use Rattle.lent_samples.proofs.Laws.{length_lent}
use Rattle.promises.proofs.Outcomes.{written_front, host_decodes_to, host_fine, host_length}

whole_samples : (b : List ℕ) → check_bytes b ≡ Fine → length b % 4 ≡ 0
unfolding check_bytes
whole_samples b fine = eqb-true (length b % 4) 0 (not-false _ (passed _ _ fine))

-- a length is told where nothing was refused: then any checks k that pass answer it too, and leave the same
told_wrote : (c k : Checked) (m n : ℕ) (w lent file : List ℕ) → n < 2 ^ 63 → n ≡ result_of (answered c (Wrote m)).outcome → file ≡ filled c w lent → k ≡ Fine
    → (wrote n ≡ answered k (Wrote m)) × (file ≡ filled k w lent)
told_wrote c k m n w lent file short e p fine = (
  ap wrote (host_length c (Wrote m) n e short) ∙ ap (λ (x : Checked). answered x (Wrote m)) (sym fine),
  p ∙ ap (λ (x : Checked). filled x w lent) (host_fine c (Wrote m) n e short ∙ sym fine),
)

-- encoding wrote n bytes: so it did of the samples in b
module _ (b : List ℕ) (p : PcmSpec) (mode : ℕ) (lent : List ℕ) (n : ℕ) (file : List ℕ) (e : HostEncodes b p mode lent n file) (short : n < 2 ^ 63) where
  encode_rest : (check_bytes b then check_encode_into p (mode_of mode) (samples_from b) (length lent)) ≡ Fine
  unfolding host_encode check_host_encode
  encode_rest = others_fine (check_mode mode) _ (host_fine _ _ n e.0 short)

  pub encode_whole : length b % 4 ≡ 0
  encode_whole = whole_samples b (first_fine _ _ encode_rest)

  pub host_encoded : Encodes p (mode_of mode) (samples_from b) lent (wrote n) file
  unfolding host_encode host_encode_into encode_of encode_into
  host_encoded =
      let new = encoded_file p (mode_of mode) (samples_from b) in
      told_wrote (check_host_encode b p mode (length lent)) (check_encode_into p (mode_of mode) (samples_from b) (length lent)) (length new) n new lent file short e.0 e.1
      (others_fine (check_bytes b) _ encode_rest)

-- re-encoding did
module _ (b : List ℕ) (p : PcmSpec) (t lent : List ℕ) (n : ℕ) (file : List ℕ) (e : HostReencodes b p t lent n file) (short : n < 2 ^ 63) where
  reencode_rest : (check_bytes b then check_reencode_into p (samples_from b) t (length lent)) ≡ Fine
  unfolding host_reencode check_host_reencode
  reencode_rest = host_fine _ _ n e.0 short

  pub reencode_whole : length b % 4 ≡ 0
  reencode_whole = whole_samples b (first_fine _ _ reencode_rest)

  pub host_reencoded : Reencodes p (samples_from b) t lent (wrote n) file
  unfolding host_reencode host_reencode_into reencode_of reencode_into
  host_reencoded =
      told_wrote (check_host_reencode b p t (length lent)) (check_reencode_into p (samples_from b) t (length lent)) (length t) n (reencoded_file (samples_from b) t) lent file short e.0 e.1
      (others_fine (check_bytes b) _ reencode_rest)

-- decoding the file f read n bytes: they are those of its samples
module _ (f out after : List ℕ) (n : ℕ) (d : HostDecodes f out n after) (short : n < 2 ^ 63) where
  abbrev c : Checked
  c = check_decode f then check_room f (length out / 4)

  host_passed : c ≡ Fine
  unfolding host_decode decode_of
  host_passed = host_fine c (Read (decoded_count f)) n d.0 short

  pub host_decoded : check_decode f ≡ Fine
  host_decoded = first_fine _ _ host_passed

  pub host_count : n ≡ 4 * length (decoded_of f)
  unfolding host_decode decode_of
  host_count = host_length c (Read (decoded_count f)) n d.0 short ∙ ap (λ (k : ℕ). 4 * k) (decode_count f host_decoded)

  pub host_read : take n after ≡ sample_bytes (decoded_of f)
  unfolding host_decode_into
  host_read = written_front c n (sample_bytes (decoded_of f)) out after host_passed (host_count ∙ sym (sample_bytes_length (decoded_of f))) d.1

-- a file that decodes to the samples in b, into room for b
module _ (b : List ℕ) (whole : length b % 4 ≡ 0) where
  pub bytes_count : 4 * length (samples_from b) ≡ length b
  bytes_count = omega (arith, length_lent b)

  pub gives_bytes : (f out after : List ℕ) (r : ℕ) → Below 256 b → check_decode f ≡ Fine → decoded_of f ≡ samples_from b → length b ≤ length out → HostDecodes f out r after
      → (r ≡ length b) × (after ≡ over b out)
  gives_bytes f out after r byte fine gives room d =
      let q = host_decodes_to f (samples_from b) out after r fine gives (omega (arith, bytes_count)) d in
      (q.0 ∙ bytes_count, q.1 ∙ ap (λ (w : List ℕ). over w out) (bytes_back b byte (length b / 4) (omega arith)))
