-- 9. THE IMPOSTORS of document 01: no program with their behaviour meets what is promised.
use Prim.Native.Nat.{ℕ, ◌+◌, ◌*◌, ◌^◌, ◌<◌}
use mathlib.Core.Path.{◌≡◌, refl, sym, ap, ◌∙◌}
use mathlib.Core.Bool.{Bool, true, false, ◌&&◌}
use mathlib.Core.List.{List, [], ◌∷◌}
use native.Mathlib.Omega.{arith}
use lib.ListN.{length, get_or, take, drop, replicate}
use lib.IntN.{ℤ, pos, nat_abs}
use lib.Dec.{ltb, eqb}
use borrow.Author.Tests.{ltb-true, eq-eqb}
use Rattle.format.specs.Lists.{every}
use Rattle.format.specs.Numbers.{Below, holds}
use Rattle.format.specs.Header.{fields_of, entry}
use Rattle.format.specs.Answers.{answered_by, refused_by, read, wrote}
use Rattle.format.specs.Decoding.{decode_of, decode_into, decoded_of}
use Rattle.format.specs.Encoding.{encoded_file, encode_of, encode_into}
use Rattle.format.specs.Reencoding.{reencode_of, reencode_into}
use Rattle.format.specs.Promises.{Decodes, Encodes, Reencodes}
use Rattle.format.specs.declared.refusals.Refusal.{Refusal}
use Rattle.format.specs.declared.refusals.Place.{Place}
use Rattle.format.specs.declared.settings.PcmSpec.{PcmSpec}
use Rattle.format.specs.declared.settings.StereoMode.{StereoMode}
use Rattle.format.specs.declared.settings.StereoMode.TheVariants.{Auto}
use Rattle.format.specs.declared.answers.Outcome.{Outcome}
use Rattle.format.specs.declared.answers.Outcome.TheVariants.{Read, Wrote}
use Rattle.format.specs.declared.answers.Answer.{Answer}
use Rattle.format.proofs.Made.{document_01, pcm, five}
use Rattle.laws.proofs.Tests.{never, and_left, and_right}
use Rattle.laws.proofs.Marks.{digits_by}
use Rattle.laws.proofs.Signs.{every_holds}
use Rattle.laws.proofs.Wrap.{Fit}
use Rattle.promises.proofs.BlockLaws.{fit}
use Rattle.promises.proofs.Outcomes.{is_refused}
use Rattle.promises.proofs.Files.{file_tells, new_tells}

-- ---- what can be given: bytes are bytes, samples are of 32 bits, settings of their types, and no slice has 2 ^ 63
-- bytes
abbrev pub Bytes : List ℕ → Type 0
Bytes s = Below 256 s × (length s < 2 ^ 63)

abbrev pub Words : List ℤ → Type 0
Words s = Fit s × (4 * length s < 2 ^ 63)

abbrev pub Settings : PcmSpec → Type 0
Settings p = (p.channels < 2 ^ 16) × (p.bits_per_sample < 2 ^ 16) × (p.sample_rate < 2 ^ 32)

-- Q of each call
abbrev pub EachDecoding : (List ℕ → List ℤ → Type 0) → Type 0
EachDecoding Q = (s : List ℕ) (lent : List ℤ) → Bytes s → Words lent → Q s lent

abbrev pub EachEncoding : (PcmSpec → StereoMode → List ℤ → List ℕ → Type 0) → Type 0
EachEncoding Q = (p : PcmSpec) (mode : StereoMode) (s : List ℤ) (lent : List ℕ) → Settings p → Words s → Bytes lent → Q p mode s lent

abbrev pub EachReencoding : (PcmSpec → List ℤ → List ℕ → List ℕ → Type 0) → Type 0
EachReencoding Q = (p : PcmSpec) (s : List ℤ) (t lent : List ℕ) → Settings p → Words s → Bytes t → Bytes lent → Q p s t lent

-- ---- a program: what it answers and what it leaves in what is lent; it meets its promise in each call
pub record Decoder : Type 0 where
  pub says : List ℕ → List ℤ → Answer
  pub leaves : List ℕ → List ℤ → List ℤ
  pub meets : EachDecoding (λ s lent. Decodes s lent (says s lent) (leaves s lent))

pub record Encoder : Type 0 where
  pub says : PcmSpec → StereoMode → List ℤ → List ℕ → Answer
  pub leaves : PcmSpec → StereoMode → List ℤ → List ℕ → List ℕ
  pub meets : EachEncoding (λ p mode s lent. Encodes p mode s lent (says p mode s lent) (leaves p mode s lent))

pub record Reencoder : Type 0 where
  pub says : PcmSpec → List ℤ → List ℕ → List ℕ → Answer
  pub leaves : PcmSpec → List ℤ → List ℕ → List ℕ → List ℕ
  pub meets : EachReencoding (λ p s t lent. Reencodes p s t lent (says p s t lent) (leaves p s t lent))

abbrev pub Refuses : Answer → Type 0
Refuses r = (x : Refusal) × (at : Place) × (r ≡ refused_by x at)

-- where the first group ends, in the samples of the file s and in the file t itself
abbrev pub first_samples : List ℕ → ℕ
first_samples s = 512 * (fields_of s).channels

abbrev pub first_bytes : List ℕ → ℕ
first_bytes t = (fields_of t).start + entry t (fields_of t) 1

-- ---- none of them does what the impostors do
pub record Fall : Type 0 where
  -- refuses everything
  pub refusing_decoder : (d : Decoder) → EachDecoding (λ s lent. Refuses (d.says s lent)) → ⊥
  pub refusing_encoder : (e : Encoder) → EachEncoding (λ p mode s lent. Refuses (e.says p mode s lent)) → ⊥
  pub refusing_reencoder : (e : Reencoder) → EachReencoding (λ p s t lent. Refuses (e.says p s t lent)) → ⊥
  -- writes a file that the settings and the number of samples fix
  pub fixed_encoder : (e : Encoder) (fixed : PcmSpec → StereoMode → ℕ → List ℕ)
      → EachEncoding (λ p mode s lent. (n : ℕ) → e.says p mode s lent ≡ wrote n → take n (e.leaves p mode s lent) ≡ fixed p mode (length s)) → ⊥
  -- or they and the template, as by giving it back
  pub fixed_reencoder : (e : Reencoder) (fixed : PcmSpec → ℕ → List ℕ → List ℕ)
      → EachReencoding (λ p s t lent. (n : ℕ) → e.says p s t lent ≡ wrote n → take n (e.leaves p s t lent) ≡ fixed p (length s) t) → ⊥
  -- leaves the buffer untouched
  pub idle_decoder : (d : Decoder) → EachDecoding (λ s lent. d.leaves s lent ≡ lent) → ⊥
  pub idle_encoder : (e : Encoder) → EachEncoding (λ p mode s lent. e.leaves p mode s lent ≡ lent) → ⊥
  pub idle_reencoder : (e : Reencoder) → EachReencoding (λ p s t lent. e.leaves p s t lent ≡ lent) → ⊥
  -- treats only the first group, and leaves what lies after it
  pub first_decoder : (d : Decoder) → EachDecoding (λ s lent. drop (first_samples s) (d.leaves s lent) ≡ drop (first_samples s) lent) → ⊥
  pub first_encoder : (e : Encoder) → EachEncoding (λ p mode s lent. let end = first_bytes (encoded_file p mode s) in drop end (e.leaves p mode s lent) ≡ drop end lent) → ⊥
  pub first_reencoder : (e : Reencoder) → EachReencoding (λ p s t lent. drop (first_bytes t) (e.leaves p s t lent) ≡ drop (first_bytes t) lent) → ⊥

-- ---- some calls, computed

abbrev mono : PcmSpec
mono = pcm 1 16

abbrev one : ℕ → List ℤ
one x = pos x ∷ []

-- 513 frames, so two groups
abbrev many : ℕ → List ℤ
many x = replicate 513 (pos x)

abbrev two_groups_lem : List ℕ
two_groups_lem = encoded_file mono Auto (many 1)

abbrev room : List ℕ
room = replicate 420 0

-- bytes and samples, by a test
abbrev are_bytes : List ℕ → Bool
are_bytes s = every (λ x. ltb x 256) s && ltb (length s) (2 ^ 63)

abbrev are_words : List ℤ → Bool
are_words s = every (holds 32) s && ltb (4 * length s) (2 ^ 63)

by_bytes : (s : List ℕ) → are_bytes s ≡ true → Bytes s
by_bytes s e = (digits_by 256 (omega arith) s (and_left _ _ e), ltb-true (length s) (2 ^ 63) (and_right (every (λ x. ltb x 256) s) _ e))

by_words : (s : List ℤ) → are_words s ≡ true → Words s
by_words s e = (fit 32 (omega arith) s (every_holds 32 s (and_left _ _ e)), ltb-true (4 * length s) (2 ^ 63) (and_right (every (holds 32) s) _ e))

of_types : Settings mono
of_types = (omega arith, omega arith, omega arith)

record Computed : Type 0 where
  -- these can be given
  bytes_five : Bytes five
  bytes_two : Bytes two_groups_lem
  bytes_room : Bytes room
  words_5 : Words (one 5)
  words_6 : Words (one 6)
  words_7 : Words (one 7)
  many_0 : Words (many 0)
  many_1 : Words (many 1)
  many_2 : Words (many 2)
  -- and give this
  reads : decode_of five 1 ≡ read 1
  samples : decode_into five (one 7) ≡ one 5
  writes : encode_of mono Auto (one 5) 420 ≡ wrote 272
  writes_other : encode_of mono Auto (one 6) 420 ≡ wrote 272
  rewrites : reencode_of mono (one 5) five 420 ≡ wrote 272
  rewrites_other : reencode_of mono (one 6) five 420 ≡ wrote 272
  begins : get_or (encode_into mono Auto (one 5) room) 0 9 ≡ 1
  rebegins : get_or (reencode_into mono (one 5) five room) 0 9 ≡ 1
  last_sample : get_or (drop (first_samples two_groups_lem) (decode_into two_groups_lem (many 0))) 0 (pos 9) ≡ pos 1
  last_lent : get_or (drop (first_samples two_groups_lem) (many 0)) 0 (pos 9) ≡ pos 0
  second_mark : get_or (drop (first_bytes two_groups_lem) (encode_into mono Auto (many 1) room)) 0 9 ≡ 0x16
  second_again : get_or (drop (first_bytes two_groups_lem) (reencode_into mono (many 2) two_groups_lem room)) 0 9 ≡ 0x16
  second_lent : get_or (drop (first_bytes two_groups_lem) room) 0 9 ≡ 0

computed : Computed
unfolding document_01
computed =
    record {
      bytes_five = by_bytes five refl;
      bytes_two = by_bytes two_groups_lem refl;
      bytes_room = by_bytes room refl;
      words_5 = by_words (one 5) refl;
      words_6 = by_words (one 6) refl;
      words_7 = by_words (one 7) refl;
      many_0 = by_words (many 0) refl;
      many_1 = by_words (many 1) refl;
      many_2 = by_words (many 2) refl;
      reads = refl;
      samples = refl;
      writes = refl;
      writes_other = refl;
      rewrites = refl;
      rewrites_other = refl;
      begins = refl;
      rebegins = refl;
      last_sample = refl;
      last_lent = refl;
      second_mark = refl;
      second_again = refl;
      second_lent = refl;
    }

-- ---- that a call succeeds and that it refuses differ; so do these numbers
succeeds : (r : Answer) (o : Outcome) → is_refused o ≡ false → r ≡ answered_by o → Refuses r → ⊥
succeeds r o success e x = never (sym (ap (λ (a : Answer). is_refused a.outcome) x.2) ∙ ap (λ (a : Answer). is_refused a.outcome) e ∙ success)

differ : (m n : ℕ) → eqb m n ≡ false → m ≡ n → ⊥
differ m n d e = never (sym (eq-eqb m n e) ∙ d)

five_six : ◌≡◌ {A = List ℤ} (one 5) (one 6) → ⊥
five_six e = differ 5 6 refl (ap (λ (l : List ℤ). nat_abs (get_or l 0 (pos 0))) e)

-- ---- a decoder: reading the sample 5 where 7 lies, and two groups of 1 where 0 lies
module _ (d : Decoder) where
  abbrev read_five : Decodes five (one 7) (d.says five (one 7)) (d.leaves five (one 7))
  read_five = d.meets five (one 7) computed.bytes_five computed.words_7

  not_refusing : EachDecoding (λ s lent. Refuses (d.says s lent)) → ⊥
  not_refusing h = succeeds _ (Read (record { 0 = 1 })) refl (read_five.0 ∙ computed.reads) (h five (one 7) computed.bytes_five computed.words_7)

  not_idle : EachDecoding (λ s lent. d.leaves s lent ≡ lent) → ⊥
  not_idle h = differ 5 7 refl (ap (λ (l : List ℤ). nat_abs (get_or l 0 (pos 0))) (sym (read_five.1 ∙ computed.samples) ∙ h five (one 7) computed.bytes_five computed.words_7))

  not_first : EachDecoding (λ s lent. drop (first_samples s) (d.leaves s lent) ≡ drop (first_samples s) lent) → ⊥
  not_first h =
      differ 1 0 refl
      (ap nat_abs
      (sym computed.last_sample ∙ ap (λ (l : List ℤ). get_or (drop (first_samples two_groups_lem) l) 0 (pos 9)) (sym (d.meets two_groups_lem (many 0) computed.bytes_two computed.many_0).1)
      ∙ ap (λ (l : List ℤ). get_or l 0 (pos 9)) (h two_groups_lem (many 0) computed.bytes_two computed.many_0) ∙ computed.last_lent))

-- ---- an encoder: writing the sample 5, the sample 6, and two groups, where 0 lies
module _ (e : Encoder) where
  written : (s : List ℤ) → Words s → Encodes mono Auto s room (e.says mono Auto s room) (e.leaves mono Auto s room)
  written s w = e.meets mono Auto s room of_types w computed.bytes_room

  encoder_not_refusing : EachEncoding (λ p mode s lent. Refuses (e.says p mode s lent)) → ⊥
  encoder_not_refusing h = succeeds _ (Wrote 272) refl ((written (one 5) computed.words_5).0 ∙ computed.writes) (h mono Auto (one 5) room of_types computed.words_5 computed.bytes_room)

  -- each file decodes to its own samples
  encoder_not_fixed : (fixed : PcmSpec → StereoMode → ℕ → List ℕ)
      → EachEncoding (λ p mode s lent. (n : ℕ) → e.says p mode s lent ≡ wrote n → take n (e.leaves p mode s lent) ≡ fixed p mode (length s)) → ⊥
  encoder_not_fixed fixed h =
      five_six
      (sym (file_tells mono Auto (one 5) room _ 272 (sym computed.writes, (written (one 5) computed.words_5).1) (omega arith))
      ∙ ap decoded_of
      (h mono Auto (one 5) room of_types computed.words_5 computed.bytes_room 272 ((written (one 5) computed.words_5).0 ∙ computed.writes)
      ∙ sym (h mono Auto (one 6) room of_types computed.words_6 computed.bytes_room 272 ((written (one 6) computed.words_6).0 ∙ computed.writes_other)))
      ∙ file_tells mono Auto (one 6) room _ 272 (sym computed.writes_other, (written (one 6) computed.words_6).1) (omega arith))

  encoder_not_idle : EachEncoding (λ p mode s lent. e.leaves p mode s lent ≡ lent) → ⊥
  encoder_not_idle h =
      differ 1 0 refl (sym computed.begins ∙ ap (λ (l : List ℕ). get_or l 0 9) (sym (written (one 5) computed.words_5).1 ∙ h mono Auto (one 5) room of_types computed.words_5 computed.bytes_room))

  encoder_not_first : EachEncoding (λ p mode s lent. let end = first_bytes (encoded_file p mode s) in drop end (e.leaves p mode s lent) ≡ drop end lent) → ⊥
  encoder_not_first h =
      differ 0x16 0 refl
      (sym computed.second_mark ∙ ap (λ (l : List ℕ). get_or (drop (first_bytes two_groups_lem) l) 0 9) (sym (written (many 1) computed.many_1).1)
      ∙ ap (λ (l : List ℕ). get_or l 0 9) (h mono Auto (many 1) room of_types computed.many_1 computed.bytes_room) ∙ computed.second_lent)

-- ---- a re-encoder: the same with templates
module _ (e : Reencoder) where
  rewritten : (s : List ℤ) (t : List ℕ) → Words s → Bytes t → Reencodes mono s t room (e.says mono s t room) (e.leaves mono s t room)
  rewritten s t w b = e.meets mono s t room of_types w b computed.bytes_room

  reencoder_not_refusing : EachReencoding (λ p s t lent. Refuses (e.says p s t lent)) → ⊥
  reencoder_not_refusing h = succeeds _ (Wrote 272) refl ((rewritten (one 5) five computed.words_5 computed.bytes_five).0 ∙ computed.rewrites) (h mono (one 5) five room of_types computed.words_5 computed.bytes_five computed.bytes_room)

  reencoder_not_fixed : (fixed : PcmSpec → ℕ → List ℕ → List ℕ)
      → EachReencoding (λ p s t lent. (n : ℕ) → e.says p s t lent ≡ wrote n → take n (e.leaves p s t lent) ≡ fixed p (length s) t) → ⊥
  reencoder_not_fixed fixed h =
      five_six
      (sym (new_tells mono (one 5) five room _ 272 (sym computed.rewrites, (rewritten (one 5) five computed.words_5 computed.bytes_five).1))
      ∙ ap decoded_of
      (h mono (one 5) five room of_types computed.words_5 computed.bytes_five computed.bytes_room 272 ((rewritten (one 5) five computed.words_5 computed.bytes_five).0 ∙ computed.rewrites)
      ∙ sym (h mono (one 6) five room of_types computed.words_6 computed.bytes_five computed.bytes_room 272 ((rewritten (one 6) five computed.words_6 computed.bytes_five).0 ∙ computed.rewrites_other)))
      ∙ new_tells mono (one 6) five room _ 272 (sym computed.rewrites_other, (rewritten (one 6) five computed.words_6 computed.bytes_five).1))

  reencoder_not_idle : EachReencoding (λ p s t lent. e.leaves p s t lent ≡ lent) → ⊥
  reencoder_not_idle h =
      differ 1 0 refl
      (sym computed.rebegins ∙ ap (λ (l : List ℕ). get_or l 0 9) (sym (rewritten (one 5) five computed.words_5 computed.bytes_five).1 ∙ h mono (one 5) five room of_types computed.words_5 computed.bytes_five computed.bytes_room))

  reencoder_not_first : EachReencoding (λ p s t lent. drop (first_bytes t) (e.leaves p s t lent) ≡ drop (first_bytes t) lent) → ⊥
  reencoder_not_first h =
      differ 0x16 0 refl
      (sym computed.second_again ∙ ap (λ (l : List ℕ). get_or (drop (first_bytes two_groups_lem) l) 0 9) (sym (rewritten (many 2) two_groups_lem computed.many_2 computed.bytes_two).1)
      ∙ ap (λ (l : List ℕ). get_or l 0 9) (h mono (many 2) two_groups_lem room of_types computed.many_2 computed.bytes_two computed.bytes_room) ∙ computed.second_lent)

pub impostors_fall : Fall
impostors_fall =
    record {
      refusing_decoder = not_refusing;
      refusing_encoder = encoder_not_refusing;
      refusing_reencoder = reencoder_not_refusing;
      fixed_encoder = encoder_not_fixed;
      fixed_reencoder = reencoder_not_fixed;
      idle_decoder = not_idle;
      idle_encoder = encoder_not_idle;
      idle_reencoder = reencoder_not_idle;
      first_decoder = not_first;
      first_encoder = encoder_not_first;
      first_reencoder = reencoder_not_first;
    }
