-- What is written is fixed in every group, in its length and in its header: a promise fixes all of it, and these are
-- its parts.
use Prim.Native.Nat.{ℕ, ◌+◌, ◌*◌, ◌<◌, min}
use mathlib.Core.Path.{◌≡◌, sym, ap, ◌∙◌}
use mathlib.Core.List.{List, [], ◌++◌}
use native.Mathlib.Omega.{arith}
use lib.ListN.{length, take, drop}
use lib.IntN.{ℤ}
use Rattle.format.specs.Refusals.{Checked}
use Rattle.format.specs.Lists.{joined, from, over}
use Rattle.format.specs.Numbers.{Below}
use Rattle.format.specs.Header.{fields_of, groups_of, group_bytes}
use Rattle.format.specs.Answers.{answered_by, filled, read, wrote}
use Rattle.format.specs.Opening.{format_of, check_open, header_for, open_of}
use Rattle.format.specs.Units.{active}
use Rattle.format.specs.Decoding.{check_group, check_decode, decoded_of, decode_into}
use Rattle.format.specs.Walking.{step_samples}
use Rattle.format.specs.FewFrames.{frames_at}
use Rattle.format.specs.Encoding.{group_in, encoded_group_at, encoded_file, frames_of}
use Rattle.format.specs.Reencoding.{reencoded_group}
use Rattle.format.specs.Peaks.{peak_at, summary_of, pair_count, pair_number, pair_samples, from_pair, pair_of}
use Rattle.format.specs.Promises.{Opens, Decodes, Steps, ReadsFrames, BuildsPeaks, ReadsPeak, ReadsPeaks, Encodes, Reencodes}
use Rattle.format.specs.Places.{at_group}
use Rattle.format.specs.declared.units.Frames.{Frames}
use Rattle.format.specs.declared.settings.PcmSpec.{PcmSpec}
use Rattle.format.specs.declared.settings.StereoMode.{StereoMode}
use Rattle.format.specs.declared.settings.SampleFormat.TheVariants.{Pcm}
use Rattle.format.specs.declared.answers.Fields.{Fields}
use Rattle.format.specs.declared.answers.Outcome.TheVariants.{Opened}
use Rattle.format.specs.declared.answers.Answer.{Answer}
use Rattle.laws.proofs.Parts.{part_at}
use Rattle.laws.proofs.Checks.{first_fine, others_fine}
use Rattle.laws.proofs.Places.{located_at}
use Rattle.laws.proofs.Opened.{opened_fields, some_channels}
use Rattle.laws.proofs.Lengths.{group_writes, active_sum}
use Rattle.laws.proofs.Channels.{group_starts}
use Rattle.laws.proofs.Written.{sum, offset_of, blocks_in, coded_at, file_size_lem}
use Rattle.promises.proofs.Outcomes.{read_passed, read_fine, read_count}
use Rattle.promises.proofs.FileLaws.{fields_for}
use Rattle.promises.proofs.RoundTrip as RoundTrip
use Rattle.promises.proofs.Refile as Refile
use Rattle.promises.proofs.WalkLaws.{steps_joined, step_count_lem, step_leaves}
use Rattle.promises.proofs.FewFramesLaws.{range_count, range_left}
use Rattle.promises.proofs.PeaksLaws.{built_fine, built_long, built_left, file_pair, pair_count_lem, pair_left, pairs_count, pairs_left_at}
use Rattle.promises.proofs.Files.{encode_ok, file_long, file_written, reencode_ok, as_long, new_file}
use Rattle.promises.proofs.Demands.{Rate32}

-- ---- every group
pub record EveryGroup : Type 0 where
  -- the samples of group g lie where its frames do
  pub decoded : (s : List ℕ) (lent after : List ℤ) (n : ℕ) → Decodes s lent (read n) after
      → let h = fields_of s in (g : ℕ) → g < groups_of h.frames → from (512 * h.channels * g) (h.channels * active h.frames g) after ≡ step_samples s g
  -- a step leaves them at the front, and says how many they are
  pub stepped : (s : List ℕ) (g : ℕ) (lent after : List ℤ) (n : ℕ) → Steps s g lent (read n) after → take n after ≡ step_samples s g
  -- a few frames lie at the front, each from its own group
  pub ranged : (s : List ℕ) (first count : Frames) (lent after : List ℤ) (n : ℕ) → ReadsFrames s first count lent (read n) after → take n after ≡ frames_at s first count
  -- the summary has for group g and channel c the pair of its active samples
  pub summarized : (s lent after : List ℕ) (n : ℕ) → Below 256 s → BuildsPeaks s lent (wrote n) after
      → let h = fields_of s in (g c : ℕ) → g < groups_of h.frames → c < h.channels → pair_of (from_pair (take n after) (g * h.channels + c)) ≡ peak_at s g c
  -- a pair is read of its own bytes; all of them lie there by their numbers
  pub paired : (s : List ℕ) (g c : ℕ) (lent after : List ℤ) (n : ℕ) → ReadsPeak s g c lent (read n) after → take n after ≡ pair_samples (pair_of (from_pair s (pair_number s g c)))
  pub all_paired : (s : List ℕ) (lent after : List ℤ) (n : ℕ) → ReadsPeaks s lent (read n) after → (k : ℕ) → k < pair_count s → from (2 * k) 2 after ≡ pair_samples (pair_of (from_pair s k))
  -- group g of the file is that of the samples' group g
  pub encoded : (p : PcmSpec) (mode : StereoMode) (s : List ℤ) (lent file : List ℕ) (n : ℕ) → Rate32 p → Encodes p mode s lent (wrote n) file
      → (g : ℕ) → g < groups_of (frames_of p s) → group_bytes (take n file) (fields_of (take n file)) g ≡ encoded_group_at p mode s g
  -- made of the template's group g, and with the template's header
  pub reencoded : (p : PcmSpec) (s : List ℤ) (t lent file : List ℕ) (n : ℕ) → Reencodes p s t lent (wrote n) file
      → let h = fields_of t in (fields_of (take n file) ≡ h) × ((g : ℕ) → g < groups_of h.frames → group_bytes (take n file) h g ≡ reencoded_group h.depth h.channels (group_bytes t h g) (group_in h.channels s g))

-- of a file that decoded
module _ (s : List ℕ) (lent after : List ℤ) (n : ℕ) (d : Decodes s lent (read n) after) where
  abbrev h : Fields
  h = fields_of s

  abbrev count : ℕ
  count = groups_of h.frames

  step_long : (g : ℕ) → g < count → length (step_samples s g) ≡ h.channels * active h.frames g
  unfolding step_samples check_decode
  step_long g l =
      let fine = read_fine s lent after n d in
      group_writes h (format_of s h) (group_bytes s h g) (some_channels h (opened_fields s (first_fine _ _ fine)))
      (located_at (λ g. check_group h (format_of s h) (group_bytes s h g)) at_group g count l (others_fine (check_open s) _ fine)) g

  starts : (g : ℕ) → g < count → 512 * h.channels * g ≡ length (joined (step_samples s) g)
  unfolding groups_of
  starts g l =
      let e : min h.frames.0 (512 * g) ≡ 512 * g = omega arith in
      group_starts h.channels g ∙ ap (λ (x : ℕ). h.channels * x) (sym e) ∙ sym (active_sum h.frames h.channels (step_samples s) g (λ j q. step_long j (omega arith)))

  lies : after ≡ joined (step_samples s) count ++ drop (length (decoded_of s)) lent
  unfolding decode_into over
  lies =
      d.1 ∙ ap (λ (c : Checked). filled c (decoded_of s) lent) (read_passed s lent after n d)
      ∙ ap (λ (x : List ℤ). x ++ drop (length (decoded_of s)) lent) (steps_joined s)

  step_lies : (g : ℕ) → g < count → from (512 * h.channels * g) (h.channels * active h.frames g) after ≡ step_samples s g
  step_lies g l =
      ap (from (512 * h.channels * g) (h.channels * active h.frames g)) lies
      ∙ part_at (step_samples s) g count (512 * h.channels * g) (h.channels * active h.frames g) [] (drop (length (decoded_of s)) lent) l (starts g l ∙ zero_plus) (sym (step_long g l))
    where
      zero_plus : length (joined (step_samples s) g) ≡ 0 + length (joined (step_samples s) g)
      zero_plus = omega arith

pub every_group : EveryGroup
every_group =
    record {
      decoded = step_lies;
      stepped = step_leaves;
      ranged = range_left;
      summarized = λ s lent after n byte d g c l m.
          let fine = built_fine s lent after n d in
          ap (λ (x : List ℕ). pair_of (from_pair x (g * (fields_of s).channels + c))) (built_left s lent after n d) ∙ file_pair s fine byte g c l m;
      paired = pair_left;
      all_paired = pairs_left_at;
      encoded = λ p mode s lent file n rate e g l.
          let ok = encode_ok p mode s lent file n e in
          let lay = RoundTrip.layout p mode s ok rate in
          ap (λ (f : List ℕ). group_bytes f (fields_of f) g) (file_written p mode s lent file n e) ∙ ap (λ (x : Fields). group_bytes (encoded_file p mode s) x g) lay.fields ∙ lay.groups g l;
      reencoded = λ p s t lent file n e.
          let ok = reencode_ok p s t lent file n e in
          let f = new_file p s t lent file n e in
          (ap fields_of f ∙ Refile.fields_same p s t ok, λ g l. ap (λ (x : List ℕ). group_bytes x (fields_of t) g) f ∙ Refile.group_new p s t ok g l);
    }

-- ---- the length
pub record LengthsAre : Type 0 where
  -- frames × channels
  pub decoded : (s : List ℕ) (lent after : List ℤ) (n : ℕ) → Decodes s lent (read n) after → n ≡ (fields_of s).frames.0 * (fields_of s).channels
  pub stepped : (s : List ℕ) (g : ℕ) (lent after : List ℤ) (n : ℕ) → Steps s g lent (read n) after → n ≡ active (fields_of s).frames g * (fields_of s).channels
  pub ranged : (s : List ℕ) (first count : Frames) (lent after : List ℤ) (n : ℕ) → ReadsFrames s first count lent (read n) after → n ≡ count.0 * (fields_of s).channels
  -- as many bytes as the summary; two samples a pair
  pub summarized : (s lent after : List ℕ) (n : ℕ) → BuildsPeaks s lent (wrote n) after → n ≡ length (summary_of s)
  pub paired : (s : List ℕ) (g c : ℕ) (lent after : List ℤ) (n : ℕ) → ReadsPeak s g c lent (read n) after → n ≡ 2
  pub all_paired : (s : List ℕ) (lent after : List ℤ) (n : ℕ) → ReadsPeaks s lent (read n) after → n ≡ 2 * pair_count s
  -- the data offset and the sum of block lengths, each 16 + 64 × width
  pub encoded : (p : PcmSpec) (mode : StereoMode) (s : List ℤ) (lent file : List ℕ) (n : ℕ) → Encodes p mode s lent (wrote n) file
      → let frames = frames_of p s in n ≡ offset_of frames + sum (λ g. blocks_in p.bits_per_sample (coded_at p mode s g)) (groups_of frames)
  -- the template's
  pub reencoded : (p : PcmSpec) (s : List ℤ) (t lent file : List ℕ) (n : ℕ) → Reencodes p s t lent (wrote n) file → n ≡ length t

pub lengths_are : LengthsAre
lengths_are =
    record {
      decoded = read_count;
      stepped = step_count_lem;
      ranged = range_count;
      summarized = built_long;
      paired = pair_count_lem;
      all_paired = pairs_count;
      encoded = λ p mode s lent file n e. file_long p mode s lent file n e ∙ file_size_lem p mode s;
      reencoded = as_long;
    }

-- ---- the header
pub record HeadersAre : Type 0 where
  -- the file opens with the call's settings and the samples' frames, as PCM
  pub encoded : (p : PcmSpec) (mode : StereoMode) (s : List ℤ) (lent file : List ℕ) (n : ℕ) → Rate32 p → Encodes p mode s lent (wrote n) file
      → let frames = frames_of p s in (r : Answer) → Opens (take n file) r
      → r ≡ answered_by (Opened (header_for (fields_for p frames (offset_of frames) (length (joined (encoded_group_at p mode s) (groups_of frames)))) Pcm))
  -- the new file opens as the template does
  pub reencoded : (p : PcmSpec) (s : List ℤ) (t lent file : List ℕ) (n : ℕ) → Reencodes p s t lent (wrote n) file
      → (r r' : Answer) → Opens (take n file) r → Opens t r' → r ≡ r'

pub headers_are : HeadersAre
headers_are =
    record {
      encoded = λ p mode s lent file n rate e r o. o ∙ ap open_of (file_written p mode s lent file n e) ∙ RoundTrip.opens p mode s (encode_ok p mode s lent file n e) rate;
      reencoded = λ p s t lent file n e r r' o o'. o ∙ ap open_of (new_file p s t lent file n e) ∙ Refile.opens_same p s t (reencode_ok p s t lent file n e) ∙ sym o';
    }
