-- Laws that lead to the promises of summaries (document 02, L7): a file's summary, by its samples; by which number
-- building refuses; and what the answers tell.
use Prim.Native.Nat.{ℕ, zero, suc, ◌+◌, ◌*◌, ◌/◌, ◌%◌, ◌^◌, ◌≤◌, ◌<◌}
use mathlib.Core.Path.{◌≡◌, refl, sym, ap, ap₂, ◌∙◌, subst}
use mathlib.Core.Bool.{Bool, true, false, not, cond}
use mathlib.Core.List.{List, [], ◌∷◌}
use native.Mathlib.Omega.{arith}
use native.Mathlib.Nat.{add-zero}
use lib.ListN.{length, take, drop, get_or}
use lib.Seq.{length-take-le, get_or-take, get_or-drop}
use lib.IntN.{ℤ, pos}
use lib.Dec.{eqb}
use mir.Syntax.{w32}
use mir.Val.{SFits}
use borrow.Author.Tests.{ltb-true, eq-eqb}
use Rattle.format.specs.Lists.{tab, joined, from, over, same, every}
use Rattle.format.specs.Numbers.{Below}
use Rattle.format.specs.Header.{fields_of, groups_of, group_bytes}
use Rattle.format.specs.Refusals.{Checked, Fine, No, number, nowhere, refuse, ◌then◌}
use Rattle.format.specs.SevenBits.{seven_value}
use Rattle.format.specs.Blocks.{mid_bit, coding_of, samples_of, from_block}
use Rattle.format.specs.Packed.{is_beyond}
use Rattle.format.specs.MidSide.{left, right, left_right}
use Rattle.format.specs.Places.{at_group}
use Rattle.format.specs.Units.{active}
use Rattle.format.specs.Opening.{format_of, check_open}
use Rattle.format.specs.Decoding.{is_float, check_group, coded, channels_of, check_decode, decoded_of}
use Rattle.format.specs.FewFrames.{group_of, frame_at, frames_at}
use Rattle.format.specs.Answers.{answered_by, answered, filled, read, wrote}
use Rattle.format.specs.Boundary.{sample_bytes, result_of, host_peaks, host_peak, host_peak_into, host_peaks_all, host_peaks_all_into}
use Rattle.format.specs.Promises.{BuildsPeaks, ReadsPeak, ReadsPeaks, HostBuildsPeaks, HostReadsPeak, HostReadsPeaks}
use Rattle.format.specs.Peaks.{build_peaks_of, build_peaks_into, verdict, compare_peaks_of, pair_number, pair_samples, pairs_from, read_peak_of, read_peak_into, read_peaks_of, read_peaks_into, channel_peak, peak_at, summary_of, check_peaks, check_peaks_into, check_peak, check_all_peaks, pairs_read, summary_frames, summary_channels, pair_count, from_pair, pair_of, check_summary}
use Rattle.format.specs.declared.refusals.Refusal.{Refusal}
use Rattle.format.specs.declared.refusals.Refusal.TheVariants.{OutputTooShort, FloatFile}
use Rattle.format.specs.declared.refusals.Place.{Place}
use Rattle.format.specs.declared.units.Samples.{Samples}
use Rattle.format.specs.declared.settings.SampleFormat.{SampleFormat}
use Rattle.format.specs.declared.settings.SampleFormat.TheVariants.{Pcm, Float}
use Rattle.format.specs.declared.answers.Fields.{Fields}
use Rattle.format.specs.declared.answers.Peak.{Peak}
use Rattle.format.specs.declared.answers.Outcome.{Outcome}
use Rattle.format.specs.declared.answers.Outcome.TheVariants.{Read, Wrote, Matches, Differs}
use Rattle.format.specs.declared.answers.Answer.{Answer}
use Rattle.laws.proofs.Tests.{never}
use Rattle.laws.proofs.SampleBytes.{sample_bytes_length, sample_bytes_from}
use Rattle.laws.proofs.Parts.{get_d_tab, from_take}
use Rattle.laws.proofs.Each.{Each, each_take, each_tab}
use Rattle.laws.proofs.Places.{located_at}
use Rattle.laws.proofs.Halves.{length_pairwise}
use Rattle.laws.proofs.Stereo.{both_fit}
use Rattle.laws.proofs.Opened.{some_channels, depth_least, depth_most, opened_fields}
use Rattle.laws.proofs.Passed.{bits_known, block_fine, mid_two}
use Rattle.laws.proofs.Lengths.{samples_512}
use Rattle.laws.proofs.Channels.{frame_at_lem}
use Rattle.laws.proofs.Reading.{number_lt}
use Rattle.laws.proofs.Located.{refused_so, open_numbers, group_numbers, passes_unsaid, decode_passes, channels_few}
use Rattle.laws.proofs.Chain.{stop, not_yes, room_short, room_enough}
use Rattle.laws.proofs.FewFrames.{frames}
use Rattle.laws.proofs.Checks.{passed, ◌and_then◌, first_fine, others_fine, Unsaid, unsaid, ◌nor◌, said_after_lem, said_before}
use Rattle.laws.proofs.Wrap.{Fit, zero_fits}
use Rattle.laws.proofs.Extremes.{IsLargest, IsSmallest, largest_is, smallest_is}
use Rattle.laws.proofs.Summaries.{IsSound, pairs_at_lem, pairs_long, pairs_one, peak_sound, passed_within, within_checks, written_channels, written_fine, written_frames, written_pair}
use Rattle.laws.proofs.Marks.{same_equal, same_itself}
use Rattle.promises.proofs.Outcomes.{is_refused, succeeds_fine, succeeds_as, written_front, wrote_fine, wrote_length, host_fine, host_length}
use Rattle.promises.proofs.Kept.{samples_fit}
use Rattle.promises.proofs.FewFramesLaws.{frames_cut}

-- ---- A FILE WHOSE SUMMARY IS BUILT
module _ (s : List ℕ) (fine : check_peaks s ≡ Fine) where
  abbrev h : Fields
  h = fields_of s

  -- the channels of group g
  abbrev chans : ℕ → List (List ℤ)
  chans g = channels_of h (format_of s h) (group_bytes s h g)

  pub peaks_decode : check_decode s ≡ Fine
  unfolding check_peaks
  peaks_decode = first_fine _ _ fine

  pub peaks_pcm : format_of s (fields_of s) ≡ Pcm
  unfolding check_peaks is_float
  peaks_pcm = by (format_of s h) (passed _ FloatFile (others_fine (check_decode s) _ fine))
    where
      by : (f : SampleFormat) → is_float f ≡ false → f ≡ Pcm
      by Pcm e = refl
      by Float e = never e

  opens : check_open s ≡ Fine
  unfolding check_decode
  opens = first_fine _ _ peaks_decode

  some_channel : 1 ≤ h.channels
  some_channel = some_channels h (opened_fields s opens)

  group_passed : (g : ℕ) → g < groups_of h.frames → check_group h (format_of s h) (group_bytes s h g) ≡ Fine
  unfolding check_decode
  group_passed g l = located_at (λ g. check_group h (format_of s h) (group_bytes s h g)) at_group g (groups_of h.frames) l (others_fine (check_open s) _ peaks_decode)

  -- a group that passes
  module _ (g : ℕ) (l : g < groups_of h.frames) where
    abbrev bs : List ℕ
    bs = group_bytes s h g

    -- channel c as it is coded
    abbrev block : ℕ → List ℤ
    block c = samples_of h.depth (from_block h.depth bs c)

    known : (c : ℕ) → c < h.channels → is_beyond (coding_of h.depth (from_block h.depth bs c)) ≡ false
    known c m = bits_known h (format_of s h) c (from_block h.depth bs c) (block_fine h (format_of s h) bs (group_passed g l) c m)

    coded_fit : Each Fit [] (tab h.channels block)
    coded_fit =
        let f = opened_fields s opens in
        let low = depth_least h f in
        each_tab Fit [] (λ i. zero_fits) h.channels block (λ c m. samples_fit h.depth (from_block h.depth bs c) (omega arith) (depth_most h f) (known c m))

    coded_long : (c : ℕ) → c < h.channels → length (get_or (tab h.channels block) c []) ≡ 512
    coded_long c m = ap length (get_d_tab h.channels block c [] m) ∙ samples_512 h.depth (from_block h.depth bs c) (known c m)

    both_long : mid_bit bs ≡ true → (c : ℕ) → c < h.channels → length (get_or (left_right Pcm (tab h.channels block)) c []) ≡ 512
    unfolding left_right
    both_long e c m = by c m (mid_two h (format_of s h) bs (group_passed g l) some_channel e)
      where
        xs : List (List ℤ)
        xs = tab h.channels block

        by : (c : ℕ) → c < h.channels → h.channels ≡ 2 → length (get_or (left_right Pcm xs) c []) ≡ 512
        by zero m two = let a = coded_long 0 (omega arith) in length_pairwise (left Pcm) (get_or xs 0 []) (get_or xs 1 []) (a ∙ sym (coded_long 1 (omega arith))) ∙ a
        by (suc zero) m two = let a = coded_long 0 (omega arith) in length_pairwise (right Pcm) (get_or xs 0 []) (get_or xs 1 []) (a ∙ sym (coded_long 1 (omega arith))) ∙ a
        by (suc (suc c)) m two = absurd (omega arith)

    chans_fit : Each Fit [] (chans g)
    unfolding channels_of coded
    chans_fit = subst (λ (f : SampleFormat). Each Fit [] (channels_of h f bs)) (sym peaks_pcm) (by (mid_bit bs))
      where
        by : (t : Bool) → Each Fit [] (cond t (left_right Pcm (tab h.channels block)) (tab h.channels block))
        by true = both_fit (tab h.channels block) coded_fit
        by false = coded_fit

    chan_long : (c : ℕ) → c < h.channels → length (get_or (chans g) c []) ≡ 512
    unfolding channels_of coded
    chan_long c m = subst (λ (f : SampleFormat). length (get_or (channels_of h f bs) c []) ≡ 512) (sym peaks_pcm) (by (mid_bit bs) refl)
      where
        by : (t : Bool) → mid_bit bs ≡ t → length (get_or (cond t (left_right Pcm (tab h.channels block)) (tab h.channels block)) c []) ≡ 512
        by true e = both_long e c m
        by false e = coded_long c m

    -- the active samples of channel c: as many as there are active frames, which are some
    pub active_samples : (c : ℕ) → c < h.channels → length (take (active h.frames g) (get_or (chans g) c [])) ≡ active h.frames g
    unfolding active
    active_samples c m = length-take-le (active h.frames g) (get_or (chans g) c []) (omega (arith, chan_long c m))

    active_some : 0 < active h.frames g
    unfolding active groups_of
    active_some = omega arith

    file_peak_sound : (c : ℕ) → c < h.channels → IsSound (peak_at s g c)
    unfolding peak_at channel_peak
    file_peak_sound c m =
        let xs = take (active h.frames g) (get_or (chans g) c []) in
        peak_sound xs (each_take (SFits w32) (pos 0) zero_fits (active h.frames g) (get_or (chans g) c []) (chans_fit c))
        (omega (arith, active_samples c m, active_some))

    pub file_smallest : (c : ℕ) → c < h.channels → IsSmallest (peak_at s g c).smallest (take (active h.frames g) (get_or (chans g) c []))
    unfolding peak_at channel_peak
    file_smallest c m = smallest_is (take (active h.frames g) (get_or (chans g) c [])) (omega (arith, active_samples c m, active_some))

    pub file_largest : (c : ℕ) → c < h.channels → IsLargest (peak_at s g c).largest (take (active h.frames g) (get_or (chans g) c []))
    unfolding peak_at channel_peak
    file_largest c m = largest_is (take (active h.frames g) (get_or (chans g) c [])) (omega (arith, active_samples c m, active_some))

  -- ---- the same by the whole decode: sample c of frame j
  pub sample_at : (j c : ℕ) → j < (fields_of s).frames.0 → c < (fields_of s).channels
      → get_or (decoded_of s) (j * (fields_of s).channels + c) (pos 0) ≡ get_or (get_or (chans (group_of j)) c []) (j % 512) (pos 0)
  unfolding from frames_at frame_at joined
  sample_at j c l m =
      let n = h.channels in
      let e : 1 * n ≡ n = omega arith in
      let cut : frame_at s (j + 0) ≡ take n (drop (j * n) (decoded_of s)) = frames_cut s (frames j) (frames 1) (omega arith) peaks_decode ∙ ap (λ (k : ℕ). take k (drop (j * n) (decoded_of s))) e in
      sym (get_or-drop (j * n) (decoded_of s) c (pos 0)) ∙ sym (get_or-take n (drop (j * n) (decoded_of s)) c (pos 0) m)
      ∙ ap (λ (x : List ℤ). get_or x c (pos 0)) (sym cut ∙ ap (frame_at s) (add-zero j))
      ∙ frame_at_lem (chans (group_of j)) (j % 512) c

  -- its summary
  module _ (byte : Below 256 s) where
    frames_few : h.frames.0 < 2 ^ 32
    unfolding fields_of
    frames_few = number_lt 16 4 s byte

    channels_narrow : h.channels < 2 ^ 32
    channels_narrow = omega (arith, channels_few s byte)

    pub file_frames : seven_value (summary_of s) ≡ (fields_of s).frames.0
    unfolding summary_of
    file_frames = written_frames h.frames h.channels (peak_at s) frames_few channels_narrow some_channel (λ g c l m. file_peak_sound g l c m)

    pub file_channels : summary_channels (summary_of s) ≡ (fields_of s).channels
    unfolding summary_of
    file_channels = written_channels h.frames h.channels (peak_at s) frames_few channels_narrow some_channel (λ g c l m. file_peak_sound g l c m)

    pub file_summary : check_summary (summary_of s) ≡ Fine
    unfolding summary_of
    file_summary = written_fine h.frames h.channels (peak_at s) frames_few channels_narrow some_channel (λ g c l m. file_peak_sound g l c m)

    pub file_pair : (g c : ℕ) → g < groups_of (fields_of s).frames → c < (fields_of s).channels → pair_of (from_pair (summary_of s) (g * (fields_of s).channels + c)) ≡ peak_at s g c
    unfolding summary_of
    file_pair = written_pair h.frames h.channels (peak_at s) frames_few channels_narrow some_channel (λ g c l m. file_peak_sound g l c m)

-- ---- of a file: 66 and 50 come after what decoding refuses
module _ (s : List ℕ) where
  abbrev float : Bool
  float = is_float (format_of s (fields_of s))

  decode_unsaid : (x : Refusal) (n : ℕ) → number x ≡ n → every (λ m. not (eqb m n)) (19 ∷ open_numbers) ≡ true → every (λ m. not (eqb m n)) group_numbers ≡ true → Unsaid x (check_decode s)
  decode_unsaid x n e all also = passes_unsaid (λ m. not (eqb m n)) x (check_decode s) (decode_passes (λ m. not (eqb m n)) all also s) (not_yes _ (eq-eqb (number x) n e))

  pub float_so : (x : Refusal) (at : Place) → number x ≡ 66 → check_peaks s ≡ No x at → (check_decode s ≡ Fine) × (is_float (format_of s (fields_of s)) ≡ true)
  unfolding check_peaks every
  float_so x at n e =
      let q = said_after_lem x at (check_decode s) (refuse float FloatFile) (decode_unsaid x 66 n refl refl) e in
      (q.0, (refused_so float FloatFile x at q.1).0)

  pub so_float : check_decode s ≡ Fine → is_float (format_of s (fields_of s)) ≡ true → check_peaks s ≡ No FloatFile nowhere
  unfolding check_peaks
  so_float fine e = fine and_then sym (stop FloatFile float e)

  -- also where it is written
  pub built_other : (room : ℕ) (x : Refusal) (at : Place) → eqb 50 (number x) ≡ false → check_peaks_into s room ≡ No x at → check_peaks s ≡ No x at
  unfolding check_peaks_into
  built_other room x at n e = said_before x at (check_peaks s) _ (unsaid x OutputTooShort _ n) e

  pub other_built : (room : ℕ) (x : Refusal) (at : Place) → check_peaks s ≡ No x at → check_peaks_into s room ≡ No x at
  unfolding check_peaks_into ◌then◌
  other_built room x at e = rw e

  pub built_short_so : (room : ℕ) (x : Refusal) (at : Place) → number x ≡ 50 → check_peaks_into s room ≡ No x at → (check_peaks s ≡ Fine) × (room < length (summary_of s))
  unfolding check_peaks_into check_peaks every
  built_short_so room x at n e =
      let q = said_after_lem x at (check_peaks s) _ (decode_unsaid x 50 n refl refl nor unsaid x FloatFile float (ap (eqb 66) n)) e in
      (q.0, ltb-true _ _ (refused_so _ OutputTooShort x at q.1).0)

  pub so_built_short : (room : ℕ) → check_peaks s ≡ Fine → room < length (summary_of s) → check_peaks_into s room ≡ No OutputTooShort nowhere
  unfolding check_peaks_into
  so_built_short room fine l = room_short (check_peaks s) fine room (length (summary_of s)) OutputTooShort l

-- ---- FROM THE ANSWERS

-- n bytes were built
module _ (s lent after : List ℕ) (n : ℕ) (d : BuildsPeaks s lent (wrote n) after) where
  built_passed : check_peaks_into s (length lent) ≡ Fine
  unfolding build_peaks_of
  built_passed = wrote_fine (check_peaks_into s (length lent)) (length (summary_of s)) n d.0

  pub built_fine : check_peaks s ≡ Fine
  unfolding check_peaks_into
  built_fine = first_fine _ _ built_passed

  pub built_long : n ≡ length (summary_of s)
  unfolding build_peaks_of
  built_long = wrote_length (check_peaks_into s (length lent)) (length (summary_of s)) n d.0

  pub built_left : take n after ≡ summary_of s
  unfolding build_peaks_into
  built_left = written_front (check_peaks_into s (length lent)) n (summary_of s) lent after built_passed built_long d.1

-- n samples of the pair of g and c were read
module _ (s : List ℕ) (g c : ℕ) (lent after : List ℤ) (n : ℕ) (d : ReadsPeak s g c lent (read n) after) where
  pair_passed : check_peak s g c (length lent) ≡ Fine
  unfolding read_peak_of
  pair_passed = succeeds_fine (check_peak s g c (length lent)) (Read (pairs_read 1)) (Read (record { 0 = n })) refl d.0

  pub pair_within : (g < groups_of (summary_frames s)) × (c < summary_channels s)
  pair_within = passed_within s g c (length lent) pair_passed

  pub pair_count_lem : n ≡ 2
  unfolding read_peak_of
  pair_count_lem =
      let e = succeeds_as (check_peak s g c (length lent)) (Read (pairs_read 1)) (Read (record { 0 = n })) refl d.0 in
      let q : ◌≡◌ {A = Samples} (record { 0 = n }) (pairs_read 1) = cc in
      ap (λ (x : Samples). x.0) q

  pub pair_left : take n after ≡ pair_samples (pair_of (from_pair s (pair_number s g c)))
  unfolding read_peak_into
  pair_left =
      written_front (check_peak s g c (length lent)) n (pairs_from s (pair_number s g c) 1) lent after pair_passed (pair_count_lem ∙ sym (ap length (pairs_one s (pair_number s g c)))) d.1
      ∙ pairs_one s (pair_number s g c)

-- n samples of all pairs
module _ (s : List ℕ) (lent after : List ℤ) (n : ℕ) (d : ReadsPeaks s lent (read n) after) where
  pairs_passed : check_all_peaks s (length lent) ≡ Fine
  unfolding read_peaks_of
  pairs_passed = succeeds_fine (check_all_peaks s (length lent)) (Read (pairs_read (pair_count s))) (Read (record { 0 = n })) refl d.0

  pub pairs_fine : check_summary s ≡ Fine
  unfolding check_all_peaks
  pairs_fine = first_fine _ _ pairs_passed

  pub pairs_count : n ≡ 2 * pair_count s
  unfolding read_peaks_of
  pairs_count =
      let e = succeeds_as (check_all_peaks s (length lent)) (Read (pairs_read (pair_count s))) (Read (record { 0 = n })) refl d.0 in
      let q : ◌≡◌ {A = Samples} (record { 0 = n }) (pairs_read (pair_count s)) = cc in
      ap (λ (x : Samples). x.0) q

  pub pairs_left : take n after ≡ pairs_from s 0 (pair_count s)
  unfolding read_peaks_into
  pairs_left = written_front (check_all_peaks s (length lent)) n (pairs_from s 0 (pair_count s)) lent after pairs_passed (pairs_count ∙ sym (pairs_long s 0 (pair_count s))) d.1

  -- pair k
  pub pairs_left_at : (k : ℕ) → k < pair_count s → from (2 * k) 2 after ≡ pair_samples (pair_of (from_pair s k))
  pairs_left_at k l =
      sym (from_take (2 * k) 2 n after (omega (arith, pairs_count))) ∙ ap (from (2 * k) 2) pairs_left ∙ pairs_at_lem s (pair_count s) k l

-- ---- FROM THE CHECKS: where they pass and there is room, it is read
pub pair_reads : (s : List ℕ) (g c : ℕ) (lent after : List ℤ) (r : Answer) → ReadsPeak s g c lent r after
    → check_summary s ≡ Fine → g < groups_of (summary_frames s) → c < summary_channels s → 2 ≤ length lent
    → (r ≡ read 2) × (after ≡ over (pair_samples (pair_of (from_pair s (pair_number s g c)))) lent)
unfolding read_peak_of read_peak_into
pair_reads s g c lent after r d fine l m room =
    let e = within_checks s g c l m (length lent) ∙ room_enough (check_summary s) fine (length lent) 2 OutputTooShort room in (
      d.0 ∙ ap (λ (k : Checked). answered k (Read (pairs_read 1))) e,
      d.1 ∙ ap (λ (k : Checked). filled k (pairs_from s (pair_number s g c) 1) lent) e ∙ ap (λ (x : List ℤ). over x lent) (pairs_one s (pair_number s g c)),
    )

-- at the host boundary its bytes
pub host_pair_reads : (s : List ℕ) (g c : ℕ) (lent after : List ℕ) (r : ℕ) → HostReadsPeak s g c lent r after
    → check_summary s ≡ Fine → g < groups_of (summary_frames s) → c < summary_channels s → 8 ≤ length lent
    → (r ≡ 8) × (after ≡ over (sample_bytes (pair_samples (pair_of (from_pair s (pair_number s g c))))) lent)
unfolding host_peak host_peak_into read_peak_of
host_pair_reads s g c lent after r d fine l m room =
    let e = within_checks s g c l m (length lent / 4) ∙ room_enough (check_summary s) fine (length lent / 4) 2 OutputTooShort (omega arith) in (
      d.0 ∙ ap (λ (k : Checked). result_of (answered k (Read (pairs_read 1))).outcome) e,
      d.1 ∙ ap (λ (k : Checked). filled k (sample_bytes (pairs_from s (pair_number s g c) 1)) lent) e ∙ ap (λ (x : List ℤ). over (sample_bytes x) lent) (pairs_one s (pair_number s g c)),
    )

-- ---- of a file's own summary
module _ (s : List ℕ) (byte : Below 256 s) (fine : check_peaks s ≡ Fine) (g c : ℕ) (l : g < groups_of (fields_of s).frames) (m : c < (fields_of s).channels) where
  abbrev own : List ℕ
  own = summary_of s

  group_within : g < groups_of (summary_frames own)
  group_within = subst (λ (k : ℕ). g < groups_of (record { 0 = k })) (sym (file_frames s fine byte)) l

  channel_within : c < summary_channels own
  channel_within = subst (λ (k : ℕ). c < k) (sym (file_channels s fine byte)) m

  own_pair : pair_of (from_pair own (pair_number own g c)) ≡ peak_at s g c
  unfolding pair_number
  own_pair = ap (λ (k : ℕ). pair_of (from_pair own (g * k + c))) (file_channels s fine byte) ∙ file_pair s fine byte g c l m

  pub summary_pair_reads : (lent after : List ℤ) (r : Answer) → 2 ≤ length lent → ReadsPeak (summary_of s) g c lent r after
      → (r ≡ read 2) × (after ≡ over (pair_samples (peak_at s g c)) lent)
  summary_pair_reads lent after r room d =
      let q = pair_reads own g c lent after r d (file_summary s fine byte) group_within channel_within room in
      (q.0, q.1 ∙ ap (λ (p : Peak). over (pair_samples p) lent) own_pair)

  pub host_summary_pair_reads : (lent after : List ℕ) (r : ℕ) → 8 ≤ length lent → HostReadsPeak (summary_of s) g c lent r after
      → (r ≡ 8) × (after ≡ over (sample_bytes (pair_samples (peak_at s g c))) lent)
  host_summary_pair_reads lent after r room d =
      let q = host_pair_reads own g c lent after r d (file_summary s fine byte) group_within channel_within room in
      (q.0, q.1 ∙ ap (λ (p : Peak). over (sample_bytes (pair_samples p)) lent) own_pair)

-- at the host boundary: n bytes were built
pub host_built : (s out built : List ℕ) (n : ℕ) → HostBuildsPeaks s out n built → n < 2 ^ 63 → (check_peaks s ≡ Fine) × (take n built ≡ summary_of s)
unfolding host_peaks build_peaks_of build_peaks_into check_peaks_into
host_built s out built n d short =
    let k = check_peaks_into s (length out) in
    let o = Wrote (length (summary_of s)) in
    let fine = host_fine k o n d.0 short in
    (first_fine _ _ fine, written_front k n (summary_of s) out built fine (host_length k o n d.0 short) d.1)

-- ---- the verdict
pub by_result : (b : Bool) → result_of (verdict b) ≡ 1 → b ≡ true
by_result true e = refl
by_result false e = absurd (omega arith)

pub verdict_small : (b : Bool) → result_of (verdict b) < 2 ^ 63
verdict_small true = omega arith
verdict_small false = omega arith

pub differ : (xs ys : List ℕ) → (xs ≡ ys → ⊥) → same xs ys ≡ false
differ xs ys f = by (same xs ys) refl
  where
    by : (b : Bool) → same xs ys ≡ b → b ≡ false
    by true e = absurd (f (same_equal xs ys e))
    by false e = refl

module _ (b s : List ℕ) where
  abbrev equal : Bool
  equal = same b (summary_of s)

  pub compared : check_peaks s ≡ Fine → compare_peaks_of b s ≡ answered_by (verdict (same b (summary_of s)))
  unfolding compare_peaks_of
  compared fine = ap (λ (k : Checked). answered k (verdict equal)) fine

  pub said_fine : (o : Outcome) → is_refused o ≡ false → answered_by o ≡ compare_peaks_of b s → check_peaks s ≡ Fine
  unfolding compare_peaks_of
  said_fine o success e = succeeds_fine (check_peaks s) (verdict equal) o success e

  said_as : (o : Outcome) → is_refused o ≡ false → answered_by o ≡ compare_peaks_of b s → o ≡ verdict equal
  unfolding compare_peaks_of
  said_as o success e = succeeds_as (check_peaks s) (verdict equal) o success e

  pub said_yes : answered_by Matches ≡ compare_peaks_of b s → same b (summary_of s) ≡ true
  said_yes e = by_result equal (sym (ap result_of (said_as Matches refl e)))

  pub said_no : answered_by Differs ≡ compare_peaks_of b s → b ≡ summary_of s → ⊥
  said_no e q =
      let yes : equal ≡ true = ap (λ (x : List ℕ). same x (summary_of s)) q ∙ same_itself (summary_of s) in
      let z : ◌≡◌ {A = ℕ} 0 1 = ap result_of (said_as Differs refl e ∙ ap verdict yes) in
      omega arith

  pub host_verdict : (r : ℕ) → r ≡ result_of (compare_peaks_of b s).outcome → (n : ℕ) → r ≡ n → n < 2 ^ 63 → (check_peaks s ≡ Fine) × (result_of (verdict (same b (summary_of s))) ≡ n)
  unfolding compare_peaks_of
  host_verdict r e n q l = (host_fine (check_peaks s) (verdict equal) r e (omega arith), sym (host_length (check_peaks s) (verdict equal) r e (omega arith)) ∙ q)

-- two pairs of samples are two samples
pub two_same : (p q : Peak) → pair_samples p ≡ pair_samples q → p ≡ q
two_same p q e =
    ap₂ (λ (x y : ℤ). record { smallest = x; largest = y }) (ap (λ (l : List ℤ). get_or l 0 (pos 0)) e) (ap (λ (l : List ℤ). get_or l 1 (pos 0)) e)

-- ---- at the host boundary: the bytes of a pair, and of all pairs
module _ (s : List ℕ) where
  -- n bytes of the pair of g and c were read
  pub host_pair_left : (g c : ℕ) (lent after : List ℕ) (n : ℕ) → HostReadsPeak s g c lent n after → n < 2 ^ 63
      → (check_peak s g c (length lent / 4) ≡ Fine) × (n ≡ 8) × (take n after ≡ sample_bytes (pair_samples (pair_of (from_pair s (pair_number s g c)))))
  unfolding host_peak host_peak_into read_peak_of
  host_pair_left g c lent after n d short =
      let k = check_peak s g c (length lent / 4) in
      let fine = host_fine k (Read (pairs_read 1)) n d.0 short in
      let eight : n ≡ 8 = host_length k (Read (pairs_read 1)) n d.0 short in
      let pair = pairs_from s (pair_number s g c) 1 in
      let long = sample_bytes_length pair ∙ ap (λ (x : List ℤ). 4 * length x) (pairs_one s (pair_number s g c)) in
      (fine, eight, written_front k n (sample_bytes pair) lent after fine (eight ∙ sym long) d.1 ∙ ap sample_bytes (pairs_one s (pair_number s g c)))

  -- n bytes of all pairs: those of pair k lie there
  pub host_pairs_left_at : (lent after : List ℕ) (n : ℕ) → HostReadsPeaks s lent n after → n < 2 ^ 63 → (k : ℕ) → k < pair_count s
      → from (8 * k) 8 after ≡ sample_bytes (pair_samples (pair_of (from_pair s k)))
  unfolding host_peaks_all host_peaks_all_into read_peaks_of
  host_pairs_left_at lent after n d short k l =
      let c = check_all_peaks s (length lent / 4) in
      let o = Read (pairs_read (pair_count s)) in
      let count = pair_count s in
      let fine = host_fine c o n d.0 short in
      let all = pairs_from s 0 count in
      let size : n ≡ 4 * (2 * count) = host_length c o n d.0 short in
      let long : length (sample_bytes all) ≡ 4 * (2 * count) = sample_bytes_length all ∙ ap (λ (m : ℕ). 4 * m) (pairs_long s 0 count) in
      let e : 8 * k ≡ 4 * (2 * k) = omega arith in
      sym (from_take (8 * k) 8 n after (omega arith)) ∙ ap (from (8 * k) 8) (written_front c n (sample_bytes all) lent after fine (size ∙ sym long) d.1)
      ∙ ap (λ (i : ℕ). from i 8 (sample_bytes all)) e ∙ sym (sample_bytes_from (2 * k) 2 all (omega (arith, pairs_long s 0 count))) ∙ ap sample_bytes (pairs_at_lem s count k l)
