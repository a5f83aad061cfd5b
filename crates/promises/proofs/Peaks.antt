-- Document 02, L7: peaks beside the file. A summary that is built reads, at every group and channel, as the smallest and
-- the largest of that channel's active samples; checking says yes exactly where the bytes are what building gives; two
-- summaries that read alike are equal; all pairs at once are each of them; what is refused by 66, 67 and 50; what is no
-- summary, by which number; and that a summary is short.
use Prim.Native.Nat.{ℕ, ◌+◌, ◌-◌, ◌*◌, ◌/◌, ◌%◌, ◌^◌, ◌≤◌, ◌<◌}
use mathlib.Core.Path.{◌≡◌, refl, sym, ap, ap₂, ◌∙◌, subst}
use mathlib.Core.Bool.{Bool, true, false}
use mathlib.Core.List.{List, [], ◌∷◌}
use mathlib.Core.Logic.{◌⊎◌}
use native.Mathlib.Omega.{arith}
use lib.ListN.{length, take, get_or}
use lib.Seq.{get_or-take}
use lib.IntN.{ℤ, pos}
use lib.Signed.{le_z}
use lib.Arith.{digits_lt}
use lib.Dec.{eqb}
use borrow.Author.Tests.{eqb-false, ne_eqb}
use Rattle.format.specs.Lists.{from, over, same}
use Rattle.format.specs.Numbers.{Below}
use Rattle.format.specs.Header.{fields_of, groups_of, group_bytes}
use Rattle.format.specs.Units.{active}
use Rattle.format.specs.Refusals.{Checked, Fine, No, number, nowhere}
use Rattle.format.specs.Answers.{answered_by, refused_by, answered, read, wrote}
use Rattle.format.specs.Opening.{format_of}
use Rattle.format.specs.Decoding.{is_float, channels_of, check_decode, decoded_of}
use Rattle.format.specs.Peaks.{peak_at, summary_of, check_peaks, check_peaks_into, verdict, compare_peaks_of, build_peaks_of, summary_frames, summary_channels, pair_count, pair_number, from_pair, pair_of, check_two, check_pair, check_summary, check_peak, check_all_peaks, read_peak_of, read_peaks_of, pairs_read}
use Rattle.format.specs.Boundary.{sample_bytes, result_of, host_peaks, host_peak, host_peaks_all, host_peaks_check}
use Rattle.format.specs.Promises.{Decodes, BuildsPeaks, ComparesPeaks, ReadsPeak, ReadsPeaks, HostBuildsPeaks, HostComparesPeaks, HostReadsPeak, HostReadsPeaks}
use Rattle.format.specs.declared.refusals.Refusal.{Refusal}
use Rattle.format.specs.declared.refusals.Refusal.TheVariants.{ZeroChannels, OutputTooShort, BytesBehind, PeaksCrossed, FloatFile, PairPastEnd}
use Rattle.format.specs.declared.refusals.Place.{Place}
use Rattle.format.specs.declared.units.Frames.{Frames}
use Rattle.format.specs.declared.answers.Outcome.TheVariants.{Read, Wrote, Matches, Differs}
use Rattle.format.specs.declared.answers.Answer.{Answer}
use Rattle.laws.proofs.Parts.{from_take}
use Rattle.laws.proofs.Checks.{first_fine}
use Rattle.laws.proofs.Chain.{room_enough}
use Rattle.laws.proofs.Extremes.{AtMost, IsExtreme}
use Rattle.laws.proofs.Opened.{blocks_take}
use Rattle.laws.proofs.Summaries.{alike_equal, number_within, passed_within, other_pair, other_pairs, pair_other, pair_past_so, pair_short_so, pairs_other, pairs_short_so, pairs_within, so_pair_past, so_pair_short, so_pairs_short, summary_most}
use Rattle.laws.proofs.Summaries.{NumberSays, ComesTo, no_channels_so, so_no_channels, bytes_behind_so, so_bytes_behind, crossed_so, so_crossed, number_so, so_number}
use Rattle.laws.proofs.Marks.{same_equal, same_itself}
use Rattle.promises.proofs.Outcomes.{Exactly, read_count, samples_read, host_number}
use Rattle.promises.proofs.Certain.{refused_exactly, build_short}
use Rattle.promises.proofs.PeaksLaws.{active_samples, built_fine, built_left, built_long, built_other, built_short_so, by_result, compared, differ, file_largest, file_smallest, file_summary, float_so, host_built, host_summary_pair_reads, host_verdict, other_built, pair_count_lem, pair_within, host_pair_left, host_pairs_left_at, pair_left, pair_reads, pairs_count, pairs_fine, pairs_left_at, peaks_decode, said_fine, said_no, said_yes, sample_at, so_built_short, so_float, summary_pair_reads, two_same, verdict_small}

-- ---- THE SMALLEST AND THE LARGEST

-- the sample of channel c of frame j
abbrev pub sample_of : List ℕ → ℕ → ℕ → ℤ
sample_of s c j = get_or (decoded_of s) (j * (fields_of s).channels + c) (pos 0)

-- frame j is an active one of group g
abbrev pub IsActive : List ℕ → ℕ → ℕ → Type 0
IsActive s g j = (512 * g ≤ j) × (j < 512 * g + active (fields_of s).frames g)

-- of the active samples of channel c of group g, none is below `low` and none above `high`, and one equals each
pub record AreExtremes (s : List ℕ) (g c : ℕ) (low high : ℤ) : Type 0 where
  pub none_below : (j : ℕ) → IsActive s g j → AtMost low (sample_of s c j)
  pub one_lowest : (j : ℕ) × IsActive s g j × (sample_of s c j ≡ low)
  pub none_above : (j : ℕ) → IsActive s g j → AtMost (sample_of s c j) high
  pub one_highest : (j : ℕ) × IsActive s g j × (sample_of s c j ≡ high)

-- a pair of a file whose summary is built
module _ (s : List ℕ) (fine : check_peaks s ≡ Fine) (g c : ℕ) (l : g < groups_of (fields_of s).frames) (m : c < (fields_of s).channels) where
  abbrev n : ℕ
  n = active (fields_of s).frames g

  abbrev xs : List ℤ
  xs = let h = fields_of s in get_or (channels_of h (format_of s h) (group_bytes s h g)) c []

  -- the active sample i is that of frame 512 g + i
  active_at_lem : (i : ℕ) → i < n → get_or (take n xs) i (pos 0) ≡ sample_of s c (512 * g + i)
  unfolding active
  active_at_lem i b =
      let h = fields_of s in
      let j = 512 * g + i in
      let d : j / 512 ≡ g = omega arith in
      let r : j % 512 ≡ i = omega arith in
      get_or-take n xs i (pos 0) b
      ∙ sym (sample_at s fine j c (omega arith) m ∙ ap₂ (λ (k o : ℕ). get_or (get_or (channels_of h (format_of s h) (group_bytes s h k)) c []) o (pos 0)) d r)

  -- so the extreme of these is that of the active frames' samples
  module _ (R : ℤ → ℤ → Type 0) (x : ℤ) (e : IsExtreme R x (take n xs)) where
    all_active : (j : ℕ) → IsActive s g j → R x (sample_of s c j)
    all_active j a =
        let p = a.0 in
        let q = a.1 in
        let k : 512 * g + (j - 512 * g) ≡ j = omega arith in
        subst (R x) (active_at_lem (j - 512 * g) (omega arith) ∙ ap (sample_of s c) k) (e.each (j - 512 * g) (omega (arith, active_samples s fine g l c m)))

    one_active : (j : ℕ) × IsActive s g j × (sample_of s c j ≡ x)
    one_active =
        let o = e.one in
        let b : o.0 < n = let q = o.1 in omega (arith, active_samples s fine g l c m) in
        (512 * g + o.0, (omega arith, omega arith), sym (active_at_lem o.0 b) ∙ o.2)

  pub pair_extremes : AreExtremes s g c (peak_at s g c).smallest (peak_at s g c).largest
  pair_extremes =
      let low = file_smallest s fine g l c m in
      let high = file_largest s fine g l c m in
      record {
        none_below = all_active AtMost _ low;
        one_lowest = one_active AtMost _ low;
        none_above = all_active (λ x y. AtMost y x) _ high;
        one_highest = one_active (λ x y. AtMost y x) _ high;
      }

-- a summary that was built reads, for each group and channel and given room, as these two
pub peaks_are_extremes : (s out built : List ℕ) (n g c : ℕ) (lent after : List ℤ) (r : Answer)
    → Below 256 s
    → BuildsPeaks s out (wrote n) built
    → g < groups_of (fields_of s).frames
    → c < (fields_of s).channels
    → 2 ≤ length lent
    → ReadsPeak (take n built) g c lent r after
    → (low : ℤ) × (high : ℤ) × (r ≡ read 2) × (after ≡ over (low ∷ high ∷ []) lent) × AreExtremes s g c low high
peaks_are_extremes s out built n g c lent after r byte d l m room e =
    let fine = built_fine s out built n d in
    let q = summary_pair_reads s byte fine g c l m lent after r room (subst (λ (x : List ℕ). ReadsPeak x g c lent r after) (built_left s out built n d) e) in
    ((peak_at s g c).smallest, (peak_at s g c).largest, q.0, q.1, pair_extremes s fine g c l m)

-- at the host boundary, of their bytes; below 2 ^ 63 building's answer is a length
pub host_peaks_are_extremes : (s out built : List ℕ) (n g c : ℕ) (lent after : List ℕ) (r : ℕ)
    → Below 256 s
    → HostBuildsPeaks s out n built
    → n < 2 ^ 63
    → g < groups_of (fields_of s).frames
    → c < (fields_of s).channels
    → 8 ≤ length lent
    → HostReadsPeak (take n built) g c lent r after
    → (low : ℤ) × (high : ℤ) × (r ≡ 8) × (after ≡ over (sample_bytes (low ∷ high ∷ [])) lent) × AreExtremes s g c low high
host_peaks_are_extremes s out built n g c lent after r byte d short l m room e =
    let b = host_built s out built n d short in
    let q = host_summary_pair_reads s byte b.0 g c l m lent after r room (subst (λ (x : List ℕ). HostReadsPeak x g c lent r after) b.1 e) in
    ((peak_at s g c).smallest, (peak_at s g c).largest, q.0, q.1, pair_extremes s b.0 g c l m)

-- where the whole decode reads, that sample lies there in what it left
pub sample_left : (s : List ℕ) (out whole : List ℤ) (n c j : ℕ)
    → Decodes s out (read n) whole
    → j < (fields_of s).frames.0
    → c < (fields_of s).channels
    → get_or whole (j * (fields_of s).channels + c) (pos 0) ≡ sample_of s c j
sample_left s out whole n c j d l m =
    let k = j * (fields_of s).channels + c in
    let b : k < n = subst (λ (x : ℕ). k < x) (sym (read_count s out whole n d)) (digits_lt l m) in
    sym (get_or-take n whole k (pos 0) b) ∙ ap (λ (x : List ℤ). get_or x k (pos 0)) (samples_read s out whole n d)

-- ---- CHECKING

-- yes exactly where the file's summary can be built and the bytes are it
pub check_says_yes : (b s : List ℕ) (r : Answer)
    → ComparesPeaks b s r
    → Exactly (r ≡ answered_by Matches) ((check_peaks s ≡ Fine) × (b ≡ summary_of s))
check_says_yes b s r e = (
  λ q. (said_fine b s Matches refl (sym q ∙ e), same_equal b (summary_of s) (said_yes b s (sym q ∙ e))),
  λ q. e ∙ compared b s q.0 ∙ ap (λ (t : Bool). answered_by (verdict t)) (ap (λ (x : List ℕ). same x (summary_of s)) q.1 ∙ same_itself (summary_of s)),
)

-- and no exactly where they are not
pub check_says_no : (b s : List ℕ) (r : Answer)
    → ComparesPeaks b s r
    → Exactly (r ≡ answered_by Differs) ((check_peaks s ≡ Fine) × (b ≡ summary_of s → ⊥))
check_says_no b s r e = (
  λ q. (said_fine b s Differs refl (sym q ∙ e), λ z. said_no b s (sym q ∙ e) z),
  λ q. e ∙ compared b s q.0 ∙ ap (λ (t : Bool). answered_by (verdict t)) (differ b (summary_of s) q.1),
)

-- what building wrote gets a yes, and nothing else does
pub check_is_building : (b s out built : List ℕ) (n : ℕ) (r : Answer)
    → BuildsPeaks s out (wrote n) built
    → ComparesPeaks b s r
    → Exactly (r ≡ answered_by Matches) (b ≡ take n built)
check_is_building b s out built n r d e =
    let q = check_says_yes b s r e in
    let w = built_left s out built n d in
    (λ y. (q.0 y).1 ∙ sym w, λ y. q.1 (built_fine s out built n d, y ∙ w))

-- bytes that are no summary get a no
pub malformed_differs : (b s : List ℕ) (r : Answer)
    → Below 256 s
    → check_peaks s ≡ Fine
    → (check_summary b ≡ Fine → ⊥)
    → ComparesPeaks b s r
    → r ≡ answered_by Differs
malformed_differs b s r byte fine bad e = (check_says_no b s r e).1 (fine, λ q. bad (ap check_summary q ∙ file_summary s fine byte))

-- at the host boundary yes is 1, and no is 0
pub host_check_says_yes : (b s : List ℕ) (r : ℕ)
    → HostComparesPeaks b s r
    → Exactly (r ≡ 1) ((check_peaks s ≡ Fine) × (b ≡ summary_of s))
unfolding host_peaks_check
host_check_says_yes b s r e = (
  λ q. let v = host_verdict b s r e 1 q (omega arith) in (v.0, same_equal b (summary_of s) (by_result (same b (summary_of s)) v.1)),
  λ q. e ∙ ap (λ (a : Answer). result_of a.outcome) ((check_says_yes b s (compare_peaks_of b s) refl).1 q),
)

pub host_check_says_no : (b s : List ℕ) (r : ℕ)
    → HostComparesPeaks b s r
    → Exactly (r ≡ 0) ((check_peaks s ≡ Fine) × (b ≡ summary_of s → ⊥))
unfolding host_peaks_check
host_check_says_no b s r e = (
  λ q. ((host_verdict b s r e 0 q (omega arith)).0, λ w. let one = (host_check_says_yes b s r e).1 ((host_verdict b s r e 0 q (omega arith)).0, w) in omega arith),
  λ q. e ∙ ap (λ (a : Answer). result_of a.outcome) ((check_says_no b s (compare_peaks_of b s) refl).1 q),
)

-- what building wrote gets a 1 there, and nothing else does
pub host_check_is_building : (b s out built : List ℕ) (n r : ℕ)
    → HostBuildsPeaks s out n built
    → n < 2 ^ 63
    → HostComparesPeaks b s r
    → Exactly (r ≡ 1) (b ≡ take n built)
host_check_is_building b s out built n r d short e =
    let q = host_check_says_yes b s r e in
    let w = host_built s out built n d short in
    (λ y. (q.0 y).1 ∙ sym w.1, λ y. q.1 (w.0, y ∙ w.1))

-- ---- ONE SUMMARY FOR WHAT IS READ

-- two summaries of as many frames and channels, with the same pairs, are equal
pub read_alike_are_equal : (s t : List ℕ)
    → Below 256 s
    → Below 256 t
    → check_summary s ≡ Fine
    → check_summary t ≡ Fine
    → summary_frames s ≡ summary_frames t
    → summary_channels s ≡ summary_channels t
    → ((k : ℕ) → k < pair_count s → pair_of (from_pair s k) ≡ pair_of (from_pair t k))
    → s ≡ t
read_alike_are_equal s t byte byte' fine fine' frames channels pairs = alike_equal s t byte byte' fine fine' (ap (λ (f : Frames). f.0) frames) channels pairs

-- so are two for which all pairs are read alike
pub all_alike_are_equal : (s t : List ℕ) (lent after lent' after' : List ℤ) (n : ℕ)
    → Below 256 s
    → Below 256 t
    → summary_frames s ≡ summary_frames t
    → summary_channels s ≡ summary_channels t
    → ReadsPeaks s lent (read n) after
    → ReadsPeaks t lent' (read n) after'
    → take n after ≡ take n after'
    → s ≡ t
all_alike_are_equal s t lent after lent' after' n byte byte' frames channels d e alike =
    read_alike_are_equal s t byte byte' (pairs_fine s lent after n d) (pairs_fine t lent' after' n e) frames channels
    (λ k l.
    let a = pairs_count s lent after n d in
    let b = pairs_count t lent' after' n e in
    let w = sym (pairs_left_at s lent after n d k l) ∙ sym (from_take (2 * k) 2 n after (omega arith)) ∙ ap (from (2 * k) 2) alike
    ∙ from_take (2 * k) 2 n after' (omega arith) ∙ pairs_left_at t lent' after' n e k (omega arith) in
    two_same (pair_of (from_pair s k)) (pair_of (from_pair t k)) w)

-- ---- ALL PAIRS ARE EACH OF THEM

-- where all are read, and the pair of g and c is, it lies there among them
pub all_is_each : (s : List ℕ) (g c : ℕ) (lent after lent' after' : List ℤ) (m n : ℕ)
    → ReadsPeaks s lent (read m) after
    → ReadsPeak s g c lent' (read n) after'
    → (n ≡ 2) × (take n after' ≡ from (2 * (g * summary_channels s + c)) 2 after)
unfolding pair_number
all_is_each s g c lent after lent' after' m n d e =
    let q = pair_within s g c lent' after' n e in
    (pair_count_lem s g c lent' after' n e, pair_left s g c lent' after' n e ∙ sym (pairs_left_at s lent after m d (pair_number s g c) (number_within s g c q.0 q.1)))

-- at the host boundary, of their bytes
pub host_all_is_each : (s : List ℕ) (g c : ℕ) (lent after lent' after' : List ℕ) (m n : ℕ)
    → HostReadsPeaks s lent m after
    → m < 2 ^ 63
    → HostReadsPeak s g c lent' n after'
    → n < 2 ^ 63
    → (n ≡ 8) × (take n after' ≡ from (8 * (g * summary_channels s + c)) 8 after)
unfolding pair_number
host_all_is_each s g c lent after lent' after' m n d short e short' =
    let p = host_pair_left s g c lent' after' n e short' in
    let q = passed_within s g c (length lent' / 4) p.0 in
    (p.1, p.2 ∙ sym (host_pairs_left_at s lent after m d short (pair_number s g c) (number_within s g c q.0 q.1)))

-- where all are read, each is, given room
pub all_reads_each : (s : List ℕ) (g c : ℕ) (lent after lent' after' : List ℤ) (m : ℕ) (r : Answer)
    → ReadsPeaks s lent (read m) after
    → g < groups_of (summary_frames s)
    → c < summary_channels s
    → 2 ≤ length lent'
    → ReadsPeak s g c lent' r after'
    → r ≡ read 2
all_reads_each s g c lent after lent' after' m r d l k room e = (pair_reads s g c lent' after' r e (pairs_fine s lent after m d) l k room).0

-- a summary is read: one pair of it, or all of them
pub data ReadsSummary (s : List ℕ) (r : Answer) : Type 0 where
  OnePair : (g c : ℕ) (lent after : List ℤ) → ReadsPeak s g c lent r after → ReadsSummary s r
  AllPairs : (lent after : List ℤ) → ReadsPeaks s lent r after → ReadsSummary s r

-- either way, what is refused is what the summary's checks refuse, but for 67 and 50
summary_refused : (s : List ℕ) (r : Answer) (x : Refusal) (at : Place)
    → (x ≡ PairPastEnd → ⊥)
    → (x ≡ OutputTooShort → ⊥)
    → ReadsSummary s r
    → Exactly (r ≡ refused_by x at) (check_summary s ≡ No x at)
summary_refused s r x at inside roomy (OnePair g c lent after d) =
    let q = refused_exactly.reads_peak s g c lent after r x at d in
    (λ e. pair_other s g c (length lent) x at inside roomy (q.0 e), λ e. q.1 (other_pair s g c (length lent) x at e))
summary_refused s r x at inside roomy (AllPairs lent after d) =
    let q = refused_exactly.reads_peaks s lent after r x at d in
    (λ e. pairs_other s (length lent) x at roomy (q.0 e), λ e. q.1 (other_pairs s (length lent) x at e))

-- so both refuse alike, but for the pair that is past the end and for want of room
pub all_refuses_as_each : (s : List ℕ) (g c : ℕ) (lent after lent' after' : List ℤ) (r r' : Answer) (x : Refusal) (at : Place)
    → (x ≡ PairPastEnd → ⊥)
    → (x ≡ OutputTooShort → ⊥)
    → ReadsPeaks s lent r after
    → ReadsPeak s g c lent' r' after'
    → Exactly (r ≡ refused_by x at) (r' ≡ refused_by x at)
all_refuses_as_each s g c lent after lent' after' r r' x at inside roomy d e =
    let p = summary_refused s r x at inside roomy (AllPairs lent after d) in
    let q = summary_refused s r' x at inside roomy (OnePair g c lent' after' e) in
    (λ y. q.1 (p.0 y), λ y. p.1 (q.0 y))

-- ---- 66, 67 AND 50

-- 66 exactly where decoding's checks pass and the file is a float file: building and checking alike
pub float_file_exactly : (s lent after : List ℕ) (r : Answer)
    → BuildsPeaks s lent r after
    → Exactly (r ≡ refused_by FloatFile nowhere) ((check_decode s ≡ Fine) × (is_float (format_of s (fields_of s)) ≡ true))
float_file_exactly s lent after r d =
    let q = refused_exactly.builds_peaks s lent after r FloatFile nowhere d in (
      λ e. float_so s FloatFile nowhere refl (built_other s (length lent) FloatFile nowhere refl (q.0 e)),
      λ e. q.1 (other_built s (length lent) FloatFile nowhere (so_float s e.0 e.1)),
    )

pub check_float_file_exactly : (b s : List ℕ) (r : Answer)
    → ComparesPeaks b s r
    → Exactly (r ≡ refused_by FloatFile nowhere) ((check_decode s ≡ Fine) × (is_float (format_of s (fields_of s)) ≡ true))
check_float_file_exactly b s r d =
    let q = refused_exactly.compares_peaks b s r FloatFile nowhere d in
    (λ e. float_so s FloatFile nowhere refl (q.0 e), λ e. q.1 (so_float s e.0 e.1))

-- 50, after that, exactly where the summary is longer than what is lent
pub build_too_short_exactly : (s lent after : List ℕ) (r : Answer)
    → BuildsPeaks s lent r after
    → Exactly (r ≡ refused_by OutputTooShort nowhere) ((check_peaks s ≡ Fine) × (length lent < length (summary_of s)))
build_too_short_exactly s lent after r d =
    let q = refused_exactly.builds_peaks s lent after r OutputTooShort nowhere d in
    (λ e. built_short_so s (length lent) OutputTooShort nowhere refl (q.0 e), λ e. q.1 (so_built_short s (length lent) e.0 e.1))

-- reading: 67 exactly where the summary passes and the group or the channel is past the last
pub pair_past_end_exactly : (s : List ℕ) (g c : ℕ) (lent after : List ℤ) (r : Answer)
    → ReadsPeak s g c lent r after
    → Exactly (r ≡ refused_by PairPastEnd nowhere) ((check_summary s ≡ Fine) × ((groups_of (summary_frames s) ≤ g) ⊎ (summary_channels s ≤ c)))
pair_past_end_exactly s g c lent after r d =
    let q = refused_exactly.reads_peak s g c lent after r PairPastEnd nowhere d in
    (λ e. pair_past_so s g c (length lent) PairPastEnd nowhere refl (q.0 e), λ e. q.1 (so_pair_past s g c (length lent) e.0 e.1))

-- 50 exactly where it is not, and there is no room for two samples
pub pair_too_short_exactly : (s : List ℕ) (g c : ℕ) (lent after : List ℤ) (r : Answer)
    → ReadsPeak s g c lent r after
    → Exactly (r ≡ refused_by OutputTooShort nowhere) ((check_summary s ≡ Fine) × (g < groups_of (summary_frames s)) × (c < summary_channels s) × (length lent < 2))
pair_too_short_exactly s g c lent after r d =
    let q = refused_exactly.reads_peak s g c lent after r OutputTooShort nowhere d in
    (λ e. pair_short_so s g c (length lent) OutputTooShort nowhere refl (q.0 e), λ e. q.1 (so_pair_short s g c (length lent) e.0 e.1 e.2 e.3))

-- of all pairs, where there is none for two samples a pair
pub pairs_too_short_exactly : (s : List ℕ) (lent after : List ℤ) (r : Answer)
    → ReadsPeaks s lent r after
    → Exactly (r ≡ refused_by OutputTooShort nowhere) ((check_summary s ≡ Fine) × (length lent < 2 * pair_count s))
pairs_too_short_exactly s lent after r d =
    let q = refused_exactly.reads_peaks s lent after r OutputTooShort nowhere d in
    (λ e. pairs_short_so s (length lent) OutputTooShort nowhere refl (q.0 e), λ e. q.1 (so_pairs_short s (length lent) e.0 e.1))

-- at the host boundary 66 and 67 are their numbers; no slice is as long as 2 ^ 63
pub host_float_file_exactly : (s lent after : List ℕ) (r : ℕ)
    → length lent < 2 ^ 63
    → HostBuildsPeaks s lent r after
    → Exactly (r ≡ 2 ^ 63 + 66) ((check_decode s ≡ Fine) × (is_float (format_of s (fields_of s)) ≡ true))
unfolding host_peaks build_peaks_of
host_float_file_exactly s lent after r short d =
    let c = check_peaks_into s (length lent) in
    let o = Wrote (length (summary_of s)) in (
      λ e.
          let x = host_number c o (build_short s (length lent) short) 66 r d.0 e in
          float_so s x.0 x.1 x.2 (built_other s (length lent) x.0 x.1 (ap (eqb 50) x.2) x.3),
      λ e. d.0 ∙ ap (λ (k : Checked). result_of (answered k o).outcome) (other_built s (length lent) FloatFile nowhere (so_float s e.0 e.1)),
    )

pub host_check_float_file_exactly : (b s : List ℕ) (r : ℕ)
    → HostComparesPeaks b s r
    → Exactly (r ≡ 2 ^ 63 + 66) ((check_decode s ≡ Fine) × (is_float (format_of s (fields_of s)) ≡ true))
unfolding host_peaks_check compare_peaks_of
host_check_float_file_exactly b s r d =
    let o = verdict (same b (summary_of s)) in (
      λ e. let x = host_number (check_peaks s) o (λ q. verdict_small (same b (summary_of s))) 66 r d e in float_so s x.0 x.1 x.2 x.3,
      λ e. d ∙ ap (λ (k : Checked). result_of (answered k o).outcome) (so_float s e.0 e.1),
    )

pub host_pair_past_end_exactly : (s : List ℕ) (g c : ℕ) (lent after : List ℕ) (r : ℕ)
    → HostReadsPeak s g c lent r after
    → Exactly (r ≡ 2 ^ 63 + 67) ((check_summary s ≡ Fine) × ((groups_of (summary_frames s) ≤ g) ⊎ (summary_channels s ≤ c)))
unfolding host_peak read_peak_of
host_pair_past_end_exactly s g c lent after r d =
    let k = check_peak s g c (length lent / 4) in
    let o = Read (pairs_read 1) in (
      λ e. let x = host_number k o (λ q. omega arith) 67 r d.0 e in pair_past_so s g c (length lent / 4) x.0 x.1 x.2 x.3,
      λ e. d.0 ∙ ap (λ (y : Checked). result_of (answered y o).outcome) (so_pair_past s g c (length lent / 4) e.0 e.1),
    )

-- ---- WHAT NO SUMMARY IS: 10, 63, 64, AND 60 TO 62

-- a refusal of another number than 67 and 50
not_numbered : (x y : Refusal) → eqb (number x) (number y) ≡ false → x ≡ y → ⊥
not_numbered x y f e = let z = eqb-false (number x) (number y) f in z (ap number e)

by_number : (s : List ℕ) (r : Answer) (x : Refusal) → eqb (number x) 67 ≡ false → eqb (number x) 50 ≡ false → ReadsSummary s r
    → Exactly (r ≡ refused_by x nowhere) (check_summary s ≡ No x nowhere)
by_number s r x p q = summary_refused s r x nowhere (not_numbered x PairPastEnd p) (not_numbered x OutputTooShort q)

-- 10 exactly where the numbers of frames and of channels pass, and there are no channels
pub no_channels_exactly : (s : List ℕ) (r : Answer)
    → ReadsSummary s r
    → Exactly (r ≡ refused_by ZeroChannels nowhere) ((check_two s ≡ Fine) × (summary_channels s ≡ 0))
no_channels_exactly s r d =
    let q = by_number s r ZeroChannels refl refl d in
    (λ e. no_channels_so s (q.0 e), λ e. q.1 (so_no_channels s e.0 e.1))

-- 63 exactly where both pass, there are channels, every pair passes, and bytes are left behind the last one
pub bytes_behind_exactly : (s : List ℕ) (r : Answer)
    → ReadsSummary s r
    → Exactly (r ≡ refused_by BytesBehind nowhere)
    ((check_two s ≡ Fine) × (1 ≤ summary_channels s) × ((k : ℕ) → k < pair_count s → check_pair (from_pair s k) ≡ Fine) × (1 ≤ length (from_pair s (pair_count s))))
bytes_behind_exactly s r d =
    let q = by_number s r BytesBehind refl refl d in
    (λ e. bytes_behind_so s (q.0 e), λ e. q.1 (so_bytes_behind s e.0 e.1 e.2 e.3))

-- 64 exactly where some pair is come to, its two numbers pass, and its largest is below its smallest
pub crossed_exactly : (s : List ℕ) (r : Answer)
    → ReadsSummary s r
    → Exactly (r ≡ refused_by PeaksCrossed nowhere)
    ((k : ℕ) × ComesTo s k × (check_two (from_pair s k) ≡ Fine) × (le_z (pair_of (from_pair s k)).smallest (pair_of (from_pair s k)).largest ≡ false))
crossed_exactly s r d =
    let q = by_number s r PeaksCrossed refl refl d in
    (λ e. crossed_so s (q.0 e), λ e. q.1 (so_crossed s e.0 e.1 e.2 e.3))

-- 60, 61 and 62 exactly where the first number that does not pass says so: one of the two before the pairs, or one of
-- the two of a pair that is come to
pub number_exactly : (s : List ℕ) (r : Answer) (x : Refusal)
    → 60 ≤ number x
    → number x ≤ 62
    → ReadsSummary s r
    → Exactly (r ≡ refused_by x nowhere) (NumberSays x s ⊎ ((k : ℕ) × ComesTo s k × NumberSays x (from_pair s k)))
number_exactly s r x l m d =
    let q = by_number s r x (ne_eqb (number x) 67 (λ z. omega arith)) (ne_eqb (number x) 50 (λ z. omega arith)) d in
    (λ e. number_so s x l m (q.0 e), λ e. q.1 (so_number s x e))

-- ---- A SUMMARY IS SHORT

-- at most ten bytes a pair, and ten more
pub summary_is_short : (s lent after : List ℕ) (n : ℕ)
    → BuildsPeaks s lent (wrote n) after
    → n ≤ 10 * (groups_of (fields_of s).frames * (fields_of s).channels) + 10
unfolding summary_of
summary_is_short s lent after n d = omega (arith, built_long s lent after n d, summary_most (fields_of s).frames (fields_of s).channels (peak_at s))

-- a block takes at least 80: the summary is shorter than an eighth of the file
pub summary_is_an_eighth : (s lent after : List ℕ) (n : ℕ)
    → BuildsPeaks s lent (wrote n) after
    → 8 * n < length s
unfolding check_decode
summary_is_an_eighth s lent after n d =
    omega (arith, summary_is_short s lent after n d, blocks_take s (first_fine _ _ (peaks_decode s (built_fine s lent after n d))))

-- a pair takes at least two: no more samples are read than the summary has bytes
pub pairs_take_two : (s : List ℕ) (lent after : List ℤ) (n : ℕ)
    → ReadsPeaks s lent (read n) after
    → n ≤ length s
pairs_take_two s lent after n d = omega (arith, pairs_count s lent after n d, pairs_within s (pairs_fine s lent after n d))

-- so where a summary passes, as much room in samples as it has bytes is enough for all pairs
pub summary_is_room : (s : List ℕ) (lent after : List ℤ) (r : Answer)
    → check_summary s ≡ Fine
    → length s ≤ length lent
    → ReadsPeaks s lent r after
    → r ≡ read (2 * pair_count s)
unfolding read_peaks_of check_all_peaks
summary_is_room s lent after r fine room d =
    let e = room_enough (check_summary s) fine (length lent) (2 * pair_count s) OutputTooShort (omega (arith, pairs_within s fine)) in
    d.0 ∙ ap (λ (k : Checked). answered k (Read (pairs_read (pair_count s)))) e

-- at the host boundary four times as many bytes
pub host_summary_is_room : (s lent after : List ℕ) (r : ℕ)
    → check_summary s ≡ Fine
    → 4 * length s ≤ length lent
    → HostReadsPeaks s lent r after
    → r ≡ 4 * (2 * pair_count s)
unfolding host_peaks_all read_peaks_of check_all_peaks
host_summary_is_room s lent after r fine room d =
    let e = room_enough (check_summary s) fine (length lent / 4) (2 * pair_count s) OutputTooShort (omega (arith, pairs_within s fine)) in
    d.0 ∙ ap (λ (k : Checked). result_of (answered k (Read (pairs_read (pair_count s)))).outcome) e
