-- Document 02, L7: a summary of peaks. One that was written reads as what was written; one that passes is the bytes of
-- its numbers, so that two which read alike are equal; how long one is; and by which number its bytes are refused.
use Rattle.std.specs.Prelude.{Ok, Err}
use Prim.Native.Nat.{ℕ, zero, suc, ◌+◌, ◌-◌, ◌*◌, ◌/◌, ◌%◌, ◌^◌, ◌≤◌, ◌<◌}
use mathlib.Core.Path.{◌≡◌, refl, sym, ap, ap₂, ◌∙◌, subst}
use mathlib.Core.Bool.{Bool, true, false, not}
use mathlib.Core.List.{List, [], ◌∷◌, ◌++◌, append_assoc, append-nil}
use mathlib.Core.Logic.{◌⊎◌, ⊎_elim, inl, inr}
use native.Mathlib.Omega.{arith}
use native.Mathlib.Nat.{add-zero, mul_comm, mul_assoc, zero-add, suc-mul, mod-lt, div-lt_iff_lt-mul}
use lib.ListN.{length, get_or, length-append, length-drop}
use lib.IntN.{ℤ, pos}
use lib.Signed.{mag, le_z}
use lib.Dec.{ltb, eqb}
use lib.Arith.{digits_lt, digits_div, digits_mod}
use borrow.Author.Tests.{ltb-true, ltb-false, eqb-true, eqb-false, lt-ltb, le-ltb, eq-eqb, ne_eqb, not-true, not-false}
use Rattle.format.specs.Lists.{joined, from, every, is_in}
use Rattle.format.specs.Numbers.{Below}
use Rattle.format.specs.Header.{groups_of}
use Rattle.format.specs.Refusals.{Checked, Fine, No, number, nowhere, refuse, ◌then◌, in_order}
use Rattle.format.specs.SevenBits.{seven, seven_length, seven_value, check_seven, past, folded, unfolded}
use Rattle.format.specs.Peaks.{pair_number, pair_samples, pairs_from, check_peak, check_all_peaks, peak_of, pair_bytes, summary_bytes, summary_frames, summary_channels, pair_count, from_pair, pair_of, check_two, check_pair, check_summary}
use Rattle.format.specs.declared.refusals.Refusal.{Refusal}
use Rattle.format.specs.declared.refusals.Refusal.TheVariants.{ZeroChannels, OutputTooShort, BytesBehind, PeaksCrossed, PairPastEnd}
use Rattle.format.specs.declared.refusals.Place.{Place}
use Rattle.format.specs.declared.units.Frames.{Frames}
use Rattle.format.specs.declared.answers.Peak.{Peak}
use Rattle.laws.proofs.Parts.{length_even, part_at, joined_add, joined_cong, length_most}
use Rattle.laws.proofs.Located.{Says, says_order, ◌and_says◌, refused_so, Only, only, only_unsaid, only_among}
use Rattle.laws.proofs.Chain.{stop, stop_then, not_yes, not_no, room_short}
use Rattle.laws.proofs.Checks.{pass, passed, ◌and_then◌, first_fine, others_fine, Unsaid, unsaid, ◌nor◌, said_after_lem, said_before, in_order_lem, order_fine, order_refuses, refusal_first}
use Rattle.laws.proofs.Wrap.{Fit}
use Rattle.laws.proofs.SevenBits.{seven_value_lem, seven_fine, seven_past, seven_most, fine_long, value_split, past_byte, unfolded_folded, folded_unfolded, folded_few}
use Rattle.laws.proofs.Extremes.{AtMost, le_after, IsExtreme, smallest_is, largest_is}

-- ---- a pair that a summary holds: of 32 bits, and not crossed
pub record IsSound (peak : Peak) : Type 0 where
  pub low : mag peak.smallest < 2 ^ 31
  pub high : mag peak.largest < 2 ^ 31
  pub ordered : AtMost peak.smallest peak.largest

-- the extremes of samples of 32 bits are
extreme_holds : (R : ℤ → ℤ → Type 0) (x : ℤ) (xs : List ℤ) → Fit xs → IsExtreme R x xs → mag x < 2 ^ 31
extreme_holds R x xs fit e = subst (λ (z : ℤ). mag z < 2 ^ 31) e.one.2 (fit e.one.0).sfits

pub peak_sound : (xs : List ℤ) → Fit xs → 0 < length xs → IsSound (peak_of xs)
peak_sound xs fit some =
    let a = smallest_is xs some in
    let b = largest_is xs some in
    record {
      low = extreme_holds AtMost _ xs fit a;
      high = extreme_holds (λ x y. AtMost y x) _ xs fit b;
      ordered = le_after (peak_of xs).smallest (get_or xs 0 (pos 0)) (peak_of xs).largest (a.each 0 some) (b.each 0 some);
    }

-- its bytes, with anything behind them
module _ (peak : Peak) (sound : IsSound peak) (t : List ℕ) where
  abbrev a : ℕ
  a = folded peak.smallest

  abbrev b : ℕ
  b = folded peak.largest

  abbrev a_few : a < 2 ^ 32
  a_few = folded_few peak.smallest sound.low

  abbrev b_few : b < 2 ^ 32
  b_few = folded_few peak.largest sound.high

  pair_split : pair_bytes peak ++ t ≡ seven a ++ (seven b ++ t)
  unfolding pair_bytes
  pair_split = append_assoc (seven a) (seven b) t

  second : past (pair_bytes peak ++ t) 1 ≡ seven b ++ t
  second = ap (λ (x : List ℕ). past x 1) pair_split ∙ seven_past a a_few (seven b ++ t)

  pub pair_past : past (pair_bytes peak ++ t) 2 ≡ t
  unfolding past
  pair_past = ap (λ (x : List ℕ). past x 1) second ∙ seven_past b b_few t

  pub pair_of_lem : pair_of (pair_bytes peak ++ t) ≡ peak
  unfolding pair_of
  pair_of_lem =
      ap₂ (λ (x y : ℤ). record { smallest = x; largest = y })
      (ap (λ (x : List ℕ). unfolded (seven_value x)) pair_split ∙ ap unfolded (seven_value_lem a a_few (seven b ++ t)) ∙ unfolded_folded peak.smallest)
      (ap (λ (x : List ℕ). unfolded (seven_value x)) second ∙ ap unfolded (seven_value_lem b b_few t) ∙ unfolded_folded peak.largest)

  pub pair_fine : check_pair (pair_bytes peak ++ t) ≡ Fine
  unfolding check_pair check_two
  pair_fine =
      ((ap check_seven pair_split ∙ seven_fine a a_few (seven b ++ t)) and_then (ap check_seven second ∙ seven_fine b b_few t))
      and_then pass _ PeaksCrossed (ap not (ap (λ (p : Peak). le_z p.smallest p.largest) pair_of_lem ∙ sound.ordered))

-- ---- A SUMMARY THAT WAS WRITTEN READS AS WHAT WAS WRITTEN
module _ (frames : Frames) (channels : ℕ) (peak : ℕ → ℕ → Peak) (few : frames.0 < 2 ^ 32) (narrow : channels < 2 ^ 32) (some : 1 ≤ channels)
    (sound : (g c : ℕ) → g < groups_of frames → c < channels → IsSound (peak g c)) where
  abbrev written : List ℕ
  written = summary_bytes frames channels peak

  abbrev count : ℕ
  count = groups_of frames * channels

  -- its pairs by their numbers
  abbrev peak_no : ℕ → Peak
  peak_no k = peak (k / channels) (k % channels)

  abbrev part : ℕ → List ℕ
  part k = pair_bytes (peak_no k)

  part_is : (g c : ℕ) → c < channels → peak_no (g * channels + c) ≡ peak g c
  part_is g c l = ap₂ peak (digits_div g l) (digits_mod g l)

  flat : (g : ℕ) → joined (λ g. joined (λ c. pair_bytes (peak g c)) channels) g ≡ joined part (g * channels)
  unfolding joined
  flat zero = let e : 0 ≡ 0 * channels = omega arith in ap (joined part) e
  flat (suc g) =
      ap₂ (λ (x y : List ℕ). x ++ y) (flat g) (joined_cong _ _ channels (λ c l. ap pair_bytes (sym (part_is g c l))))
      ∙ sym (ap (joined part) (suc-mul g channels) ∙ joined_add part (g * channels) channels)

  written_is : written ≡ seven frames.0 ++ (seven channels ++ joined part count)
  unfolding summary_bytes
  written_is = ap (λ (x : List ℕ). seven frames.0 ++ (seven channels ++ x)) (flat (groups_of frames))

  peak_no_sound : (k : ℕ) → k < count → IsSound (peak_no k)
  peak_no_sound k l = sound (k / channels) (k % channels) ((div-lt_iff_lt-mul some).1 l) (mod-lt k some)

  -- the bytes from pair k on
  abbrev rest : ℕ → List ℕ
  rest k = joined (λ i. part (k + i)) (count - k)

  rest_more : (k : ℕ) → k < count → rest k ≡ part k ++ rest (suc k)
  unfolding joined
  rest_more k l =
      let e : count - k ≡ 1 + (count - suc k) = omega arith in
      ap (joined (λ i. part (k + i))) e ∙ joined_add (λ i. part (k + i)) 1 (count - suc k)
      ∙ ap₂ (λ (x y : List ℕ). x ++ y) (ap part (add-zero k))
      (joined_cong _ _ (count - suc k) (λ i b. let q : k + (1 + i) ≡ suc k + i = omega arith in ap part q))

  rest_none : rest count ≡ []
  unfolding joined
  rest_none = let e : count - count ≡ 0 = omega arith in ap (joined (λ i. part (count + i))) e

  behind_frames : past written 1 ≡ seven channels ++ joined part count
  behind_frames = ap (λ (x : List ℕ). past x 1) written_is ∙ seven_past frames.0 few (seven channels ++ joined part count)

  behind_both : past written 2 ≡ joined part count
  unfolding past
  behind_both = ap (λ (x : List ℕ). past x 1) behind_frames ∙ seven_past channels narrow (joined part count)

  from_pair_lem : (k : ℕ) → k ≤ count → from_pair written k ≡ rest k
  unfolding from_pair
  from_pair_lem zero l =
      let e : count ≡ count - 0 = omega arith in
      behind_both ∙ ap (joined part) e ∙ joined_cong _ _ (count - 0) (λ i b. ap part (sym (zero-add i)))
  from_pair_lem (suc k) l =
      ap (λ (x : List ℕ). past x 2) (from_pair_lem k (omega arith) ∙ rest_more k (omega arith))
      ∙ pair_past (peak_no k) (peak_no_sound k (omega arith)) (rest (suc k))

  pub written_frames : seven_value written ≡ frames.0
  written_frames = ap seven_value written_is ∙ seven_value_lem frames.0 few (seven channels ++ joined part count)

  pub written_channels : summary_channels written ≡ channels
  written_channels = ap seven_value behind_frames ∙ seven_value_lem channels narrow (joined part count)

  pub written_count : pair_count written ≡ groups_of frames * channels
  unfolding pair_count
  written_count = ap₂ (λ (n c : ℕ). groups_of (record { 0 = n }) * c) written_frames written_channels

  pub written_pair : (g c : ℕ) → g < groups_of frames → c < channels → pair_of (from_pair written (g * channels + c)) ≡ peak g c
  written_pair g c l m =
      let k = g * channels + c in
      let b : k < count = digits_lt l m in
      ap pair_of (from_pair_lem k (omega arith) ∙ rest_more k b) ∙ pair_of_lem (peak_no k) (peak_no_sound k b) (rest (suc k)) ∙ part_is g c m

  pub written_fine : check_summary written ≡ Fine
  unfolding check_summary check_two
  written_fine =
      ((ap check_seven written_is ∙ seven_fine frames.0 few (seven channels ++ joined part count))
      and_then (ap check_seven behind_frames ∙ seven_fine channels narrow (joined part count)))
      and_then pass _ ZeroChannels (ne_eqb (summary_channels written) 0 (λ e. omega (arith, written_channels)))
      and_then in_order_lem _ (pair_count written) (λ k l.
      let b : k < count = omega (arith, written_count) in
      ap check_pair (from_pair_lem k (omega arith) ∙ rest_more k b) ∙ pair_fine (peak_no k) (peak_no_sound k b) (rest (suc k)))
      and_then pass _ BytesBehind (ap (λ (x : List ℕ). not (eqb (length x) 0)) (ap (from_pair written) written_count ∙ from_pair_lem count (omega arith) ∙ rest_none))

-- ---- A SUMMARY THAT PASSES IS ITS NUMBERS

-- two numbers that pass take two bytes at least
two_long : (t : List ℕ) → check_two t ≡ Fine → length (past t 2) + 2 ≤ length t
unfolding check_two past seven_length
two_long t fine =
    let u = past t 1 in
    omega (arith, fine_long t (first_fine _ _ fine), fine_long u (others_fine (check_seven t) _ fine), length-drop (seven_length t) t, length-drop (seven_length u) u)

module _ (s : List ℕ) (fine : check_summary s ≡ Fine) where
  pub summary_two : check_two s ≡ Fine
  unfolding check_summary
  summary_two = first_fine _ _ fine

  later_fine : (refuse (eqb (summary_channels s) 0) ZeroChannels then in_order (λ k. check_pair (from_pair s k)) (pair_count s) then refuse (not (eqb (length (from_pair s (pair_count s))) 0)) BytesBehind) ≡ Fine
  unfolding check_summary
  later_fine = others_fine (check_two s) _ fine

  pair_passes : (k : ℕ) → k < pair_count s → check_pair (from_pair s k) ≡ Fine
  pair_passes k l = order_fine (λ i. check_pair (from_pair s i)) k (pair_count s) l (first_fine _ _ (others_fine _ _ later_fine))

  pub each_two : (k : ℕ) → k < pair_count s → check_two (from_pair s k) ≡ Fine
  unfolding check_pair
  each_two k l = first_fine _ _ (pair_passes k l)

  none_behind : from_pair s (pair_count s) ≡ []
  none_behind = empty (from_pair s (pair_count s)) (eqb-true _ 0 (not-false _ (passed _ _ (others_fine _ _ (others_fine _ _ later_fine)))))
    where
      empty : (x : List ℕ) → length x ≡ 0 → x ≡ []
      empty [] e = refl
      empty (y ∷ ys) e = absurd (omega arith)

  -- each of its pairs takes two bytes at least
  left_long : (k : ℕ) → k ≤ pair_count s → 2 * k + length (from_pair s k) ≤ length s
  unfolding from_pair
  left_long zero l = omega (arith, two_long s summary_two)
  left_long (suc k) l = omega (arith, left_long k (omega arith), two_long (from_pair s k) (each_two k (omega arith)))

  pub pairs_within : 2 * pair_count s ≤ length s
  pairs_within = omega (arith, left_long (pair_count s) (omega arith))

-- of bytes
module _ (s : List ℕ) (byte : Below 256 s) (fine : check_summary s ≡ Fine) where
  -- its bytes from pair k on are bytes
  pub from_byte : (k : ℕ) → Below 256 (from_pair s k)
  unfolding from_pair
  from_byte zero = past_byte s 2 byte
  from_byte (suc k) = past_byte (from_pair s k) 2 (from_byte k)

  -- two numbers that pass, and what is left
  two_split : (t : List ℕ) → Below 256 t → check_two t ≡ Fine → t ≡ seven (seven_value t) ++ (seven (seven_value (past t 1)) ++ past t 2)
  unfolding check_two past
  two_split t b e =
      value_split t (first_fine _ _ e) b
      ∙ ap (λ (x : List ℕ). seven (seven_value t) ++ x) (value_split (past t 1) (others_fine (check_seven t) _ e) (past_byte t 1 b))

  pub summary_split : s ≡ seven (seven_value s) ++ (seven (summary_channels s) ++ from_pair s 0)
  unfolding from_pair
  summary_split = two_split s byte (summary_two s fine)

  pub pair_is : (k : ℕ) → k < pair_count s → from_pair s k ≡ pair_bytes (pair_of (from_pair s k)) ++ from_pair s (suc k)
  unfolding from_pair pair_bytes pair_of
  pair_is k l =
      let t = from_pair s k in
      let m = seven_value t in
      let n = seven_value (past t 1) in
      two_split t (from_byte k) (each_two s fine k l)
      ∙ sym (append_assoc (seven m) (seven n) (past t 2))
      ∙ ap₂ (λ (x y : ℕ). (seven x ++ seven y) ++ past t 2) (sym (folded_unfolded m)) (sym (folded_unfolded n))

-- two that read alike are equal
module _ (s t : List ℕ) (byte : Below 256 s) (byte' : Below 256 t) (fine : check_summary s ≡ Fine) (fine' : check_summary t ≡ Fine)
    (frames_same : seven_value s ≡ seven_value t) (channels_same : summary_channels s ≡ summary_channels t)
    (pairs_same : (k : ℕ) → k < pair_count s → pair_of (from_pair s k) ≡ pair_of (from_pair t k)) where
  count_same : pair_count s ≡ pair_count t
  unfolding pair_count
  count_same = ap₂ (λ (n c : ℕ). groups_of (record { 0 = n }) * c) frames_same channels_same

  left_same : (m k : ℕ) → k + m ≡ pair_count s → from_pair s k ≡ from_pair t k
  left_same zero k e =
      let q : k ≡ pair_count s = omega arith in
      ap (from_pair s) q ∙ none_behind s fine ∙ sym (none_behind t fine') ∙ ap (from_pair t) (sym (q ∙ count_same))
  left_same (suc m) k e =
      pair_is s byte fine k (omega arith)
      ∙ ap₂ (λ (p : Peak) (x : List ℕ). pair_bytes p ++ x) (pairs_same k (omega arith)) (left_same m (suc k) (omega arith))
      ∙ sym (pair_is t byte' fine' k (omega (arith, count_same)))

  pub alike_equal : s ≡ t
  alike_equal =
      summary_split s byte fine
      ∙ ap₂ (λ (n : ℕ) (x : List ℕ). seven n ++ x) frames_same (ap₂ (λ (c : ℕ) (x : List ℕ). seven c ++ x) channels_same (left_same (pair_count s) 0 (omega arith)))
      ∙ sym (summary_split t byte' fine')

-- the pairs of a summary, as samples
module _ (s : List ℕ) where
  abbrev pair : ℕ → List ℤ
  pair k = pair_samples (pair_of (from_pair s (0 + k)))

  pub pairs_long : (k n : ℕ) → length (pairs_from s k n) ≡ 2 * n
  unfolding pairs_from
  pairs_long k n = length_even (λ i. pair_samples (pair_of (from_pair s (k + i)))) 2 (λ i. refl) n

  -- the pair k
  pub pairs_at_lem : (n k : ℕ) → k < n → from (2 * k) 2 (pairs_from s 0 n) ≡ pair_samples (pair_of (from_pair s k))
  unfolding pairs_from
  pairs_at_lem n k l =
      let e : 2 * k ≡ 0 + length (joined pair k) = omega (arith, length_even pair 2 (λ k. refl) k) in
      ap (from (2 * k) 2) (sym (append-nil (joined pair n))) ∙ part_at pair k n (2 * k) 2 [] [] l e refl ∙ ap (λ (i : ℕ). pair_samples (pair_of (from_pair s i))) (zero-add k)

  pub pairs_one : (k : ℕ) → pairs_from s k 1 ≡ pair_samples (pair_of (from_pair s k))
  unfolding pairs_from joined
  pairs_one k = ap (λ (i : ℕ). pair_samples (pair_of (from_pair s i))) (add-zero k)

  -- the number of a pair that is not past the last
  pub number_within : (g c : ℕ) → g < groups_of (summary_frames s) → c < summary_channels s → pair_number s g c < pair_count s
  unfolding pair_number pair_count
  number_within g c l m = digits_lt l m

-- ---- HOW LONG A SUMMARY IS

pair_most : (peak : Peak) → length (pair_bytes peak) ≤ 10
unfolding pair_bytes
pair_most peak =
    let a = folded peak.smallest in
    let b = folded peak.largest in
    omega (arith, length-append (seven a) (seven b), seven_most a, seven_most b)

-- at most ten bytes for each pair, and for the two numbers before them
pub summary_most : (frames : Frames) (channels : ℕ) (peak : ℕ → ℕ → Peak) → length (summary_bytes frames channels peak) ≤ 10 * (groups_of frames * channels) + 10
unfolding summary_bytes
summary_most frames channels peak =
    let group : ℕ → List ℕ = λ g. joined (λ c. pair_bytes (peak g c)) channels in
    let n = groups_of frames in
    let all = joined group n in
    omega (
      arith,
      length-append (seven frames.0) (seven channels ++ all),
      length-append (seven channels) all,
      seven_most frames.0,
      seven_most channels,
      length_most group (10 * channels) (λ g. length_most (λ c. pair_bytes (peak g c)) 10 (λ c. pair_most (peak g c)) channels) n,
      mul_assoc 10 channels n,
      mul_comm channels n,
    )

-- ---- BY WHICH NUMBER

-- of the two numbers with which t begins, the first that does not pass says x
abbrev pub NumberSays : Refusal → List ℕ → Type 0
NumberSays x t = (check_seven t ≡ No x nowhere) ⊎ ((check_seven t ≡ Fine) × (check_seven (past t 1) ≡ No x nowhere))

-- pair k is come to: the numbers before the pairs pass, there are channels, and all pairs before it pass
pub record ComesTo (s : List ℕ) (k : ℕ) : Type 0 where
  pub numbers : check_two s ≡ Fine
  pub channels : 1 ≤ summary_channels s
  pub below : k < pair_count s
  pub before : (i : ℕ) → i < k → check_pair (from_pair s i) ≡ Fine

abbrev seven_numbers : List ℕ
seven_numbers = 60 ∷ 61 ∷ 62 ∷ []

abbrev pair_numbers : List ℕ
pair_numbers = 60 ∷ 61 ∷ 62 ∷ 64 ∷ []

abbrev summary_numbers : List ℕ
summary_numbers = 60 ∷ 61 ∷ 62 ∷ 10 ∷ 63 ∷ 64 ∷ []

-- ---- of two numbers, and of a pair
seven_says : (t : List ℕ) → Says (Only seven_numbers) (check_seven t)
unfolding check_seven is_in
seven_says t = let one = only seven_numbers in one _ _ refl and_says one _ _ refl and_says one _ _ refl

module _ (t : List ℕ) where
  two_says : Says (Only seven_numbers) (check_two t)
  unfolding check_two
  two_says = seven_says t and_says seven_says (past t 1)

  pair_says : Says (Only pair_numbers) (check_pair t)
  unfolding check_pair every is_in
  pair_says = only_among seven_numbers (check_two t) two_says pair_numbers refl and_says only pair_numbers _ _ refl

  two_unsaid : (x : Refusal) → is_in (number x) seven_numbers ≡ false → Unsaid x (check_two t)
  two_unsaid = only_unsaid seven_numbers (check_two t) two_says

  -- one of the two
  two_so : (x : Refusal) → check_two t ≡ No x nowhere → NumberSays x t
  unfolding check_two ◌then◌
  two_so x = by (check_seven t)
    where
      by : (c : Checked) → (c then check_seven (past t 1)) ≡ No x nowhere → (c ≡ No x nowhere) ⊎ ((c ≡ Fine) × (check_seven (past t 1) ≡ No x nowhere))
      by (Ok ok) e = inr (refl, e)
      by (Err refused) e = inl e

  so_two : (x : Refusal) → NumberSays x t → check_two t ≡ No x nowhere
  unfolding check_two ◌then◌
  so_two x =
      ⊎_elim (λ (e : check_seven t ≡ No x nowhere). ap (λ (c : Checked). c then check_seven (past t 1)) e)
      (λ (e : (check_seven t ≡ Fine) × (check_seven (past t 1) ≡ No x nowhere)). e.0 and_then e.1)

  abbrev crossed : Checked
  crossed = refuse (not (le_z (pair_of t).smallest (pair_of t).largest)) PeaksCrossed

  -- a pair says a number's refusal where one of its numbers does
  pair_two_so : (x : Refusal) → eqb 64 (number x) ≡ false → check_pair t ≡ No x nowhere → NumberSays x t
  unfolding check_pair
  pair_two_so x n e = two_so x (said_before x nowhere (check_two t) crossed (unsaid x PeaksCrossed _ n) e)

  so_pair_two : (x : Refusal) → NumberSays x t → check_pair t ≡ No x nowhere
  unfolding check_pair ◌then◌
  so_pair_two x e = ap (λ (c : Checked). c then crossed) (so_two x e)

  -- and 64 where both pass, and the largest is below the smallest
  pair_crossed_so : check_pair t ≡ No PeaksCrossed nowhere → (check_two t ≡ Fine) × (le_z (pair_of t).smallest (pair_of t).largest ≡ false)
  unfolding check_pair is_in
  pair_crossed_so e =
      let q = said_after_lem PeaksCrossed nowhere (check_two t) crossed (two_unsaid PeaksCrossed refl) e in
      (q.0, not-true _ (refused_so _ PeaksCrossed PeaksCrossed nowhere q.1).0)

  so_pair_crossed : check_two t ≡ Fine → le_z (pair_of t).smallest (pair_of t).largest ≡ false → check_pair t ≡ No PeaksCrossed nowhere
  unfolding check_pair
  so_pair_crossed fine e = fine and_then sym (stop PeaksCrossed _ (not_no _ e))

module _ (s : List ℕ) where
  abbrev none : Checked
  none = refuse (eqb (summary_channels s) 0) ZeroChannels

  abbrev pairs : Checked
  pairs = in_order (λ k. check_pair (from_pair s k)) (pair_count s)

  abbrev behind : Checked
  behind = refuse (not (eqb (length (from_pair s (pair_count s))) 0)) BytesBehind

  pairs_say_lem : Says (Only pair_numbers) pairs
  pairs_say_lem = says_order (Only pair_numbers) (λ k. check_pair (from_pair s k)) (pair_count s) (λ k l. pair_says (from_pair s k))

  -- what is refused of a summary's bytes names nothing
  pub summary_says : Says (Only (60 ∷ 61 ∷ 62 ∷ 10 ∷ 63 ∷ 64 ∷ [])) (check_summary s)
  unfolding check_summary every is_in
  summary_says =
      let one = only summary_numbers in
      only_among seven_numbers (check_two s) (two_says s) summary_numbers refl and_says one _ _ refl
      and_says only_among pair_numbers pairs pairs_say_lem summary_numbers refl and_says one _ _ refl

  -- 10
  pub no_channels_so : check_summary s ≡ No ZeroChannels nowhere → (check_two s ≡ Fine) × (summary_channels s ≡ 0)
  unfolding check_summary is_in
  no_channels_so e =
      let x = ZeroChannels in
      let q = said_after_lem x nowhere (check_two s) _ (two_unsaid s x refl) e in
      let r = said_before x nowhere none (pairs then behind) (only_unsaid pair_numbers pairs pairs_say_lem x refl nor unsaid x BytesBehind _ refl) q.1 in
      (q.0, eqb-true (summary_channels s) 0 (refused_so _ x x nowhere r).0)

  pub so_no_channels : check_two s ≡ Fine → summary_channels s ≡ 0 → check_summary s ≡ No ZeroChannels nowhere
  unfolding check_summary
  so_no_channels fine e = fine and_then sym (stop_then ZeroChannels _ _ (eq-eqb (summary_channels s) 0 e))

  -- after the two numbers and 10
  later_so : (x : Refusal) → eqb 10 (number x) ≡ false → (none then pairs then behind) ≡ No x nowhere → (1 ≤ summary_channels s) × ((pairs then behind) ≡ No x nowhere)
  later_so x n e =
      let q = said_after_lem x nowhere none (pairs then behind) (unsaid x ZeroChannels _ n) e in
      let z = eqb-false (summary_channels s) 0 (passed _ _ q.0) in
      (omega arith, q.1)

  so_later : (x : Refusal) → check_two s ≡ Fine → 1 ≤ summary_channels s → (pairs then behind) ≡ No x nowhere → check_summary s ≡ No x nowhere
  unfolding check_summary
  so_later x fine some e = fine and_then pass _ ZeroChannels (ne_eqb (summary_channels s) 0 (λ z. omega arith)) and_then e

  -- 63
  pub bytes_behind_so : check_summary s ≡ No BytesBehind nowhere
      → (check_two s ≡ Fine) × (1 ≤ summary_channels s) × ((k : ℕ) → k < pair_count s → check_pair (from_pair s k) ≡ Fine) × (1 ≤ length (from_pair s (pair_count s)))
  unfolding check_summary is_in
  bytes_behind_so e =
      let x = BytesBehind in
      let q = said_after_lem x nowhere (check_two s) _ (two_unsaid s x refl) e in
      let r = later_so x refl q.1 in
      let a = said_after_lem x nowhere pairs behind (only_unsaid pair_numbers pairs pairs_say_lem x refl) r.1 in
      let z = eqb-false (length (from_pair s (pair_count s))) 0 (not-true _ (refused_so _ x x nowhere a.1).0) in
      (q.0, r.0, λ k l. order_fine (λ i. check_pair (from_pair s i)) k (pair_count s) l a.0, omega arith)

  pub so_bytes_behind : check_two s ≡ Fine → 1 ≤ summary_channels s → ((k : ℕ) → k < pair_count s → check_pair (from_pair s k) ≡ Fine) → 1 ≤ length (from_pair s (pair_count s))
      → check_summary s ≡ No BytesBehind nowhere
  so_bytes_behind fine some each more =
      so_later BytesBehind fine some
      (in_order_lem (λ k. check_pair (from_pair s k)) (pair_count s) each
      and_then sym (stop BytesBehind _ (not_no _ (ne_eqb (length (from_pair s (pair_count s))) 0 (λ z. omega arith)))))

  -- what the pairs say: the first that does not pass
  pair_so : (x : Refusal) → eqb 10 (number x) ≡ false → eqb 63 (number x) ≡ false → check_two s ≡ Fine → (none then pairs then behind) ≡ No x nowhere
      → (k : ℕ) × ComesTo s k × (check_pair (from_pair s k) ≡ No x nowhere)
  pair_so x m n fine e =
      let q = later_so x m e in
      let check : ℕ → Checked = λ k. check_pair (from_pair s k) in
      let f = refusal_first check (pair_count s) x nowhere (said_before x nowhere pairs behind (unsaid x BytesBehind _ n) q.1) in
      (f.at, record { numbers = fine; channels = q.0; below = f.below; before = λ i l. order_fine check i f.at l f.before }, f.refuses)

  so_pair : (x : Refusal) (k : ℕ) → ComesTo s k → check_pair (from_pair s k) ≡ No x nowhere → check_summary s ≡ No x nowhere
  unfolding ◌then◌
  so_pair x k c e =
      let check : ℕ → Checked = λ i. check_pair (from_pair s i) in
      so_later x c.numbers c.channels
      (ap (λ (y : Checked). y then behind) (order_refuses check (pair_count s) x nowhere (record { at = k; below = c.below; before = in_order_lem check k c.before; refuses = e })))

  -- 64
  pub crossed_so : check_summary s ≡ No PeaksCrossed nowhere
      → (k : ℕ) × ComesTo s k × (check_two (from_pair s k) ≡ Fine) × (le_z (pair_of (from_pair s k)).smallest (pair_of (from_pair s k)).largest ≡ false)
  unfolding check_summary is_in
  crossed_so e =
      let q = said_after_lem PeaksCrossed nowhere (check_two s) _ (two_unsaid s PeaksCrossed refl) e in
      let p = pair_so PeaksCrossed refl refl q.0 q.1 in
      let c = pair_crossed_so (from_pair s p.0) p.2 in
      (p.0, p.1, c.0, c.1)

  pub so_crossed : (k : ℕ) → ComesTo s k → check_two (from_pair s k) ≡ Fine → le_z (pair_of (from_pair s k)).smallest (pair_of (from_pair s k)).largest ≡ false
      → check_summary s ≡ No PeaksCrossed nowhere
  so_crossed k c fine e = so_pair PeaksCrossed k c (so_pair_crossed (from_pair s k) fine e)

  -- 60, 61 and 62
  pub number_so : (x : Refusal) → 60 ≤ number x → number x ≤ 62 → check_summary s ≡ No x nowhere → NumberSays x s ⊎ ((k : ℕ) × ComesTo s k × NumberSays x (from_pair s k))
  unfolding check_summary ◌then◌
  number_so x l m e = by (check_two s) refl
    where
      other : (n : ℕ) → (n ≡ number x → ⊥) → eqb n (number x) ≡ false
      other n = ne_eqb n (number x)

      by : (c : Checked) → check_two s ≡ c → NumberSays x s ⊎ ((k : ℕ) × ComesTo s k × NumberSays x (from_pair s k))
      by (Ok ok) fine =
          let p = pair_so x (other 10 (λ z. omega arith)) (other 63 (λ z. omega arith)) fine (sym (ap (λ (y : Checked). y then none then pairs then behind) fine) ∙ e) in
          inr (p.0, p.1, pair_two_so (from_pair s p.0) x (other 64 (λ z. omega arith)) p.2)
      by (Err refused) q = inl (two_so s x (q ∙ sym (ap (λ (y : Checked). y then none then pairs then behind) q) ∙ e))

  pub so_number : (x : Refusal) → NumberSays x s ⊎ ((k : ℕ) × ComesTo s k × NumberSays x (from_pair s k)) → check_summary s ≡ No x nowhere
  unfolding check_summary ◌then◌
  so_number x =
      ⊎_elim (λ (e : NumberSays x s). ap (λ (y : Checked). y then none then pairs then behind) (so_two s x e))
      (λ (e : (k : ℕ) × ComesTo s k × NumberSays x (from_pair s k)). so_pair x e.0 e.1 (so_pair_two (from_pair s e.0) x e.2))

  summary_unsaid : (x : Refusal) → is_in (number x) summary_numbers ≡ false → Unsaid x (check_summary s)
  summary_unsaid = only_unsaid summary_numbers (check_summary s) summary_says

  module _ (g c : ℕ) where
    abbrev groups : ℕ
    groups = groups_of (summary_frames s)

    abbrev channels : ℕ
    channels = summary_channels s

    -- past the last group, or past the last channel
    abbrev pub IsPast : Type 0
    IsPast = (groups_of (summary_frames s) ≤ g) ⊎ (summary_channels s ≤ c)

    -- 67
    pub pair_past_so : (room : ℕ) (x : Refusal) (at : Place) → number x ≡ 67 → check_peak s g c room ≡ No x at → (check_summary s ≡ Fine) × IsPast
    unfolding check_peak is_in
    pair_past_so room x at n e =
        let q = said_after_lem x at (check_summary s) _ (summary_unsaid x (ap (λ (m : ℕ). is_in m summary_numbers) n)) e in
        (q.0, by (not (ltb g groups)) refl q.1)
      where
        by : (b : Bool) → not (ltb g groups) ≡ b → (refuse b PairPastEnd then refuse (not (ltb c channels)) PairPastEnd then refuse (ltb room 2) OutputTooShort) ≡ No x at → IsPast
        by true t q = inl (ltb-false g groups (not-true _ t))
        by false t q =
            let r = said_before x at (refuse (not (ltb c channels)) PairPastEnd) (refuse (ltb room 2) OutputTooShort) (unsaid x OutputTooShort _ (ap (eqb 50) n)) (sym (pass false PairPastEnd refl and_then refl) ∙ q) in
            inr (ltb-false c channels (not-true _ (refused_so _ PairPastEnd x at r).0))

    pub so_pair_past : (room : ℕ) → check_summary s ≡ Fine → IsPast → check_peak s g c room ≡ No PairPastEnd nowhere
    unfolding check_peak
    so_pair_past room fine either =
        fine and_then ⊎_elim (λ (l : groups ≤ g). sym (stop_then PairPastEnd _ _ (not_no _ (le-ltb g groups l))))
        (λ (l : channels ≤ c). by (not (ltb g groups)) l) either
      where
        by : (b : Bool) → channels ≤ c → (refuse b PairPastEnd then refuse (not (ltb c channels)) PairPastEnd then refuse (ltb room 2) OutputTooShort) ≡ No PairPastEnd nowhere
        by true l = sym (stop_then PairPastEnd true _ refl)
        by false l = pass false PairPastEnd refl and_then sym (stop_then PairPastEnd _ _ (not_no _ (le-ltb c channels l)))

    -- and where it is not past the last, only the room is left
    pub within_checks : g < groups_of (summary_frames s) → c < summary_channels s → (room : ℕ) → check_peak s g c room ≡ (check_summary s then refuse (ltb room 2) OutputTooShort)
    unfolding check_peak
    within_checks l m room =
        ap (λ (k : Checked). check_summary s then k)
        (pass _ PairPastEnd (not_yes _ (lt-ltb g groups l)) and_then pass _ PairPastEnd (not_yes _ (lt-ltb c channels m)) and_then refl)

    -- where it passes, it is not past the last
    pub passed_within : (room : ℕ) → check_peak s g c room ≡ Fine → (g < groups_of (summary_frames s)) × (c < summary_channels s)
    unfolding check_peak
    passed_within room fine =
        let a = others_fine (check_summary s) _ fine in
        let b = others_fine (refuse (not (ltb g groups)) PairPastEnd) _ a in
        (ltb-true g groups (not-false _ (passed _ _ (first_fine _ _ a))), ltb-true c channels (not-false _ (passed _ _ (first_fine _ _ b))))

    -- 50
    pub pair_short_so : (room : ℕ) (x : Refusal) (at : Place) → number x ≡ 50 → check_peak s g c room ≡ No x at
        → (check_summary s ≡ Fine) × (g < groups_of (summary_frames s)) × (c < summary_channels s) × (room < 2)
    unfolding check_peak is_in
    pair_short_so room x at n e =
        let a = said_after_lem x at (check_summary s) _ (summary_unsaid x (ap (λ (m : ℕ). is_in m summary_numbers) n)) e in
        let b = said_after_lem x at (refuse (not (ltb g groups)) PairPastEnd) _ (unsaid x PairPastEnd _ (ap (eqb 67) n)) a.1 in
        let d = said_after_lem x at (refuse (not (ltb c channels)) PairPastEnd) _ (unsaid x PairPastEnd _ (ap (eqb 67) n)) b.1 in
        (a.0, ltb-true _ _ (not-false _ (passed _ _ b.0)), ltb-true _ _ (not-false _ (passed _ _ d.0)), ltb-true room 2 (refused_so _ OutputTooShort x at d.1).0)

    pub so_pair_short : (room : ℕ) → check_summary s ≡ Fine → g < groups_of (summary_frames s) → c < summary_channels s → room < 2 → check_peak s g c room ≡ No OutputTooShort nowhere
    so_pair_short room fine l m few = within_checks l m room ∙ room_short (check_summary s) fine room 2 OutputTooShort few

    -- any other number is the summary's own
    pub pair_other : (room : ℕ) (x : Refusal) (at : Place) → (x ≡ PairPastEnd → ⊥) → (x ≡ OutputTooShort → ⊥) → check_peak s g c room ≡ No x at → check_summary s ≡ No x at
    unfolding check_peak
    pair_other room x at a b e =
        said_before x at (check_summary s) _
        ((λ l q. a (refused_so _ PairPastEnd x l q).1) nor (λ l q. a (refused_so _ PairPastEnd x l q).1) nor (λ l q. b (refused_so _ OutputTooShort x l q).1)) e

    pub other_pair : (room : ℕ) (x : Refusal) (at : Place) → check_summary s ≡ No x at → check_peak s g c room ≡ No x at
    unfolding check_peak ◌then◌
    other_pair room x at e = rw e

  -- of all pairs
  pub pairs_short_so : (room : ℕ) (x : Refusal) (at : Place) → number x ≡ 50 → check_all_peaks s room ≡ No x at → (check_summary s ≡ Fine) × (room < 2 * pair_count s)
  unfolding check_all_peaks is_in
  pairs_short_so room x at n e =
      let a = said_after_lem x at (check_summary s) _ (summary_unsaid x (ap (λ (m : ℕ). is_in m summary_numbers) n)) e in
      (a.0, ltb-true _ _ (refused_so _ OutputTooShort x at a.1).0)

  pub so_pairs_short : (room : ℕ) → check_summary s ≡ Fine → room < 2 * pair_count s → check_all_peaks s room ≡ No OutputTooShort nowhere
  unfolding check_all_peaks
  so_pairs_short room fine l = room_short (check_summary s) fine room (2 * pair_count s) OutputTooShort l

  pub pairs_other : (room : ℕ) (x : Refusal) (at : Place) → (x ≡ OutputTooShort → ⊥) → check_all_peaks s room ≡ No x at → check_summary s ≡ No x at
  unfolding check_all_peaks
  pairs_other room x at b e = said_before x at (check_summary s) _ (λ l q. b (refused_so _ OutputTooShort x l q).1) e

  pub other_pairs : (room : ℕ) (x : Refusal) (at : Place) → check_summary s ≡ No x at → check_all_peaks s room ≡ No x at
  unfolding check_all_peaks ◌then◌
  other_pairs room x at e = rw e
