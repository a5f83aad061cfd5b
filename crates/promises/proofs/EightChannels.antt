-- Document 02, L4: eight channels, 8 and 32 bits. What each writer takes; when mid/side is refused without stereo; that
-- no sample of 32 bits is outside depth 32; that Auto is direct but for two channels; that mid and side of equal parity
-- are exact; and how much room is always enough.
use Prim.Native.Nat.{ℕ, ◌+◌, ◌^◌, ◌<◌, ◌≤◌, ◌%◌}
use mathlib.Core.Path.{◌≡◌, refl, sym, ap, ap₂, ◌∙◌}
use mathlib.Core.Logic.{◌≢◌}
use mathlib.Core.Bool.{true}
use mathlib.Core.List.{List, [], ◌∷◌}
use native.Mathlib.Omega.{arith}
use lib.ListN.{length}
use lib.IntN.{ℤ, ◌+ℤ◌, ◌-ℤ◌}
use lib.Signed.{mag}
use borrow.Author.Tests.{ltb-true, lt-ltb}
use Rattle.format.specs.Lists.{every}
use Rattle.format.specs.Numbers.{Below, holds}
use Rattle.format.specs.Refusals.{Checked, Fine, refuse, ◌then◌, nowhere}
use Rattle.format.specs.Answers.{answered, filled}
use Rattle.format.specs.Encoding.{mid, side, equal_parity, encoded_file, check_encoder, check_samples, check_encode_into, encode_of, encode_into}
use Rattle.format.specs.Reencoding.{check_reencode_into, reencode_of}
use Rattle.format.specs.Boundary.{samples_from, is_mode, mode_of, result_of, check_mode, check_bytes, check_host_encode, host_encode, host_encode_into, check_host_reencode, host_reencode}
use Rattle.format.specs.Promises.{Encodes, Reencodes, HostEncodes, HostReencodes}
use Rattle.format.specs.declared.refusals.Refusal.TheVariants.{WriterSpec, ValueOutside, OutputTooShort, NotStereo}
use Rattle.format.specs.declared.settings.PcmSpec.{PcmSpec}
use Rattle.format.specs.declared.settings.StereoMode.{StereoMode}
use Rattle.format.specs.declared.settings.StereoMode.TheVariants.{Auto, Direct, MidSide}
use Rattle.format.specs.declared.answers.Answer.{Answer}
use Rattle.format.specs.declared.answers.Outcome.TheVariants.{Wrote, Refused}
use Rattle.laws.proofs.Halves.{sum_is, difference_is, mid_range, side_range}
use Rattle.promises.proofs.Outcomes.{Exactly, exactly_number}
use Rattle.laws.proofs.SampleChecks.{Taken}
use Rattle.promises.proofs.EightChannelsLaws.{encoder_other, encoder_30, reencoder_other, reencoder_30, never_told, told_so, host_never_told, host_told_so, file_few, host_other, host_inner, template_few, again_other, again_inner, not_stereo_so, so_not_stereo, bytes_hold, outside_unsaid, file_same, checks_same, longest, room_unsaid}

-- ---- 30: WHAT EACH WRITER TAKES

-- encoding refuses 30 exactly where there are not 1 to 8 channels, or the depth is not 8, 16, 24 or 32, or there is no
-- rate
pub encoder_takes : (p : PcmSpec) (mode : StereoMode) (s : List ℤ) (lent after : List ℕ) (r : Answer)
    → Encodes p mode s lent r after
    → Exactly (r.outcome ≡ Refused WriterSpec) (Taken 8 (8 ∷ 16 ∷ 24 ∷ 32 ∷ []) p → ⊥)
unfolding encode_of
encoder_takes p mode s lent after r e =
    let c = check_encode_into p mode s (length lent) in
    let m = length (encoded_file p mode s) in
    (λ said t. never_told c m WriterSpec r (encoder_other p mode s (length lent) t) e.0 said, λ none. let n = encoder_30 p mode s (length lent) none in told_so c m WriterSpec r n.0 e.0 n.1)

-- re-encoding exactly where it did before: not 1 or 2 channels, or the depth is not 16 or 24, or there is no rate
pub reencoder_takes : (p : PcmSpec) (s : List ℤ) (t lent after : List ℕ) (r : Answer)
    → Reencodes p s t lent r after
    → Exactly (r.outcome ≡ Refused WriterSpec) (Taken 2 (16 ∷ 24 ∷ []) p → ⊥)
unfolding reencode_of
reencoder_takes p s t lent after r e =
    let c = check_reencode_into p s t (length lent) in
    (λ said k. never_told c (length t) WriterSpec r (reencoder_other p s t (length lent) k) e.0 said, λ none. let n = reencoder_30 p s t (length lent) none in told_so c (length t) WriterSpec r n.0 e.0 n.1)

-- at the host boundary, of whole samples and, in encoding, a known mode: 38 and 39 come before
pub host_encoder_takes : (b : List ℕ) (p : PcmSpec) (mode : ℕ) (lent after : List ℕ) (r : ℕ)
    → is_mode mode ≡ true
    → length b % 4 ≡ 0
    → length lent < 2 ^ 63
    → HostEncodes b p mode lent r after
    → Exactly (r ≡ 2 ^ 63 + 30) (Taken 8 (8 ∷ 16 ∷ 24 ∷ 32 ∷ []) p → ⊥)
unfolding host_encode
host_encoder_takes b p mode lent after r known whole short e =
    let s = samples_from b in
    let room = length lent in
    let c = check_host_encode b p mode room in
    let m = length (encoded_file p (mode_of mode) s) in (
      λ said t. host_never_told c m WriterSpec r (file_few b p mode room short) (host_other b p mode room short 30 refl refl (encoder_other p (mode_of mode) s room t)) e.0 said,
      λ none. let n = encoder_30 p (mode_of mode) s room none in host_told_so c m WriterSpec r n.0 e.0 (host_inner b p mode room short known whole ∙ n.1),
    )

pub host_reencoder_takes : (b : List ℕ) (p : PcmSpec) (t lent after : List ℕ) (r : ℕ)
    → length b % 4 ≡ 0
    → length lent < 2 ^ 63
    → HostReencodes b p t lent r after
    → Exactly (r ≡ 2 ^ 63 + 30) (Taken 2 (16 ∷ 24 ∷ []) p → ⊥)
unfolding host_reencode
host_reencoder_takes b p t lent after r whole short e =
    let s = samples_from b in
    let room = length lent in
    let c = check_host_reencode b p t room in (
      λ said k. host_never_told c (length t) WriterSpec r (template_few b p t room short) (again_other b p t room 30 refl (reencoder_other p s t room k)) e.0 said,
      λ none. let n = reencoder_30 p s t room none in host_told_so c (length t) WriterSpec r n.0 e.0 (again_inner b p t room whole ∙ n.1),
    )

-- ---- 34: MID/SIDE WITHOUT STEREO

-- encoding refuses 34 exactly where 30 to 33 pass, the mode is MidSide, and there are not two channels
pub not_stereo_exactly : (p : PcmSpec) (mode : StereoMode) (s : List ℤ) (lent after : List ℕ) (r : Answer)
    → Encodes p mode s lent r after
    → Exactly (r.outcome ≡ Refused NotStereo) (((check_encoder p then check_samples p s) ≡ Fine) × (mode ≡ MidSide) × (p.channels ≢ 2))
unfolding encode_of
not_stereo_exactly p mode s lent after r e =
    let q = exactly_number (check_encode_into p mode s (length lent)) (Wrote (length (encoded_file p mode s))) refl NotStereo r e.0 in
    (λ x. let n = q.0 x in not_stereo_so p mode s (length lent) n.0 n.1, λ x. q.1 (nowhere, so_not_stereo p mode s (length lent) x.0 x.1 x.2))

-- ---- 32 AT DEPTH 32

-- samples of 32 bits, as their type says, are never refused by 32 at depth 32
pub none_outside : (p : PcmSpec) (mode : StereoMode) (s : List ℤ) (lent after : List ℕ) (r : Answer)
    → p.bits_per_sample ≡ 32
    → every (holds 32) s ≡ true
    → Encodes p mode s lent r after
    → r.outcome ≢ Refused ValueOutside
unfolding encode_of
none_outside p mode s lent after r deep all e =
    never_told (check_encode_into p mode s (length lent)) (length (encoded_file p mode s)) ValueOutside r (outside_unsaid p s deep all mode (length lent)) e.0

-- at the host boundary: whatever the bytes are
pub host_none_outside : (b : List ℕ) (p : PcmSpec) (mode : ℕ) (lent after : List ℕ) (r : ℕ)
    → Below 256 b
    → p.bits_per_sample ≡ 32
    → length lent < 2 ^ 63
    → HostEncodes b p mode lent r after
    → r ≢ 2 ^ 63 + 32
unfolding host_encode
host_none_outside b p mode lent after r byte deep short e =
    let room = length lent in
    host_never_told (check_host_encode b p mode room) (length (encoded_file p (mode_of mode) (samples_from b))) ValueOutside r (file_few b p mode room short)
    (host_other b p mode room short 32 refl refl (outside_unsaid p (samples_from b) deep (bytes_hold b byte) (mode_of mode) room)) e.0

-- ---- AUTO

-- but for two channels Auto is direct: the same answer, and the same bytes
pub auto_direct : (p : PcmSpec) (s : List ℤ) (lent after : List ℕ) (r : Answer)
    → p.channels ≢ 2
    → Exactly (Encodes p Auto s lent r after) (Encodes p Direct s lent r after)
unfolding encode_of encode_into
auto_direct p s lent after r other =
    let checks = checks_same p s other (length lent) in
    let file = file_same p s other in
    let says = ap₂ (λ (c : Checked) (f : List ℕ). answered c (Wrote (length f))) checks file in
    let leaves = ap₂ (λ (c : Checked) (f : List ℕ). filled c f lent) checks file in
    (λ e. (e.0 ∙ says, e.1 ∙ leaves), λ e. (e.0 ∙ sym says, e.1 ∙ sym leaves))

-- at the host boundary Auto is the mode 0, and direct the mode 1
pub host_auto_direct : (b : List ℕ) (p : PcmSpec) (lent after : List ℕ) (r : ℕ)
    → p.channels ≢ 2
    → Exactly (HostEncodes b p 0 lent r after) (HostEncodes b p 1 lent r after)
unfolding host_encode host_encode_into check_host_encode check_mode is_mode mode_of refuse
host_auto_direct b p lent after r other =
    let s = samples_from b in
    let checks : check_host_encode b p 0 (length lent) ≡ check_host_encode b p 1 (length lent) = ap (λ (c : Checked). Fine then check_bytes b then c) (checks_same p s other (length lent)) in
    let file = file_same p s other in
    let says = ap₂ (λ (c : Checked) (f : List ℕ). result_of (answered c (Wrote (length f))).outcome) checks file in
    let leaves = ap₂ (λ (c : Checked) (f : List ℕ). filled c f lent) checks file in
    (λ e. (e.0 ∙ says, e.1 ∙ leaves), λ e. (e.0 ∙ sym says, e.1 ∙ sym leaves))

-- ---- MID AND SIDE

-- mid and side of samples of 32 bits are numbers of 32 bits; where the parity is equal, mid plus side is left and mid
-- minus side is right, without wrapping
pub halves_exact : (l r : ℤ)
    → holds 32 l ≡ true
    → holds 32 r ≡ true
    → (holds 32 (mid l r) ≡ true) × (holds 32 (side l r) ≡ true)
    × (equal_parity l r ≡ true → (mid l r +ℤ side l r ≡ l) × (mid l r -ℤ side l r ≡ r))
halves_exact l r f g =
    let low = ltb-true (mag l) (2 ^ 31) f in
    let lower = ltb-true (mag r) (2 ^ 31) g in (
      lt-ltb (mag (mid l r)) (2 ^ 31) (mid_range (2 ^ 31) (omega arith) l r low lower),
      lt-ltb (mag (side l r)) (2 ^ 31) (side_range (2 ^ 31) (omega arith) l r low lower),
      λ even. (sum_is (2 ^ 31) (omega arith) l r low lower even, difference_is (2 ^ 31) (omega arith) l r low lower even),
    )

-- ---- THE ROOM

-- with the longest file's room, whatever the samples are, 50 is never said
pub room_enough : (p : PcmSpec) (mode : StereoMode) (s : List ℤ) (lent after : List ℕ) (r : Answer)
    → longest p s ≤ length lent
    → Encodes p mode s lent r after
    → r.outcome ≢ Refused OutputTooShort
unfolding encode_of
room_enough p mode s lent after r enough e =
    never_told (check_encode_into p mode s (length lent)) (length (encoded_file p mode s)) OutputTooShort r (room_unsaid p mode s (length lent) enough) e.0

-- at the host boundary
pub host_room_enough : (b : List ℕ) (p : PcmSpec) (mode : ℕ) (lent after : List ℕ) (r : ℕ)
    → longest p (samples_from b) ≤ length lent
    → length lent < 2 ^ 63
    → HostEncodes b p mode lent r after
    → r ≢ 2 ^ 63 + 50
unfolding host_encode
host_room_enough b p mode lent after r enough short e =
    let room = length lent in
    host_never_told (check_host_encode b p mode room) (length (encoded_file p (mode_of mode) (samples_from b))) OutputTooShort r (file_few b p mode room short)
    (host_other b p mode room short 50 refl refl (room_unsaid p (mode_of mode) (samples_from b) room enough)) e.0
