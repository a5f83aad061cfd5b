-- Document 02, L6, at the host boundary: the word that tells what a call would refuse, and where. It is 0 exactly where
-- the call of that room returns a length; otherwise its low byte is the number, and its other parts are the place that
-- 36 tells, the channel and the group.
use Rattle.std.specs.Prelude.{Ok, Err}
use Prim.Native.Nat.{ℕ, ◌+◌, ◌/◌, ◌%◌, ◌^◌, ◌≤◌, ◌<◌}
use mathlib.Core.Path.{◌≡◌, refl, sym, ap, ◌∙◌}
use mathlib.Core.Bool.{Bool, true, not, ◌&&◌}
use mathlib.Core.List.{List}
use mathlib.Core.Logic.{◌⊎◌, ⊎_elim, inl, inr}
use native.Mathlib.Omega.{arith}
use lib.ListN.{length}
use lib.Dec.{ltb, eqb}
use borrow.Author.Tests.{ltb-true, not-true}
use Rattle.format.specs.Lists.{every}
use Rattle.format.specs.Numbers.{Below}
use Rattle.format.specs.Header.{fields_of, groups_of}
use Rattle.format.specs.Refusals.{Checked, Fine, No, number, told, ◌then◌}
use Rattle.format.specs.Places.{outside, inside, IsNamed}
use Rattle.format.specs.declared.places.Named.{Named}
use Rattle.format.specs.declared.places.Named.TheVariants.{NoGroup, TheGroup, TheBlock}
use Rattle.format.specs.Answers.{answered}
use Rattle.format.specs.Opening.{check_open}
use Rattle.format.specs.Decoding.{check_decode, decoded_count, check_room, decode_of}
use Rattle.format.specs.Reencoding.{check_reencode_into}
use Rattle.format.specs.Boundary.{samples_from, check_bytes, result_of, host_decode, check_host_reencode, host_reencode}
use Rattle.format.specs.Boundary.{misfit_told, refusal_word, host_decode_refusal, host_reencode_refusal}
use Rattle.format.specs.Promises.{HostDecodes, HostReencodes, HostDecodeRefuses, HostReencodeRefuses}
use Rattle.format.specs.declared.refusals.Refusal.{Refusal}
use Rattle.format.specs.declared.refusals.Refusal.TheVariants.{TooShort, FileSignature, BlockSignature, BitsWord, ZeroChannels, DepthUnknown}
use Rattle.format.specs.declared.refusals.Refusal.TheVariants.{ZeroRate, TableOffset, DataOffset, TableLength, LastEntry, DataWithoutFrames}
use Rattle.format.specs.declared.refusals.Refusal.TheVariants.{FirstEntry, EntryBounds, FloatDiffers, MidSideChannels, BytesLeft, WriterSpec}
use Rattle.format.specs.declared.refusals.Refusal.TheVariants.{IncompleteFrame, ValueOutside, TooManyFrames, NotStereo, ParityDiffers, WidthTooSmall}
use Rattle.format.specs.declared.refusals.Refusal.TheVariants.{DataTooLarge, UnknownMode, SampleBytes, TemplateDiffers, TemplateBounds, TemplateOffsets}
use Rattle.format.specs.declared.refusals.Refusal.TheVariants.{ShortGroup, TemplateBits, TemplateFlags, TemplateBytesLeft, OutputTooShort, RangePastEnd}
use Rattle.format.specs.declared.refusals.Refusal.TheVariants.{NumberCut, NumberLong, NumberTooLarge, BytesBehind, PeaksCrossed, FloatFile, PairPastEnd}
use Rattle.format.specs.declared.refusals.Place.{Place}
use Rattle.format.specs.declared.settings.PcmSpec.{PcmSpec}
use Rattle.format.specs.declared.answers.Outcome.{Outcome}
use Rattle.format.specs.declared.answers.Outcome.TheVariants.{Read, Wrote}
use Rattle.laws.proofs.Tests.{never, and_left, and_right}
use Rattle.laws.proofs.Checks.{unsaid, said_after_lem}
use Rattle.laws.proofs.Located.{says_refuse, ◌and_says◌, says_nowhere, Passes, decode_passes, bytes_nowhere, channels_few}
use Rattle.promises.proofs.Outcomes.{Exactly}
use Rattle.promises.proofs.Certain.{decode_short, reencode_short}
use Rattle.promises.proofs.Misfits.{misfit_so, misfit_below}
use Rattle.promises.proofs.Places.{ByTable, decode_table, reencode_table}
use Rattle.promises.proofs.Places.ByTable.{Before, InGroup, NoRoom}

-- r is what the call returns, and word what it would refuse
pub record WordTells (r word : ℕ) : Type 0 where
  -- 0 exactly where a length is returned
  pub nothing : Exactly (word ≡ 0) (r < 2 ^ 63)
  -- and otherwise the number
  pub the_number : 2 ^ 63 ≤ r → r ≡ 2 ^ 63 + word % 2 ^ 8

-- the parts of a word, read back: what is refused, and where
pub record Parts (word : ℕ) (x : Refusal) (at : Place) : Type 0 where
  pub the_number : word % 2 ^ 8 ≡ number x
  pub the_misfit : word / 2 ^ 8 % 2 ^ 16 ≡ misfit_told (told x)
  pub the_channel : word / 2 ^ 24 % 2 ^ 16 ≡ at.channel
  pub the_group : word / 2 ^ 40 ≡ at.group

-- ---- a number is from 1 to 255, and no refusal but 36 tells a place
known : (x : Refusal) → ((ltb 0 (number x) && ltb (number x) 256) ≡ true) × ((misfit_told (told x) ≡ 0) ⊎ (x ≡ WidthTooSmall (misfit_told (told x))))
known TooShort = (refl, inl refl)
known FileSignature = (refl, inl refl)
known BlockSignature = (refl, inl refl)
known (BitsWord bits) = (refl, inl refl)
known ZeroChannels = (refl, inl refl)
known DepthUnknown = (refl, inl refl)
known ZeroRate = (refl, inl refl)
known TableOffset = (refl, inl refl)
known DataOffset = (refl, inl refl)
known TableLength = (refl, inl refl)
known LastEntry = (refl, inl refl)
known DataWithoutFrames = (refl, inl refl)
known FirstEntry = (refl, inl refl)
known EntryBounds = (refl, inl refl)
known FloatDiffers = (refl, inl refl)
known MidSideChannels = (refl, inl refl)
known BytesLeft = (refl, inl refl)
known WriterSpec = (refl, inl refl)
known IncompleteFrame = (refl, inl refl)
known ValueOutside = (refl, inl refl)
known TooManyFrames = (refl, inl refl)
known NotStereo = (refl, inl refl)
known ParityDiffers = (refl, inl refl)
known (WidthTooSmall k) = (refl, inr refl)
known DataTooLarge = (refl, inl refl)
known UnknownMode = (refl, inl refl)
known SampleBytes = (refl, inl refl)
known TemplateDiffers = (refl, inl refl)
known TemplateBounds = (refl, inl refl)
known TemplateOffsets = (refl, inl refl)
known ShortGroup = (refl, inl refl)
known TemplateBits = (refl, inl refl)
known TemplateFlags = (refl, inl refl)
known TemplateBytesLeft = (refl, inl refl)
known OutputTooShort = (refl, inl refl)
known RangePastEnd = (refl, inl refl)
known NumberCut = (refl, inl refl)
known NumberLong = (refl, inl refl)
known NumberTooLarge = (refl, inl refl)
known BytesBehind = (refl, inl refl)
known PeaksCrossed = (refl, inl refl)
known FloatFile = (refl, inl refl)
known PairPastEnd = (refl, inl refl)

number_some : (x : Refusal) → 0 < number x
number_some x = ltb-true 0 (number x) (and_left _ _ (known x).0)

number_byte : (x : Refusal) → number x < 256
number_byte x = ltb-true (number x) 256 (and_right (ltb 0 (number x)) _ (known x).0)

-- ---- from the checks c, and the outcome o of success
word_tells : (c : Checked) (o : Outcome) → (c ≡ Fine → result_of o < 2 ^ 63) → (r word : ℕ) → r ≡ result_of (answered c o).outcome → word ≡ refusal_word c → WordTells r word
word_tells (Ok ok) o few r word e w = let l = few refl in record { nothing = (λ q. omega arith, λ q. w); the_number = λ q. absurd (omega arith) }
word_tells (Err refused) o few r word e w =
    let a = number_some refused.why in
    let b = number_byte refused.why in
    record { nothing = (λ q. absurd (omega arith), λ q. absurd (omega arith)); the_number = λ q. omega arith }

parts_of : (x : Refusal) (at : Place) (word : ℕ) → word ≡ refusal_word (No x at) → misfit_told (told x) < 65536 → at.channel < 65536 → Parts word x at
parts_of x at word w m c =
    let b = number_byte x in
    record { the_number = omega arith; the_misfit = omega arith; the_channel = omega arith; the_group = omega arith }

-- ---- a channel that is named is one of the file's
named_few : (groups channels : ℕ) (at : Place) (n : Named) → channels < 65536 → IsNamed groups channels at n → at.channel < 65536
named_few groups channels at NoGroup few e = let q : at.channel ≡ 0 = ap (λ (y : Place). y.channel) e in omega arith
named_few groups channels at TheGroup few e = let q = e.1 in omega arith
named_few groups channels at TheBlock few e = let q = e.1 in omega arith

table_few : (before : Checked) (groups channels : ℕ) (x : Refusal) (at : Place) → channels < 65536 → ByTable before groups channels x at → at.channel < 65536
table_few before groups channels x at few (Before e n) = named_few groups channels at (outside (number x)) few n
table_few before groups channels x at few (InGroup e y n) = named_few groups channels at (inside (number x)) few n
table_few before groups channels x at few (NoRoom e y n) = named_few groups channels at NoGroup few n

-- ---- decoding never says 36
untold : (r : Refusal) → not (eqb (number r) 36) ≡ true → misfit_told (told r) ≡ 0
untold r e =
    ⊎_elim
    (λ (q : misfit_told (told r) ≡ 0). q)
    (λ (q : r ≡ WidthTooSmall (misfit_told (told r))). never (sym (ap (λ (x : Refusal). eqb (number x) 36) q) ∙ not-true _ e))
    (known r).1

decode_untold : (s : List ℕ) (room : ℕ) (x : Refusal) (at : Place) → (check_decode s then check_room s room) ≡ No x at → misfit_told (told x) ≡ 0
unfolding check_room every
decode_untold s room x at e =
    let other : ℕ → Bool = λ n. not (eqb n 36) in
    untold x ((decode_passes other refl refl s and_says says_refuse (Passes other) _ OutputTooShort refl) x at e)

-- ---- re-encoding says 36 of a place below 512
module _ (b : List ℕ) (p : PcmSpec) (t : List ℕ) (room : ℕ) where
  misfit_few : (x : Refusal) (at : Place) → check_host_reencode b p t room ≡ No x at → misfit_told (told x) < 65536
  unfolding check_host_reencode check_bytes
  misfit_few x at e =
      ⊎_elim
      (λ (q : misfit_told (told x) ≡ 0). omega arith)
      (λ (q : x ≡ WidthTooSmall (misfit_told (told x))).
      let k = misfit_told (told x) in
      let said = said_after_lem (WidthTooSmall k) at (check_bytes b) (check_reencode_into p (samples_from b) t room) (unsaid (WidthTooSmall k) _ _ refl) (e ∙ ap (λ (y : Refusal). No y at) q) in
      let l : k < 512 = misfit_below p (samples_from b) t at k (misfit_so p (samples_from b) t at k room said.1) in
      omega arith)
      (known x).1

  channel_few : Below 256 t → (x : Refusal) (at : Place) → check_host_reencode b p t room ≡ No x at → at.channel < 65536
  unfolding check_host_reencode
  channel_few byte =
      let P : Refusal → Place → Type 0 = λ r at. at.channel < 65536 in
      says_nowhere P (check_bytes b) (bytes_nowhere b) (λ r. omega arith)
      and_says (λ r at e. table_few _ _ (fields_of t).channels r at (channels_few t byte) (reencode_table p (samples_from b) t room r at e))

-- ---- WHAT THE WORD TELLS

-- of decoding into what is lent
pub host_decode_word : (s lent after : List ℕ) (r word : ℕ)
    → length lent < 2 ^ 63
    → HostDecodes s lent r after
    → HostDecodeRefuses s (length lent) word
    → WordTells r word
unfolding host_decode decode_of host_decode_refusal
host_decode_word s lent after r word short d w =
    word_tells (check_decode s then check_room s (length lent / 4)) (Read (decoded_count s)) (decode_short s (length lent) short) r word d.0 w

-- where the checks refuse x at a place, the word's parts are these
pub host_decode_parts : (s : List ℕ) (room word : ℕ) (x : Refusal) (at : Place)
    → Below 256 s
    → HostDecodeRefuses s room word
    → (check_decode s then check_room s (room / 4)) ≡ No x at
    → Parts word x at
unfolding host_decode_refusal
host_decode_parts s room word x at byte w e =
    let m = decode_untold s (room / 4) x at e in
    parts_of x at word (w ∙ ap refusal_word e) (omega arith) (table_few (check_open s) (groups_of (fields_of s).frames) (fields_of s).channels x at (channels_few s byte) (decode_table s (room / 4) x at e))

-- of re-encoding
pub host_reencode_word : (b : List ℕ) (p : PcmSpec) (t lent after : List ℕ) (r word : ℕ)
    → length lent < 2 ^ 63
    → HostReencodes b p t lent r after
    → HostReencodeRefuses b p t (length lent) word
    → WordTells r word
unfolding host_reencode host_reencode_refusal
host_reencode_word b p t lent after r word short e w =
    word_tells (check_host_reencode b p t (length lent)) (Wrote (length t)) (reencode_short b p t (length lent) short) r word e.0 w

pub host_reencode_parts : (b : List ℕ) (p : PcmSpec) (t : List ℕ) (room word : ℕ) (x : Refusal) (at : Place)
    → Below 256 t
    → HostReencodeRefuses b p t room word
    → check_host_reencode b p t room ≡ No x at
    → Parts word x at
unfolding host_reencode_refusal
host_reencode_parts b p t room word x at byte w e =
    parts_of x at word (w ∙ ap refusal_word e) (misfit_few b p t room x at e) (channel_few b p t room byte x at e)
