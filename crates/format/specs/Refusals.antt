-- Document 01, "Numbers of refusal", and checks in order.
use Rattle.std.specs.Prelude.{ℕ, zero, suc, Bool, true, false, ⊤, Result, Ok, Err}
use Rattle.format.specs.declared.refusals.Refusal.{Refusal}
use Rattle.format.specs.declared.refusals.Refusal.TheVariants.{TooShort, FileSignature, BlockSignature}
use Rattle.format.specs.declared.refusals.Refusal.TheVariants.{BitsWord, ZeroChannels, DepthUnknown, ZeroRate}
use Rattle.format.specs.declared.refusals.Refusal.TheVariants.{TableOffset, DataOffset, TableLength, LastEntry}
use Rattle.format.specs.declared.refusals.Refusal.TheVariants.{DataWithoutFrames, FirstEntry, EntryBounds}
use Rattle.format.specs.declared.refusals.Refusal.TheVariants.{FloatDiffers, MidSideChannels, BytesLeft}
use Rattle.format.specs.declared.refusals.Refusal.TheVariants.{WriterSpec, IncompleteFrame, ValueOutside}
use Rattle.format.specs.declared.refusals.Refusal.TheVariants.{TooManyFrames, NotStereo, ParityDiffers}
use Rattle.format.specs.declared.refusals.Refusal.TheVariants.{WidthTooSmall, DataTooLarge, UnknownMode}
use Rattle.format.specs.declared.refusals.Refusal.TheVariants.{SampleBytes, TemplateDiffers, TemplateBounds}
use Rattle.format.specs.declared.refusals.Refusal.TheVariants.{TemplateOffsets, ShortGroup, TemplateBits}
use Rattle.format.specs.declared.refusals.Refusal.TheVariants.{TemplateFlags, TemplateBytesLeft}
use Rattle.format.specs.declared.refusals.Refusal.TheVariants.{OutputTooShort, RangePastEnd}
use Rattle.format.specs.declared.refusals.Refusal.TheVariants.{NumberCut, NumberLong, NumberTooLarge}
use Rattle.format.specs.declared.refusals.Refusal.TheVariants.{BytesBehind, PeaksCrossed, FloatFile}
use Rattle.format.specs.declared.refusals.Refusal.TheVariants.{PairPastEnd}
use Rattle.format.specs.declared.refusals.Told.{Told}
use Rattle.format.specs.declared.refusals.Told.TheVariants.{Nothing, Bits, Misfit}
use Rattle.format.specs.declared.refusals.Place.{Place}
use Rattle.format.specs.declared.refusals.RefusedAt.{RefusedAt}

-- ------------------------------------------------------------------------------------------------------------------

-- the number of each
abbrev pub number : Refusal → ℕ
number TooShort = 1
number FileSignature = 2
number BlockSignature = 3
number (BitsWord bits) = 4
number ZeroChannels = 10
number DepthUnknown = 11
number ZeroRate = 12
number TableOffset = 13
number DataOffset = 14
number TableLength = 15
number LastEntry = 16
number DataWithoutFrames = 17
number FirstEntry = 18
number EntryBounds = 19
number FloatDiffers = 20
number MidSideChannels = 21
number BytesLeft = 22
number WriterSpec = 30
number IncompleteFrame = 31
number ValueOutside = 32
number TooManyFrames = 33
number NotStereo = 34
number ParityDiffers = 35
number (WidthTooSmall place) = 36
number DataTooLarge = 37
number UnknownMode = 38
number SampleBytes = 39
number TemplateDiffers = 40
number TemplateBounds = 41
number TemplateOffsets = 42
number ShortGroup = 43
number TemplateBits = 44
number TemplateFlags = 45
number TemplateBytesLeft = 46
number OutputTooShort = 50
number RangePastEnd = 51  -- document 02, L1
number NumberCut = 60  -- L7, from here on
number NumberLong = 61
number NumberTooLarge = 62
number BytesBehind = 63
number PeaksCrossed = 64
number FloatFile = 66
number PairPastEnd = 67

-- what it returns besides: 4 the bits word; 36, by document 02's L2, the place of the value or difference
abbrev pub told : Refusal → Told
told TooShort = Nothing
told FileSignature = Nothing
told BlockSignature = Nothing
told (BitsWord bits) = Bits bits
told ZeroChannels = Nothing
told DepthUnknown = Nothing
told ZeroRate = Nothing
told TableOffset = Nothing
told DataOffset = Nothing
told TableLength = Nothing
told LastEntry = Nothing
told DataWithoutFrames = Nothing
told FirstEntry = Nothing
told EntryBounds = Nothing
told FloatDiffers = Nothing
told MidSideChannels = Nothing
told BytesLeft = Nothing
told WriterSpec = Nothing
told IncompleteFrame = Nothing
told ValueOutside = Nothing
told TooManyFrames = Nothing
told NotStereo = Nothing
told ParityDiffers = Nothing
told (WidthTooSmall place) = Misfit place
told DataTooLarge = Nothing
told UnknownMode = Nothing
told SampleBytes = Nothing
told TemplateDiffers = Nothing
told TemplateBounds = Nothing
told TemplateOffsets = Nothing
told ShortGroup = Nothing
told TemplateBits = Nothing
told TemplateFlags = Nothing
told TemplateBytesLeft = Nothing
told OutputTooShort = Nothing
told RangePastEnd = Nothing
told NumberCut = Nothing
told NumberLong = Nothing
told NumberTooLarge = Nothing
told BytesBehind = Nothing
told PeaksCrossed = Nothing
told FloatFile = Nothing
told PairPastEnd = Nothing

-- the place of a refusal that concerns no group: document 02, L6, has group and channel both 0
abbrev pub nowhere : Place
nowhere = record { group = 0; channel = 0 }

-- what checks say: nothing is refused, or what is, and where
abbrev pub Checked : Type 0
Checked = Result ⊤ RefusedAt

abbrev pub Fine : Checked
Fine = Ok tt

abbrev pub No : Refusal → Place → Checked
No refusal place = Err (record { why = refusal; place = place })

-- a check: refused where the test holds
unfoldable pub refuse : Bool → Refusal → Checked
refuse true refusal = No refusal nowhere
refuse false refusal = Fine

infixr 20 ◌then◌
-- one check after another: the first refusal counts
unfoldable pub ◌then◌ : Checked → Checked → Checked
(Ok ok) then next = next
(Err refused) then next = Err refused

-- check 0, check 1, .. check (n - 1), in order
unfoldable pub in_order : (ℕ → Checked) → ℕ → Checked
in_order check zero = Fine
in_order check (suc n) = in_order check n then check n
