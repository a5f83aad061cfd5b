-- Document 01, "Packed values": mid/side reading, for PCM and for float files; of a NaN document 02, L5, "Lost-frame
-- markers in float files".
use Rattle.std.specs.Prelude.{ℕ, List, [], ◌∷◌, cond, ℤ, get_or}
use Rattle.std.specs.Int.Bits.{bit_or}
use Rattle.std.specs.Float.Ieee as Ieee
use Rattle.std.specs.Float.{binary32}
use Rattle.std.specs.Float.Ieee.{nan_bits}
use Rattle.format.specs.Lists.{pairwise}
use Rattle.format.specs.Numbers.{value, code_of, plus, minus}
use Rattle.format.specs.declared.settings.SampleFormat.{SampleFormat}
use Rattle.format.specs.declared.settings.SampleFormat.TheVariants.{Pcm, Float}

-- ------------------------------------------------------------------------------------------------------------------

-- the 32 bits are f32
unfoldable pub float_of : ℤ → Ieee.Float
float_of z = Ieee.of_bits binary32 (code_of 32 z)

-- the 32 bits of a result; of a NaN 0x7FC00000
unfoldable pub pattern_of : Ieee.Float → ℕ
pattern_of result = cond (Ieee.is_nan result) 0x7FC0_0000 (Ieee.to_bits binary32 result)

-- a NaN's bits with 0x00400000 set
unfoldable pub quieted : ℕ → ℕ
quieted bits = bit_or bits 0x0040_0000

-- the 32 bits of a sum or a difference of mid and side: where one of the two is a NaN, that one's, quieted, and mid's
-- where both are; otherwise the result's
unfoldable pub settled : ℕ → ℕ → Ieee.Float → ℕ
settled mid side result =
    cond (nan_bits binary32 mid) (quieted mid) (cond (nan_bits binary32 side) (quieted side) (pattern_of result))

-- left = mid + side; for float files the same sum, rounded once
unfoldable pub left : SampleFormat → ℤ → ℤ → ℤ
left Pcm mid side = plus mid side
left Float mid side =
    value 32 (settled (code_of 32 mid) (code_of 32 side) (Ieee.add binary32 (float_of mid) (float_of side)))

-- right = mid − side
unfoldable pub right : SampleFormat → ℤ → ℤ → ℤ
right Pcm mid side = minus mid side
right Float mid side =
    value 32 (settled (code_of 32 mid) (code_of 32 side) (Ieee.sub binary32 (float_of mid) (float_of side)))

-- two channels of mid and side as left and right
unfoldable pub left_right : SampleFormat → List (List ℤ) → List (List ℤ)
left_right format chans =
    pairwise (left format) (get_or chans 0 []) (get_or chans 1 [])
    ∷ pairwise (right format) (get_or chans 0 []) (get_or chans 1 [])
    ∷ []
