-- A template's block: its coding.
use mathlib.Core.Path.{◌≡◌, refl}
use mathlib.Core.Bool.{false}
use Rattle.format.specs.Packed.{is_beyond}
use Rattle.format.specs.declared.packed.Coding.{Coding}
use Rattle.format.specs.declared.packed.Coding.TheVariants.{Differences, Raw, Beyond}

-- past the arm of a block beyond its coding's widths
pub known_past : (k : Coding) → (k ≡ Beyond → ⊥) → is_beyond k ≡ false
unfolding is_beyond
known_past (Differences w) other = refl
known_past (Raw w) other = refl
known_past Beyond other = absurd (other refl)
