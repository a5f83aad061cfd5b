-- What re-encoding with the template's own samples asks of the template: no mid plus side or mid minus side of its
-- active frames leaves 32 bits.
use Prim.Native.Nat.{ℕ, ◌<◌}
use mathlib.Core.Path.{◌≡◌}
use mathlib.Core.Bool.{true}
use mathlib.Core.List.{List}
use lib.ListN.{get_or}
use lib.IntN.{ℤ, pos, ◌+ℤ◌, ◌-ℤ◌}
use Rattle.format.specs.Numbers.{holds}
use Rattle.format.specs.Header.{fields_of, groups_of, group_bytes}
use Rattle.format.specs.Blocks.{mid_bit, samples_of, from_block}
use Rattle.format.specs.Units.{active}

-- mid and side of frame i of a group, as they are coded
abbrev pub mid_at : ℕ → List ℕ → ℕ → ℤ
mid_at depth bs i = get_or (samples_of depth (from_block depth bs 0)) i (pos 0)

abbrev pub side_at : ℕ → List ℕ → ℕ → ℤ
side_at depth bs i = get_or (samples_of depth (from_block depth bs 1)) i (pos 0)

-- mid plus side and mid minus side of frame i, which are not wrapped here, are numbers of 32 bits
abbrev pub Stays : ℕ → List ℕ → ℕ → Type 0
Stays depth bs i = (holds 32 (mid_at depth bs i +ℤ side_at depth bs i) ≡ true) × (holds 32 (mid_at depth bs i -ℤ side_at depth bs i) ≡ true)

-- in every active frame of every group of t that is mid and side
abbrev pub NoneLeaves : List ℕ → Type 0
NoneLeaves t =
    let h = fields_of t in
    (g i : ℕ) → g < groups_of h.frames → mid_bit (group_bytes t h g) ≡ true → i < active h.frames g → Stays h.depth (group_bytes t h g) i
