-- Document 02, L6: where it refused.
use Rattle.std.specs.Prelude.{ℕ, ◌<◌, ◌≡◌, cond, List, [], ◌∷◌, Ok, Err}
use Rattle.format.specs.Lists.{is_in}
use Rattle.format.specs.Refusals.{nowhere, Checked, Fine, No}
use Rattle.format.specs.declared.places.Named.{Named}
use Rattle.format.specs.declared.places.Named.TheVariants.{NoGroup, TheGroup, TheBlock}
use Rattle.format.specs.declared.refusals.Place.{Place}

-- ------------------------------------------------------------------------------------------------------------------

-- the checks of a block do not say its channel, nor those of a group its number: what goes through them does
abbrev pub at_group : ℕ → Place → Place
at_group g place = record { group = g; channel = place.channel }

abbrev pub at_channel : ℕ → Place → Place
at_channel c place = record { group = place.group; channel = c }

-- what checks say, of another place
unfoldable pub located : (Place → Place) → Checked → Checked
located move (Ok ok) = Fine
located move (Err refused) = No refused.why (move refused.place)

-- the checks of group g
abbrev pub in_group : ℕ → Checked → Checked
in_group g checks = located (at_group g) checks

-- the checks of channel c's block
abbrev pub in_channel : ℕ → Checked → Checked
in_channel c checks = located (at_channel c) checks

-- ---- what a refusal names, by its number

-- the group; the group and the channel, if it is given while a block is read; otherwise none
abbrev pub of_groups : List ℕ
of_groups = 19 ∷ 22 ∷ 34 ∷ 35 ∷ 43 ∷ 46 ∷ []

abbrev pub of_blocks : List ℕ
of_blocks = 1 ∷ 3 ∷ 4 ∷ 20 ∷ 21 ∷ 36 ∷ 44 ∷ 45 ∷ []

unfoldable pub inside : ℕ → Named
inside n = cond (is_in n of_groups) TheGroup (cond (is_in n of_blocks) TheBlock NoGroup)

-- before the groups are read, and after them: opening's 1 and 3, and encoding's 34, name none
unfoldable pub outside : ℕ → Named
outside n = cond (is_in n (19 ∷ 35 ∷ [])) TheGroup NoGroup

-- the place is of that kind, in a file of so many groups and channels
abbrev pub IsNamed : ℕ → ℕ → Place → Named → Type 0
IsNamed groups channels place NoGroup = place ≡ nowhere
IsNamed groups channels place TheGroup = (place.group < groups) × (place.channel ≡ 0)
IsNamed groups channels place TheBlock = (place.group < groups) × (place.channel < channels)
