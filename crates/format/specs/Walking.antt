-- Document 01, "Order of checks": the walk over a file. It holds the next group's number g.
use Rattle.std.specs.Prelude.{ℕ, ◌+◌, List, [], Bool, cond, length, ℤ, ltb}
use Rattle.format.specs.Header.{fields_of, groups_of, group_bytes}
use Rattle.format.specs.Units.{samples_in, active}
use Rattle.format.specs.Refusals.{Checked, Fine, refuse, ◌then◌}
use Rattle.format.specs.Places.{in_group}
use Rattle.format.specs.Answers.{answered, filled}
use Rattle.format.specs.Opening.{format_of, check_open}
use Rattle.format.specs.Decoding.{check_group, group_samples}
use Rattle.format.specs.declared.refusals.Refusal.TheVariants.{OutputTooShort}
use Rattle.format.specs.declared.units.Samples.{Samples}
use Rattle.format.specs.declared.answers.Outcome.{Outcome}
use Rattle.format.specs.declared.answers.Outcome.TheVariants.{Opened, Read, Finished, Wrote, Refused}
use Rattle.format.specs.declared.answers.Outcome.TheVariants.{Matches, Differs}
use Rattle.format.specs.declared.answers.Answer.{Answer}

-- ------------------------------------------------------------------------------------------------------------------

-- one group's interleaved samples by the same checks, and how many they are
unfoldable pub check_step : List ℕ → ℕ → Checked
check_step file g =
    let fields = fields_of file in
    in_group g (check_group fields (format_of file fields) (group_bytes file fields g))

unfoldable pub step_samples : List ℕ → ℕ → List ℤ
step_samples file g =
    let fields = fields_of file in
    group_samples fields (format_of file fields) g (group_bytes file fields g)

abbrev pub step_count : List ℕ → ℕ → Samples
step_count file g =
    let fields = fields_of file in
    samples_in (record { 0 = active fields.frames g }) fields.channels

-- a group is left
unfoldable pub has_group : List ℕ → ℕ → Bool
has_group file g = ltb g (groups_of (fields_of file).frames)

-- with 50 after 22
unfoldable pub check_step_into : List ℕ → ℕ → ℕ → Checked
check_step_into file g room =
    check_step file g  -- 1, 3, 20, 21, 4, 1, 22
    then refuse (ltb room (step_count file g).0) OutputTooShort  -- 50

-- a step on bytes that don't open refuses as opening does
unfoldable pub check_walk : List ℕ → ℕ → ℕ → Checked
check_walk file g room =
    let checks = check_step_into file g room in
    check_open file  -- 1, 2, 10 to 15, 1, 16 to 19, 3
    then cond (has_group file g) checks Fine

-- a step after the last group says done
unfoldable pub step_of : List ℕ → ℕ → ℕ → Answer
step_of file g room = answered (check_walk file g room) (cond (has_group file g) (Read (step_count file g)) Finished)

-- a refused step doesn't advance: how many groups a step goes past that answers so
abbrev pub groups_passed : Outcome → ℕ
groups_passed (Read count) = 1
groups_passed Finished = 0
groups_passed (Refused refusal) = 0
groups_passed (Opened header) = 0
groups_passed (Wrote size) = 0
groups_passed Matches = 0
groups_passed Differs = 0

unfoldable pub next_of : List ℕ → ℕ → ℕ → ℕ
next_of file g room = g + groups_passed (step_of file g room).outcome

-- what the lent samples then hold
unfoldable pub step_into : List ℕ → ℕ → List ℤ → List ℤ
step_into file g lent =
    let samples = step_samples file g in
    filled (check_walk file g (length lent)) (cond (has_group file g) samples []) lent
