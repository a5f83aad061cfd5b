-- What is counted of the answers: for each question how often each number was answered, and behind these four sums.
use Rattle.std.specs.Prelude.{ℕ, ◌+◌, ◌*◌, ◌%◌, ◌^◌, Bool, cond, List, slice_index, slice_set}
use Rattle.replay_list.specs.declared.answers.Verdict.{Verdict}

-- the place of an answer: 256 numbers for each question, of the kinds 16 (OPEN) to 25 (PEAKS_CHECK)
abbrev pub place_of : ℕ → ℕ → ℕ
place_of kind number = kind % 16 * 256 + number % 256

-- the places of the sums: answers as recorded, others, false ones on purpose, and those that were found
abbrev pub as_recorded : ℕ
as_recorded = 2560

abbrev pub others : ℕ
others = 2561

abbrev pub false_ones : ℕ
false_ones = 2562

abbrev pub found : ℕ
found = 2563

-- the count at that place is one more, modulo 2 ^ 64; where there is no such place, all is as it was
unfoldable pub counted : List ℕ → ℕ → List ℕ
counted counts place = slice_set counts place ((slice_index counts place + 1) % 2 ^ 64)

-- an answer that is false on purpose is to differ from the record: it is found where it does
unfoldable pub tallied_false : List ℕ → Bool → List ℕ
tallied_false counts is_same = counted (counted counts false_ones) (cond is_same others found)

-- any other is to be as recorded
unfoldable pub tallied_true : List ℕ → ℕ → Verdict → List ℕ
tallied_true counts kind verdict =
    cond verdict.is_same
    (counted (counted counts as_recorded) (place_of kind verdict.number))
    (counted counts others)

-- an answer to a question of that kind
unfoldable pub tallied : List ℕ → ℕ → Bool → Verdict → List ℕ
tallied counts kind is_false verdict =
    cond is_false (tallied_false counts verdict.is_same) (tallied_true counts kind verdict)
