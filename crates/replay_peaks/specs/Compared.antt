-- When what checking a summary against a file answers is what was recorded. No room is lent: yes is a length of 1, no
-- one of 0.
use Rattle.std.specs.Prelude.{Bool, ◌&&◌, List, ℕ}
use Rattle.format.specs.Peaks.{compare_peaks_of}
use Rattle.format.specs.Boundary.{host_peaks_check}
use Rattle.replay_list.specs.Said.{said_by, said_by_host, is_said}
use Rattle.replay_list.specs.declared.answers.Recorded.{Recorded}

-- the entry answers as recorded
abbrev pub entry_compares : List ℕ → List ℕ → Recorded → Bool
entry_compares summary file want = is_said (said_by (compare_peaks_of summary file)) want

-- the host boundary does
abbrev pub host_compares : List ℕ → List ℕ → Recorded → Bool
host_compares summary file want = is_said (said_by_host (host_peaks_check summary file) want) want

-- both do
abbrev pub both_compare : List ℕ → List ℕ → Recorded → Bool
both_compare summary file want = entry_compares summary file want && host_compares summary file want
