-- A file's summary: the two numbers, and the pairs of every group behind them.
use Prim.Native.Nat.{ℕ}
use mathlib.Core.Path.{◌≡◌, sym}
use mathlib.Core.List.{List, ◌++◌, append_assoc}
use Rattle.format.specs.SevenBits.{seven}
use Rattle.format.specs.Header.{fields_of, groups_of}
use Rattle.format.specs.Opening.{format_of}
use Rattle.format.specs.Peaks.{summary_bytes, peak_at, summary_of}
use Rattle.peaks.specs.Passes.{group_pairs, file_pairs}
use Rattle.peaks.proofs.Composed.{runs}
use Rattle.peaks.proofs.Groups.{decode_opens, decode_fields}

pub summary_is : (s : List ℕ)
    → summary_of s ≡ (seven (fields_of s).frames.0 ++ seven (fields_of s).channels) ++ file_pairs s (fields_of s) (format_of s (fields_of s)) (groups_of (fields_of s).frames)
unfolding summary_of summary_bytes peak_at group_pairs file_pairs
summary_is s =
    let k = fields_of s in
    sym (append_assoc (seven k.frames.0) (seven k.channels) (file_pairs s k (format_of s k) (groups_of k.frames)))

pub ruleset wholes = (runs, decode_opens, decode_fields, summary_is)
