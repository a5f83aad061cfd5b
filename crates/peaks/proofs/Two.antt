-- The pairs of two channels, one behind the other.
use Prim.Native.Nat.{ℕ}
use mathlib.Core.Path.{◌≡◌, sym, ap, ◌∙◌}
use mathlib.Core.List.{List, [], ◌++◌}
use lib.IntN.{ℤ}
use lib.ListN.{take, get_or}
use Rattle.format.specs.Lists.{joined}
use Rattle.format.specs.Decoding.{channels_of}
use Rattle.format.specs.Peaks.{peak_of, pair_bytes, channel_peak}
use Rattle.format.specs.declared.settings.SampleFormat.{SampleFormat}
use Rattle.format.specs.declared.answers.Fields.{Fields}
use Rattle.peaks.specs.Passes.{group_pairs}
use Rattle.peaks.proofs.Composed.{runs}

pub two_pairs : (h : Fields) (format : SampleFormat) (n : ℕ) (bs : List ℕ) (a : List (List ℤ)) → h.channels ≡ 2 → a ≡ channels_of h format bs
    → group_pairs h format n bs ≡ pair_bytes (peak_of (take n (get_or a 0 []))) ++ pair_bytes (peak_of (take n (get_or a 1 [])))
unfolding group_pairs joined channel_peak
two_pairs h format n bs a two reads =
    ap (joined (λ c. pair_bytes (channel_peak h format n bs c))) two
    ∙ ap (λ (l : List (List ℤ)). pair_bytes (peak_of (take n (get_or l 0 []))) ++ pair_bytes (peak_of (take n (get_or l 1 [])))) (sym reads)

pub ruleset twos = (runs, two_pairs)
