-- The loop's invariant: all have equal parity where those before i have, which `even` says, and those from i on.
use mathlib.Core.Path.{◌≡◌}
use mathlib.Core.Bool.{◌&&◌}
use mathlib.Core.List.{[]}
use Prim.Native.Nat.{◌≤◌}
use lib.ListN.{length, get_or}
use Rattle.format.specs.Encoding.{parity}
use Rattle.stereo.proofs.Rows.{even_from}
use Rattle.stereo.proofs.parity.Given as goal

abbrev pub invariant-loop-i : goal.invariant-loop-i
invariant-loop-i l =
    (l.i ≤ 512)
    × (length (get_or l.a 0 []) ≡ 512)
    × (length (get_or l.a 1 []) ≡ 512)
    × ((l.even && even_from (get_or l.a 0 []) (get_or l.a 1 []) l.i) ≡ parity l.a)
