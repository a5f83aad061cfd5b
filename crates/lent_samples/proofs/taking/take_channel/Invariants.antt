-- The loop's invariant: the first k are the channel's.
use mathlib.Core.Path.{◌≡◌}
use Prim.Native.Nat.{ℕ, ◌+◌, ◌*◌, ◌<◌}
use lib.IntN.{pos}
use lib.ListN.{length, get_or}
use Rattle.lent_samples.proofs.taking.take_channel.Given as goal

abbrev pub invariant-loop-k : goal.invariant-loop-k
invariant-loop-k g l =
    record {
      long : length l.run ≡ 512;
      taken : (j : ℕ) → j < l.k → get_or l.run j (pos 0) ≡ get_or (g.E.Stored.samples l.lent) ((l.first + j) * l.channels + l.c) (pos 0);
    }
