-- The loop's invariant: so many frames are put one behind another, and nothing else has changed.
use mathlib.Core.Path.{◌≡◌}
use Prim.Native.Nat.{◌-◌, ◌≤◌}
use Rattle.format.specs.Lists.{over}
use Rattle.format.specs.FewFrames.{frames_at}
use Rattle.laws.proofs.FewFrames.{frames}
use Rattle.groups.proofs.putting.put_frames.Given as goal

abbrev pub invariant-loop-done : goal.invariant-loop-done
invariant-loop-done g l =
    let e = g.E.Stored in
    record {
      within : l.done ≤ l.all;
      puts : e.samples l.lent ≡ over (frames_at l.file (frames l.from) (frames l.done)) (e.samples l.initial.lent);
      keeps : e.rest l.lent ≡ e.rest l.initial.lent;
    }

abbrev pub decreases-loop-done : goal.decreases-loop-done
decreases-loop-done g l = l.all - l.done
