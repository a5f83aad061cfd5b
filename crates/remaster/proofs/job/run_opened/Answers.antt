-- Both parts of n samples are within their rooms of 131,072: the test before says so.
use native.Mathlib.Omega.{arith}
use lib.ListN.{length-take, length-replicate}
use Rattle.remaster.proofs.job.run_opened.Goals as goal

pub slice_bounds-job-end : goal.slice_bounds-job-end
slice_bounds-job-end g c = rw c.room-old.ensures (simp (length-take, length-replicate) (omega arith))

pub slice_bounds-job-end-2 : goal.slice_bounds-job-end-2
slice_bounds-job-end-2 g c = rw c.room-new.ensures (simp (length-take, length-replicate) (omega arith))
