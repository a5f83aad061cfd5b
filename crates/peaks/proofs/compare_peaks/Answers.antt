-- The whole summary's length is a number of 64 bits, since the file's bytes are bytes.
use native.Mathlib.Omega.{arith}
use Rattle.laws.proofs.Chain.{settled}
use Rattle.peaks.proofs.Bounds.{summary_fits}
use Rattle.peaks.proofs.Ways.{peaks_decode}
use Rattle.peaks.proofs.compare_peaks.Goals as goal

pub pass_file-requires : goal.pass_file-requires
pass_file-requires c = (grind (arith, settled, peaks_decode), (omega (arith, summary_fits c.args.file.now (λ i. (c.type_inv.file i).fits)), λ e. cc))
