-- The answer of the comparison, as its number.
use Rattle.ncw.proofs.Results.{compare_reads_none}
use Rattle.ncw.proofs.Peaks.{told_compare}
use Rattle.ncw.proofs.ncw_peaks_check.Goals as goal

pub result-requires : goal.result-requires
result-requires c = search compare_reads_none

pub returns : goal.returns
returns c = search told_compare
