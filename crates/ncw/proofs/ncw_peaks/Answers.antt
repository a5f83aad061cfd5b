-- The answer of building, as its number, and what it puts.
use borrow.Author.Rules.{rules}
use Rattle.ncw.proofs.Results.{build_reads_none}
use Rattle.ncw.proofs.Peaks.{told_build}
use Rattle.ncw.proofs.ncw_peaks.Goals as goal

pub result-requires : goal.result-requires
result-requires c = search build_reads_none

pub returns : goal.returns
returns c = (search told_build, search rules)
