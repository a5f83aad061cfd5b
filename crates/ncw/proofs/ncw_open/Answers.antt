-- Opening's answer, as its number.
use Rattle.ncw.proofs.Results.{open_reads_none}
use Rattle.ncw.proofs.Host.{told_open}
use Rattle.ncw.proofs.ncw_open.Goals as goal

pub result-requires : goal.result-requires
result-requires c = search open_reads_none

pub returns : goal.returns
returns c = search told_open
