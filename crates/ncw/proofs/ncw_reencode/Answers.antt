-- 39, then re-encoding's answer, as its number, and what it puts.
use Rattle.ncw.proofs.Results.{refused_reads_none, reencode_reads_none}
use Rattle.ncw.proofs.Reencoding.{told_bytes, bytes_keep, told_reencode, put_refile}
use Rattle.ncw.proofs.ncw_reencode.Goals as goal

pub result-requires : goal.result-requires
result-requires c = refused_reads_none _

pub returns-then-samples-ne0 : goal.returns-then-samples-ne0
returns-then-samples-ne0 c = (search told_bytes, search bytes_keep)

pub result-requires-2 : goal.result-requires-2
result-requires-2 c = search reencode_reads_none

pub returns : goal.returns
returns c = (search told_reencode, search put_refile)
