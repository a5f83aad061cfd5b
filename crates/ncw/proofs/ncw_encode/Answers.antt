-- 38 and 39, then encoding's answer, as its number, and what it puts.
use Rattle.ncw.proofs.Results.{refused_reads_none, encode_reads_none}
use Rattle.ncw.proofs.Encoding.{told_mode, mode_keeps, told_bytes, bytes_keep, told_encode, put_file}
use Rattle.ncw.proofs.ncw_encode.Goals as goal

pub result-requires : goal.result-requires
result-requires c = refused_reads_none _

pub returns-then-mode-ge3 : goal.returns-then-mode-ge3
returns-then-mode-ge3 c = (search told_mode, search mode_keeps)

pub result-requires-then-samples-ne0 : goal.result-requires-then-samples-ne0
result-requires-then-samples-ne0 c = refused_reads_none _

pub returns-then-samples-ne0 : goal.returns-then-samples-ne0
returns-then-samples-ne0 c = (search told_bytes, search bytes_keep)

pub result-requires-2 : goal.result-requires-2
result-requires-2 c = search encode_reads_none

pub returns : goal.returns
returns c = (search told_encode, search put_file)
