-- The template's 16 bytes are copied; only differences have a base of their own, which is put over bytes 4 to 7.
use Rattle.std.proofs.Common.{rules}
use Rattle.reencode_block.proofs.Bytes.{other_header, difference_header}
use Rattle.reencode_block.proofs.put_header.Goals as goal

pub returns-in-Differences : goal.returns-in-Differences
returns-in-Differences c = search (rules, difference_header)

pub returns-in_default : goal.returns-in_default
returns-in_default c = search (rules, other_header)
