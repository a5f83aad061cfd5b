-- At each way out the checks have said so; past them there is room, and the file is written whole.
use Rattle.template.proofs.Stages.{reencode_refused, reencode_keeps, reencode_fine, reencode_room, reencode_wrote, reencode_writes}
use Rattle.template.proofs.encode_pcm_with_template.Goals as goal

pub returns-in-Err : goal.returns-in-Err
returns-in-Err g c = (search reencode_refused, search reencode_keeps)

pub write_file-requires : goal.write_file-requires
write_file-requires g c = (search reencode_fine, search reencode_room)

pub returns : goal.returns
returns g c = (search reencode_wrote, search reencode_writes)
