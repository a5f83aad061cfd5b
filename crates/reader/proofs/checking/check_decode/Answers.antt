-- The file's refusal comes first, then the room's, by the count that the header says.
use Rattle.std.proofs.lemmas.Result.{err_from_is_err_and}
use Rattle.laws.proofs.Chain.{settled, stops_with, passes_on}
use Rattle.reader.proofs.Ways.{decode_fields, room_says}
use Rattle.reader.proofs.checking.check_decode.Goals as goal

pub returns-in_err-check_file : goal.returns-in_err-check_file
returns-in_err-check_file c =
    let p = err_from_is_err_and c.from_residual.result c.from_residual.ensures.1 in
    rw (p.1, p.2) (stops_with _ _ c.check_file.ensures _ _ c.in_err-check_file.was)

pub read_fields-h-requires : goal.read_fields-h-requires
read_fields-h-requires c = decode_fields _ (settled _ _ c.check_file.ensures _ c.in_ok-check_file.was)

pub returns : goal.returns
returns c =
    passes_on _ _ c.check_file.ensures _ _ c.in_ok-check_file.was
    (room_says _ _ _ c.read_fields-h.ensures _ c.samples.ensures _ c.refuse.ensures.says)
