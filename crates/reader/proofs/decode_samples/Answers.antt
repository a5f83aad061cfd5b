-- At each way out the checks have said so; where they pass there is room, and the groups are the decoded samples.
use Rattle.reader.proofs.Ways.{decode_opens, decode_fields, decode_refused, decode_keeps, decode_fine, all_passes, room_for_all, reads_all, writes_all}
use Rattle.reader.proofs.decode_samples.Goals as goal

pub returns-in-Err-clause-decodes : goal.returns-in-Err-clause-decodes
returns-in-Err-clause-decodes g c =
    let k = c.check_decode.ensures in
    let e = c.in-Err.is in
    (decode_refused _ _ _ k _ c.count.ensures _ e _ c.refused.ensures, decode_keeps _ _ _ k _ c.count.ensures _ e)

pub read_fields-h-requires : goal.read_fields-h-requires
read_fields-h-requires g c = decode_fields _ (decode_fine _ _ _ c.check_decode.ensures c.in_default.is)

pub format_of-requires : goal.format_of-requires
format_of-requires g c = (decode_opens _ (decode_fine _ _ _ c.check_decode.ensures c.in_default.is), c.read_fields-h.ensures)

pub put_frames-requires : goal.put_frames-requires
put_frames-requires g c =
    let k = c.check_decode.ensures in
    let e = c.in_default.is in
    let h = c.read_fields-h.ensures in
    (all_passes _ _ _ k e _ h, h, c.format_of.ensures, room_for_all _ _ _ k e _ h _ c.count.ensures)

pub returns-clause-decodes : goal.returns-clause-decodes
returns-clause-decodes g c =
    let k = c.check_decode.ensures in
    let e = c.in_default.is in
    let h = c.read_fields-h.ensures in
    let n = c.count.ensures in
    (reads_all _ _ _ k e _ n _ h _ c.samples.ensures _ c.of.ensures, writes_all _ _ _ k e _ _ n _ h c.put_frames.ensures.puts)
