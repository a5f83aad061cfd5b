-- Each group is one that can be written.
use mathlib.Core.Path.{refl}
use native.Mathlib.Omega.{arith}
use Rattle.writer.proofs.Groups.{group_writable}
use Rattle.writer.proofs.writing.write_groups.Goals as goal

pub encode_group-at-requires-clause-writable : goal.encode_group-at-requires-clause-writable
encode_group-at-requires-clause-writable g c = group_writable _ _ _ c.args.frames c.loop-g.g _ _ c.requires.accepted.0 c.requires.accepted.1 (omega arith) c.active-n.ensures.0 refl
