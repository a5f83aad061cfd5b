-- Each group is one that can be written.
use mathlib.Core.Path.{refl}
use native.Mathlib.Omega.{arith}
use Rattle.writer.proofs.Groups.{group_writable}
use Rattle.writer.proofs.sizing.data_size.Goals as goal

pub group_size-requires : goal.group_size-requires
group_size-requires g c = group_writable _ _ _ c.args.frames c.loop-g.g _ _ c.requires.0 c.requires.1 (omega arith) c.active-n.ensures.0 refl
