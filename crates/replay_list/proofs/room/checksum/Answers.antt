-- A turn adds the next sample's bits as a digit.
use Rattle.std.proofs.Common.{arith}
use Rattle.replay_list.proofs.Rooms.{sum_turn}
use Rattle.replay_list.proofs.room.checksum.Goals as goal

pub loop-i-preserved : goal.loop-i-preserved
loop-i-preserved g c =
    let got = c.sample_at in
    (omega arith, sum_turn _ _ c.bits_of-x.ensures got.ensures got.type_inv (omega arith) c.loop-i.invariant.1)
