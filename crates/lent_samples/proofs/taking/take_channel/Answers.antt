use native.Mathlib.Omega.{arith}
use Rattle.lent_samples.proofs.Taken.{channel_taken}
use Rattle.lent_samples.proofs.taking.take_channel.Goals as goal

pub returns : goal.returns
returns g c =
    let l = c.loop-k in
    let x = c.args in
    channel_taken x.channels x.c x.first x.n _ l.run c.requires.0 c.requires.1.2 (omega arith) (λ j h. l.invariant.taken j (omega arith))
