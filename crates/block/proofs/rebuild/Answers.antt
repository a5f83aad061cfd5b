use Rattle.std.proofs.Common.{arith, ap, ◌∙◌, length-set, w32, to_z, of_z}
use Rattle.format.specs.Numbers.{plus}
use Rattle.laws.proofs.Lengths.{length_values}
use Rattle.bits.proofs.Run.{first_value_pair, second_value, next_pair}
use Rattle.sample.proofs.Words.{given}
use Rattle.block.proofs.Sweeps.{summed_pair}
use Rattle.block.proofs.rebuild.Goals as goal

pub loop-i-preserved : goal.loop-i-preserved
loop-i-preserved c =
    let at = c.loop-i in
    let one = c.wrapping_add-x in
    let two = c.wrapping_add-x-in-loop-i in (
      simp length-set at.invariant.0,
      search next_pair,
      summed_pair _ _ _ _ _ _ at.i (omega arith) at.invariant.0 (length_values c.args.bits c.args.run.now)
          (given one.type_inv (one.ensures ∙ ap (plus (to_z w32 at.x-bits)) (search first_value_pair)))
          (given two.type_inv (two.ensures ∙ ap (plus (to_z w32 (of_z w32 one.result))) (search second_value)))
          at.invariant.2,
    )
