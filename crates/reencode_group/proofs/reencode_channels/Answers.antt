use mathlib.Core.Path.{◌≡◌, refl}
use native.Mathlib.Omega.{arith}
use borrow.Author.Rules.{rules}
use Rattle.format.specs.Lists.{joined}
use Rattle.laws.proofs.Over.{over_none}
use Rattle.group.proofs.Places.{begins_first}
use Rattle.reencode_group.proofs.Writing.{next_fine, next_begins, next_length, next_fits, next_ends, next_written}
use Rattle.reencode_group.proofs.reencode_channels.Goals as goal

pub loop-c-init : goal.loop-c-init
unfolding joined
loop-c-init c = record { begins = begins_first _ _; so_far = refl; written = over_none _ }

pub reencode_block-at-requires : goal.reencode_block-at-requires
reencode_block-at-requires c = search (rules, next_fine, next_fits)

pub overflow_add-at : goal.overflow_add-at
overflow_add-at c = search (rules, next_ends)

pub loop-c-preserved : goal.loop-c-preserved
loop-c-preserved c = record {
  begins = search (rules, next_begins);
  so_far = search (rules, next_length);
  written = search (rules, next_written);
}

pub returns : goal.returns
returns c =
    let e : c.loop-c.c ≡ c.args.channels = omega arith in
    rw e at c.loop-c.invariant.written
