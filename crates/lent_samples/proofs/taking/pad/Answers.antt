use native.Mathlib.Omega.{arith}
use borrow.Author.Rules.{rules}
use lib.ListN.{length-set}
use Rattle.sample.proofs.Words.{given}
use Rattle.lent_samples.proofs.Padding.{pad_turn, pad_done}
use Rattle.lent_samples.proofs.taking.pad.Goals as goal

pub returns : goal.returns
returns c =
    let l = c.loop-k in
    pad_done c.args.run l.out c.args.n l.k _ c.requires.0 (search rules) l.invariant.long (omega arith) (search (rules, given)) l.invariant.padded

pub loop-k-preserved : goal.loop-k-preserved
loop-k-preserved c =
    let l = c.loop-k in
    let i = l.invariant in
    record { long = simp length-set i.long; padded = pad_turn l.out _ c.args.n l.k _ (omega arith) (omega arith) i.padded }
