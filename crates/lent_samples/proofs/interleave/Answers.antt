use mathlib.Core.Path.{refl, ◌∙◌}
use native.Mathlib.Omega.{arith}
use lib.ListN.{length-set}
use borrow.Author.Rules.{rules}
use Rattle.sample.proofs.Words.{given}
use Rattle.lent_samples.proofs.Runs.{woven_none, woven_long, woven_turn}
use Rattle.lent_samples.proofs.interleave.Goals as goal

pub loop-k-init : goal.loop-k-init
loop-k-init g c = record { puts = woven_none _ _ _ _; keeps = refl }

pub put_sample-requires : goal.put_sample-requires
put_sample-requires g c =
    let x = c.args in
    let kept = woven_long (g.E.Stored.samples x.lent.now) x.a x.part.first x.part.skip c.loop-k.k (search rules) (omega arith) in
    rw (c.loop-k.invariant.puts, kept) (omega arith)

pub put_sample-requires-in-loop-k : goal.put_sample-requires-in-loop-k
put_sample-requires-in-loop-k g c =
    let x = c.args in
    let kept = woven_long (g.E.Stored.samples x.lent.now) x.a x.part.first x.part.skip c.loop-k.k (search rules) (omega arith) in
    rw (c.put_sample.ensures.puts, length-set, c.loop-k.invariant.puts, kept) (omega arith)

pub loop-k-preserved : goal.loop-k-preserved
loop-k-preserved g c =
    let x = c.args in
    let s = c.put_sample-in-loop-k.ensures in
    let i = c.loop-k.invariant in
    record {
      puts =
          s.puts ∙ rw (c.put_sample.ensures.puts, i.puts)
          (woven_turn _ x.a x.part.first x.part.skip c.loop-k.k (search rules) (omega arith) c.place.ensures c.place-in-loop-k.ensures (search (rules, given)) (search (rules, given)));
      keeps = s.keeps ∙ c.put_sample.ensures.keeps ∙ i.keeps;
    }
