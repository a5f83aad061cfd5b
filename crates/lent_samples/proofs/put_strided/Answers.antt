use mathlib.Core.Path.{refl, ◌∙◌}
use borrow.Author.Rules.{rules}
use Rattle.sample.proofs.Words.{given}
use Rattle.lent_samples.proofs.Weave.{length_strided}
use Rattle.lent_samples.proofs.Runs.{place_in, strided_none, strided_turn}
use Rattle.lent_samples.proofs.put_strided.Goals as goal

pub loop-k-init : goal.loop-k-init
loop-k-init g c = record { puts = strided_none _ _ _ _ _; keeps = refl }

pub put_sample-requires : goal.put_sample-requires
put_sample-requires g c =
    let x = c.args in
    rw (c.place.ensures, c.loop-k.invariant.puts, length_strided) (place_in x.part.first x.part.count c.loop-k.k x.channels x.c c.loop-k-test.true c.requires.0 c.requires.1.1)

pub loop-k-preserved : goal.loop-k-preserved
loop-k-preserved g c =
    let x = c.args in
    let i = c.loop-k.invariant in
    record {
      puts = c.put_sample.ensures.puts ∙ rw i.puts (strided_turn _ x.run x.part.first x.channels x.c x.part.skip c.loop-k.k (search rules) c.place.ensures (search (rules, given)));
      keeps = c.put_sample.ensures.keeps ∙ i.keeps;
    }
