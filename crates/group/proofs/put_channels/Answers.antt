use mathlib.Core.Path.{◌≡◌, refl, ◌∙◌}
use Prim.Native.Nat.{◌<◌}
use native.Mathlib.Omega.{arith}
use borrow.Author.Rules.{rules}
use Rattle.lent_samples.proofs.Weave.{length_put}
use Rattle.group.proofs.Places.{begins_first}
use Rattle.group.proofs.Channels.{none_put, whole, begins_next, put_turn, all_channels}
use Rattle.group.proofs.put_channels.Goals as goal

pub loop-c-init : goal.loop-c-init
loop-c-init g c = record { begins = begins_first _ _; puts = none_put _ _ _ _ _ _; keeps = refl }

pub read_block-run-requires : goal.read_block-run-requires
read_block-run-requires g c = whole _ _ _ c.requires.0 _ _ c.loop-c.invariant.begins c.loop-c-test.true

pub put_channel-requires : goal.put_channel-requires
put_channel-requires g c = (search rules, (search rules, rw (c.loop-c.invariant.puts, length_put) (search rules)))

pub size_of-at-requires : goal.size_of-at-requires
size_of-at-requires g c =
    let w = whole _ _ _ c.requires.0 _ _ c.loop-c.invariant.begins c.loop-c-test.true in
    (w.header, w.most)

pub loop-c-preserved : goal.loop-c-preserved
loop-c-preserved g c =
    let x = c.args in
    let i = c.loop-c.invariant in
    let t : c.loop-c.c < x.h.channels = search rules in
    record {
      begins = begins_next _ _ _ c.requires.0 _ _ i.begins t _ c.size_of-at.ensures.0;
      puts = c.put_channel.ensures.puts ∙ rw i.puts (put_turn _ _ _ c.requires.0 _ _ i.begins t x.part.first x.part.skip x.part.count (g.E.Stored.samples x.lent.now) _ c.read_block-run.ensures);
      keeps = c.put_channel.ensures.keeps ∙ i.keeps;
    }

pub returns : goal.returns
returns g c =
    let x = c.args in
    let i = c.loop-c.invariant in
    let e : c.loop-c.c ≡ x.h.channels = omega arith in
    record {
      puts = rw e at i.puts ∙ all_channels _ _ _ c.requires.0 c.requires.1 x.part.first x.part.skip x.part.count (g.E.Stored.samples x.lent.now) c.requires.2.0 c.requires.2.1;
      keeps = i.keeps;
    }
