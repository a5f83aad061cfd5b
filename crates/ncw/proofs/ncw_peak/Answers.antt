-- The answer of reading a pair, as its number, and what the samples and the rest are in bytes.
use mathlib.Core.Path.{ap}
use borrow.Author.Rules.{rules}
use Rattle.ncw.proofs.Results.{peak_reads_few}
use Rattle.ncw.proofs.Peaks.{told_peak, put_peak}
use Rattle.ncw.proofs.ncw_peak.Goals as goal

pub result-requires : goal.result-requires
result-requires c = search peak_reads_few

pub returns : goal.returns
returns c =
    let x = c.args in
    let e = c.read_peak-answer.ensures in (
      told_peak x.summary.now x.group x.channel x.pair.now _ _ c.result.ensures e.reads.0,
      put_peak x.summary.now x.group x.channel x.pair.now _ (λ i. search rules) (λ i. (c.type_inv.pair i).fits) e.reads.1 e.keeps,
    )
