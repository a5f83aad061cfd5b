-- The answer of reading all pairs, as its number, and what the samples and the rest are in bytes.
use mathlib.Core.Path.{ap}
use native.Mathlib.Omega.{arith}
use borrow.Author.Rules.{rules}
use Rattle.ncw.proofs.Results.{peaks_read_few}
use Rattle.ncw.proofs.Peaks.{told_peaks, put_peaks}
use Rattle.ncw.proofs.ncw_peaks_all.Goals as goal

pub result-requires : goal.result-requires
result-requires c =
    let x = c.args in
    peaks_read_few x.summary.now x.pairs.now _ (omega arith) c.read_peaks-answer.ensures.reads.0

pub returns : goal.returns
returns c =
    let x = c.args in
    let e = c.read_peaks-answer.ensures in (
      told_peaks x.summary.now x.pairs.now _ _ c.result.ensures e.reads.0,
      put_peaks x.summary.now x.pairs.now _ (λ i. search rules) (λ i. (c.type_inv.pairs i).fits) e.reads.1 e.keeps,
    )
