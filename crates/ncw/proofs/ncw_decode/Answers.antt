-- Decoding's answer, as its number, and what the samples and the rest are in bytes.
use mathlib.Core.Path.{ap}
use borrow.Author.Rules.{rules}
use Rattle.ncw.proofs.Results.{decode_reads_few}
use Rattle.ncw.proofs.Host.{told_decode, put_bytes}
use Rattle.ncw.proofs.ncw_decode.Goals as goal

pub result-requires : goal.result-requires
result-requires c =
    decode_reads_few _ _ _ (λ i. (c.type_inv.file i).fits) c.decode_samples-answer.ensures.decodes.0

pub returns : goal.returns
returns c =
    let x = c.args in
    let e = c.decode_samples-answer.ensures in (
      told_decode x.file.now x.samples.now _ _ c.result.ensures e.decodes.0,
      put_bytes x.file.now x.samples.now _ (λ i. search rules) (λ i. (c.type_inv.samples i).fits) e.decodes.1 e.keeps,
    )
