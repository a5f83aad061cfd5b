-- The answer of reading frames, as its number, and what the samples and the rest are in bytes.
use mathlib.Core.Path.{ap}
use borrow.Author.Rules.{rules}
use Rattle.ncw.proofs.Results.{frames_read_few}
use Rattle.ncw.proofs.Host.{told_frames, put_frame_bytes}
use Rattle.ncw.proofs.ncw_read_frames.Goals as goal

pub result-requires : goal.result-requires
result-requires c =
    frames_read_few _ _ _ _ _ c.ranges.count.fits (λ i. (c.type_inv.file i).fits) c.read_frames-answer.ensures.reads.0

pub returns : goal.returns
returns c =
    let x = c.args in
    let e = c.read_frames-answer.ensures in (
      told_frames x.file.now x.samples.now _ _ _ _ c.result.ensures e.reads.0,
      put_frame_bytes x.file.now _ _ x.samples.now _ (λ i. search rules) (λ i. (c.type_inv.samples i).fits) e.reads.1 e.keeps,
    )
