-- Each stage is given what the stages before it leave, so that their promises go together.
use Rattle.remaster_job.specs.Reports.{report_of}
use Rattle.remaster_job.proofs.job.Goals as goal

pub returns : goal.returns
unfolding report_of
returns c =
    let decoded = c.decode_samples-decoded.ensures in
    let rewritten = c.rewrite-rewritten.ensures in
    rw (decoded.decodes.0, rewritten.says, c.read_back.ensures, rewritten.puts, rewritten.halves, decoded.decodes.1, c.spec_of-p.ensures)
