-- The second re-encoding is lent what the first one leaves, and given the samples that `halve` leaves.
use Rattle.remaster_job.proofs.rewrite.Goals as goal

pub returns-clause-says : goal.returns-clause-says
returns-clause-says c =
    let restored = c.restore-restored.ensures in
    let written = c.encode_pcm_with_template-written.ensures in
    rw (restored.says, written.0, c.kept_in.ensures, written.1, c.halve.ensures, restored.puts)
