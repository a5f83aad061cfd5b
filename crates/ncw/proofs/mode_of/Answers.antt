-- Each number by its own line of the definition.
use Rattle.ncw.proofs.Encoding.{mode_auto, mode_direct, mode_both}
use Rattle.ncw.proofs.mode_of.Goals as goal

pub returns-in-0 : goal.returns-in-0
returns-in-0 c = search mode_auto

pub returns-in-1 : goal.returns-in-1
returns-in-1 c = search mode_direct

pub returns-in_default : goal.returns-in_default
returns-in_default c = search mode_both
