-- The four words that are matched are the definition's four, and a word that is none of them names no depth.
use mathlib.Core.Path.{sym, ap}
use Rattle.format.specs.Units.{depth_word}
use Rattle.format.proofs.UnitLaws.{depth_unknown}
use Rattle.format.proofs.units.Depth.from_bits.Goals as goal

pub returns-in-8 : goal.returns-in-8
unfolding depth_word
returns-in-8 c = sym (ap depth_word c.in-8.is)

pub returns-in-16 : goal.returns-in-16
unfolding depth_word
returns-in-16 c = sym (ap depth_word c.in-16.is)

pub returns-in-24 : goal.returns-in-24
unfolding depth_word
returns-in-24 c = sym (ap depth_word c.in-24.is)

pub returns-in-32 : goal.returns-in-32
unfolding depth_word
returns-in-32 c = sym (ap depth_word c.in-32.is)

pub returns-in_default : goal.returns-in_default
returns-in_default c = search depth_unknown
