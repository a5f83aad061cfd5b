-- 39, then what re-encoding's checks say, as a number.
use mathlib.Core.Path.{refl}
use Rattle.ncw.proofs.Refusals.{nowhere_few, nowhere_word}
use Rattle.ncw.proofs.Reencoding.{word_bytes, word_reencode, group_few}
use Rattle.ncw.proofs.ncw_reencode_refusal.Goals as goal

pub refusal_word-requires : goal.refusal_word-requires
refusal_word-requires c = nowhere_few _ c.nowhere.ensures.1

pub returns-then-samples-ne0 : goal.returns-then-samples-ne0
returns-then-samples-ne0 c = word_bytes _ _ _ c.if-samples-ne0.true _ _ _ refl (nowhere_word c.nowhere.result _ _ c.refusal_word.ensures c.nowhere.ensures.0 c.nowhere.ensures.1)

pub refusal_word-requires-2 : goal.refusal_word-requires-2
refusal_word-requires-2 c = group_few _ _ _ c.if-samples-ne0.false (λ i. (c.type_inv.template i).fits) _ _ c.check_reencode-checked.ensures

pub returns : goal.returns
returns c = word_reencode _ _ _ c.if-samples-ne0.false _ _ _ c.check_reencode-checked.ensures c.refusal_word-2.ensures
