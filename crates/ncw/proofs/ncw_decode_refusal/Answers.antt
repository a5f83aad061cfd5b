-- What decoding's checks say, as a number.
use Rattle.ncw.proofs.Host.{word_decode, group_few}
use Rattle.ncw.proofs.ncw_decode_refusal.Goals as goal

pub refusal_word-requires : goal.refusal_word-requires
refusal_word-requires c = group_few _ (λ i. (c.type_inv.file i).fits) _ _ c.check_decode-checked.ensures

pub returns : goal.returns
returns c = word_decode _ _ _ _ c.check_decode-checked.ensures c.refusal_word.ensures
