-- The place is a group's below 2 ^ 23, so that its 24 bits are enough.
use native.Mathlib.Omega.{arith}
use Rattle.ncw.proofs.words.refusal_word.Goals as goal

pub overflow_mul-result-in-Err : goal.overflow_mul-result-in-Err
overflow_mul-result-in-Err c = let l = c.requires c.in-Err.refused.why c.in-Err.refused.place c.in-Err.is in omega arith

pub overflow_add-result-in-Err : goal.overflow_add-result-in-Err
overflow_add-result-in-Err c = let l = c.requires c.in-Err.refused.why c.in-Err.refused.place c.in-Err.is in omega arith
