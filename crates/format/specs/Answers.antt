-- Document 01, "Numbers of refusal": what a call returns, and what lent memory then holds.
use Rattle.std.specs.Prelude.{ℕ, List, Ok, Err}
use Rattle.format.specs.Lists.{over}
use Rattle.format.specs.Refusals.{Checked}
use Rattle.format.specs.declared.refusals.Refusal.{Refusal}
use Rattle.format.specs.declared.refusals.Place.{Place}
use Rattle.format.specs.declared.answers.Outcome.{Outcome}
use Rattle.format.specs.declared.answers.Outcome.TheVariants.{Read, Wrote, Refused}
use Rattle.format.specs.declared.answers.Answer.{Answer}

-- ------------------------------------------------------------------------------------------------------------------

-- a refusal returns its number, and its place; success what was found, or the length written, with 0 for both
abbrev pub answered_by : Outcome → Answer
answered_by outcome = record { outcome = outcome; group = 0; channel = 0 }

abbrev pub refused_by : Refusal → Place → Answer
refused_by refusal place = record { outcome = Refused refusal; group = place.group; channel = place.channel }

-- n samples were read; n bytes were written
abbrev pub read : ℕ → Answer
read n = answered_by (Read (record { 0 = n }))

abbrev pub wrote : ℕ → Answer
wrote n = answered_by (Wrote n)

abbrev pub answered : Checked → Outcome → Answer
answered (Ok ok) outcome = answered_by outcome
answered (Err refused) outcome = refused_by refused.why refused.place

-- a refusal changes no lent byte or sample; after success what lies after the written stays
abbrev pub filled : {A : Type 0} → Checked → List A → List A → List A
filled (Ok ok) written before = over written before
filled (Err refused) written before = before
