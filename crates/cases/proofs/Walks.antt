-- Cases of the walk's step, each by computation, over a mono file of two groups: 513 frames.
use Prim.Native.Nat.{ℕ}
use mathlib.Core.Path.{◌≡◌, refl}
use mathlib.Core.List.{List, [], ◌∷◌, ◌++◌}
use lib.ListN.{take, replicate}
use lib.IntN.{ℤ, pos}
use Rattle.format.specs.Refusals.{nowhere}
use Rattle.format.specs.Answers.{answered_by, refused_by, read}
use Rattle.format.specs.Walking.{step_of, next_of, step_into}
use Rattle.format.specs.Encoding.{block_bytes}
use Rattle.format.specs.declared.refusals.Refusal.TheVariants.{TooShort, BytesLeft, OutputTooShort}
use Rattle.format.specs.declared.answers.Outcome.TheVariants.{Finished}
use Rattle.format.specs.declared.answers.Answer.{Answer}
use Rattle.format.proofs.Made.{document_01, laid, block}

abbrev group : ℕ → ℤ → List ℕ
group more base = block_bytes base (pos 1) 0 (replicate 64 0) ++ replicate more 0

abbrev good : List ℕ
good = laid 1 16 513 [] (group 0 (pos 3) ∷ group 0 (pos 4) ∷ []) []

-- bytes are left in the second group
abbrev damaged : List ℕ
damaged = laid 1 16 513 [] (group 0 (pos 3) ∷ group 1 (pos 4) ∷ []) []

-- one stereo frame
abbrev stereo : List ℕ
stereo = laid 2 16 1 [] ((group 0 (pos 3) ++ group 0 (pos 4)) ∷ []) []

abbrev finished : Answer
finished = answered_by Finished

pub record Walks : Type 0 where
  pub first : step_of good 0 512 ≡ read 512
  pub first_next : next_of good 0 512 ≡ 1
  pub first_into : step_into good 0 (replicate 513 (pos 9)) ≡ replicate 512 (pos 3) ++ (pos 9 ∷ [])
  pub last : step_of good 1 1 ≡ read 1
  pub last_into : step_into good 1 (pos 9 ∷ pos 9 ∷ []) ≡ pos 4 ∷ pos 9 ∷ []
  -- a step after the last group says done, and stays there
  pub done : step_of good 2 0 ≡ finished
  pub done_next : next_of good 2 0 ≡ 2
  pub done_into : step_into good 2 (pos 9 ∷ []) ≡ pos 9 ∷ []
  pub far : step_of good 1000 0 ≡ finished
  -- a refused step doesn't advance, and changes nothing; 50 after 22
  pub before_damage : step_of damaged 0 512 ≡ read 512
  pub refuses : step_of damaged 1 0 ≡ refused_by BytesLeft (block 1 0)
  pub refuses_next : next_of damaged 1 9 ≡ 1
  pub refuses_into : step_into damaged 1 (pos 9 ∷ []) ≡ pos 9 ∷ []
  pub room : step_of good 0 511 ≡ refused_by OutputTooShort nowhere
  pub room_next : next_of good 0 511 ≡ 0
  -- samples are counted, not frames
  pub both : step_of stereo 0 2 ≡ read 2
  pub both_into : step_into stereo 0 (pos 9 ∷ pos 9 ∷ pos 9 ∷ []) ≡ pos 3 ∷ pos 4 ∷ pos 9 ∷ []
  pub one_only : step_of stereo 0 1 ≡ refused_by OutputTooShort nowhere
  -- bytes that don't open refuse as opening does, past the end too
  pub closed : step_of (take 119 good) 0 512 ≡ refused_by TooShort nowhere
  pub closed_past : step_of (take 119 good) 2 0 ≡ refused_by TooShort nowhere

pub walks : Walks
unfolding document_01
walks =
    record {
      first = refl;
      first_next = refl;
      first_into = refl;
      last = refl;
      last_into = refl;
      done = refl;
      done_next = refl;
      done_into = refl;
      far = refl;
      before_damage = refl;
      refuses = refl;
      refuses_next = refl;
      refuses_into = refl;
      room = refl;
      room_next = refl;
      both = refl;
      both_into = refl;
      one_only = refl;
      closed = refl;
      closed_past = refl;
    }
