-- What encoding answers at each way out, from what the calls' contracts and the tests give.
use Rattle.std.specs.Prelude.{Ok, Err}
use Prim.Native.Nat.{ℕ}
use mathlib.Core.Path.{◌≡◌, refl}
use mathlib.Core.List.{List}
use lib.ListN.{length}
use lib.IntN.{ℤ}
use lib.Dec.{ltb}
use Rattle.format.specs.Lists.{joined}
use Rattle.format.specs.Header.{groups_of}
use Rattle.format.specs.Refusals.{Checked, Fine, refuse, ◌then◌}
use Rattle.format.specs.Answers.{answered, filled}
use Rattle.format.specs.Encoding.{encoded_group_at, encoded_file, check_encoder, check_samples, check_stereo, check_size, check_encode, check_encode_into, encode_of, encode_into, frames_of}
use Rattle.format.specs.declared.refusals.Refusal.TheVariants.{DataTooLarge, OutputTooShort}
use Rattle.format.specs.declared.settings.PcmSpec.{PcmSpec}
use Rattle.format.specs.declared.settings.StereoMode.{StereoMode}
use Rattle.format.specs.declared.answers.Outcome.TheVariants.{Wrote}
use Rattle.laws.proofs.Chain.{err_then, fine_then, chain}
use Rattle.validate.specs.Whole.{WholeFrames}
use Rattle.writer.proofs.Input.{check_input, accepted}
use Rattle.writer.proofs.Heading.{file_long}

module _ (p : PcmSpec) (mode : StereoMode) (s : List ℤ) where
  regroup : (a b c d e : Checked) → ((a then b then c then d) then e) ≡ ((a then b then c) then d then e)
  unfolding ◌then◌
  regroup (Ok a) (Ok b) (Ok c) d e = refl
  regroup (Ok a) (Ok b) (Err refused) d e = refl
  regroup (Ok a) (Err refused) c d e = refl
  regroup (Err refused) b c d e = refl

  -- 30 to 35, then 37, then 50
  abbrev in_stages : ℕ → Checked
  in_stages room = check_input p mode s then check_size p mode s then refuse (ltb room (length (encoded_file p mode s))) OutputTooShort

  staged : (room : ℕ) → check_encode_into p mode s room ≡ in_stages room
  unfolding check_encode check_encode_into
  staged room = regroup (check_encoder p) (check_samples p s) (check_stereo p mode s) (check_size p mode s) _

  pub encode_answers : (room : ℕ) → encode_of p mode s room ≡ answered (in_stages room) (Wrote (length (encoded_file p mode s)))
  unfolding encode_of
  encode_answers room = rw staged

  pub encode_fills : (out : List ℕ) → encode_into p mode s out ≡ filled (in_stages (length out)) (encoded_file p mode s) out
  unfolding encode_into
  encode_fills out = rw staged

  pub size_checked : check_size p mode s ≡ refuse (ltb 4294967295 (length (joined (encoded_group_at p mode s) (groups_of (frames_of p s))))) DataTooLarge
  unfolding check_size
  size_checked = refl

  pub input_whole : check_input p mode s ≡ Fine → WholeFrames p.channels s
  input_whole fine = let a = accepted p mode s fine in (a.some, a.whole, a.count)

pub ruleset ways = (encode_answers, encode_fills, size_checked, input_whole, accepted, err_then, fine_then, file_long, chain)
