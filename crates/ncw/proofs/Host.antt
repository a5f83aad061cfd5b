-- What the host is told and finds in its bytes, from what opening, decoding and reading a few frames answer and put.
use Rattle.std.specs.Prelude.{Ok, Err}
use Prim.Native.Nat.{ℕ, ◌*◌, ◌/◌, ◌≤◌, ◌<◌}
use mathlib.Core.Path.{◌≡◌, refl, sym, ap, ◌∙◌}
use mathlib.Core.List.{List}
use native.Mathlib.Omega.{arith}
use lib.ListN.{length, drop}
use lib.IntN.{ℤ}
use Rattle.format.specs.Numbers.{Below}
use Rattle.format.specs.Header.{fields_of}
use Rattle.format.specs.Refusals.{Checked, Fine, No, ◌then◌}
use Rattle.format.specs.Answers.{filled}
use Rattle.format.specs.Opening.{open_of}
use Rattle.format.specs.Decoding.{check_decode, decoded_of, check_room, decode_of, decode_into}
use Rattle.format.specs.FewFrames.{check_frames, check_frames_into, frames_at, read_frames_of, read_frames_into}
use Rattle.format.specs.Boundary.{samples_from, sample_bytes, result_of, host_open, host_decode, host_decode_into, host_read_frames, host_read_frames_into, refusal_word, host_decode_refusal}
use Rattle.format.specs.declared.refusals.Refusal.{Refusal}
use Rattle.format.specs.declared.refusals.Refusal.TheVariants.{OutputTooShort}
use Rattle.format.specs.declared.refusals.Place.{Place}
use Rattle.format.specs.declared.units.Frames.{Frames}
use Rattle.format.specs.declared.answers.Answer.{Answer}
use Rattle.laws.proofs.Checks.{first_fine, has_room}
use Rattle.laws.proofs.Located.{decode_group_few}
use Rattle.laws.proofs.Lengths.{decode_count}
use Rattle.laws.proofs.FewFrames.{frames_long}
use Rattle.lent_samples.proofs.Laws.{length_lent}
use Rattle.lent_samples.proofs.Outcome.{same_bytes, bytes_over}

pub told_open : (s : List ℕ) (a : Answer) (r : ℕ) → r ≡ result_of a.outcome → a ≡ open_of s → r ≡ host_open s
unfolding host_open
told_open s a r e p = e ∙ ap (λ (x : Answer). result_of x.outcome) p

pub told_decode : (s b : List ℕ) (a : Answer) (r : ℕ) → r ≡ result_of a.outcome → a ≡ decode_of s (length (samples_from b)) → r ≡ host_decode s (length b)
unfolding host_decode
told_decode s b a r e p = e ∙ ap (λ (x : Answer). result_of x.outcome) (p ∙ ap (decode_of s) (length_lent b))

pub told_frames : (s b : List ℕ) (first count : Frames) (a : Answer) (r : ℕ) → r ≡ result_of a.outcome → a ≡ read_frames_of s first count (length (samples_from b))
    → r ≡ host_read_frames s first count (length b)
unfolding host_read_frames
told_frames s b first count a r e p = e ∙ ap (λ (x : Answer). result_of x.outcome) (p ∙ ap (read_frames_of s first count) (length_lent b))

-- ---- samples xs put into bytes, where the checks of so much room have passed
module _ (check : ℕ → Checked) (xs : List ℤ) (fits : (room : ℕ) → check room ≡ Fine → length xs ≤ room) where
  pub bytes_put : (b d : List ℕ) → Below 256 b → Below 256 d → samples_from d ≡ filled (check (length (samples_from b))) xs (samples_from b) → drop (length d / 4 * 4) d ≡ drop (length b / 4 * 4) b
      → d ≡ filled (check (length b / 4)) (sample_bytes xs) b
  bytes_put b d hb hd p q = by (check (length b / 4)) refl (rw (length_lent b) at p)
    where
      by : (k : Checked) → check (length b / 4) ≡ k → samples_from d ≡ filled k xs (samples_from b) → d ≡ filled k (sample_bytes xs) b
      by (Ok ok) e t = bytes_over xs b d hb hd (fits (length b / 4) e) t q
      by (Err refused) e t = sym (same_bytes b d hb hd (sym t) (sym q))

decoded_room : (s : List ℕ) (room : ℕ) → (check_decode s then check_room s room) ≡ Fine → length (decoded_of s) ≤ room
unfolding check_room
decoded_room s room fine =
    let fits = has_room (check_decode s) room ((fields_of s).frames.0 * (fields_of s).channels) OutputTooShort fine in
    omega (arith, decode_count s (first_fine _ _ fine))

pub put_bytes :
    (s b d : List ℕ) → Below 256 b → Below 256 d → samples_from d ≡ decode_into s (samples_from b) → drop (length d / 4 * 4) d ≡ drop (length b / 4 * 4) b → d ≡ host_decode_into s b
unfolding decode_into host_decode_into
put_bytes s b d = bytes_put (λ room. check_decode s then check_room s room) (decoded_of s) (decoded_room s) b d

frames_room : (s : List ℕ) (first count : Frames) (room : ℕ) → check_frames_into s first count room ≡ Fine → length (frames_at s first count) ≤ room
unfolding check_frames_into
frames_room s first count room fine =
    let fits = has_room (check_frames s first count) room (count.0 * (fields_of s).channels) OutputTooShort fine in
    let all : count.0 ≤ count.0 = omega arith in
    omega (arith, frames_long s first count (first_fine _ _ fine) count.0 all)

pub put_frame_bytes : (s : List ℕ) (first count : Frames) (b d : List ℕ) → Below 256 b → Below 256 d → samples_from d ≡ read_frames_into s first count (samples_from b)
    → drop (length d / 4 * 4) d ≡ drop (length b / 4 * 4) b → d ≡ host_read_frames_into s first count b
unfolding read_frames_into host_read_frames_into
put_frame_bytes s first count = bytes_put (check_frames_into s first count) (frames_at s first count) (frames_room s first count)

-- what it would be told: of as many samples as fit into so many bytes
pub word_decode : (s : List ℕ) (room : ℕ) (k : Checked) (x : ℕ) → k ≡ (check_decode s then check_room s (room / 4)) → x ≡ refusal_word k → x ≡ host_decode_refusal s room
unfolding host_decode_refusal
word_decode s room k x e w = w ∙ ap refusal_word e

pub group_few : (s : List ℕ) → Below 256 s → (room : ℕ) (k : Checked) → k ≡ (check_decode s then check_room s room) → (r : Refusal) (at : Place) → k ≡ No r at → at.group < 8388608
group_few s byte room k e r at n = decode_group_few s room byte r at (sym e ∙ n)
