-- What is asked, said and left by the way of writing; an entry asked with samples ys, which are xs.
use Prim.Native.Nat.{ℕ}
use mathlib.Core.Path.{◌≡◌, refl, sym, ap, ◌∙◌}
use mathlib.Core.Bool.{Bool, true, ◌&&◌}
use mathlib.Core.List.{List}
use lib.ListN.{length}
use lib.IntN.{ℤ}
use lib.Dec.{ltb, eqb}
use Rattle.format.specs.Encoding.{encode_of, encode_into}
use Rattle.format.specs.Reencoding.{reencode_of, reencode_into}
use Rattle.format.specs.Boundary.{mode_of, host_encode, host_encode_into, host_reencode, host_reencode_into, host_reencode_refusal}
use Rattle.format.specs.declared.answers.Answer.{Answer}
use Rattle.format.specs.declared.settings.PcmSpec.{PcmSpec}
use Rattle.format.specs.declared.settings.StereoMode.{StereoMode}
use Rattle.replay_list.specs.Said.{said_by, said_by_host, word_of}
use Rattle.replay_list.specs.Bytes.{marked_bytes, spoiled_bytes, is_answered}
use Rattle.replay_list.specs.declared.answers.Recorded.{Recorded}
use Rattle.replay_list.specs.declared.answers.Said.{Said}
use Rattle.replay_list.proofs.Wholes.{asked_bytes}
use Rattle.replay_writing.specs.Written.{are_whole, is_asked, entry_says, entry_puts, host_says, host_puts, host_tells}
use Rattle.replay_writing.specs.declared.Way.{Way}
use Rattle.replay_writing.specs.declared.Way.TheVariants.{Encode, Reencode}

module _ (way : Way) (s : List ℕ) where
  pub asked_encode : (mode : ℕ) → way ≡ Encode mode → (ltb mode 3 && are_whole s) ≡ is_asked way s
  asked_encode mode e = sym (ap (λ (w : Way). is_asked w s) e)

  pub asked_reencode : way ≡ Reencode → are_whole s ≡ is_asked way s
  asked_reencode e = sym (ap (λ (w : Way). is_asked w s) e)

-- what the entry says and puts, and the host boundary, by the way
module _ (way : Way) (p : PcmSpec) (t : List ℕ) (xs : List ℤ) (room after : List ℕ) (answer : Answer) (said : Said) where
  pub encode_says : (mode : ℕ) (m : StereoMode) → way ≡ Encode mode → m ≡ mode_of mode → answer ≡ encode_of p m xs (length room)
      → said ≡ said_by answer → said ≡ entry_says way p t xs (length room)
  encode_says mode m e f g h = rw (e, h, g, f) refl

  pub encode_puts : (mode : ℕ) (m : StereoMode) → way ≡ Encode mode → m ≡ mode_of mode → after ≡ encode_into p m xs room
      → after ≡ entry_puts way p t xs room
  encode_puts mode m e f g = rw (e, g, f) refl

  pub reencode_says : way ≡ Reencode → answer ≡ reencode_of p xs t (length room)
      → said ≡ said_by answer → said ≡ entry_says way p t xs (length room)
  reencode_says e g h = rw (e, h, g) refl

  pub reencode_puts : way ≡ Reencode → after ≡ reencode_into p xs t room → after ≡ entry_puts way p t xs room
  reencode_puts e g = rw (e, g) refl

module _ (way : Way) (p : PcmSpec) (t s : List ℕ) (room after : List ℕ) (result : ℕ) (want : Recorded) (said : Said) where
  pub encode_told : (mode : ℕ) → way ≡ Encode mode → result ≡ host_encode s p mode (length room)
      → said ≡ said_by_host result want → said ≡ host_says way p t s want (length room)
  encode_told mode e g h = rw (e, h, g) refl

  pub encode_left : (mode : ℕ) → way ≡ Encode mode → after ≡ host_encode_into s p mode room → after ≡ host_puts way p t s room
  encode_left mode e g = rw (e, g) refl

  pub reencode_told : way ≡ Reencode → result ≡ host_reencode s p t (length room)
      → said ≡ said_by_host result want → said ≡ host_says way p t s want (length room)
  reencode_told e g h = rw (e, h, g) refl

  pub reencode_left : way ≡ Reencode → after ≡ host_reencode_into s p t room → after ≡ host_puts way p t s room
  reencode_left e g = rw (e, g) refl

-- the word that the host boundary tells
module _ (way : Way) (p : PcmSpec) (t s : List ℕ) (room : ℕ) (want : Recorded) where
  pub encode_tells : (mode : ℕ) → way ≡ Encode mode → true ≡ host_tells way p t s room want
  encode_tells mode e = rw e refl

  pub reencode_tells : {word wanted : ℕ} → way ≡ Reencode → word ≡ host_reencode_refusal s p t room → wanted ≡ word_of want → eqb word wanted ≡ host_tells way p t s room want
  reencode_tells e f g = rw (e, f, g) refl

pub asked_with : (told : List ℤ → List ℕ → Said) (put : List ℤ → List ℕ → List ℕ) (ys xs : List ℤ) (room lent written after : List ℕ) (said : Said) (spoiled : ℕ) (want : Recorded) (same : Bool)
    → ys ≡ xs → lent ≡ marked_bytes room → said ≡ told ys lent → written ≡ put ys lent → (same ≡ is_answered said written spoiled want) × (after ≡ spoiled_bytes spoiled written)
    → (same ≡ is_answered (told xs (marked_bytes room)) (put xs (marked_bytes room)) spoiled want) × (after ≡ spoiled_bytes spoiled (put xs (marked_bytes room)))
asked_with told put ys xs room lent written after said spoiled want same h e f g a =
    asked_bytes (told xs) (put xs) room lent written after said spoiled want same e (f ∙ ap (λ (s : List ℤ). told s lent) h) (g ∙ ap (λ (s : List ℤ). put s lent) h) a
