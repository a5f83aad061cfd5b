-- What is said, left and told by the way of reading: the whole file, or some frames; a pair, or all pairs.
use Prim.Native.Nat.{ℕ}
use mathlib.Core.Path.{◌≡◌, refl}
use mathlib.Core.Bool.{true}
use mathlib.Core.List.{List}
use lib.ListN.{length}
use lib.IntN.{ℤ}
use lib.Dec.{eqb}
use Rattle.format.specs.Decoding.{decode_of, decode_into}
use Rattle.format.specs.FewFrames.{read_frames_of, read_frames_into}
use Rattle.format.specs.Peaks.{read_peak_of, read_peak_into, read_peaks_of, read_peaks_into}
use Rattle.format.specs.Boundary.{host_decode, host_decode_into, host_decode_refusal, host_read_frames, host_read_frames_into}
use Rattle.format.specs.Boundary.{host_peak, host_peak_into, host_peaks_all, host_peaks_all_into}
use Rattle.format.specs.declared.answers.Answer.{Answer}
use Rattle.format.specs.declared.units.Frames.{Frames}
use Rattle.replay_list.specs.Said.{said_by, said_by_host, word_of}
use Rattle.replay_list.specs.declared.answers.Recorded.{Recorded}
use Rattle.replay_list.specs.declared.answers.Said.{Said}
use Rattle.replay_reading.specs.Read.{entry_says, entry_puts, host_says, host_puts, host_tells}
use Rattle.replay_reading.specs.declared.Way.{Way}
use Rattle.replay_reading.specs.declared.Way.TheVariants.{Decode, Range, Pair, Pairs}

-- the entry
module _ (way : Way) (file : List ℕ) (room after : List ℤ) (answer : Answer) (said : Said) where
  pub decode_says : way ≡ Decode → answer ≡ decode_of file (length room) → said ≡ said_by answer → said ≡ entry_says way file (length room)
  decode_says e g h = rw (e, h, g) refl

  pub decode_puts : way ≡ Decode → after ≡ decode_into file room → after ≡ entry_puts way file room
  decode_puts e g = rw (e, g) refl

  pub frames_says : (first count : Frames) → way ≡ Range first count → answer ≡ read_frames_of file first count (length room)
      → said ≡ said_by answer → said ≡ entry_says way file (length room)
  frames_says first count e g h = rw (e, h, g) refl

  pub frames_puts : (first count : Frames) → way ≡ Range first count → after ≡ read_frames_into file first count room → after ≡ entry_puts way file room
  frames_puts first count e g = rw (e, g) refl

  pub pair_says : (g c : ℕ) → way ≡ Pair g c → answer ≡ read_peak_of file g c (length room) → said ≡ said_by answer → said ≡ entry_says way file (length room)
  pair_says g c e f h = rw (e, h, f) refl

  pub pair_puts : (g c : ℕ) → way ≡ Pair g c → after ≡ read_peak_into file g c room → after ≡ entry_puts way file room
  pair_puts g c e f = rw (e, f) refl

  pub pairs_says : way ≡ Pairs → answer ≡ read_peaks_of file (length room) → said ≡ said_by answer → said ≡ entry_says way file (length room)
  pairs_says e g h = rw (e, h, g) refl

  pub pairs_puts : way ≡ Pairs → after ≡ read_peaks_into file room → after ≡ entry_puts way file room
  pairs_puts e g = rw (e, g) refl

-- the host boundary
module _ (way : Way) (file room after : List ℕ) (result : ℕ) (want : Recorded) (said : Said) where
  pub decode_told : way ≡ Decode → result ≡ host_decode file (length room) → said ≡ said_by_host result want → said ≡ host_says way file want (length room)
  decode_told e g h = rw (e, h, g) refl

  pub decode_left : way ≡ Decode → after ≡ host_decode_into file room → after ≡ host_puts way file room
  decode_left e g = rw (e, g) refl

  pub frames_told : (first count : Frames) → way ≡ Range first count → result ≡ host_read_frames file first count (length room)
      → said ≡ said_by_host result want → said ≡ host_says way file want (length room)
  frames_told first count e g h = rw (e, h, g) refl

  pub frames_left : (first count : Frames) → way ≡ Range first count → after ≡ host_read_frames_into file first count room → after ≡ host_puts way file room
  frames_left first count e g = rw (e, g) refl

  pub pair_told : (g c : ℕ) → way ≡ Pair g c → result ≡ host_peak file g c (length room) → said ≡ said_by_host result want → said ≡ host_says way file want (length room)
  pair_told g c e f h = rw (e, h, f) refl

  pub pair_left : (g c : ℕ) → way ≡ Pair g c → after ≡ host_peak_into file g c room → after ≡ host_puts way file room
  pair_left g c e f = rw (e, f) refl

  pub pairs_told : way ≡ Pairs → result ≡ host_peaks_all file (length room) → said ≡ said_by_host result want → said ≡ host_says way file want (length room)
  pairs_told e g h = rw (e, h, g) refl

  pub pairs_left : way ≡ Pairs → after ≡ host_peaks_all_into file room → after ≡ host_puts way file room
  pairs_left e g = rw (e, g) refl

-- the word that it tells
module _ (way : Way) (file : List ℕ) (room : ℕ) (want : Recorded) where
  pub decode_tells : {word wanted : ℕ} → way ≡ Decode → word ≡ host_decode_refusal file room → wanted ≡ word_of want → eqb word wanted ≡ host_tells way file room want
  decode_tells e f g = rw (e, f, g) refl

  pub frames_tells : (first count : Frames) → way ≡ Range first count → true ≡ host_tells way file room want
  frames_tells first count e = rw e refl

  pub pair_tells : (g c : ℕ) → way ≡ Pair g c → true ≡ host_tells way file room want
  pair_tells g c e = rw e refl

  pub pairs_tells : way ≡ Pairs → true ≡ host_tells way file room want
  pairs_tells e = rw e refl
