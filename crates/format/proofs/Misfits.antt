-- Document 02, L2: 36 tells the place of the first value that does not fit, channel 0's before channel 1's. Each case
-- by computation; the crate `cases` has others, of two groups among them.
use Prim.Native.Nat.{ℕ}
use mathlib.Core.Path.{◌≡◌, refl}
use mathlib.Core.List.{List, [], ◌∷◌}
use lib.ListN.{replicate}
use lib.IntN.{pos, negsuc}
use Rattle.format.specs.Refusals.{Fine, No, nowhere}
use Rattle.format.specs.Answers.{refused_by}
use Rattle.format.specs.Fit.{check_fit}
use Rattle.format.specs.Encoding.{encoded_file}
use Rattle.format.specs.Reencoding.{reencode_of}
use Rattle.format.specs.declared.refusals.Refusal.TheVariants.{WidthTooSmall}
use Rattle.format.specs.declared.settings.StereoMode.TheVariants.{Direct}
use Rattle.format.proofs.Made.{document_01, pcm}

-- three stereo frames of silence: differences at width 2, which holds −2 to 1
abbrev silence : List ℕ
silence = encoded_file (pcm 2 16) Direct (replicate 6 (pos 0))

pub record Misfits : Type 0 where
  -- 3 bits hold −4 to 3: the first that they do not hold is neither the widest nor the last
  pub first : check_fit 3 (pos 3 ∷ pos 4 ∷ pos 9 ∷ negsuc 4 ∷ []) ≡ No (WidthTooSmall 1) nowhere
  pub at_0 : check_fit 3 (negsuc 4 ∷ pos 9 ∷ []) ≡ No (WidthTooSmall 0) nowhere
  pub held : check_fit 3 (pos 3 ∷ negsuc 3 ∷ []) ≡ Fine
  -- left 0, 0, 9 and right 0, 9, 0: channel 0's place 1 stands before channel 1's place 0
  pub channels : reencode_of (pcm 2 16) (pos 0 ∷ pos 0 ∷ pos 0 ∷ pos 9 ∷ pos 9 ∷ pos 0 ∷ []) silence 1000 ≡ refused_by (WidthTooSmall 1) nowhere

pub misfits : Misfits
unfolding document_01
misfits = record { first = refl; at_0 = refl; held = refl; channels = refl }
