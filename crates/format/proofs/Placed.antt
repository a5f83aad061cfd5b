-- Document 02, L6: what each number names, row by row, and where refusals are, each by computation.
use Prim.Native.Nat.{◌+◌, ◌*◌, ◌^◌}
use mathlib.Core.Path.{◌≡◌, refl}
use mathlib.Core.List.{[], ◌∷◌, ◌++◌, map}
use lib.ListN.{replicate, take}
use lib.IntN.{pos}
use Rattle.format.specs.Refusals.{nowhere}
use Rattle.format.specs.Places.{inside, outside}
use Rattle.format.specs.Answers.{refused_by}
use Rattle.format.specs.Opening.{open_of}
use Rattle.format.specs.Decoding.{decode_of}
use Rattle.format.specs.Walking.{step_of}
use Rattle.format.specs.Encoding.{encode_of}
use Rattle.format.specs.Reencoding.{reencode_of}
use Rattle.format.specs.Boundary.{host_decode_refusal, host_reencode_refusal}
use Rattle.format.specs.declared.places.Named.TheVariants.{NoGroup, TheGroup, TheBlock}
use Rattle.format.specs.declared.refusals.Refusal.TheVariants.{BlockSignature, EntryBounds, BytesLeft}
use Rattle.format.specs.declared.refusals.Refusal.TheVariants.{NotStereo, ParityDiffers, WidthTooSmall}
use Rattle.format.specs.declared.refusals.Refusal.TheVariants.{ShortGroup, TemplateBytesLeft, OutputTooShort}
use Rattle.format.specs.declared.settings.StereoMode.TheVariants.{MidSide}
use Rattle.format.proofs.Made.{document_01, pcm, laid, block, two, zeros, unmarked, sided}

pub record Placed : Type 0 where
  -- while a group is read
  pub groups : map inside (19 ∷ 22 ∷ 34 ∷ 35 ∷ 43 ∷ 46 ∷ []) ≡ replicate 6 TheGroup
  pub blocks : map inside (1 ∷ 3 ∷ 4 ∷ 20 ∷ 21 ∷ 36 ∷ 44 ∷ 45 ∷ []) ≡ replicate 8 TheBlock
  pub nothing : map inside (2 ∷ 10 ∷ 11 ∷ 12 ∷ 13 ∷ 14 ∷ 15 ∷ 16 ∷ 17 ∷ 18 ∷ []) ≡ replicate 10 NoGroup
  pub nothing_written : map inside (30 ∷ 31 ∷ 32 ∷ 33 ∷ 37 ∷ 38 ∷ 39 ∷ 40 ∷ 41 ∷ 42 ∷ 50 ∷ 51 ∷ []) ≡ replicate 12 NoGroup
  -- before and after
  pub groups_outside : map outside (19 ∷ 35 ∷ []) ≡ replicate 2 TheGroup
  pub nothing_outside : map outside (1 ∷ 2 ∷ 3 ∷ 4 ∷ 10 ∷ 11 ∷ 12 ∷ 13 ∷ 14 ∷ 15 ∷ 16 ∷ 17 ∷ 18 ∷ 20 ∷ 21 ∷ 22 ∷ []) ≡ replicate 16 NoGroup
  pub written_outside : map outside (30 ∷ 31 ∷ 32 ∷ 33 ∷ 34 ∷ 36 ∷ 37 ∷ 38 ∷ 39 ∷ 40 ∷ 41 ∷ 42 ∷ 43 ∷ 44 ∷ 45 ∷ 46 ∷ 50 ∷ 51 ∷ [])
      ≡ replicate 18 NoGroup
  -- 19 names the first of two bad groups
  pub entries : open_of (laid 1 16 1025 [] (zeros ∷ take 79 zeros ∷ take 79 zeros ∷ []) []) ≡ refused_by EntryBounds (block 1 0)
  -- opening's 3, and decoding's; a group before that passed leaves no channel behind
  pub first_block : open_of (two 2 (unmarked ++ zeros) (zeros ++ zeros)) ≡ refused_by BlockSignature nowhere
  pub later_block : decode_of (two 2 (zeros ++ zeros) (zeros ++ unmarked)) 0 ≡ refused_by BlockSignature (block 1 1)
  pub later_group : decode_of (two 2 (zeros ++ zeros) (unmarked ++ zeros)) 0 ≡ refused_by BlockSignature (block 1 0)
  -- 22 names no channel; a step names the file's group, and 50 none
  pub left_over : decode_of (two 2 (zeros ++ zeros) (zeros ++ (zeros ++ (0 ∷ [])))) 0 ≡ refused_by BytesLeft (block 1 0)
  pub step : step_of (two 2 (zeros ++ zeros) (zeros ++ unmarked)) 1 0 ≡ refused_by BlockSignature (block 1 1)
  pub step_room : step_of (two 2 (zeros ++ zeros) (zeros ++ zeros)) 1 1 ≡ refused_by OutputTooShort nowhere
  -- encoding's 35 names the first group with an odd frame
  pub odd : encode_of (pcm 2 16) MidSide (replicate 1024 (pos 0) ++ (pos 0 ∷ pos 1 ∷ [])) 0 ≡ refused_by ParityDiffers (block 1 0)
  -- re-encoding's 34, 35, 43, 46 and 36
  pub not_stereo : reencode_of (pcm 1 16) (replicate 513 (pos 0)) (two 1 zeros sided) 0 ≡ refused_by NotStereo (block 1 0)
  pub odd_again : reencode_of (pcm 2 16) (replicate 1025 (pos 0) ++ (pos 1 ∷ [])) (two 2 (zeros ++ zeros) (sided ++ sided)) 0
      ≡ refused_by ParityDiffers (block 1 0)
  pub short_group : reencode_of (pcm 1 16) (replicate 513 (pos 0)) (two 1 zeros (take 11 zeros)) 0 ≡ refused_by ShortGroup (block 1 0)
  pub left_again : reencode_of (pcm 2 16) (replicate 1026 (pos 0)) (two 2 (zeros ++ zeros) (zeros ++ (zeros ++ (0 ∷ [])))) 0
      ≡ refused_by TemplateBytesLeft (block 1 0)
  pub misfit : reencode_of (pcm 2 16) (replicate 1025 (pos 0) ++ (pos 3 ∷ [])) (two 2 (zeros ++ zeros) (zeros ++ zeros)) 0
      ≡ refused_by (WidthTooSmall 0) (block 1 1)
  -- as the host's words
  pub word : host_decode_refusal (two 2 (zeros ++ zeros) (zeros ++ unmarked)) 8 ≡ 3 + 2 ^ 24 * 1 + 2 ^ 40 * 1
  pub no_word : host_decode_refusal (laid 1 16 1 [] (zeros ∷ []) []) 4 ≡ 0
  pub room_word : host_decode_refusal (laid 1 16 1 [] (zeros ∷ []) []) 3 ≡ 50
  pub bytes_word : host_reencode_refusal (0 ∷ []) (pcm 1 16) [] 0 ≡ 39
  pub misfit_word : host_reencode_refusal (replicate 12 0 ++ (9 ∷ 0 ∷ 0 ∷ 0 ∷ [])) (pcm 2 16) (laid 2 16 2 [] ((zeros ++ zeros) ∷ []) []) 0
      ≡ 36 + 2 ^ 8 * 0 + 2 ^ 24 * 1
  pub place_word : host_reencode_refusal (replicate 20 0 ++ (9 ∷ 0 ∷ 0 ∷ 0 ∷ [])) (pcm 2 16) (laid 2 16 3 [] ((zeros ++ zeros) ∷ []) []) 0
      ≡ 36 + 2 ^ 8 * 1 + 2 ^ 24 * 1

pub placed : Placed
unfolding document_01
placed =
    record {
      groups = refl;
      blocks = refl;
      nothing = refl;
      nothing_written = refl;
      groups_outside = refl;
      nothing_outside = refl;
      written_outside = refl;
      entries = refl;
      first_block = refl;
      later_block = refl;
      later_group = refl;
      left_over = refl;
      step = refl;
      step_room = refl;
      odd = refl;
      not_stereo = refl;
      odd_again = refl;
      short_group = refl;
      left_again = refl;
      misfit = refl;
      word = refl;
      no_word = refl;
      room_word = refl;
      bytes_word = refl;
      misfit_word = refl;
      place_word = refl;
    }
