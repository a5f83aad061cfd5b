-- Cases of the host boundary, each by computation.
use Prim.Native.Nat.{ℕ, ◌+◌, ◌^◌}
use mathlib.Core.Path.{◌≡◌, refl}
use mathlib.Core.List.{List, [], ◌∷◌, ◌++◌}
use lib.ListN.{replicate}
use lib.IntN.{pos, negsuc}
use Rattle.format.specs.Encoding.{encoded_file}
use Rattle.format.specs.Boundary.{samples_from, sample_bytes, host_open, host_decode, host_decode_into, host_encode, host_encode_into, host_reencode, host_reencode_into}
use Rattle.format.specs.declared.settings.StereoMode.TheVariants.{Auto}
use Rattle.format.proofs.Made.{document_01, pcm, changed, five}

-- the refusal r
abbrev no : ℕ → ℕ
no r = 2 ^ 63 + r

abbrev fives : List ℕ
fives = 5 ∷ 0 ∷ 0 ∷ 0 ∷ []

pub record Boundaries : Type 0 where
  -- samples as 4 little-endian bytes
  pub samples : samples_from (0xFE ∷ 0xFF ∷ 0xFF ∷ 0xFF ∷ 0x00 ∷ 0x01 ∷ 0x00 ∷ 0x00 ∷ []) ≡ negsuc 1 ∷ pos 256 ∷ []
  pub back : sample_bytes (negsuc 1 ∷ pos 256 ∷ []) ≡ 0xFE ∷ 0xFF ∷ 0xFF ∷ 0xFF ∷ 0x00 ∷ 0x01 ∷ 0x00 ∷ 0x00 ∷ []
  -- opening says what decoding would write, in bytes
  pub opens : host_open five ≡ 4
  pub opens_stereo : host_open (encoded_file (pcm 2 16) Auto (pos 1 ∷ pos 2 ∷ [])) ≡ 8
  pub no_depth : host_open (changed 10 2 12 five) ≡ no 11
  -- room is counted in bytes
  pub decodes : host_decode five 4 ≡ 4
  pub short : host_decode five 3 ≡ no 50
  pub longer : host_decode five 7 ≡ 4
  pub bits_word_lem : host_decode (changed 136 2 33 five) 4 ≡ no 4
  pub into : host_decode_into five (9 ∷ 9 ∷ 9 ∷ 9 ∷ 9 ∷ 9 ∷ []) ≡ 5 ∷ 0 ∷ 0 ∷ 0 ∷ 9 ∷ 9 ∷ []
  pub into_short : host_decode_into five (9 ∷ 9 ∷ 9 ∷ []) ≡ 9 ∷ 9 ∷ 9 ∷ []
  -- 38 then 39 before all other checks
  pub mode_3 : host_encode (5 ∷ []) (pcm 0 16) 3 0 ≡ no 38
  pub odd_bytes : host_encode (5 ∷ []) (pcm 0 16) 0 0 ≡ no 39
  pub then_30 : host_encode fives (pcm 0 16) 0 0 ≡ no 30
  pub mode_2 : host_encode fives (pcm 1 16) 2 272 ≡ no 34
  pub mode_1 : host_encode fives (pcm 1 16) 1 272 ≡ 272
  pub mode_0 : host_encode fives (pcm 1 16) 0 271 ≡ no 50
  pub encoded : host_encode_into fives (pcm 1 16) 0 (replicate 273 9) ≡ five ++ (9 ∷ [])
  pub encode_kept : host_encode_into fives (pcm 1 16) 3 (replicate 272 9) ≡ replicate 272 9
  -- 39 before all other checks of re-encoding
  pub template_odd : host_reencode (5 ∷ []) (pcm 0 16) [] 0 ≡ no 39
  pub template_30 : host_reencode fives (pcm 0 16) [] 0 ≡ no 30
  pub template_1 : host_reencode fives (pcm 1 16) [] 0 ≡ no 1
  pub template : host_reencode fives (pcm 1 16) five 272 ≡ 272
  pub template_into : host_reencode_into (4 ∷ 0 ∷ 0 ∷ 0 ∷ []) (pcm 1 16) five (replicate 272 9) ≡ changed 144 1 1 (changed 132 4 4 five)
  pub template_kept : host_reencode_into (3 ∷ 0 ∷ 0 ∷ 0 ∷ []) (pcm 1 16) five (replicate 272 9) ≡ replicate 272 9

pub boundaries : Boundaries
unfolding document_01
boundaries =
    record {
      samples = refl;
      back = refl;
      opens = refl;
      opens_stereo = refl;
      no_depth = refl;
      decodes = refl;
      short = refl;
      longer = refl;
      bits_word_lem = refl;
      into = refl;
      into_short = refl;
      mode_3 = refl;
      odd_bytes = refl;
      then_30 = refl;
      mode_2 = refl;
      mode_1 = refl;
      mode_0 = refl;
      encoded = refl;
      encode_kept = refl;
      template_odd = refl;
      template_30 = refl;
      template_1 = refl;
      template = refl;
      template_into = refl;
      template_kept = refl;
    }
