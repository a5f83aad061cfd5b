-- Cases of opening, each by computation: document 01's order of checks, and the traps in it.
use Prim.Native.Nat.{ℕ}
use mathlib.Core.Path.{◌≡◌, refl}
use mathlib.Core.List.{List, [], ◌∷◌, ◌++◌}
use lib.ListN.{take, replicate}
use lib.IntN.{pos}
use Rattle.format.specs.Answers.{answered_by}
use Rattle.format.specs.Opening.{check_open, open_of}
use Rattle.format.specs.Encoding.{block_bytes}
use Rattle.format.specs.declared.units.Depth.TheVariants.{Eight, Sixteen, ThirtyTwo}
use Rattle.format.specs.declared.settings.SampleFormat.TheVariants.{Pcm, Float}
use Rattle.format.specs.declared.answers.Outcome.TheVariants.{Opened}
use Rattle.format.proofs.Made.{document_01, said, said_after, laid, changed, five}

-- a block of differences at width 1, and a mono file of two groups of such blocks: 513 frames, table at 120, data at
-- 132
abbrev small : List ℕ
small = block_bytes (pos 7) (pos 1) 0 (replicate 64 255)

abbrev two_groups : List ℕ
two_groups = laid 1 16 513 [] (small ∷ small ∷ []) []

-- a file without groups, with 9 bytes of data
abbrev no_groups : List ℕ
no_groups = changed 28 4 9 (laid 1 16 0 [] [] (replicate 9 0))

-- faults of two_groups, from the last check to the first
abbrev faults : List (List ℕ → List ℕ)
faults =
    changed 132 1 0
    ∷ changed 124 4 79
    ∷ changed 120 4 1
    ∷ changed 128 4 159
    ∷ take 291
    ∷ changed 16 4 512
    ∷ changed 24 4 118
    ∷ changed 20 4 119
    ∷ changed 12 4 0
    ∷ changed 10 2 12
    ∷ changed 8 2 0
    ∷ changed 7 1 1
    ∷ take 119
    ∷ []

pub record Openings : Type 0 where
  -- 1, 2, 10 to 15, 1, 16, 18, 19, 3: each fault more is found before all that were there
  pub order : said_after check_open faults two_groups ≡ 0 ∷ 3 ∷ 19 ∷ 18 ∷ 16 ∷ 1 ∷ 15 ∷ 14 ∷ 13 ∷ 12 ∷ 11 ∷ 10 ∷ 2 ∷ 1 ∷ []
  -- without groups entry 0 is the last: 16 comes before 17
  pub none_16 : said (check_open no_groups) ≡ 16
  pub none_17 : said (check_open (changed 120 4 9 no_groups)) ≡ 17
  -- 19: an entry past the data size, one before its start, one under 80 × channels after it
  pub entry_past : said (check_open (changed 124 4 161 two_groups)) ≡ 19
  pub entry_before : said (check_open (changed 124 4 160 (changed 128 4 100 (laid 1 16 1025 [] (small ∷ small ∷ small ∷ []) [])))) ≡ 19
  pub entry_near : said (check_open (changed 124 4 81 two_groups)) ≡ 19
  pub group_79 : said (check_open (laid 1 16 1 [] (take 79 small ∷ []) [])) ≡ 19
  pub group_80 : said (check_open (laid 1 16 1 [] (small ∷ []) [])) ≡ 0
  pub group_159 : said (check_open (laid 2 16 1 [] (take 159 (small ++ small) ∷ []) [])) ≡ 19
  -- the data's end is no number of 32 bits
  pub far_frames : said (check_open (changed 16 4 0xFFFFFFFF five)) ≡ 15
  pub far_size : said (check_open (changed 28 4 0xFFFFFFFF five)) ≡ 1
  -- the other signature; bytes before the table and after the data; a bits word of 33 opens
  pub signature_30 : said (check_open (changed 4 1 0x30 five)) ≡ 0
  pub signature_32 : said (check_open (changed 4 1 0x32 five)) ≡ 2
  pub gaps : said (check_open (laid 1 16 1 (1 ∷ 2 ∷ 3 ∷ []) (small ∷ []) (4 ∷ 5 ∷ []))) ≡ 0
  pub bits_33 : said (check_open (laid 1 16 1 [] (block_bytes (pos 0) (pos 33) 0 (replicate 64 0) ∷ []) [])) ≡ 0
  -- what opening returns
  pub five_opens : open_of five
      ≡ answered_by (Opened (record { channels = 1; depth = Sixteen; rate = 44100; frames = record { 0 = 1 }; table = 120; start = 128; size = 144; groups = 1; format = Pcm }))
  pub float_opens : open_of (laid 1 32 2 (0 ∷ []) (block_bytes (pos 0) (pos 1) 6 (replicate 64 0) ∷ []) [])
      ≡ answered_by (Opened (record { channels = 1; depth = ThirtyTwo; rate = 44100; frames = record { 0 = 2 }; table = 121; start = 129; size = 80; groups = 1; format = Float }))
  pub floats_open : open_of (laid 1 8 513 [] (changed 10 2 2 small ∷ small ∷ []) [])
      ≡ answered_by (Opened (record { channels = 1; depth = Eight; rate = 44100; frames = record { 0 = 513 }; table = 120; start = 132; size = 160; groups = 2; format = Float }))
  pub none_opens : open_of (laid 65535 16 0 [] [] [])
      ≡ answered_by (Opened (record { channels = 65535; depth = Sixteen; rate = 44100; frames = record { 0 = 0 }; table = 120; start = 124; size = 0; groups = 0; format = Pcm }))

pub openings : Openings
unfolding document_01
openings =
    record {
      order = refl;
      none_16 = refl;
      none_17 = refl;
      entry_past = refl;
      entry_before = refl;
      entry_near = refl;
      group_79 = refl;
      group_80 = refl;
      group_159 = refl;
      far_frames = refl;
      far_size = refl;
      signature_30 = refl;
      signature_32 = refl;
      gaps = refl;
      bits_33 = refl;
      five_opens = refl;
      float_opens = refl;
      floats_open = refl;
      none_opens = refl;
    }
