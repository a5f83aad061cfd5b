-- Samples that are lent as numbers or as bytes, four to a sample.
use Rattle.std.specs.Prelude.{ℕ, ◌+◌, ◌*◌, ◌/◌, ◌≤◌, ◌<◌, List, [], ◌∷◌, ◌++◌, length, take, drop, set, ℤ}
use Rattle.std.proofs.Common.{arith}
use Rattle.format.specs.Lists.{joined, from}
use Rattle.format.specs.Numbers.{num_at, value}
use Rattle.format.specs.Decoding.{frame_of}
use Rattle.format.specs.Boundary.{samples_from}
use Rattle.laws.proofs.Parts.{length_tab}
use Rattle.lent_samples.specs.declared.Part.{Part}

-- the bytes behind the last whole sample
abbrev pub bytes_behind : List ℕ → List ℕ
bytes_behind b = drop (length b / 4 * 4) b

-- there are no more samples in bytes than bytes
pub bytes_at_most : (b : List ℕ) → length (samples_from b) ≤ length b
unfolding samples_from
bytes_at_most b = omega (arith, length_tab (length b / 4) (λ k. value 32 (num_at (4 * k) 4 b)))

-- xs put into s from i on
unfoldable pub placed : ℕ → List ℤ → List ℤ → List ℤ
placed i xs s = take i s ++ (xs ++ drop (i + length xs) s)

-- xs put into s at p, p + step, ..
unfoldable pub strided : List ℤ → ℕ → ℕ → List ℤ → List ℤ
strided s p step [] = s
strided s p step (x ∷ xs) = strided (set s p x) (p + step) step xs

-- the n frames of the channels from the frame `skip` on, interleaved
unfoldable pub woven_from : ℕ → ℕ → List (List ℤ) → List ℤ
woven_from skip n chans = joined (λ i. frame_of chans (skip + i)) n

-- the part lies within a group's 512 frames, and within the samples s
abbrev pub PartFits : Part → ℕ → List ℤ → Type 0
PartFits part channels s = (part.skip + part.count ≤ 512) × ((part.first + part.count) * channels ≤ length s)

-- the part of channel c, which is a run of 512, put where it lies in s
abbrev pub channel_put : Part → ℕ → ℕ → List ℤ → List ℤ → List ℤ
channel_put part channels c run s = strided s (part.first * channels + c) channels (from part.skip part.count run)

-- the part of all channels, put where it lies in s
abbrev pub frames_put : Part → ℕ → List (List ℤ) → List ℤ → List ℤ
frames_put part channels chans s = placed (part.first * channels) (woven_from part.skip part.count chans) s

-- the n frames of so many channels from the frame `first` on, interleaved
unfoldable pub frames_from : ℕ → ℕ → ℕ → List ℤ → List ℤ
frames_from channels first n s = from (first * channels) (n * channels) s

-- the n frames from the frame `first` on are at least one and at most a group's, and lie in s
abbrev pub GroupFits : ℕ → ℕ → ℕ → List ℤ → Type 0
GroupFits channels first n s = (0 < n) × (n ≤ 512) × ((first + n) * channels ≤ length s)
