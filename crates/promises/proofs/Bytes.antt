-- Parts of bytes are bytes, and what encoding writes is bytes.
use Prim.Native.Nat.{ℕ, zero, suc, ◌+◌, ◌-◌, ◌*◌, ◌^◌, ◌<◌}
use mathlib.Core.Path.{◌≡◌, refl}
use mathlib.Core.Bool.{Bool, true, false, cond}
use mathlib.Core.List.{List, [], ◌++◌, map}
use native.Mathlib.Nat.{zero-lt-suc}
use lib.ListN.{length, get_or, replicate}
use lib.IntN.{ℤ, pos, neg_ℤ}
use lib.Dec.{ltb}
use Rattle.format.specs.Lists.{from, joined, every}
use Rattle.format.specs.Numbers.{num, Below, le, code_of}
use Rattle.format.specs.Header.{signature, entry, group_bytes, groups_of}
use Rattle.format.specs.Packed.{run_of, packing}
use Rattle.format.specs.Blocks.{block_mark, size_of, from_block}
use Rattle.format.specs.Encoding.{padded_channels, differences, least_width, first_value, block_bytes, encoded_block, blocks, mid_side, takes_mid}
use Rattle.format.specs.Encoding.{encoded_group, group_in, encoded_group_at, header_bytes, table_of, assembled, encoded_file, frames_of}
use Rattle.format.specs.declared.settings.PcmSpec.{PcmSpec}
use Rattle.format.specs.declared.settings.StereoMode.{StereoMode}
use Rattle.format.specs.declared.units.Frames.{Frames}
use Rattle.format.specs.declared.answers.Fields.{Fields}
use Rattle.laws.proofs.Digits.{digits_below}
use Rattle.laws.proofs.Marks.{digits_by}
use Rattle.laws.proofs.Each.{each_append, each_drop, each_from, each_joined}

module _ (s : List ℕ) (byte : Below 256 s) where
  pub below_from : (k n : ℕ) → Below 256 (from k n s)
  below_from k n = each_from (λ x. x < 256) 0 (zero-lt-suc 255) k n s byte

  pub below_rest : (depth c : ℕ) → Below 256 (from_block depth s c)
  unfolding from_block
  below_rest depth zero = byte
  below_rest depth (suc c) = each_drop (λ x. x < 256) 0 (zero-lt-suc 255) (size_of depth (from_block depth s c)) (from_block depth s c) (below_rest depth c)

  pub below_group : (h : Fields) (g : ℕ) → Below 256 (group_bytes s h g)
  unfolding group_bytes
  below_group h g = below_from (h.start + entry s h g) (entry s h (g + 1) - entry s h g)

-- ---- what encoding writes

zero_below : 0 < 256
zero_below = zero-lt-suc 255

record AllBytes (xs : List ℕ) : Type 0 where
  pub below : Below 256 xs

by_test : (xs : List ℕ) → every (λ x. ltb x 256) xs ≡ true → AllBytes xs
by_test xs e = record { below = digits_by 256 zero_below xs e }

infixr 20 ◌and_bytes◌
◌and_bytes◌ : {xs ys : List ℕ} → AllBytes xs → AllBytes ys → AllBytes (xs ++ ys)
◌and_bytes◌ {xs} {ys} p q = record { below = each_append (λ x. x < 256) 0 zero_below xs ys p.below q.below }

joined_bytes : (part : ℕ → List ℕ) (n : ℕ) → ((k : ℕ) → AllBytes (part k)) → AllBytes (joined part n)
joined_bytes part n p = record { below = each_joined (λ x. x < 256) 0 zero_below part n (λ k l. (p k).below) }

le_bytes : (n N : ℕ) → AllBytes (le n N)
unfolding le
le_bytes n N = record { below = digits_below 256 zero_below n N }

packing_bytes : (width : ℕ) (xs : List ℤ) → AllBytes (packing width xs)
unfolding packing run_of
packing_bytes width xs = record { below = digits_below 256 zero_below (64 * width) (num (2 ^ width) (map (code_of width) xs)) }

block_bytes_lem : (base bits : ℤ) (flags : ℕ) (run : List ℕ) → AllBytes run → AllBytes (block_bytes base bits flags run)
unfolding block_bytes block_mark every
block_bytes_lem base bits flags run p =
    by_test block_mark refl
    and_bytes le_bytes 4 (code_of 32 base)
    and_bytes le_bytes 2 (code_of 16 bits)
    and_bytes le_bytes 2 flags
    and_bytes le_bytes 4 0
    and_bytes p

encoded_bytes : (depth flags : ℕ) (xs : List ℤ) → AllBytes (encoded_block depth flags xs)
unfolding encoded_block
encoded_bytes depth flags xs = by (ltb width depth)
  where
    width : ℕ
    width = least_width (differences xs)

    by : (t : Bool)
        → AllBytes (cond t (block_bytes (first_value xs) (pos width) flags (packing width (differences xs))) (block_bytes (first_value xs) (neg_ℤ (pos depth)) flags (packing depth xs)))
    by true = block_bytes_lem (first_value xs) (pos width) flags (packing width (differences xs)) (packing_bytes width (differences xs))
    by false = block_bytes_lem (first_value xs) (neg_ℤ (pos depth)) flags (packing depth xs) (packing_bytes depth xs)

blocks_bytes : (depth flags : ℕ) (chans : List (List ℤ)) → AllBytes (blocks depth flags chans)
unfolding blocks
blocks_bytes depth flags chans = joined_bytes (λ c. encoded_block depth flags (get_or chans c [])) (length chans) (λ c. encoded_bytes depth flags (get_or chans c []))

group_bytes_lem : (p : PcmSpec) (mode : StereoMode) (s : List ℤ) → AllBytes (encoded_group p mode s)
unfolding encoded_group
group_bytes_lem p mode s = by (takes_mid mode p.channels depth s)
  where
    depth : ℕ
    depth = p.bits_per_sample

    chans : List (List ℤ)
    chans = padded_channels p.channels s

    by : (t : Bool) → AllBytes (cond t (blocks depth 1 (mid_side chans)) (blocks depth 0 chans))
    by true = blocks_bytes depth 1 (mid_side chans)
    by false = blocks_bytes depth 0 chans

header_bytes_lem : (p : PcmSpec) (frames : Frames) (start size : ℕ) → AllBytes (header_bytes p frames start size)
unfolding header_bytes signature every
header_bytes_lem p frames start size =
    by_test (signature 0x31) refl
    and_bytes le_bytes 2 p.channels
    and_bytes le_bytes 2 p.bits_per_sample
    and_bytes le_bytes 4 p.sample_rate
    and_bytes le_bytes 4 frames.0
    and_bytes le_bytes 4 120
    and_bytes le_bytes 4 start
    and_bytes le_bytes 4 size
    and_bytes by_test (replicate 88 0) refl

assembled_bytes : (p : PcmSpec) (frames : Frames) (part : ℕ → List ℕ) → ((g : ℕ) → AllBytes (part g)) → AllBytes (assembled p frames part)
unfolding assembled table_of
assembled_bytes p frames part b =
    let n = groups_of frames in
    header_bytes_lem p frames (120 + 4 * (n + 1)) (length (joined part n))
    and_bytes joined_bytes (λ g. le 4 (length (joined part g))) (n + 1) (λ g. le_bytes 4 (length (joined part g)))
    and_bytes joined_bytes part n b

-- the file is bytes
pub below_file : (p : PcmSpec) (mode : StereoMode) (s : List ℤ) → Below 256 (encoded_file p mode s)
unfolding encoded_file encoded_group_at
below_file p mode s = (assembled_bytes p (frames_of p s) (encoded_group_at p mode s) (λ g. group_bytes_lem p mode (group_in p.channels s g))).below
