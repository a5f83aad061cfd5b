-- How much encoding writes: length = data offset + sum of block lengths, each 16 + 64 × width.
use Prim.Native.Nat.{ℕ, zero, suc, ◌+◌, ◌*◌}
use mathlib.Core.Path.{◌≡◌, refl, sym, ap, ap₂, ◌∙◌}
use mathlib.Core.Bool.{Bool, true, false, cond}
use mathlib.Core.List.{List, [], ◌++◌, append_assoc}
use native.Mathlib.Omega.{arith}
use lib.ListN.{length, get_or, length-append}
use lib.IntN.{ℤ, pos, neg_ℤ}
use lib.Dec.{ltb}
use Rattle.format.specs.Lists.{joined}
use Rattle.format.specs.Numbers.{le, digits}
use Rattle.format.specs.Header.{signature, groups_of}
use Rattle.format.specs.Packed.{packing}
use Rattle.format.specs.Blocks.{block_mark}
use Rattle.format.specs.Encoding.{padded_channels, differences, least_width, first_value, block_bytes, encoded_block, blocks, mid_side, takes_mid, encoded_group, group_in, encoded_group_at, header_bytes, table_of, assembled, encoded_file, frames_of}
use Rattle.format.specs.declared.units.Frames.{Frames}
use Rattle.format.specs.declared.settings.PcmSpec.{PcmSpec}
use Rattle.format.specs.declared.settings.StereoMode.{StereoMode}
use Rattle.laws.proofs.Parts.{length_even}
use Rattle.laws.proofs.Digits.{length_le}
use Rattle.laws.proofs.Signs.{length_packing}

-- f 0 + f 1 + .. + f (n − 1)
unfoldable pub sum : (ℕ → ℕ) → ℕ → ℕ
sum f zero = 0
sum f (suc n) = sum f n + f n

length_sum : {A : Type 0} (P : ℕ → List A) (n : ℕ) → length (joined P n) ≡ sum (λ k. length (P k)) n
unfolding joined sum
length_sum P zero = refl
length_sum P (suc n) = length-append (joined P n) (P n) ∙ ap (λ (x : ℕ). x + length (P n)) (length_sum P n)

sum_cong : (f g : ℕ → ℕ) → ((k : ℕ) → f k ≡ g k) → (n : ℕ) → sum f n ≡ sum g n
unfolding sum
sum_cong f g h zero = refl
sum_cong f g h (suc n) = ap₂ (λ (x y : ℕ). x + y) (sum_cong f g h n) (h n)

-- ---- a block

pub block_length : (base bits : ℤ) (flags : ℕ) (run : List ℕ) → length (block_bytes base bits flags run) ≡ 16 + length run
unfolding block_bytes block_mark le digits
block_length base bits flags run = omega arith

-- the width that 512 samples are written at
unfoldable pub width_in : ℕ → List ℤ → ℕ
width_in depth xs = let b = least_width (differences xs) in cond (ltb b depth) b depth

pub block_size : (depth flags : ℕ) (xs : List ℤ) → length (encoded_block depth flags xs) ≡ 16 + 64 * width_in depth xs
unfolding encoded_block width_in
block_size depth flags xs = by (ltb (least_width (differences xs)) depth)
  where
    run : (bits : ℤ) (b : ℕ) (vs : List ℤ) → length (block_bytes (first_value xs) bits flags (packing b vs)) ≡ 16 + 64 * b
    run bits b vs = block_length (first_value xs) bits flags (packing b vs) ∙ ap (λ (x : ℕ). 16 + x) (length_packing b vs)

    by : (t : Bool)
        → length (cond t (block_bytes (first_value xs) (pos (least_width (differences xs))) flags (packing (least_width (differences xs)) (differences xs))) (block_bytes (first_value xs) (neg_ℤ (pos depth)) flags (packing depth xs)))
        ≡ 16 + 64 * cond t (least_width (differences xs)) depth
    by true = run (pos (least_width (differences xs))) (least_width (differences xs)) (differences xs)
    by false = run (neg_ℤ (pos depth)) depth xs

-- a group: the sum of its blocks
pub blocks_size : (depth flags : ℕ) (chans : List (List ℤ)) → length (blocks depth flags chans) ≡ sum (λ c. 16 + 64 * width_in depth (get_or chans c [])) (length chans)
unfolding blocks
blocks_size depth flags chans =
    length_sum (λ c. encoded_block depth flags (get_or chans c [])) (length chans)
    ∙ sum_cong (λ c. length (encoded_block depth flags (get_or chans c []))) (λ c. 16 + 64 * width_in depth (get_or chans c [])) (λ c. block_size depth flags (get_or chans c [])) (length chans)

-- ---- the file

pub header_length : (p : PcmSpec) (frames : Frames) (start size : ℕ) → length (header_bytes p frames start size) ≡ 120
unfolding header_bytes signature le digits
header_length p frames start size = refl

pub entries_length : (part : ℕ → List ℕ) (k : ℕ) → length (joined (λ g. le 4 (length (joined part g))) k) ≡ 4 * k
entries_length part k = length_even (λ g. le 4 (length (joined part g))) 4 (λ g. length_le 4 (length (joined part g))) k

-- the data offset, and what lies before it
abbrev pub offset_of : Frames → ℕ
offset_of frames = 120 + 4 * (groups_of frames + 1)

pub front_length : (p : PcmSpec) (frames : Frames) (start size : ℕ) (part : ℕ → List ℕ) → length (header_bytes p frames start size ++ table_of part (groups_of frames)) ≡ offset_of frames
unfolding table_of
front_length p frames start size part =
    length-append (header_bytes p frames start size) (table_of part (groups_of frames)) ∙ omega (arith, header_length p frames start size, entries_length part (groups_of frames + 1))

pub assembled_length : (p : PcmSpec) (frames : Frames) (part : ℕ → List ℕ) → length (assembled p frames part) ≡ offset_of frames + length (joined part (groups_of frames))
unfolding assembled
assembled_length p frames part =
    let n = groups_of frames in
    let front = header_bytes p frames (offset_of frames) (length (joined part n)) in
    ap length (sym (append_assoc front (table_of part n) (joined part n)))
    ∙ length-append (front ++ table_of part n) (joined part n)
    ∙ ap (λ (x : ℕ). x + length (joined part n)) (front_length p frames (offset_of frames) (length (joined part n)) part)

-- THE LENGTH: the data offset, and the sum of the groups, each the sum of its blocks
pub file_length : (p : PcmSpec) (mode : StereoMode) (s : List ℤ)
    → length (encoded_file p mode s) ≡ offset_of (frames_of p s) + sum (λ g. length (encoded_group_at p mode s g)) (groups_of (frames_of p s))
unfolding encoded_file
file_length p mode s =
    let n = groups_of (frames_of p s) in
    assembled_length p (frames_of p s) (encoded_group_at p mode s) ∙ ap (λ (x : ℕ). offset_of (frames_of p s) + x) (length_sum (encoded_group_at p mode s) n)

-- the channels of group g as they are coded
unfoldable pub coded_at : PcmSpec → StereoMode → List ℤ → ℕ → List (List ℤ)
coded_at p mode s g =
    let x = group_in p.channels s g in
    let both = mid_side (padded_channels p.channels x) in
    let chans = padded_channels p.channels x in
    cond (takes_mid mode p.channels p.bits_per_sample x) both chans

-- what their blocks take, each 16 + 64 × width
abbrev pub blocks_in : ℕ → List (List ℤ) → ℕ
blocks_in depth chans = sum (λ c. 16 + 64 * width_in depth (get_or chans c [])) (length chans)

group_size : (p : PcmSpec) (mode : StereoMode) (s : List ℤ) (g : ℕ) → length (encoded_group_at p mode s g) ≡ blocks_in p.bits_per_sample (coded_at p mode s g)
unfolding encoded_group_at encoded_group coded_at
group_size p mode s g = by (takes_mid mode p.channels depth x)
  where
    depth : ℕ
    depth = p.bits_per_sample

    x : List ℤ
    x = group_in p.channels s g

    chans : List (List ℤ)
    chans = padded_channels p.channels x

    by : (t : Bool) → length (cond t (blocks depth 1 (mid_side chans)) (blocks depth 0 chans)) ≡ blocks_in depth (cond t (mid_side chans) chans)
    by true = blocks_size depth 1 (mid_side chans)
    by false = blocks_size depth 0 chans

-- length = data offset + sum of block lengths, each 16 + 64 × width
pub file_size_lem : (p : PcmSpec) (mode : StereoMode) (s : List ℤ)
    → length (encoded_file p mode s) ≡ offset_of (frames_of p s) + sum (λ g. blocks_in p.bits_per_sample (coded_at p mode s g)) (groups_of (frames_of p s))
file_size_lem p mode s = file_length p mode s ∙ ap (λ (x : ℕ). offset_of (frames_of p s) + x) (sum_cong _ _ (group_size p mode s) (groups_of (frames_of p s)))
