-- What the tables of cases are made of: small files, and all definitions opened, so that computing decides a case.
use Rattle.std.specs.Prelude.{Ok, Err}
use Prim.Native.Nat.{ℕ, ◌+◌, ◌*◌}
use mathlib.Core.Path.{◌≡◌}
use mathlib.Core.List.{List, [], ◌∷◌, ◌++◌}
use lib.ListN.{length, get_or, take, drop, replicate}
use lib.IntN.{ℤ, pos, negsuc}
use lib.Ieee as Ieee
use Rattle.format.specs.Lists.{tab, joined, from, over, last_or, pairwise, every, first_not, any_below, same, is_in}
use Rattle.format.specs.Numbers.{num, digits, le, num_at, value}
use Rattle.format.specs.Header.{signature, is_signature, fields_of, groups_of, entry, group_bytes}
use Rattle.format.specs.Packed.{codes_in, run_of, values, packing, coding, width_of, is_beyond, rebuilt}
use Rattle.format.specs.Blocks.{block_mark, is_block, base_of, bits_of, mid_bit, float_bit, coding_of, size_of, decoded, samples_of, from_block}
use Rattle.format.specs.MidSide.{float_of, pattern_of, quieted, settled, left, right, left_right}
use Rattle.format.specs.Units.{within, depth_word, is_depth, depth_of, frames_in, check_framed, active}
use Rattle.format.specs.Refusals.{Checked, number, refuse, ◌then◌, in_order}
use Rattle.format.specs.Places.{located, outside, inside}
use Rattle.format.specs.Fit.{misfit, check_fit}
use Rattle.format.specs.Opening.{check_fields, check_offsets, bad_entry, check_table, check_first, format_of, check_open, header_of, open_of}
use Rattle.format.specs.Decoding.{is_float, check_block, check_group, coded, channels_of, woven, group_samples, check_decode, decoded_of, check_room, decode_of, decode_into}
use Rattle.format.specs.Walking.{check_step, step_samples, has_group, check_step_into, check_walk, step_of, next_of, step_into}
use Rattle.format.specs.FewFrames.{touched, check_frames, check_frames_into, frame_at, frames_at, read_frames_of, read_frames_into}
use Rattle.format.specs.SevenBits.{seven_in, seven, marked, seven_length, seven_value, check_seven, past}
use Rattle.format.specs.Peaks.{picked, extreme, pair_bytes, summary_bytes, channel_peak, peak_at, summary_of, check_peaks, check_peaks_into, build_peaks_of, build_peaks_into, compare_peaks_of, pair_count, pair_number, from_pair, pair_of, check_two, check_pair, check_summary, check_peak, pairs_from, read_peak_of, read_peak_into, check_all_peaks, read_peaks_of, read_peaks_into}
use Rattle.format.specs.Encoding.{channel, unwoven, padded, padded_channels, differences, least_from, least_width, first_value, block_bytes, encoded_block, blocks, mid, side, mid_side, equal_parity, parity, takes_mid, encoded_group, group_in, encoded_group_at, header_bytes, table_of, assembled, encoded_file, check_spec, check_encoder, check_samples, is_mid_side, check_stereo, check_size, check_encode, check_encode_into, encode_of, encode_into}
use Rattle.format.specs.Reencoding.{new_values, values_for, base_for, reencoded_block, check_template_block, check_reencode_block, active_in, check_reencode_group, reencoded_group, check_same, check_bounds, check_rising, check_template, check_reencoder, check_reencode, check_reencode_into, reencoded_file, reencode_of, reencode_into}
use Rattle.format.specs.Boundary.{samples_from, sample_bytes, is_mode, mode_of, check_mode, check_bytes, host_open, host_decode, host_decode_into, host_read_frames, host_read_frames_into, host_peaks, host_peak, host_peak_into, host_peaks_all, host_peaks_all_into, host_peaks_check, check_host_encode, host_encode, host_encode_into, check_host_reencode, host_reencode, host_reencode_into, host_decode_refusal, host_reencode_refusal}
use Rattle.format.specs.declared.refusals.Place.{Place}
use Rattle.format.specs.declared.settings.PcmSpec.{PcmSpec}
use Rattle.format.specs.declared.settings.SampleFormat.TheVariants.{Float}
use Rattle.format.specs.declared.settings.StereoMode.TheVariants.{Auto}

-- every definition of document 01, and of the requests of document 02, so that a table unfolds them all by one word
unfoldable pub document_01 : Unit {0}
unfolding tab joined from over last_or pairwise every first_not any_below same is_in num digits le num_at signature is_signature fields_of groups_of entry group_bytes codes_in run_of values packing coding width_of is_beyond rebuilt block_mark is_block base_of bits_of mid_bit float_bit coding_of size_of decoded samples_of from_block float_of pattern_of quieted settled left right left_right within depth_word is_depth depth_of frames_in check_framed refuse ◌then◌ in_order located outside inside misfit check_fit check_fields check_offsets bad_entry check_table check_first format_of check_open header_of open_of is_float check_block check_group coded channels_of woven active group_samples check_decode decoded_of check_room decode_of decode_into check_step step_samples has_group check_step_into check_walk step_of next_of step_into touched check_frames check_frames_into frame_at frames_at read_frames_of read_frames_into seven_in seven marked seven_length seven_value check_seven past picked extreme pair_bytes summary_bytes channel_peak peak_at summary_of check_peaks check_peaks_into build_peaks_of build_peaks_into compare_peaks_of pair_count pair_number from_pair pair_of check_two check_pair check_summary check_peak pairs_from read_peak_of read_peak_into check_all_peaks read_peaks_of read_peaks_into channel unwoven padded padded_channels differences least_from least_width first_value block_bytes encoded_block blocks mid side mid_side equal_parity parity takes_mid encoded_group group_in encoded_group_at header_bytes table_of assembled encoded_file check_spec check_encoder check_samples is_mid_side check_stereo check_size check_encode check_encode_into encode_of encode_into new_values values_for base_for reencoded_block check_template_block check_reencode_block active_in check_reencode_group reencoded_group check_same check_bounds check_rising check_template check_reencoder check_reencode check_reencode_into reencoded_file reencode_of reencode_into samples_from sample_bytes is_mode mode_of check_mode check_bytes host_open host_decode host_decode_into host_read_frames host_read_frames_into host_peaks host_peak host_peak_into host_peaks_all host_peaks_all_into host_peaks_check check_host_encode host_encode host_encode_into check_host_reencode host_reencode host_reencode_into host_decode_refusal host_reencode_refusal Ieee.is_nan Ieee.nan_bits Ieee.of_bits Ieee.to_bits Ieee.add Ieee.sub Ieee.sum Ieee.round Ieee.units Ieee.odd Ieee.span Ieee.climb Ieee.size Ieee.neg
document_01 = tt

-- ---- the number that checks give, 0 where nothing is refused

abbrev pub said : Checked → ℕ
said (Ok ok) = 0
said (Err refused) = number refused.why

-- and where: the number, the group and the channel; nothing where nothing is refused
abbrev pub said_at : Checked → List ℕ
said_at (Ok ok) = []
said_at (Err refused) = number refused.why ∷ refused.place.group ∷ refused.place.channel ∷ []

abbrev pub block : ℕ → ℕ → Place
block g c = record { group = g; channel = c }

-- ---- settings and files

abbrev pub pcm : ℕ → ℕ → PcmSpec
pcm channels depth = record { channels = channels; bits_per_sample = depth; sample_rate = 44100 }

-- a file of these groups, with `before` before its table and `after` after its data
abbrev pub laid : ℕ → ℕ → ℕ → List ℕ → List (List ℕ) → List ℕ → List ℕ
laid channels depth frames before groups after =
    let n = length groups in
    let part : ℕ → List ℕ = λ g. get_or groups g [] in
    let table = 120 + length before in
    signature 0x31
    ++ (le 2 channels ++ (le 2 depth ++ (le 4 44100 ++ (le 4 frames ++ (le 4 table ++ (le 4 (table + 4 * (n + 1)) ++ (le 4 (length (joined part n))
    ++ (replicate 88 0 ++ (before ++ (table_of part n ++ (joined part n ++ after)))))))))))

-- the file with N in the n bytes from i
abbrev pub changed : ℕ → ℕ → ℕ → List ℕ → List ℕ
changed i n N s = take i s ++ (le n N ++ drop (i + n) s)

-- 513 frames in two groups
abbrev pub two : ℕ → List ℕ → List ℕ → List ℕ
two channels a b = laid channels 16 513 [] (a ∷ b ∷ []) []

-- a block of zeros, as differences at width 2; one without its mark; one that is mid/side
abbrev pub zeros : List ℕ
zeros = block_bytes (pos 0) (pos 2) 0 (replicate 128 0)

abbrev pub unmarked : List ℕ
unmarked = changed 0 1 0 zeros

abbrev pub sided : List ℕ
sided = changed 10 2 1 zeros

-- blocks that rise by 1 from 0; of nines; of zeros, in float
abbrev pub rising : List ℕ
rising = block_bytes (pos 0) (pos 2) 0 (replicate 128 0x55)

abbrev pub nines : List ℕ
nines = block_bytes (pos 9) (pos 2) 0 (replicate 128 0)

abbrev pub floats : List ℕ
floats = changed 10 2 2 zeros

-- a group of mid/side: of 0, 1, 2, .. and nines; of 1.0 and 0.5, in float
abbrev pub sides : List ℕ
sides = changed 10 2 1 rising ++ nines

abbrev pub float_sides : List ℕ
float_sides = block_bytes (pos 0x3F800000) (pos 2) 3 (replicate 128 0) ++ block_bytes (pos 0x3F000000) (pos 2) 3 (replicate 128 0)

-- the samples with these 32 bits
abbrev pub bits : ℕ → ℕ → List ℤ
bits l r = value 32 l ∷ value 32 r ∷ []

-- left and right of a frame in float whose mid and side have these 32 bits
abbrev pub both : ℕ → ℕ → List ℤ
both m s = left Float (value 32 m) (value 32 s) ∷ right Float (value 32 m) (value 32 s) ∷ []

-- a block in float that begins with this sample, raw at 32 bits, with the flags; a file of one stereo frame of two
abbrev pub float_block : ℕ → ℕ → List ℕ
float_block flags n = block_bytes (pos 0) (negsuc 31) flags (packing 32 (value 32 n ∷ replicate 511 (pos 0)))

abbrev pub float_pair : ℕ → ℕ → ℕ → List ℕ
float_pair flags m s = laid 2 32 1 [] ((float_block flags m ++ float_block flags s) ∷ []) []

-- a file without frames
abbrev pub empty : List ℕ
empty = laid 1 16 0 [] [] []

-- mono, 16 bits, the one sample 5
abbrev pub five : List ℕ
five = encoded_file (pcm 1 16) Auto (pos 5 ∷ [])

-- what the checks say of a file with none of these faults, with the first, with the first two, and so on
abbrev pub said_after : (List ℕ → Checked) → List (List ℕ → List ℕ) → List ℕ → List ℕ
said_after check [] s = said (check s) ∷ []
said_after check (fault ∷ faults) s = said (check s) ∷ said_after check faults (fault s)

-- the file decodes to these samples, into just enough room
abbrev pub decodes_to : List ℕ → List ℤ → Type 0
decodes_to s samples = decode_into s (replicate (length samples) (pos 77777)) ≡ samples

-- at 16 bits, the samples with the template t give this file, into just enough room
abbrev pub reencodes_to : ℕ → List ℤ → List ℕ → List ℕ → Type 0
reencodes_to channels samples t file = reencode_into (pcm channels 16) samples t (replicate (length file) 77) ≡ file
