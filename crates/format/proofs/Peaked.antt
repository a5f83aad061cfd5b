-- Document 02, L7: peaks, each case by computation.
use Prim.Native.Nat.{ℕ}
use mathlib.Core.Path.{◌≡◌, refl}
use mathlib.Core.List.{List, [], ◌∷◌, ◌++◌}
use lib.ListN.{replicate}
use lib.IntN.{pos, negsuc}
use Rattle.format.specs.SevenBits.{seven, seven_value, check_seven, past, folded, unfolded}
use Rattle.format.specs.Peaks.{summary_of, build_peaks_of, build_peaks_into, compare_peaks_of, check_summary, check_peak, read_peak_of, read_peak_into, read_peaks_of, read_peaks_into}
use Rattle.format.specs.Refusals.{nowhere}
use Rattle.format.specs.Answers.{answered_by, refused_by, read, wrote}
use Rattle.format.specs.Boundary.{host_peaks, host_peak, host_peak_into, host_peaks_all, host_peaks_check}
use Rattle.format.specs.declared.refusals.Refusal.TheVariants.{FloatDiffers, OutputTooShort, FloatFile}
use Rattle.format.specs.declared.answers.Outcome.TheVariants.{Matches, Differs}
use Rattle.format.proofs.Made.{document_01, said, block, two, zeros, rising, nines, floats, sides, empty, five}

-- 513 frames of two channels: from 0 to 1, −1 alone; from −2 to 2, 64 alone
abbrev pairs : List ℕ
pairs = 0x81 ∷ 0x04 ∷ 2 ∷ 0 ∷ 2 ∷ 1 ∷ 1 ∷ 3 ∷ 4 ∷ 0x80 ∷ 0x01 ∷ 0x80 ∷ 0x01 ∷ []

pub record Peaked : Type 0 where
  -- ---- numbers in groups of seven bits: the last of one byte, the first of two, and so on to 32 bits
  pub one_byte : seven 127 ≡ 0x7F ∷ []
  pub two_bytes : seven 128 ≡ 0x80 ∷ 0x01 ∷ []
  pub low_first : seven 300 ≡ 0xAC ∷ 0x02 ∷ []
  pub three_bytes : seven 16384 ≡ 0x80 ∷ 0x80 ∷ 0x01 ∷ []
  pub five_bytes : seven 4294967295 ≡ 0xFF ∷ 0xFF ∷ 0xFF ∷ 0xFF ∷ 0x0F ∷ []
  -- read with what stands behind
  pub reads : seven_value (0xAC ∷ 0x02 ∷ 0xFF ∷ []) ≡ 300
  pub reads_most : seven_value (0xFF ∷ 0xFF ∷ 0xFF ∷ 0xFF ∷ 0x0F ∷ 0x01 ∷ []) ≡ 4294967295
  pub after : past (0xAC ∷ 0x02 ∷ 0x05 ∷ 0x06 ∷ []) 2 ≡ 0x06 ∷ []
  -- cut short: no byte, one with the high bit, four; over 32 bits: a fifth byte of 16, one with the high bit; long
  pub cut_none : said (check_seven []) ≡ 60
  pub cut_one : said (check_seven (0x80 ∷ [])) ≡ 60
  pub cut_four : said (check_seven (0x80 ∷ 0x80 ∷ 0x80 ∷ 0x80 ∷ [])) ≡ 60
  pub over_sixteen : said (check_seven (0x80 ∷ 0x80 ∷ 0x80 ∷ 0x80 ∷ 0x10 ∷ [])) ≡ 62
  pub over_marked : said (check_seven (0x80 ∷ 0x80 ∷ 0x80 ∷ 0x80 ∷ 0x80 ∷ 0x00 ∷ [])) ≡ 62
  pub long_two : said (check_seven (0x80 ∷ 0x00 ∷ [])) ≡ 61
  pub long_five : said (check_seven (0x80 ∷ 0x80 ∷ 0x80 ∷ 0x80 ∷ 0x00 ∷ [])) ≡ 61
  pub zero : said (check_seven (0x00 ∷ [])) ≡ 0
  -- signed: 0, −1, 1, and both ends of 32 bits
  pub fold_zero : folded (pos 0) ≡ 0
  pub fold_less : folded (negsuc 0) ≡ 1
  pub fold_more : folded (pos 1) ≡ 2
  pub fold_lowest : folded (negsuc 2147483647) ≡ 4294967295
  pub fold_highest : folded (pos 2147483647) ≡ 4294967294
  pub unfold_lowest : unfolded 4294967295 ≡ negsuc 2147483647
  -- ---- summaries: the one sample 5; no frames; 0 to 511, then one 9 of a padded group; one 0 of one that rises
  pub one : summary_of five ≡ 1 ∷ 1 ∷ 10 ∷ 10 ∷ []
  pub none : summary_of empty ≡ 0 ∷ 1 ∷ []
  pub groups : summary_of (two 1 rising nines) ≡ 0x81 ∷ 0x04 ∷ 1 ∷ 0 ∷ 0xFE ∷ 0x07 ∷ 18 ∷ 18 ∷ []
  pub padding : summary_of (two 1 nines rising) ≡ 0x81 ∷ 0x04 ∷ 1 ∷ 18 ∷ 18 ∷ 0 ∷ 0 ∷ []
  -- mid/side: left 9 to 520, right −9 to 502
  pub sides_apart : summary_of (two 2 sides (zeros ++ zeros)) ≡ 0x81 ∷ 0x04 ∷ 2 ∷ 18 ∷ 0x90 ∷ 0x08 ∷ 17 ∷ 0xEC ∷ 0x07 ∷ 0 ∷ 0 ∷ 0 ∷ 0 ∷ []
  -- built into just enough room, what lies behind it stays; one byte less is refused, and then all stays
  pub built : build_peaks_of five 4 ≡ wrote 4
  pub built_into : build_peaks_into five (7 ∷ 7 ∷ 7 ∷ 7 ∷ 7 ∷ []) ≡ 1 ∷ 1 ∷ 10 ∷ 10 ∷ 7 ∷ []
  pub short : build_peaks_of five 3 ≡ refused_by OutputTooShort nowhere
  pub kept : build_peaks_into five (7 ∷ 7 ∷ 7 ∷ []) ≡ 7 ∷ 7 ∷ 7 ∷ []
  -- 66 before 50, after all that decoding refuses
  pub float : build_peaks_of (two 1 floats floats) 0 ≡ refused_by FloatFile nowhere
  pub float_damaged : build_peaks_of (two 1 floats zeros) 0 ≡ refused_by FloatDiffers (block 1 0)
  -- yes; no: a byte is another, one is missing, one is left over, a number is made long; 66
  pub yes : compare_peaks_of (1 ∷ 1 ∷ 10 ∷ 10 ∷ []) five ≡ answered_by Matches
  pub no_other : compare_peaks_of (1 ∷ 1 ∷ 10 ∷ 12 ∷ []) five ≡ answered_by Differs
  pub no_cut : compare_peaks_of (1 ∷ 1 ∷ 10 ∷ []) five ≡ answered_by Differs
  pub no_more : compare_peaks_of (1 ∷ 1 ∷ 10 ∷ 10 ∷ 0 ∷ []) five ≡ answered_by Differs
  pub no_long : compare_peaks_of (1 ∷ 0x81 ∷ 0 ∷ 10 ∷ 10 ∷ []) five ≡ answered_by Differs
  pub float_compared : compare_peaks_of [] (two 1 floats floats) ≡ refused_by FloatFile nowhere
  -- ---- reading: no number; no channels, after that number and before bytes left over; without pairs
  pub no_number : said (check_summary []) ≡ 60
  pub no_channels : said (check_summary (0 ∷ 0 ∷ [])) ≡ 10
  pub no_channels_behind : said (check_summary (0 ∷ 0 ∷ 9 ∷ [])) ≡ 10
  pub long_channels : said (check_summary (0 ∷ 0x80 ∷ 0 ∷ [])) ≡ 61
  pub pairless : said (check_summary (0 ∷ 1 ∷ [])) ≡ 0
  -- a pair cut short; the smallest above the largest, before the next pair is looked at; −1 is below 0
  pub half_a_pair : said (check_summary (1 ∷ 1 ∷ 2 ∷ [])) ≡ 60
  pub crossed : said (check_summary (0x81 ∷ 0x04 ∷ 1 ∷ 2 ∷ 0 ∷ [])) ≡ 64
  pub not_crossed : said (check_summary (1 ∷ 1 ∷ 1 ∷ 0 ∷ [])) ≡ 0
  -- bytes left over, before what is asked for; past the last group, past the last channel though there is such a pair
  pub left_over : said (check_peak (0 ∷ 1 ∷ 9 ∷ []) 5 5 0) ≡ 63
  pub past_groups : said (check_peak pairs 2 0 0) ≡ 67
  pub past_channels : said (check_peak pairs 0 2 9) ≡ 67
  pub no_room : said (check_peak pairs 1 1 1) ≡ 50
  -- a pair of two groups of two channels, and all of them
  pub pair : read_peak_into pairs 1 0 (replicate 3 (pos 7)) ≡ negsuc 1 ∷ pos 2 ∷ pos 7 ∷ []
  pub pair_read : read_peak_of pairs 1 1 2 ≡ read 2
  pub all : read_peaks_into pairs (replicate 9 (pos 7)) ≡ pos 0 ∷ pos 1 ∷ negsuc 0 ∷ negsuc 0 ∷ negsuc 1 ∷ pos 2 ∷ pos 64 ∷ pos 64 ∷ pos 7 ∷ []
  pub all_read : read_peaks_of pairs 8 ≡ read 8
  pub all_short : read_peaks_of pairs 7 ≡ refused_by OutputTooShort nowhere
  -- at the boundary
  pub host_built : host_peaks five 4 ≡ 4
  pub host_float : host_peaks (two 1 floats floats) 0 ≡ 0x8000000000000042
  pub host_pair : host_peak pairs 1 0 8 ≡ 8
  pub host_pair_into : host_peak_into pairs 1 0 (replicate 9 7) ≡ 0xFE ∷ 0xFF ∷ 0xFF ∷ 0xFF ∷ 2 ∷ 0 ∷ 0 ∷ 0 ∷ 7 ∷ []
  pub host_past : host_peak pairs 0 2 8 ≡ 0x8000000000000043
  pub host_all : host_peaks_all pairs 32 ≡ 32
  pub host_yes : host_peaks_check (1 ∷ 1 ∷ 10 ∷ 10 ∷ []) five ≡ 1
  pub host_no : host_peaks_check (1 ∷ 1 ∷ 10 ∷ []) five ≡ 0

pub peaked : Peaked
unfolding document_01
peaked =
    record {
      one_byte = refl;
      two_bytes = refl;
      low_first = refl;
      three_bytes = refl;
      five_bytes = refl;
      reads = refl;
      reads_most = refl;
      after = refl;
      cut_none = refl;
      cut_one = refl;
      cut_four = refl;
      over_sixteen = refl;
      over_marked = refl;
      long_two = refl;
      long_five = refl;
      zero = refl;
      fold_zero = refl;
      fold_less = refl;
      fold_more = refl;
      fold_lowest = refl;
      fold_highest = refl;
      unfold_lowest = refl;
      one = refl;
      none = refl;
      groups = refl;
      padding = refl;
      sides_apart = refl;
      built = refl;
      built_into = refl;
      short = refl;
      kept = refl;
      float = refl;
      float_damaged = refl;
      yes = refl;
      no_other = refl;
      no_cut = refl;
      no_more = refl;
      no_long = refl;
      float_compared = refl;
      no_number = refl;
      no_channels = refl;
      no_channels_behind = refl;
      long_channels = refl;
      pairless = refl;
      half_a_pair = refl;
      crossed = refl;
      not_crossed = refl;
      left_over = refl;
      past_groups = refl;
      past_channels = refl;
      no_room = refl;
      pair = refl;
      pair_read = refl;
      all = refl;
      all_read = refl;
      all_short = refl;
      host_built = refl;
      host_float = refl;
      host_pair = refl;
      host_pair_into = refl;
      host_past = refl;
      host_all = refl;
      host_yes = refl;
      host_no = refl;
    }
