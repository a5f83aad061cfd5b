-- Document 01, "Numbers of refusal": its table, each row by computation, and the limits of 31, 33 and 37: whole
-- frames, their count, and the data size.
use Rattle.std.specs.Prelude.{Err}
use Prim.Native.Nat.{ℕ}
use mathlib.Core.Path.{◌≡◌, refl}
use lib.IntN.{ℤ}
use Rattle.format.specs.Units.{check_frame_count, framed_as, check_framed}
use Rattle.format.specs.Refusals.{number}
use Rattle.format.specs.Encoding.{check_data_size}
use Rattle.format.specs.declared.refusals.Refusal.TheVariants.{TooShort, FileSignature, BlockSignature}
use Rattle.format.specs.declared.refusals.Refusal.TheVariants.{BitsWord, ZeroChannels, DepthUnknown, ZeroRate}
use Rattle.format.specs.declared.refusals.Refusal.TheVariants.{TableOffset, DataOffset, TableLength, LastEntry}
use Rattle.format.specs.declared.refusals.Refusal.TheVariants.{DataWithoutFrames, FirstEntry, EntryBounds}
use Rattle.format.specs.declared.refusals.Refusal.TheVariants.{FloatDiffers, MidSideChannels, BytesLeft}
use Rattle.format.specs.declared.refusals.Refusal.TheVariants.{WriterSpec, IncompleteFrame, ValueOutside}
use Rattle.format.specs.declared.refusals.Refusal.TheVariants.{TooManyFrames, NotStereo, ParityDiffers}
use Rattle.format.specs.declared.refusals.Refusal.TheVariants.{WidthTooSmall, DataTooLarge, UnknownMode}
use Rattle.format.specs.declared.refusals.Refusal.TheVariants.{SampleBytes, TemplateDiffers, TemplateBounds}
use Rattle.format.specs.declared.refusals.Refusal.TheVariants.{TemplateOffsets, ShortGroup, TemplateBits}
use Rattle.format.specs.declared.refusals.Refusal.TheVariants.{TemplateFlags, TemplateBytesLeft}
use Rattle.format.specs.declared.refusals.Refusal.TheVariants.{OutputTooShort, RangePastEnd}
use Rattle.format.specs.declared.refusals.Refusal.TheVariants.{NumberCut, NumberLong, NumberTooLarge}
use Rattle.format.specs.declared.refusals.Refusal.TheVariants.{BytesBehind, PeaksCrossed, FloatFile}
use Rattle.format.specs.declared.refusals.Refusal.TheVariants.{PairPastEnd}
use Rattle.format.specs.declared.units.Unframed.TheVariants.{Incomplete, TooMany}
use Rattle.format.proofs.Made.{document_01, said}

pub record Numbered : Type 0 where
  -- input ends too soon
  pub too_short : number TooShort ≡ 1
  -- file signature
  pub file_signature : number FileSignature ≡ 2
  -- block signature
  pub block_signature : number BlockSignature ≡ 3
  -- bits word beyond 32 either way; the bits word is returned too
  pub bits_word_lem : (bits : ℤ) → number (BitsWord bits) ≡ 4
  -- zero channels
  pub zero_channels : number ZeroChannels ≡ 10
  -- depth not 8, 16, 24, 32
  pub depth_unknown : number DepthUnknown ≡ 11
  -- zero rate
  pub zero_rate : number ZeroRate ≡ 12
  -- table offset under 120
  pub table_offset : number TableOffset ≡ 13
  -- data offset under table offset
  pub data_offset : number DataOffset ≡ 14
  -- wrong table length
  pub table_length : number TableLength ≡ 15
  -- last entry is not the data size
  pub last_entry : number LastEntry ≡ 16
  -- zero frames with data
  pub data_without_frames : number DataWithoutFrames ≡ 17
  -- first entry not 0
  pub first_entry : number FirstEntry ≡ 18
  -- an entry's end past the data size, before its start, or under 80 × channels after it
  pub entry_bounds : number EntryBounds ≡ 19
  -- float bit differs from the file's first block
  pub float_differs : number FloatDiffers ≡ 20
  -- mid/side without two channels
  pub mid_side_channels : number MidSideChannels ≡ 21
  -- bytes left in a group
  pub bytes_left : number BytesLeft ≡ 22
  -- writer: channels or depth that it does not take, or zero rate
  pub writer_spec : number WriterSpec ≡ 30
  -- incomplete frame
  pub incomplete_frame : number IncompleteFrame ≡ 31
  -- value outside depth
  pub value_outside : number ValueOutside ≡ 32
  -- over 4,294,967,295 frames
  pub too_many_frames : number TooManyFrames ≡ 33
  -- mid/side without stereo
  pub not_stereo : number NotStereo ≡ 34
  -- parity differs
  pub parity_differs : number ParityDiffers ≡ 35
  -- value or difference doesn't fit width; its place is returned too
  pub width_too_small : (place : ℕ) → number (WidthTooSmall place) ≡ 36
  -- data size over 32 bits
  pub data_too_large : number DataTooLarge ≡ 37
  -- host boundary: unknown mode
  pub unknown_mode : number UnknownMode ≡ 38
  -- host boundary: sample bytes not a multiple of 4
  pub sample_bytes_lem : number SampleBytes ≡ 39
  -- the template's channels, depth, rate or frames differ from the call's
  pub template_differs : number TemplateDiffers ≡ 40
  -- table or data bounds
  pub template_bounds : number TemplateBounds ≡ 41
  -- offsets not rising from 0 to the data size
  pub template_offsets : number TemplateOffsets ≡ 42
  -- template group under 12 bytes
  pub short_group : number ShortGroup ≡ 43
  -- bits 0 or 1
  pub template_bits : number TemplateBits ≡ 44
  -- flags above 1
  pub template_flags : number TemplateFlags ≡ 45
  -- bytes left in a template group
  pub template_bytes_left : number TemplateBytesLeft ≡ 46
  -- lent output too short
  pub output_too_short : number OutputTooShort ≡ 50
  -- document 02, L1: first + count over the frames
  pub range_past_end : number RangePastEnd ≡ 51
  -- a number in groups of seven bits is cut short
  pub number_cut : number NumberCut ≡ 60
  -- its last byte is zero, after others
  pub number_long : number NumberLong ≡ 61
  -- it is over 32 bits
  pub number_too_large : number NumberTooLarge ≡ 62
  -- bytes left over
  pub bytes_behind : number BytesBehind ≡ 63
  -- smallest above largest
  pub peaks_crossed : number PeaksCrossed ≡ 64
  -- a float file when building or checking
  pub float_file : number FloatFile ≡ 66
  -- asking past the last group or channel
  pub pair_past_end : number PairPastEnd ≡ 67
  -- ---- and what is refused by them: over 4,294,967,295 frames, data over as many bytes
  pub frames_most : said (check_frame_count 4294967295) ≡ 0
  pub frames_over : said (check_frame_count 4294967296) ≡ 33
  pub data_most : said (check_data_size 4294967295) ≡ 0
  pub data_over : said (check_data_size 4294967296) ≡ 37
  -- samples in frames: stereo, a sample more, a frame more; without a channel
  pub framed_most : said (check_framed (record { 0 = 8589934590 }) 2) ≡ 0
  pub framed_half : said (check_framed (record { 0 = 8589934591 }) 2) ≡ 31
  pub framed_over : said (check_framed (record { 0 = 8589934592 }) 2) ≡ 33
  pub framed_none : said (check_framed (record { 0 = 8589934590 }) 0) ≡ 31
  pub is_incomplete : said (framed_as (Err Incomplete)) ≡ 31
  pub is_too_many : said (framed_as (Err TooMany)) ≡ 33

pub numbered : Numbered
unfolding document_01
numbered =
    record {
      too_short = refl;
      file_signature = refl;
      block_signature = refl;
      bits_word_lem = λ bits. refl;
      zero_channels = refl;
      depth_unknown = refl;
      zero_rate = refl;
      table_offset = refl;
      data_offset = refl;
      table_length = refl;
      last_entry = refl;
      data_without_frames = refl;
      first_entry = refl;
      entry_bounds = refl;
      float_differs = refl;
      mid_side_channels = refl;
      bytes_left = refl;
      writer_spec = refl;
      incomplete_frame = refl;
      value_outside = refl;
      too_many_frames = refl;
      not_stereo = refl;
      parity_differs = refl;
      width_too_small = λ place. refl;
      data_too_large = refl;
      unknown_mode = refl;
      sample_bytes_lem = refl;
      template_differs = refl;
      template_bounds = refl;
      template_offsets = refl;
      short_group = refl;
      template_bits = refl;
      template_flags = refl;
      template_bytes_left = refl;
      output_too_short = refl;
      range_past_end = refl;
      number_cut = refl;
      number_long = refl;
      number_too_large = refl;
      bytes_behind = refl;
      peaks_crossed = refl;
      float_file = refl;
      pair_past_end = refl;
      frames_most = refl;
      frames_over = refl;
      data_most = refl;
      data_over = refl;
      framed_most = refl;
      framed_half = refl;
      framed_over = refl;
      framed_none = refl;
      is_incomplete = refl;
      is_too_many = refl;
    }
