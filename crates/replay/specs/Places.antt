-- Where the list stands: at its start, and after a question.
use Rattle.std.specs.Prelude.{ℕ, Bool, true, false, cond}
use Rattle.format.specs.declared.settings.PcmSpec.{PcmSpec}
use Rattle.replay_list.specs.declared.answers.Verdict.{Verdict}
use Rattle.replay_list.specs.declared.kinds.Kind.{Kind}
use Rattle.replay_list.specs.declared.kinds.Kind.TheVariants.{Decode, Encode, Reencode, Peaks}
use Rattle.replay.specs.declared.items.Place.{Place}

-- a place that no room reaches
abbrev pub nowhere : ℕ
nowhere = 65536

-- before the first item
abbrev pub start_of : Place
start_of = record {
  items = 0;
  file = 0;
  samples = 0;
  read = 0;
  written = 0;
  channels = 0;
  depth = 0;
  rate = 0;
  is_false = false;
  spoiled = nowhere;
}

-- the settings that the list has put
abbrev pub spec_of : Place → PcmSpec
spec_of place = record { channels = place.channels; bits_per_sample = place.depth; sample_rate = place.rate }

-- the questions that read so many bytes, or build a summary of so many where these are read; and those that write them
abbrev pub is_read : Kind → Bool
is_read Decode = true
is_read Peaks = true
is_read kind = false

abbrev pub is_written : Kind → Bool
is_written Encode = true
is_written Reencode = true
is_written kind = false

-- after a question: what was read, built or written can be kept, and nothing is false on purpose any more
unfoldable pub place_after : Kind → Place → Verdict → Place
place_after kind place verdict = record {
  items = place.items;
  file = place.file;
  samples = place.samples;
  read = cond (is_read kind) verdict.length place.read;
  written = cond (is_written kind) verdict.length place.written;
  channels = place.channels;
  depth = place.depth;
  rate = place.rate;
  is_false = false;
  spoiled = nowhere;
}
