-- The main job: a file is decoded, re-encoded with itself as template, and compared with what was written.
use Rattle.std.specs.Prelude.{ℕ, ◌+◌, ◌*◌, Bool, List, length, ℤ}
use Rattle.format.specs.Units.{bits_in}
use Rattle.format.specs.Opening.{open_of}
use Rattle.format.specs.Decoding.{decode_of, decode_into}
use Rattle.format.specs.Reencoding.{reencode_of, reencode_into}
use Rattle.format.specs.declared.settings.PcmSpec.{PcmSpec}
use Rattle.format.specs.declared.answers.Header.{Header}
use Rattle.remaster_compare.specs.Same.{same_byte, same_sample, counted, are_same}
use Rattle.remaster_compare.specs.Kept.{is_kept}
use Rattle.remaster_job.specs.Halving.{halved_into}
use Rattle.remaster_job.specs.declared.Restored.{Restored}
use Rattle.remaster_job.specs.declared.Kept.{Kept}
use Rattle.remaster_job.specs.declared.Rewritten.{Rewritten}
use Rattle.remaster_job.specs.declared.ReadBack.{ReadBack}
use Rattle.remaster_job.specs.declared.Report.{Report}

-- the settings that the header of an opened file has
abbrev pub spec_of : Header → PcmSpec
spec_of h = record { channels = h.channels; bits_per_sample = bits_in h.depth; sample_rate = h.rate }

-- every byte of the file is the same in `out`
abbrev pub is_itself : List ℕ → List ℕ → Bool
is_itself file out = are_same (counted (same_byte file out) 0 (length file))

-- the file's own samples re-encoded with the template into `lent`: the answer, and whether that is the file itself
abbrev pub restored_of : PcmSpec → List ℕ → List ℤ → List ℕ → List ℕ → Restored
restored_of p file own template lent =
    record {
      answer = reencode_of p own template (length lent);
      is_itself = is_itself file (reencode_into p own template lent);
    }

-- of a file with that header, what is the same in `written`: all bytes, those before the data, the headers of its
-- blocks, and the bytes behind the data
abbrev pub kept_of : Header → List ℕ → List ℕ → Kept
kept_of h file written =
    record {
      all = counted (same_byte file written) 0 (length file);
      before = counted (same_byte file written) 0 h.start;
      headers = counted (is_kept (bits_in h.depth) file written h.start) 0 (h.groups * h.channels);
      behind = counted (same_byte file written) (h.start + h.size) (length file);
    }

-- what the file becomes: re-encoded with its own samples into `out`, and then with the halved ones
abbrev pub written_of : PcmSpec → List ℕ → List ℤ → List ℤ → List ℕ → List ℕ
written_of p file own halves out = let first = reencode_into p own file out in reencode_into p halves file first

-- what both answer, and what the second keeps of the file
abbrev pub rewritten_of : Header → PcmSpec → List ℕ → List ℤ → List ℤ → List ℕ → Rewritten
rewritten_of h p file own halves out =
    let first = reencode_into p own file out in
    record {
      restored = restored_of p file own file out;
      written = reencode_of p halves file (length first);
      kept = kept_of h file (written_of p file own halves out);
    }

-- of what was written with the halved samples: opened, decoded into `room`, those samples compared with the halved
-- ones, and the file's own re-encoded into `again`, with it as template
abbrev pub read_back_of : PcmSpec → List ℕ → List ℤ → List ℤ → List ℕ → List ℤ → List ℕ → ReadBack
read_back_of p file own halves written room again =
    let samples = decode_into written room in
    record {
      opened = open_of written;
      decoded = decode_of written (length room);
      halves = counted (same_sample halves samples) 0 (length halves);
      restored = restored_of p file own written again;
    }

-- the whole job. `old`, `new`, `out`, `room` and `again` are lent: for the file's own samples, the halved ones, what
-- is written with each, the samples read back, and the file restored from it
unfoldable pub report_of : Header → List ℕ → List ℤ → List ℤ → List ℕ → List ℤ → List ℕ → Report
report_of h file old new out room again =
    let p = spec_of h in
    let own = decode_into file old in
    let halves = halved_into own new in
    let written = written_of p file own halves out in
    record {
      decoded = decode_of file (length old);
      rewritten = rewritten_of h p file own halves out;
      back = read_back_of p file own halves written room again;
    }
