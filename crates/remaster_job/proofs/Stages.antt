-- What the parts of the job answer, put together.
use Rattle.std.proofs.Common.{◌≡◌, ℕ, ◌+◌, ◌*◌, Bool, List, length, ℤ, ap, ◌∙◌, ap₂}
use Rattle.format.specs.Units.{bits_in}
use Rattle.format.specs.Opening.{open_of}
use Rattle.format.specs.Decoding.{decode_of, decode_into}
use Rattle.format.specs.Reencoding.{reencode_of, reencode_into}
use Rattle.format.specs.declared.settings.PcmSpec.{PcmSpec}
use Rattle.format.specs.declared.answers.Answer.{Answer}
use Rattle.format.specs.declared.answers.Header.{Header}
use Rattle.remaster_compare.specs.Same.{same_byte, same_sample, counted}
use Rattle.remaster_compare.specs.Kept.{is_kept}
use Rattle.remaster_compare.specs.declared.Count.{Count}
use Rattle.remaster_job.specs.Halving.{halved_into}
use Rattle.remaster_job.specs.Reports.{spec_of, is_itself, restored_of, kept_of, written_of, rewritten_of, read_back_of, report_of}
use Rattle.remaster_job.specs.declared.Restored.{Restored}
use Rattle.remaster_job.specs.declared.Kept.{Kept}
use Rattle.remaster_job.specs.declared.Rewritten.{Rewritten}
use Rattle.remaster_job.specs.declared.ReadBack.{ReadBack}

pub restored_as : (p : PcmSpec) (file : List ℕ) (own : List ℤ) (template lent after : List ℕ) (answer : Answer) (same : Bool)
    → answer ≡ reencode_of p own template (length lent) → after ≡ reencode_into p own template lent → same ≡ is_itself file after
    → record { answer = answer; is_itself = same } ≡ restored_of p file own template lent
restored_as p file own template lent after answer same ea ew es =
    ap₂ (λ (a : Answer) (b : Bool). record { answer = a; is_itself = b }) ea (es ∙ ap (is_itself file) ew)

pub kept_as : (h : Header) (file written : List ℕ) (depth blocks : ℕ) (all before headers behind : Count)
    → depth ≡ bits_in h.depth → blocks ≡ h.groups * h.channels
    → all ≡ counted (same_byte file written) 0 (length file)
    → before ≡ counted (same_byte file written) 0 h.start
    → headers ≡ counted (is_kept depth file written h.start) 0 blocks
    → behind ≡ counted (same_byte file written) (h.start + h.size) (length file)
    → record { all = all; before = before; headers = headers; behind = behind } ≡ kept_of h file written
kept_as h file written depth blocks all before headers behind ed en e₁ e₂ e₃ e₄ =
    let e : headers ≡ counted (is_kept (bits_in h.depth) file written h.start) 0 (h.groups * h.channels)
    = e₃ ∙ ap₂ (λ (d n : ℕ). counted (is_kept d file written h.start) 0 n) ed en in
    ap₂ (λ (a b : Count). record { all = a; before = b; headers = headers; behind = behind }) e₁ e₂
    ∙ ap₂ (λ (a b : Count). record { all = counted (same_byte file written) 0 (length file); before = counted (same_byte file written) 0 h.start; headers = a; behind = b }) e e₄

pub read_back_as : (p : PcmSpec) (file : List ℕ) (own halves : List ℤ) (written : List ℕ) (room : List ℤ) (again : List ℕ) (samples : List ℤ)
    (opened decoded : Answer) (same : Count) (restored : Restored)
    → opened ≡ open_of written → decoded ≡ decode_of written (length room) → samples ≡ decode_into written room
    → same ≡ counted (same_sample halves samples) 0 (length halves)
    → restored ≡ restored_of p file own written again
    → record { opened = opened; decoded = decoded; halves = same; restored = restored } ≡ read_back_of p file own halves written room again
read_back_as p file own halves written room again samples opened decoded same restored eo ed es en er =
    let e : same ≡ counted (same_sample halves (decode_into written room)) 0 (length halves)
    = en ∙ ap (λ (s : List ℤ). counted (same_sample halves s) 0 (length halves)) es in
    ap₂ (λ (a b : Answer). record { opened = a; decoded = b; halves = same; restored = restored }) eo ed
    ∙ ap₂ (λ (a : Count) (b : Restored). record { opened = open_of written; decoded = decode_of written (length room); halves = a; restored = b }) e er

module _ (p : PcmSpec) (file : List ℕ) (own new : List ℤ) (out first after : List ℕ) (halves : List ℤ)
    (ef : first ≡ reencode_into p own file out) (eh : halves ≡ halved_into own new) (ea : after ≡ reencode_into p halves file first) where
  pub written_as : after ≡ written_of p file own (halved_into own new) out
  written_as = ea ∙ ap₂ (λ (s : List ℤ) (f : List ℕ). reencode_into p s file f) eh ef

  pub rewritten_as : (h : Header) (restored : Restored) (written : Answer) (kept : Kept)
      → restored ≡ restored_of p file own file out → written ≡ reencode_of p halves file (length first) → kept ≡ kept_of h file after
      → record { restored = restored; written = written; kept = kept } ≡ rewritten_of h p file own (halved_into own new) out
  rewritten_as h restored written kept er ew ek =
      let e : written ≡ reencode_of p (halved_into own new) file (length (reencode_into p own file out))
      = ew ∙ ap₂ (λ (s : List ℤ) (f : List ℕ). reencode_of p s file (length f)) eh ef in
      ap₂ (λ (a : Restored) (b : Answer). record { restored = a; written = b; kept = kept }) er e
      ∙ ap (λ (k : Kept). record { restored = restored_of p file own file out; written = reencode_of p (halved_into own new) file (length (reencode_into p own file out)); kept = k })
      (ek ∙ ap (kept_of h file) written_as)

pub report_as : (h : Header) (file : List ℕ) (old new : List ℤ) (out : List ℕ) (room : List ℤ) (again : List ℕ)
    (p : PcmSpec) (own halves : List ℤ) (written : List ℕ) (decoded : Answer) (rewritten : Rewritten) (back : ReadBack)
    → p ≡ spec_of h → own ≡ decode_into file old → halves ≡ halved_into own new → written ≡ written_of p file own (halved_into own new) out
    → decoded ≡ decode_of file (length old) → rewritten ≡ rewritten_of h p file own (halved_into own new) out → back ≡ read_back_of p file own halves written room again
    → record { decoded = decoded; rewritten = rewritten; back = back } ≡ report_of h file old new out room again
unfolding report_of
report_as h file old new out room again p own halves written decoded rewritten back ep eo eh ew ed er eb =
    let q = spec_of h in
    let o = decode_into file old in
    let n : halves ≡ halved_into o new = eh ∙ ap (λ (s : List ℤ). halved_into s new) eo in
    let w : written ≡ written_of q file o (halved_into o new) out = ew ∙ ap₂ (λ (t : PcmSpec) (s : List ℤ). written_of t file s (halved_into s new) out) ep eo in
    let r : rewritten ≡ rewritten_of h q file o (halved_into o new) out = er ∙ ap₂ (λ (t : PcmSpec) (s : List ℤ). rewritten_of h t file s (halved_into s new) out) ep eo in
    let b : back ≡ read_back_of q file o (halved_into o new) (written_of q file o (halved_into o new) out) room again
    = eb ∙ ap₂ (λ (t : PcmSpec) (s : List ℤ). read_back_of t file s halves written room again) ep eo
    ∙ ap₂ (λ (s : List ℤ) (f : List ℕ). read_back_of q file o s f room again) n w in
    ap₂ (λ (a : Answer) (c : Rewritten). record { decoded = a; rewritten = c; back = back }) ed r
    ∙ ap (λ (c : ReadBack). record { decoded = decode_of file (length old); rewritten = rewritten_of h q file o (halved_into o new) out; back = c }) b
