-- The demands 1 to 6 at the host boundary, over what its functions promise (format, Promises):
-- `HostEncodes b p mode lent r after` says that a call which encodes the samples in the bytes b with the settings p
-- into `lent` answers the number r and leaves `after` there; the others likewise.
use Prim.Native.Nat.{ℕ, ◌+◌, ◌*◌, ◌/◌, ◌%◌, ◌^◌, ◌≤◌, ◌<◌}
use mathlib.Core.Path.{◌≡◌, refl, sym, ap, ◌∙◌, subst}
use mathlib.Core.Bool.{not}
use mathlib.Core.List.{List, []}
use native.Mathlib.Omega.{arith}
use lib.ListN.{length, take}
use borrow.Author.Tests.{eq-eqb}
use Rattle.format.specs.Lists.{over}
use Rattle.format.specs.Numbers.{Below}
use Rattle.format.specs.Refusals.{Checked, Fine, ◌then◌}
use Rattle.format.specs.Answers.{answered}
use Rattle.format.specs.Opening.{header_of, open_of}
use Rattle.format.specs.Decoding.{check_decode, decoded_of}
use Rattle.format.specs.Encoding.{encoded_file, check_encoder, check_samples, check_encode, check_encode_into}
use Rattle.format.specs.Reencoding.{reencoded_file}
use Rattle.format.specs.Boundary.{samples_from, is_mode, mode_of, check_mode, check_bytes, result_of, host_open, check_host_encode, host_encode, host_reencode_refusal}
use Rattle.format.specs.Promises.{HostOpens, HostDecodes, HostEncodes, HostReencodes, HostReencodeRefuses}
use Rattle.format.specs.declared.refusals.Refusal.TheVariants.{OutputTooShort}
use Rattle.format.specs.declared.settings.PcmSpec.{PcmSpec}
use Rattle.format.specs.declared.settings.StereoMode.TheVariants.{MidSide}
use Rattle.format.specs.declared.answers.Outcome.TheVariants.{Opened, Wrote}
use Rattle.laws.proofs.Checks.{pass, ◌and_then◌, first_fine, has_room}
use Rattle.laws.proofs.Lengths.{decode_count}
use Rattle.laws.proofs.SampleBytes.{samples_back}
use Rattle.promises.proofs.Outcomes.{Exactly, host_decodes_to, host_number}
use Rattle.promises.proofs.MidSums.{NoneLeaves}
use Rattle.promises.proofs.RoundTrip as RoundTrip
use Rattle.promises.proofs.Refile as Refile
use Rattle.promises.proofs.Again.{host_says_same, host_leaves_same, host_word_same}
use Rattle.promises.proofs.HostFiles.{encode_whole, host_encoded, reencode_whole, host_reencoded, host_read, bytes_count, gives_bytes}
use Rattle.promises.proofs.Files.{encode_ok, file_written, reencode_ok, new_file, template_written}
use Rattle.promises.proofs.ParityLaws.{Some, odd_frame, parity_some, some_parity}
use Rattle.promises.proofs.Demands.{Rate32}

-- ---- 1. THERE AND BACK

-- where encoding says that it wrote n bytes, decoding these n bytes into room for the samples' bytes says how many
-- bytes there are, and leaves them there
pub host_there_and_back : (b : List ℕ) (p : PcmSpec) (mode : ℕ) (lent file : List ℕ) (n : ℕ) (out after : List ℕ) (r : ℕ)
    → Below 256 b
    → Rate32 p
    → HostEncodes b p mode lent n file
    → n < 2 ^ 63
    → length b ≤ length out
    → HostDecodes (take n file) out r after
    → (r ≡ length b) × (after ≡ over b out)
host_there_and_back b p mode lent file n out after r byte rate e short room d =
    let s = samples_from b in
    let i = host_encoded b p mode lent n file e short in
    let ok = encode_ok p (mode_of mode) s lent file n i in
    gives_bytes b (encode_whole b p mode lent n file e short) (encoded_file p (mode_of mode) s) out after r byte (RoundTrip.decodes p (mode_of mode) s ok rate) (RoundTrip.gives_back p (mode_of mode) s ok rate) room
    (subst (λ (f : List ℕ). HostDecodes f out r after) (file_written p (mode_of mode) s lent file n i) d)

-- ---- 2. PARITY

-- of whole samples stereo MidSide answers refusal 35 exactly when 30 to 33 pass and some frame's two samples differ
-- in parity
pub host_parity_exactly : (b : List ℕ) (p : PcmSpec) (lent after : List ℕ) (r : ℕ)
    → p.channels ≡ 2
    → length b % 4 ≡ 0
    → length lent < 2 ^ 63
    → HostEncodes b p 2 lent r after
    → Exactly (r ≡ 2 ^ 63 + 35) (((check_encoder p then check_samples p (samples_from b)) ≡ Fine) × Some (odd_frame (samples_from b)) (length (samples_from b) / 2))
unfolding host_encode check_host_encode check_mode is_mode check_bytes mode_of check_encode_into
host_parity_exactly b p lent after r two whole short e =
    let s = samples_from b in
    let file = encoded_file p MidSide s in
    let c = check_encode_into p MidSide s (length lent) in
    let inner : check_host_encode b p 2 (length lent) ≡ c = pass _ _ refl and_then pass _ _ (ap not (eq-eqb (length b % 4) 0 whole)) and_then refl in
    let few : c ≡ Fine → length file < 2 ^ 63 = λ fine. let l = has_room (check_encode p MidSide s) (length lent) (length file) OutputTooShort fine in omega arith in
    let told = e.0 ∙ ap (λ (k : Checked). result_of (answered k (Wrote (length file))).outcome) inner in (
      λ q. let x = host_number c (Wrote (length file)) few 35 r told q in parity_some p s two (length lent) x.0 x.1 x.2 x.3,
      λ q. told ∙ ap (λ (k : Checked). result_of (answered k (Wrote (length file))).outcome) (some_parity p s two (length lent) q.0 q.1).1,
    )

-- ---- 3. LAW ONE: the new file decodes to the samples

-- where re-encoding says that it wrote n bytes, decoding these into room for the samples' bytes says how many bytes
-- there are, and leaves them there
pub host_law_one : (b : List ℕ) (p : PcmSpec) (t lent file : List ℕ) (n : ℕ) (out after : List ℕ) (r : ℕ)
    → Below 256 b
    → HostReencodes b p t lent n file
    → n < 2 ^ 63
    → length b ≤ length out
    → HostDecodes (take n file) out r after
    → (r ≡ length b) × (after ≡ over b out)
host_law_one b p t lent file n out after r byte e short room d =
    let s = samples_from b in
    let i = host_reencoded b p t lent n file e short in
    let ok = reencode_ok p s t lent file n i in
    gives_bytes b (reencode_whole b p t lent n file e short) (reencoded_file s t) out after r byte (Refile.decodes p s t ok) (Refile.gives_back p s t ok) room
    (subst (λ (f : List ℕ). HostDecodes f out r after) (new_file p s t lent file n i) d)

-- ---- 4. LAW TWO: the new file serves as template exactly as the old one did

-- of any bytes c with any settings q, whether they are accepted or not, and any room: with the new file the same is
-- answered and left as with t
pub host_law_two : (b : List ℕ) (p : PcmSpec) (t lent file : List ℕ) (n : ℕ) (c : List ℕ) (q : PcmSpec) (room after after' : List ℕ) (r r' : ℕ)
    → HostReencodes b p t lent n file
    → n < 2 ^ 63
    → HostReencodes c q t room r after
    → HostReencodes c q (take n file) room r' after'
    → (r ≡ r') × (after ≡ after')
host_law_two b p t lent file n c q room after after' r r' e short old new =
    let s = samples_from b in
    let i = host_reencoded b p t lent n file e short in
    let ok = reencode_ok p s t lent file n i in
    let moved : HostReencodes c q (reencoded_file s t) room r' after' = subst (λ (f : List ℕ). HostReencodes c q f room r' after') (new_file p s t lent file n i) new in
    (old.0 ∙ sym (host_says_same p s t ok c q room) ∙ sym moved.0, old.1 ∙ sym (host_leaves_same p s t ok c q room) ∙ sym moved.1)

-- and it tells what it would refuse, and where, as the old one did
pub host_law_two_word : (b : List ℕ) (p : PcmSpec) (t lent file : List ℕ) (n : ℕ) (c : List ℕ) (q : PcmSpec) (room word word' : ℕ)
    → HostReencodes b p t lent n file
    → n < 2 ^ 63
    → HostReencodeRefuses c q t room word
    → HostReencodeRefuses c q (take n file) room word'
    → word ≡ word'
host_law_two_word b p t lent file n c q room word word' e short old new =
    let s = samples_from b in
    let i = host_reencoded b p t lent n file e short in
    let ok = reencode_ok p s t lent file n i in
    old ∙ sym (host_word_same p s t ok c q [] room) ∙ sym (new ∙ ap (λ (f : List ℕ). host_reencode_refusal c q f room) (new_file p s t lent file n i))

-- ---- 5. LAW THREE: a template with its own samples is itself

-- t decodes to m bytes, is accepted with them, and no mid plus side or mid minus side of its active frames leaves 32
-- bits: then t is written, whole
pub host_law_three : (p : PcmSpec) (t lent file : List ℕ) (n : ℕ) (out own : List ℕ) (m : ℕ)
    → Below 256 t
    → HostDecodes t out m own
    → m < 2 ^ 63
    → HostReencodes (take m own) p t lent n file
    → n < 2 ^ 63
    → NoneLeaves t
    → (n ≡ length t) × (file ≡ over t lent)
host_law_three p t lent file n out own m byte d few e short none =
    let s = samples_from (take m own) in
    let i = host_reencoded (take m own) p t lent n file e short in
    let fit = Refile.template_fit p s t (reencode_ok p s t lent file n i) in
    template_written p s t lent file n i byte (ap samples_from (host_read t out own m d few) ∙ samples_back (decoded_of t) fit) none

-- ---- 6. ACCEPTED TEMPLATES OPEN AND DECODE

-- both say how many bytes the samples are
pub host_templates : (b : List ℕ) (p : PcmSpec) (t lent file : List ℕ) (n : ℕ)
    → HostReencodes b p t lent n file
    → n < 2 ^ 63
    → ((r : ℕ) → HostOpens t r → r ≡ length b)
    × ((out after : List ℕ) (r : ℕ) → length b ≤ length out → HostDecodes t out r after → r ≡ length b)
unfolding host_open open_of header_of check_decode
host_templates b p t lent file n e short =
    let s = samples_from b in
    let ok = reencode_ok p s t lent file n (host_reencoded b p t lent n file e short) in
    let fine = Refile.template_decodes p s t ok in
    let count = bytes_count b (reencode_whole b p t lent n file e short) in
    let long = Refile.template_count p s t ok in (
      λ r o. o ∙ ap (λ (c : Checked). result_of (answered c (Opened (header_of t))).outcome) (first_fine _ _ fine)
          ∙ ap (λ (k : ℕ). 4 * k) (decode_count t fine ∙ long) ∙ count,
      λ out after r room d. (host_decodes_to t (decoded_of t) out after r fine refl (omega arith) d).0 ∙ ap (λ (k : ℕ). 4 * k) long ∙ count,
    )
