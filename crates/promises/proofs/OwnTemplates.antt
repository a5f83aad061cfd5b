-- Files that encoding wrote, as templates: they have what law three asks, and where re-encoding takes the settings they
-- are accepted with their own samples, and come back whole.
use Prim.Native.Nat.{ℕ, zero, suc, ◌+◌, ◌%◌, ◌^◌, ◌≤◌, ◌<◌}
use mathlib.Core.Path.{◌≡◌, refl, sym, ap, ap₂, ◌∙◌, subst}
use mathlib.Core.Bool.{Bool, true, false, cond, not, ◌||◌}
use mathlib.Core.List.{List, [], ◌∷◌}
use native.Mathlib.Omega.{arith}
use lib.ListN.{length, take}
use lib.IntN.{ℤ}
use lib.Dec.{leb, eqb}
use borrow.Author.Tests.{le-ltb, lt-leb, eq-eqb}
use Rattle.format.specs.Lists.{joined, over, any_below}
use Rattle.format.specs.Header.{groups_of, entry, group_bytes}
use Rattle.format.specs.Blocks.{mid_bit}
use Rattle.format.specs.Units.{active}
use Rattle.format.specs.Refusals.{Checked, Fine, in_order}
use Rattle.format.specs.Places.{at_group, in_group}
use Rattle.format.specs.Answers.{answered, filled, wrote}
use Rattle.format.specs.Opening.{check_offsets}
use Rattle.format.specs.Decoding.{decoded_of}
use Rattle.format.specs.Encoding.{padded_channels, blocks, mid_side, takes_mid, encoded_group, encoded_group_at, group_in, encoded_file, check_encode, frames_of}
use Rattle.format.specs.Reencoding.{check_reencode_group, check_same, check_bounds, check_rising, check_template, check_reencoder, check_reencode, check_reencode_into, reencoded_file, reencode_of, reencode_into}
use Rattle.format.specs.Boundary.{samples_from, mode_of, result_of, check_bytes, check_host_reencode, host_reencode, host_reencode_into}
use Rattle.format.specs.Promises.{Encodes, Reencodes, HostEncodes, HostReencodes}
use Rattle.format.specs.declared.refusals.Refusal.TheVariants.{SampleBytes}
use Rattle.format.specs.declared.settings.PcmSpec.{PcmSpec}
use Rattle.format.specs.declared.settings.StereoMode.{StereoMode}
use Rattle.format.specs.declared.answers.Fields.{Fields}
use Rattle.format.specs.declared.answers.Outcome.TheVariants.{Wrote}
use Rattle.format.specs.declared.answers.Answer.{Answer}
use Rattle.laws.proofs.Parts.{one_more}
use Rattle.laws.proofs.Checks.{pass, passed, ◌and_then◌, first_fine, others_fine}
use Rattle.laws.proofs.Places.{located_all}
use Rattle.laws.proofs.Channels.{some_active, group_length, group_holds}
use Rattle.laws.proofs.SampleChecks.{Taken, taken_fine, encoder_ok, frames_ok, values_ok}
use Rattle.promises.proofs.Demands.{Rate32}
use Rattle.promises.proofs.Laid.{Layout}
use Rattle.promises.proofs.RoundTrip as RoundTrip
use Rattle.promises.proofs.GroupCoding.{mid_when}
use Rattle.promises.proofs.Bytes.{below_file}
use Rattle.promises.proofs.MidSums.{NoneLeaves, Stays}
use Rattle.promises.proofs.Files.{encode_ok, file_long, file_written, template_written}
use Rattle.promises.proofs.HostFiles.{encode_whole, host_encoded}
use Rattle.promises.proofs.OwnTemplatesLaws.{coded_by, flags_by, Written, written_stays, written_long, written_accepts}

-- ---- a file whose table and groups are those of `part`
module _ {t : List ℕ} {h : Fields} {part : ℕ → List ℕ} (lay : Layout t h part) where
  abbrev count : ℕ
  count = groups_of h.frames

  -- 41 asks what opening asks of the offsets
  bounds_fine : check_bounds h (length t) ≡ Fine
  unfolding check_bounds check_offsets
  bounds_fine =
      let o = lay.offsets in
      let o2 = others_fine _ _ o in
      let o3 = others_fine _ _ o2 in
      pass _ _ (passed _ _ (first_fine _ _ o))
      and_then pass _ _ (passed _ _ (first_fine _ _ o2))
      and_then pass _ _ (passed _ _ (first_fine _ _ o3))
      and_then pass _ _ (passed _ _ (others_fine _ _ o3))

  -- 42: where none of the groups is empty, the entries rise
  module _ (some : (g : ℕ) → g < count → 1 ≤ length (part g)) where
    rises : (n : ℕ) → n ≤ count → any_below (λ k. leb (entry t h (k + 1)) (entry t h k)) n ≡ false
    unfolding any_below
    rises zero l = refl
    rises (suc k) l =
        ap₂ (λ (a b : Bool). a || b) (rises k (omega arith))
        (lt-leb (entry t h (k + 1)) (entry t h k) (omega (arith, lay.entries k (omega arith), lay.entries (k + 1) (omega arith), one_more part k, some k l)))

    rising_fine : check_rising t h ≡ Fine
    unfolding check_rising joined
    rising_fine =
        pass _ _ (ap not (eq-eqb (entry t h 0) 0 (lay.entries 0 (omega arith))))
        and_then pass _ _ (ap not (eq-eqb (entry t h count) h.size (lay.entries count (omega arith) ∙ sym lay.size)))
        and_then pass _ _ (rises count (omega arith))

-- encoding accepts s
module _ (p : PcmSpec) (mode : StereoMode) (s : List ℤ) (rate : Rate32 p) (ok : check_encode p mode s ≡ Fine) where
  abbrev h : Fields
  h = RoundTrip.h p mode s ok

  abbrev template : List ℕ
  template = encoded_file p mode s

  abbrev part : ℕ → List ℕ
  part = encoded_group_at p mode s

  -- its groups
  written : (g : ℕ) → g < groups_of (frames_of p s) → Written h g (group_in p.channels s g) (part g)
  unfolding encoded_group_at encoded_group
  written g l =
      let v = encoder_ok p (RoundTrip.writer_ok p mode s ok) in
      let accepted = RoundTrip.samples_ok p mode s ok in
      record {
        some = v.some;
        low = v.low;
        high = v.high;
        begun = some_active (frames_of p s) g l;
        long = group_length n (frames_of p s) s (frames_ok p s accepted) g;
        hold = group_holds depth n s g (values_ok p s accepted v.depth);
        both = takes_mid mode n depth xs;
        can = λ e. mid_when mode n depth xs e (RoundTrip.mid_ok p mode s ok g l);
        bytes = by (takes_mid mode n depth xs);
      }
    where
      n : ℕ
      n = p.channels

      depth : ℕ
      depth = p.bits_per_sample

      xs : List ℤ
      xs = group_in n s g

      by : (t : Bool) → cond t (blocks depth 1 (mid_side (padded_channels n xs))) (blocks depth 0 (padded_channels n xs)) ≡ blocks depth (flags_by t) (coded_by t n xs)
      by true = refl
      by false = refl

  lay : Layout template h part
  lay = RoundTrip.layout p mode s ok rate

  -- no mid plus side or mid minus side leaves 32 bits
  stays : NoneLeaves template
  stays =
      subst (λ (x : Fields). (g i : ℕ) → g < groups_of x.frames → mid_bit (group_bytes template x g) ≡ true → i < active x.frames g → Stays x.depth (group_bytes template x g) i)
      (sym lay.fields)
      (λ g i l. subst (λ (bs : List ℕ). mid_bit bs ≡ true → i < active h.frames g → Stays h.depth bs i) (sym (lay.groups g l)) (λ m. written_stays (written g l) m i))

  -- ---- as a template, with s
  same_fine : check_same p (frames_of p s) h ≡ Fine
  unfolding check_same
  same_fine =
      pass _ _ (itself p.channels)
      and_then pass _ _ (itself p.bits_per_sample)
      and_then pass _ _ (itself p.sample_rate)
      and_then pass _ _ (itself (frames_of p s).0)
    where
      itself : (x : ℕ) → not (eqb x x) ≡ false
      itself x = ap not (eq-eqb x x refl)

  template_fine : check_template p s template ≡ Fine
  unfolding check_template
  template_fine =
      pass _ _ (le-ltb (length template) 120 lay.long)
      and_then pass _ _ (ap not lay.signed)
      and_then (ap (check_same p (frames_of p s)) lay.fields ∙ same_fine)
      and_then (ap (λ (x : Fields). check_bounds x (length template)) lay.fields ∙ bounds_fine lay)
      and_then (ap (check_rising template) lay.fields ∙ rising_fine lay (λ g l. omega (arith, written_long (written g l))))

  -- group g, in a template with the numbers x
  abbrev check_at : Fields → ℕ → Checked
  check_at x g = check_reencode_group x.depth x.channels (group_bytes template x g) (group_in x.channels s g)

  group_fine : (g : ℕ) → g < groups_of (frames_of p s) → check_at h g ≡ Fine
  group_fine g l = ap (λ (bs : List ℕ). check_reencode_group h.depth h.channels bs (group_in h.channels s g)) (lay.groups g l) ∙ written_accepts (written g l)

  -- where re-encoding takes the settings, nothing is refused
  accepts : Taken 2 (16 ∷ 24 ∷ []) p → check_reencode p s template ≡ Fine
  unfolding check_reencode check_reencoder
  accepts taken =
      taken_fine 2 (16 ∷ 24 ∷ []) p taken
      and_then RoundTrip.samples_ok p mode s ok
      and_then template_fine
      and_then (
      ap (λ (x : Fields). in_order (λ g. in_group g (check_at x g)) (groups_of x.frames)) lay.fields
      ∙ located_all (check_at h) at_group (groups_of (frames_of p s)) group_fine)

  answers : Taken 2 (16 ∷ 24 ∷ []) p → (room : ℕ) → length template ≤ room → reencode_of p s template room ≡ wrote (length template)
  unfolding reencode_of check_reencode_into
  answers taken room l = ap (λ (c : Checked). answered c (Wrote (length template))) (accepts taken and_then pass _ _ (le-ltb room (length template) l))

-- law three's premise holds for every file that encoding writes
pub none_leaves : (p : PcmSpec) (mode : StereoMode) (s : List ℤ) (lent file : List ℕ) (n : ℕ)
    → Rate32 p
    → Encodes p mode s lent (wrote n) file
    → NoneLeaves (take n file)
none_leaves p mode s lent file n rate e = subst NoneLeaves (sym (file_written p mode s lent file n e)) (stays p mode s rate (encode_ok p mode s lent file n e))

-- where re-encoding takes the settings, a file that encoding wrote is accepted as the template of its own samples, and
-- comes back whole
pub own_template : (p : PcmSpec) (mode : StereoMode) (s : List ℤ) (lent file : List ℕ) (n : ℕ) (room after : List ℕ) (r : Answer)
    → Rate32 p
    → Taken 2 (16 ∷ 24 ∷ []) p
    → Encodes p mode s lent (wrote n) file
    → n ≤ length room
    → Reencodes p s (take n file) room r after
    → (r ≡ wrote n) × (after ≡ over (take n file) room)
own_template p mode s lent file n room after r rate taken e enough q =
    let ok = encode_ok p mode s lent file n e in
    let t = encoded_file p mode s in
    let is : take n file ≡ t = file_written p mode s lent file n e in
    let long : n ≡ length t = file_long p mode s lent file n e in
    let moved : Reencodes p s t room r after = subst (λ (f : List ℕ). Reencodes p s f room r after) is q in
    let says : r ≡ wrote n = moved.0 ∙ answers p mode s rate ok taken (length room) (omega arith) ∙ ap wrote (sym long) in
    let wrote_all : Reencodes p s t room (wrote n) after = subst (λ (a : Answer). Reencodes p s t room a after) says moved in
    let own : s ≡ decoded_of t = sym (RoundTrip.gives_back p mode s ok rate) in
    let kept = template_written p s t room after n wrote_all (below_file p mode s) own (stays p mode s rate ok) in
    (says, kept.1 ∙ ap (λ (f : List ℕ). over f room) (sym is))

-- at the host boundary
pub host_none_leaves : (b : List ℕ) (p : PcmSpec) (mode : ℕ) (lent file : List ℕ) (n : ℕ)
    → Rate32 p
    → HostEncodes b p mode lent n file
    → n < 2 ^ 63
    → NoneLeaves (take n file)
host_none_leaves b p mode lent file n rate e short = none_leaves p (mode_of mode) (samples_from b) lent file n rate (host_encoded b p mode lent n file e short)

pub host_own_template : (b : List ℕ) (p : PcmSpec) (mode : ℕ) (lent file : List ℕ) (n : ℕ) (room after : List ℕ) (r : ℕ)
    → Rate32 p
    → Taken 2 (16 ∷ 24 ∷ []) p
    → HostEncodes b p mode lent n file
    → n < 2 ^ 63
    → n ≤ length room
    → HostReencodes b p (take n file) room r after
    → (r ≡ n) × (after ≡ over (take n file) room)
unfolding host_reencode host_reencode_into check_host_reencode check_bytes reencode_of reencode_into
host_own_template b p mode lent file n room after r rate taken e short enough q =
    let s = samples_from b in
    let i = host_encoded b p mode lent n file e short in
    let t = take n file in
    let whole = pass _ SampleBytes (ap not (eq-eqb (length b % 4) 0 (encode_whole b p mode lent n file e short))) in
    let inner : check_host_reencode b p t (length room) ≡ check_reencode_into p s t (length room) = whole and_then refl in
    let own = own_template p (mode_of mode) s lent file n room _ _ rate taken i enough (refl, refl) in (
      q.0 ∙ ap (λ (c : Checked). result_of (answered c (Wrote (length t))).outcome) inner ∙ ap (λ (a : Answer). result_of a.outcome) own.0,
      q.1 ∙ ap (λ (c : Checked). filled c (reencoded_file s t) room) inner ∙ own.1,
    )
