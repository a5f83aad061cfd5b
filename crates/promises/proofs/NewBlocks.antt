-- A template's block with new samples reads as those samples, and then the template's: the last new difference leads
-- to the template's next sample, and those after it stay.
use Prim.Native.Nat.{ℕ, zero, suc, ◌+◌, ◌-◌, ◌*◌, ◌≤◌, ◌<◌, min}
use mathlib.Core.Path.{◌≡◌, refl, sym, ap, ap₂, ◌∙◌, subst}
use mathlib.Core.Bool.{Bool, true, false, cond}
use mathlib.Core.List.{List, [], ◌∷◌, ◌++◌, append-nil, append_assoc}
use mathlib.Core.Logic.{⊎_elim}
use native.Mathlib.Omega.{arith}
use lib.ListN.{length, get_or, take, drop, length-append, length-drop, drop_of_length-le}
use lib.Seq.{take_at, drop_at, length-take-le}
use lib.IntN.{ℤ, pos, ◌+ℤ◌, neg_ℤ}
use lib.Dec.{ltb}
use mir.Syntax.{w32}
use mir.Val.{SFits}
use borrow.Author.Tests.{ltb-true, ltb-false}
use Rattle.format.specs.Lists.{from, same}
use Rattle.format.specs.Numbers.{num, num_at, value, code_of, plus}
use Rattle.format.specs.Packed.{coding, width_of, values, packing, rebuilt, is_beyond}
use Rattle.format.specs.declared.packed.Coding.{Coding}
use Rattle.format.specs.declared.packed.Coding.TheVariants.{Differences, Raw, Beyond}
use Rattle.format.specs.Blocks.{block_mark, is_block, base_of, bits_of, coding_of, size_of, decoded, samples_of}
use Rattle.format.specs.Fit.{check_fit}
use Rattle.format.specs.Encoding.{differences, first_value}
use Rattle.format.specs.Reencoding.{new_values, values_for, base_for, reencoded_block, check_reencode_block}
use Rattle.laws.proofs.Lengths.{length_values, length_rebuilt}
use Rattle.laws.proofs.Tests.{never}
use Rattle.laws.proofs.Parts.{below_suc, drop_behind, from_skip, from_within, from_front, from_from, length_from}
use Rattle.laws.proofs.Digits.{num_le}
use Rattle.laws.proofs.Signs.{Holds, AllHold, code_lt, value_code, values_packing, length_packing}
use Rattle.laws.proofs.Wrap.{Fit, difference_back, wrap_is}
use Rattle.laws.proofs.Templates.{Template, fit_decides, base_4, new_length}
use Rattle.laws.proofs.Widths.{width_some}
use Rattle.promises.proofs.BlockLaws.{Reads, length_differences}

-- ---- samples rebuilt from new differences, and then the old ones
splice : (x : ℤ) (xs : List ℤ) (w e : ℤ) (es : List ℤ) → Fit (x ∷ xs) → SFits w32 w
    → rebuilt x (take (length (x ∷ xs)) (differences ((x ∷ xs) ++ rebuilt w (e ∷ es))) ++ (e ∷ es)) ≡ (x ∷ xs) ++ rebuilt w (e ∷ es)
unfolding rebuilt differences
splice x [] w e es f g = ap (λ (z : ℤ). x ∷ rebuilt z (e ∷ es)) (difference_back w x g (f 0))
splice x (y ∷ xs) w e es f g =
    ap (λ (z : ℤ). x ∷ rebuilt z (take (length (y ∷ xs)) (differences ((y ∷ xs) ++ rebuilt w (e ∷ es))) ++ (e ∷ es))) (difference_back y x (f 1) (f 0))
    ∙ ap (λ (l : List ℤ). x ∷ l) (splice y xs w e es (λ i. f (suc i)) g)

-- the last difference is unused
last_unused : (x : ℤ) (xs : List ℤ) (o : ℤ) → Fit (x ∷ xs) → rebuilt x (take (length xs) (differences (x ∷ xs)) ++ (o ∷ [])) ≡ x ∷ xs
unfolding rebuilt differences
last_unused x [] o f = refl
last_unused x (y ∷ xs) o f =
    ap (λ (z : ℤ). x ∷ rebuilt z (take (length xs) (differences (y ∷ xs)) ++ (o ∷ []))) (difference_back y x (f 1) (f 0))
    ∙ ap (λ (l : List ℤ). x ∷ l) (last_unused y xs o (λ i. f (suc i)))

drop_rebuilt : (base : ℤ) (ds : List ℤ) (a : ℕ) → a < length ds → drop a (rebuilt base ds) ≡ rebuilt (get_or (rebuilt base ds) a (pos 0)) (drop a ds)
unfolding rebuilt
drop_rebuilt base [] a h = absurd (omega arith)
drop_rebuilt base (d ∷ ds) zero h = refl
drop_rebuilt base (d ∷ ds) (suc a) h = drop_rebuilt (plus base d) ds a (omega arith)

pub rebuilt_fit : (base : ℤ) (ds : List ℤ) → SFits w32 base → Fit (rebuilt base ds)
unfolding rebuilt
rebuilt_fit base [] f i = record { sfits = omega arith }
rebuilt_fit base (d ∷ ds) f zero = f
rebuilt_fit base (d ∷ ds) f (suc i) = rebuilt_fit (plus base d) ds (wrap_is (base +ℤ d)) i

-- vs are the template's differences, x and xs the active samples
module _ (base : ℤ) (vs : List ℤ) (x : ℤ) (xs : List ℤ) (sb : SFits w32 base) (lv : length vs ≡ 512) (lx : length (x ∷ xs) ≤ 512) (fx : Fit (x ∷ xs)) where
  abbrev ys : List ℤ
  ys = x ∷ xs

  abbrev old : List ℤ
  old = drop (length ys) (rebuilt base vs)

  -- k new differences, and then the template's, give the new samples, and then the template's
  abbrev Spliced : ℕ → Type 0
  Spliced k = rebuilt x (take k (differences (ys ++ old)) ++ drop k vs) ≡ ys ++ old

  spliced_few : length ys < 512 → Spliced (length ys)
  spliced_few h =
      let n = length ys in
      let l : length (drop n vs) ≡ 512 - n = length-drop n vs ∙ ap (λ (k : ℕ). k - n) lv in
      subst (λ (zs : List ℤ). rebuilt x (take n (differences (ys ++ zs)) ++ drop n vs) ≡ ys ++ zs) (sym (drop_rebuilt base vs n (omega arith)))
      (by (get_or (rebuilt base vs) n (pos 0)) (rebuilt_fit base vs sb n) (drop n vs) (omega arith))
    where
      by : (w : ℤ) → SFits w32 w → (es : List ℤ) → 1 ≤ length es → rebuilt x (take (length ys) (differences (ys ++ rebuilt w es)) ++ es) ≡ ys ++ rebuilt w es
      by w f [] p = absurd (omega arith)
      by w f (e ∷ es) p = splice x xs w e es fx f

  spliced_all : length ys ≡ 512 → Spliced 511
  spliced_all h =
      let none : old ≡ [] = drop_of_length-le (rebuilt base vs) {i = length ys} (omega (arith, length_rebuilt base vs)) in
      let l : length (drop 511 vs) ≡ 1 = length-drop 511 vs ∙ omega arith in
      let k : length xs ≡ 511 = omega arith in
      subst (λ (zs : List ℤ). rebuilt x (take 511 (differences zs) ++ drop 511 vs) ≡ zs) (sym (ap (λ (zs : List ℤ). ys ++ zs) none ∙ append-nil ys))
      (subst (λ (m : ℕ). rebuilt x (take m (differences ys) ++ drop 511 vs) ≡ ys) k (by (drop 511 vs) l))
    where
      by : (os : List ℤ) → length os ≡ 1 → rebuilt x (take (length xs) (differences ys) ++ os) ≡ ys
      by [] p = absurd (omega arith)
      by (o ∷ []) p = last_unused x xs o fx
      by (o ∷ q ∷ os) p = absurd (omega arith)

  spliced : Spliced (min (length ys) 511)
  spliced =
      ⊎_elim
      (λ (e : length ys ≡ 512). let m : 511 ≡ min (length ys) 511 = omega arith in subst Spliced m (spliced_all e))
      (λ (l : length ys < 512). let m : length ys ≡ min (length ys) 511 = omega arith in subst Spliced m (spliced_few l))
      (below_suc (length ys) 512 (omega arith))

-- ---- the bytes of a block in parts: mark, base, bits with flags and padding, and the run
module _ (a b w pk : List ℕ) (la : length a ≡ 4) (lb : length b ≡ 4) (lw : length w ≡ 8) (t : List ℕ) where
  parted : (a ++ (b ++ (w ++ pk))) ++ t ≡ a ++ (b ++ (w ++ (pk ++ t)))
  parted = append_assoc a (b ++ (w ++ pk)) t ∙ ap (λ (x : List ℕ). a ++ x) (append_assoc b (w ++ pk) t ∙ ap (λ (x : List ℕ). b ++ x) (append_assoc w pk t))

  part_mark : take 4 ((a ++ (b ++ (w ++ pk))) ++ t) ≡ a
  part_mark = ap (take 4) parted ∙ take_at a (b ++ (w ++ (pk ++ t))) 4 la

  part_base : from 4 4 ((a ++ (b ++ (w ++ pk))) ++ t) ≡ b
  part_base = ap (from 4 4) parted ∙ from_skip a (b ++ (w ++ (pk ++ t))) 4 0 4 la ∙ from_front 4 b (w ++ (pk ++ t)) lb

  part_word : (k n : ℕ) → k + n ≤ 8 → from (4 + (4 + k)) n ((a ++ (b ++ (w ++ pk))) ++ t) ≡ from k n w
  part_word k n h =
      ap (from (4 + (4 + k)) n) parted ∙ from_skip a (b ++ (w ++ (pk ++ t))) 4 (4 + k) n la ∙ from_skip b (w ++ (pk ++ t)) 4 k n lb
      ∙ from_within k n w (pk ++ t) (omega arith)

  part_run : drop 16 ((a ++ (b ++ (w ++ pk))) ++ t) ≡ pk ++ t
  part_run =
      ap (drop 16) (parted ∙ sym (append_assoc a b (w ++ (pk ++ t))) ∙ sym (append_assoc (a ++ b) w (pk ++ t)))
      ∙ drop_at ((a ++ b) ++ w) (pk ++ t) 16 (length-append (a ++ b) w ∙ omega (arith, length-append a b))

-- the samples that the new block has
abbrev pub new_samples : ℕ → List ℕ → List ℤ → List ℤ
new_samples depth r xs = xs ++ drop (length xs) (samples_of depth r)

-- a read number of 32 bits
pub value_fits : (n : ℕ) → SFits w32 (value 32 n)
value_fits n = by (ltb n 2147483648) refl
  where
    minus : (m : ℕ) → m ≤ 2147483648 → SFits w32 (neg_ℤ (pos m))
    minus zero l = record { sfits = omega arith }
    minus (suc m) l = record { sfits = omega arith }

    by : (t : Bool) → ltb n 2147483648 ≡ t → SFits w32 (cond t (pos n) (neg_ℤ (pos (4294967296 - n))))
    by true e = record { sfits = omega (arith, ltb-true n 2147483648 e) }
    by false e = minus (4294967296 - n) (omega (arith, ltb-false n 2147483648 e))

pub new_raw : (b : ℕ) (old : List ℤ) (run : List ℕ) (xs : List ℤ) → new_values (Raw b) old run xs ≡ xs ++ drop (length xs) (values b (take (64 * b) run))
unfolding new_values
new_raw b old run xs = refl

pub new_differences : (b : ℕ) (old : List ℤ) (run : List ℕ) (xs : List ℤ)
    → new_values (Differences b) old run xs ≡ take (min (length xs) 511) (differences (xs ++ drop (length xs) old)) ++ drop (min (length xs) 511) (values b (take (64 * b) run))
unfolding new_values
new_differences b old run xs = refl

-- a block with the new base gives other samples the base that the template gives them
base_again : (k : Coding) (u r : List ℕ) (xs ys : List ℤ) → from 4 4 u ≡ base_for k r xs → base_for k u ys ≡ base_for k r ys
unfolding base_for
base_again (Differences b) u r xs ys e = refl
base_again (Raw b) u r xs ys e = e
base_again Beyond u r xs ys e = e

-- what is packed anew, read with what was coded so
module _ (base : ℤ) (run t : List ℕ) where
  -- as many differences are new as samples, but for the last
  pub new_some : (b : ℕ) (xs : List ℤ) → length xs ≤ 512 → let m = min (length xs) 511 in length (take m (differences (xs ++ drop (length xs) (rebuilt base (values b (take (64 * b) run)))))) ≡ m
  new_some b xs lx =
      let vs = values b (take (64 * b) run) in
      let old = rebuilt base vs in
      let ys = xs ++ drop (length xs) old in
      let o : length old ≡ 512 = length_rebuilt base vs ∙ length_values b (take (64 * b) run) in
      let y : length ys ≡ 512 = length-append xs (drop (length xs) old) ∙ omega (arith, length-drop (length xs) old) in
      length-take-le (min (length xs) 511) (differences ys) (omega (arith, length_differences ys))

  new_512 : (xs : List ℤ) → length xs ≤ 512 → (k : Coding) → is_beyond k ≡ false → length (new_values k (decoded k base run) run xs) ≡ 512
  unfolding new_values is_beyond decoded
  new_512 xs lx (Raw b) e =
      let v = length_values b (take (64 * b) run) in
      length-append xs (drop (length xs) (values b (take (64 * b) run))) ∙ omega (arith, length-drop (length xs) (values b (take (64 * b) run)))
  new_512 xs lx (Differences b) e =
      let vs = values b (take (64 * b) run) in
      let n = min (length xs) 511 in
      let v = length_values b (take (64 * b) run) in
      length-append (take n (differences (xs ++ drop (length xs) (rebuilt base vs)))) (drop n vs) ∙ omega (arith, new_some b xs lx, length-drop n vs)
  new_512 xs lx Beyond e = never e

  -- xs were put into it
  module _ (xs : List ℤ) (lx : length xs ≤ 512) where
    abbrev new : Coding → List ℤ
    new k = new_values k (decoded k base run) run xs

    -- the new values are read back
    new_back : (k : Coding) → is_beyond k ≡ false → 1 ≤ width_of k → AllHold (width_of k) (new k) → values (width_of k) (take (64 * width_of k) (packing (width_of k) (new k) ++ t)) ≡ new k
    new_back k e w h =
        let b = width_of k in
        ap (values b) (take_at (packing b (new k)) t (64 * b) (length_packing b (new k))) ∙ values_packing b w (new k) (new_512 xs lx k e) h

    -- other samples, as many, give the values that they gave before
    values_again : (zs : List ℤ) → length zs ≡ length xs → (k : Coding) → is_beyond k ≡ false → 1 ≤ width_of k → AllHold (width_of k) (new k)
        → new_values k (xs ++ drop (length xs) (decoded k base run)) (packing (width_of k) (new k) ++ t) zs ≡ new_values k (decoded k base run) run zs
    unfolding decoded is_beyond width_of
    values_again zs q (Raw b) e w h =
        let vs = values b (take (64 * b) run) in
        new_raw b (xs ++ drop (length xs) vs) (packing b (new (Raw b)) ++ t) zs
        ∙ ap (λ (l : List ℤ). zs ++ drop (length zs) l) (new_back (Raw b) refl w h ∙ new_raw b vs run xs)
        ∙ ap (λ (l : List ℤ). zs ++ l) (drop_behind xs vs (length xs) (length zs) refl q)
        ∙ sym (new_raw b vs run zs)
    values_again zs q (Differences b) e w h =
        let vs = values b (take (64 * b) run) in
        let old = rebuilt base vs in
        let n = min (length xs) 511 in
        let m = min (length zs) 511 in
        let f : m ≡ n = ap (λ (x : ℕ). min x 511) q in
        new_differences b (xs ++ drop (length xs) old) (packing b (new (Differences b)) ++ t) zs
        ∙ ap₂ (λ (o l : List ℤ). take m (differences (zs ++ o)) ++ l) (drop_behind xs old (length xs) (length zs) refl q)
        (ap (drop m) (new_back (Differences b) refl w h ∙ new_differences b old run xs) ∙ drop_behind (take n (differences (xs ++ drop (length xs) old))) vs n m (new_some b xs lx) f)
        ∙ sym (new_differences b old run zs)
    values_again zs q Beyond e w h = never e

  decode_new : SFits w32 base → (xs : List ℤ) → 1 ≤ length xs → (lx : length xs ≤ 512) → Fit xs → (k : Coding) (r : List ℕ) → is_beyond k ≡ false → 1 ≤ width_of k → AllHold (width_of k) (new xs lx k)
      → decoded k (value 32 (num 256 (base_for k r xs))) (packing (width_of k) (new xs lx k) ++ t) ≡ xs ++ drop (length xs) (decoded k base run)
  unfolding decoded is_beyond width_of base_for first_value
  decode_new sb xs some lx fx (Raw b) r e w h = new_back xs lx (Raw b) refl w h ∙ new_raw b (values b (take (64 * b) run)) run xs
  decode_new sb [] some lx fx (Differences b) r e w h = absurd (omega arith)
  decode_new sb (x ∷ xs) some lx fx (Differences b) r e w h =
      let vs = values b (take (64 * b) run) in
      let small : Holds 32 x = (fx 0).sfits in
      ap₂ rebuilt (ap (value 32) (num_le 4 (code_of 32 x) (code_lt 32 (omega arith) x small)) ∙ value_code 32 (omega arith) x small)
      (new_back (x ∷ xs) lx (Differences b) refl w h ∙ new_differences b (rebuilt base vs) run (x ∷ xs))
      ∙ spliced base vs x xs sb (length_values b (take (64 * b) run)) lx fx
  decode_new sb xs some lx fx Beyond r e w h = never e

-- ---- the template's block that r begins with, with the active samples xs
module _ (depth : ℕ) (low : 1 ≤ depth) (r : List ℕ) (xs : List ℤ) (some : 1 ≤ length xs) (lx : length xs ≤ 512) (fx : Fit xs) (ok : Template depth r)
    (held : AllHold (width_of (coding_of depth r)) (values_for depth r xs)) where
  abbrev c : Coding
  c = coding_of depth r

  abbrev base : List ℕ
  base = base_for c r xs

  abbrev pk : List ℕ
  pk = packing (width_of c) (values_for depth r xs)

  la : length (take 4 r) ≡ 4
  la = length-take-le 4 r (omega (arith, ok.head))

  lb : length base ≡ 4
  lb = base_4 c r xs ok.head

  lw : length (from 8 8 r) ≡ 8
  lw = length_from 8 8 r (omega (arith, ok.head))

  wide : 1 ≤ width_of c
  unfolding coding_of
  wide = width_some depth (bits_of r) low ok.within

  long_is : length (reencoded_block depth r xs) ≡ size_of depth r
  long_is = new_length depth r xs ok.head

  -- bytes 8 to 15 stay
  word_same : (t : List ℕ) (k n : ℕ) → k + n ≤ 8 → from (4 + (4 + k)) n (reencoded_block depth r xs ++ t) ≡ from (8 + k) n r
  unfolding reencoded_block
  word_same t k n h = part_word (take 4 r) base (from 8 8 r) pk la lb lw t k n h ∙ from_from k n 8 8 r h

  coding_same : (t : List ℕ) → coding_of depth (reencoded_block depth r xs ++ t) ≡ c
  unfolding coding_of bits_of num_at
  coding_same t = ap (λ (l : List ℕ). coding depth (value 16 (num 256 l))) (word_same t 0 2 (omega arith))

  base_new : (t : List ℕ) → from 4 4 (reencoded_block depth r xs ++ t) ≡ base
  unfolding reencoded_block
  base_new t = part_base (take 4 r) base (from 8 8 r) pk la lb lw t

  run_new : (t : List ℕ) → drop 16 (reencoded_block depth r xs ++ t) ≡ pk ++ t
  unfolding reencoded_block
  run_new t = part_run (take 4 r) base (from 8 8 r) pk la lb lw t

  mark_same : (t : List ℕ) → take 4 (reencoded_block depth r xs ++ t) ≡ take 4 r
  unfolding reencoded_block
  mark_same t = part_mark (take 4 r) base (from 8 8 r) pk la lb lw t

  -- reads as the new samples, and then the template's
  pub new_reads : Reads depth (num_at 10 2 r) (new_samples depth r xs) (reencoded_block depth r xs)
  unfolding samples_of size_of is_block num_at values_for base_of
  new_reads =
      record {
        long = omega (arith, long_is, wide);
        size = λ t. ap (λ (k : Coding). 16 + 64 * width_of k) (coding_same t) ∙ sym long_is;
        mark = λ t. ap (λ (l : List ℕ). same l block_mark) (mark_same t) ∙ ok.mark;
        flags_word = λ t. ap (num 256) (word_same t 2 2 (omega arith));
        within = λ t. ap is_beyond (coding_same t) ∙ ok.within;
        samples = λ t.
            ap (λ (k : Coding). decoded k (base_of (reencoded_block depth r xs ++ t)) (drop 16 (reencoded_block depth r xs ++ t))) (coding_same t)
            ∙ ap₂ (λ (l : List ℕ). decoded c (value 32 (num 256 l))) (base_new t) (run_new t)
            ∙ decode_new (base_of r) (drop 16 r) t (value_fits (num_at 4 4 r)) xs some lx fx c r ok.within wide held;
      }

  -- ---- the new block as a template's, with other samples, as many
  module _ (t : List ℕ) where
    abbrev again : List ℕ
    again = reencoded_block depth r xs ++ t

    pub values_same : (zs : List ℤ) → length zs ≡ length xs → values_for depth again zs ≡ values_for depth r zs
    unfolding values_for samples_of
    values_same zs q =
        ap (λ (k : Coding). new_values k (samples_of depth again) (drop 16 again) zs) (coding_same t)
        ∙ ap₂ (λ (o : List ℤ) (l : List ℕ). new_values c o l zs) (new_reads.samples t) (run_new t)
        ∙ values_again (base_of r) (drop 16 r) t xs lx zs q c ok.within wide held

    pub block_same : (zs : List ℤ) → length zs ≡ length xs → reencoded_block depth again zs ≡ reencoded_block depth r zs
    unfolding reencoded_block
    block_same zs q =
        ap (λ (k : Coding). take 4 again ++ (base_for k again zs ++ (from 8 8 again ++ packing (width_of k) (values_for depth again zs)))) (coding_same t)
        ∙ ap₂ (λ (a b : List ℕ). a ++ (b ++ (from 8 8 again ++ packing (width_of c) (values_for depth again zs)))) (mark_same t) (base_again c again r xs zs (base_new t))
        ∙ ap₂ (λ (w : List ℕ) (vs : List ℤ). take 4 r ++ (base_for c r zs ++ (w ++ packing (width_of c) vs))) (word_same t 0 8 (omega arith)) (values_same zs q)

    -- it passes as the template's did
    new_template : Template depth again
    unfolding num_at
    new_template =
        let a = length-append (reencoded_block depth r xs) t in
        record {
          head = omega (arith, new_reads.long);
          mark = new_reads.mark t;
          bits = subst (λ (l : List ℕ). 2 ≤ num 256 l) (sym (word_same t 0 2 (omega arith))) ok.bits;
          flags = rw (new_reads.flags_word t) ok.flags;
          within = new_reads.within t;
          sized = omega (arith, new_reads.size t);
        }

    pub check_same_lem : (zs : List ℤ) → length zs ≡ length xs → check_reencode_block depth again zs ≡ check_reencode_block depth r zs
    check_same_lem zs q =
        fit_decides depth again zs new_template
        ∙ ap₂ (λ (k : Coding) (vs : List ℤ). check_fit (width_of k) vs) (coding_same t) (values_same zs q)
        ∙ sym (fit_decides depth r zs ok)
