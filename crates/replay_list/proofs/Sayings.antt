-- What answers say, case by case; and each way out of the comparison with what was recorded.
use Rattle.std.proofs.Common.{◌≡◌, ℕ, ◌-◌, ◌*◌, ◌/◌, ◌%◌, ◌^◌, ◌<◌, ◌≤◌, Bool, true, false, List, length, take, ℤ, pos, negsuc, sym, ap, ◌∙◌, arith, to_z-of_z, w16, w32, SFits, to_z, of_z, le-ltb, lt-ltb, eq-eqb, ne_eqb, le-leb}
use lib.Signed.{mag}
use mir.Facts.{sfits_widen}
use borrow.Author.Tests.{lt-leb}
use Rattle.format.specs.Numbers.{code_of}
use Rattle.format.specs.declared.units.Samples.{Samples}
use Rattle.format.specs.declared.refusals.Refusal.{Refusal}
use Rattle.format.specs.declared.refusals.Told.{Told}
use Rattle.format.specs.declared.refusals.Told.TheVariants.{Nothing, Bits, Misfit}
use Rattle.format.specs.declared.answers.Header.{Header}
use Rattle.format.specs.declared.answers.Outcome.{Outcome}
use Rattle.format.specs.declared.answers.Outcome.TheVariants.{Opened, Read, Finished, Wrote, Refused, Matches, Differs}
use Rattle.replay_list.specs.declared.answers.Recorded.{Recorded}
use Rattle.replay_list.specs.declared.answers.Said.{Said}
use Rattle.replay_list.specs.Room.{is_kept, sum_of}
use Rattle.replay_list.specs.Said.{said_length, said_number, said_at, told_by, said_refused, said_samples, said_outcome, refusal_of, said_by_host, is_said, words_in, is_recorded}

-- ---- a bits word: the lowest 16 of its 32 bits

low_bits : (z : ℤ) → mag z < 2 ^ 15 → code_of 32 z % 65536 ≡ code_of 16 z
low_bits (pos n) f = omega arith
low_bits (negsuc n) f = omega arith

pub word_bits : (z : ℤ) {n : ℕ} → SFits w16 z → n ≡ code_of 32 (to_z w32 (of_z w32 (to_z w16 (of_z w16 z)))) → n % 65536 ≡ code_of 16 z
word_bits z {n} f e =
    let b : n ≡ code_of 32 z = e ∙ ap (code_of 32) (ap (λ (y : ℤ). to_z w32 (of_z w32 y)) (to_z-of_z f) ∙ to_z-of_z {w = w32} (sfits_widen (tt {0}) f)) in
    rw b (low_bits z f.sfits)

-- ---- what is told

pub word_told : (t : Told) (b : ℤ) (w : ℕ) → t ≡ Bits b → SFits w16 b → w ≡ code_of 16 (to_z w16 (of_z w16 b)) → w ≡ told_by t
word_told t b w e f q = q ∙ ap (code_of 16) (to_z-of_z f) ∙ sym (ap told_by e)

pub place_told : (t : Told) (k : ℕ) → t ≡ Misfit k → k ≡ told_by t
place_told t k e = sym (ap told_by e)

pub nothing_told : (t : Told) → t ≡ Nothing → 0 ≡ told_by t
nothing_told t e = sym (ap told_by e)

-- ---- an outcome

module _ (o : Outcome) (x : Said) where
  pub read_says : (n : Samples) → o ≡ Read n → x ≡ said_samples n.0 → x ≡ said_outcome o
  read_says n e p = p ∙ sym (ap said_outcome e)

  pub wrote_says : (n : ℕ) → o ≡ Wrote n → x ≡ said_length n → x ≡ said_outcome o
  wrote_says n e p = p ∙ sym (ap said_outcome e)

  pub refused_says : (r : Refusal) → o ≡ Refused r → x ≡ said_refused r → x ≡ said_outcome o
  refused_says r e p = p ∙ sym (ap said_outcome e)

  pub opened_says : (h : Header) → o ≡ Opened h → x ≡ said_length 18446744073709551615 → x ≡ said_outcome o
  opened_says h e p = p ∙ sym (ap said_outcome e)

  pub matches_says : o ≡ Matches → x ≡ said_length 1 → x ≡ said_outcome o
  matches_says e p = p ∙ sym (ap said_outcome e)

  pub differs_says : o ≡ Differs → x ≡ said_length 0 → x ≡ said_outcome o
  differs_says e p = p ∙ sym (ap said_outcome e)

pub finished_says : (o : Outcome) → o ≡ Finished → said_number 255 0 ≡ said_outcome o
finished_says o e = sym (ap said_outcome e)

-- ---- the boundary's number, and how many samples

module _ (n : ℕ) (x : Said) where
  pub few_say : n < 4294967296 → x ≡ said_length (4 * n) → x ≡ said_samples n
  few_say h p = p ∙ rw (lt-ltb n (2 ^ 32) h)

  pub many_say : 4294967296 ≤ n → x ≡ said_length 18446744073709551615 → x ≡ said_samples n
  many_say h p = p ∙ rw (le-ltb n (2 ^ 32) h)

  pub length_says : (want : Recorded) → n < 9223372036854775808 → x ≡ said_length n → x ≡ said_by_host n want
  unfolding said_by_host
  length_says want h p = p ∙ rw (lt-ltb n (2 ^ 63) h)

pub number_says : (n refusal : ℕ) (want : Recorded) → 9223372036854775808 ≤ n → refusal ≡ refusal_of (n - 9223372036854775808)
    → said_at (said_number refusal want.told) want.group want.channel ≡ said_by_host n want
unfolding said_by_host
number_says n refusal want h e = rw (le-ltb n (2 ^ 63) h, e)

-- ---- whether it was recorded

module _ (said : Said) (want : Recorded) (room : List ℤ) where
  pub not_said : {same : Bool} → same ≡ is_said said want → same ≡ false → false ≡ is_recorded said want room
  unfolding is_recorded
  not_said e f = rw (sym e ∙ f)

  module _ {same : Bool} (e : same ≡ is_said said want) (f : same ≡ true) {words : ℕ} (w : words ≡ words_in want.length) where
    pub no_room : {n : ℕ} → n ≡ length room → n < words → false ≡ is_recorded said want room
    unfolding is_recorded
    no_room p h = rw (sym e ∙ f, ← w, lt-leb words (length room) (omega arith))

    module _ {n : ℕ} (p : n ≡ length room) (h : words ≤ n) {sum : ℕ} (s : sum ≡ sum_of (take words room)) where
      pub other_sum : (sum ≡ want.sum → ⊥) → false ≡ is_recorded said want room
      unfolding is_recorded
      other_sum ne = rw (sym e ∙ f, ← w, le-leb words (length room) (omega arith), ← s, ne_eqb sum want.sum ne)

      pub kept_or_not : {kept : Bool} → sum ≡ want.sum → kept ≡ is_kept words room → kept ≡ is_recorded said want room
      unfolding is_recorded
      kept_or_not t k = k ∙ rw (sym e ∙ f, ← w, le-leb words (length room) (omega arith), ← s, eq-eqb sum want.sum t)
