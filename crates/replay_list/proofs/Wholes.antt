-- A room of bytes is the bytes of its samples, and what lies behind them; calls that are asked in one.
use Rattle.std.proofs.Common.{◌≡◌, ℕ, ◌*◌, ◌/◌, Bool, List, [], ◌++◌, length, drop, ℤ, sym, refl, ap, ◌∙◌, append-nil, arith, length-set, drop_of_length-le}
use Rattle.format.specs.Lists.{over}
use Rattle.format.specs.Numbers.{Below}
use Rattle.format.specs.Boundary.{samples_from, sample_bytes}
use Rattle.laws.proofs.Parts.{length_tab}
use Rattle.laws.proofs.SampleBytes.{sample_bytes_length}
use Rattle.lent_samples.proofs.Laws.{length_lent}
use Rattle.lent_samples.proofs.Outcome.{bytes_over}
use Rattle.replay_list.specs.Room.{mark_of, marked, spoiled_at}
use Rattle.replay_list.specs.Bytes.{marked_bytes, spoiled_bytes, is_answered}
use Rattle.replay_list.specs.declared.answers.Recorded.{Recorded}
use Rattle.replay_list.specs.declared.answers.Said.{Said}

module _ (b d : List ℕ) (hd : Below 256 d) (rest : drop (length d / 4 * 4) d ≡ drop (length b / 4 * 4) b) where
  -- all samples of b are replaced
  whole : (xs : List ℤ) → length xs ≡ length (samples_from b) → samples_from d ≡ xs → d ≡ over (sample_bytes xs) b
  unfolding over
  whole xs n e =
      let many : length xs ≡ length d / 4 = ap length (sym e) ∙ length_lent d in
      let none : drop (length xs) (samples_from d) ≡ [] = drop_of_length-le (samples_from d) (omega (arith, length_lent d)) in
      let all : over xs (samples_from d) ≡ xs = ap (λ (ys : List ℤ). xs ++ ys) none ∙ append-nil xs in
      let own : d ≡ over (sample_bytes xs) d = bytes_over xs d d hd hd (omega arith) (e ∙ sym all) refl in
      let bytes : length (sample_bytes xs) ≡ length d / 4 * 4 = omega (arith, sample_bytes_length xs) in
      let as_many : length (sample_bytes xs) ≡ length b / 4 * 4 = omega (arith, sample_bytes_length xs, length_lent b) in
      let behind : drop (length (sample_bytes xs)) d ≡ drop (length (sample_bytes xs)) b =
      ap (λ (k : ℕ). drop k d) bytes ∙ rest ∙ ap (λ (k : ℕ). drop k b) (sym as_many) in
      own ∙ ap (λ (ys : List ℕ). sample_bytes xs ++ ys) behind

  pub filled_bytes : samples_from d ≡ marked (length (samples_from b)) → d ≡ marked_bytes b
  unfolding marked_bytes
  filled_bytes e = whole (marked (length b / 4)) (length_tab (length b / 4) mark_of ∙ sym (length_lent b)) (e ∙ ap marked (length_lent b))

  pub spoilt_bytes : (place : ℕ) → samples_from d ≡ spoiled_at place (samples_from b) → d ≡ spoiled_bytes place b
  unfolding spoiled_bytes
  spoilt_bytes place e = whole (spoiled_at place (samples_from b)) (length-set (samples_from b) place _) e

-- the room is filled, a call is asked, and its answer is judged
pub asked_bytes : (told : List ℕ → Said) (put : List ℕ → List ℕ) (room lent written after : List ℕ) (said : Said) (spoiled : ℕ) (want : Recorded) (same : Bool)
    → lent ≡ marked_bytes room → said ≡ told lent → written ≡ put lent → (same ≡ is_answered said written spoiled want) × (after ≡ spoiled_bytes spoiled written)
    → (same ≡ is_answered (told (marked_bytes room)) (put (marked_bytes room)) spoiled want) × (after ≡ spoiled_bytes spoiled (put (marked_bytes room)))
asked_bytes told put room lent written after said spoiled want same e f g a = (a.0 ∙ rw (g, f, e) refl, a.1 ∙ rw (g, e) refl)
