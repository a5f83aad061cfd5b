-- A room of samples that is filled, lent to a call, changed at a place and compared with what was recorded.
use Prim.Native.Nat.{ℕ}
use mathlib.Core.Path.{◌≡◌, refl, ◌∙◌}
use mathlib.Core.Bool.{Bool}
use mathlib.Core.List.{List}
use lib.IntN.{ℤ}
use Rattle.replay_list.specs.Room.{spoiled_at}
use Rattle.replay_list.specs.Said.{is_recorded}
use Rattle.replay_list.specs.declared.answers.Recorded.{Recorded}
use Rattle.replay_list.specs.declared.answers.Said.{Said}

pub asked_words : (told : List ℤ → Said) (put : List ℤ → List ℤ) (filled lent written after : List ℤ) (said : Said) (spoiled : ℕ) (want : Recorded) (same : Bool)
    → lent ≡ filled → said ≡ told lent → written ≡ put lent → after ≡ spoiled_at spoiled written → same ≡ is_recorded said want after
    → (same ≡ is_recorded (told filled) want (spoiled_at spoiled (put filled))) × (after ≡ spoiled_at spoiled (put filled))
asked_words told put filled lent written after said spoiled want same e f g h a = (a ∙ rw (h, g, f, e) refl, h ∙ rw (g, e) refl)
