-- Groups of lent samples: what a mode takes, and that all of it can be written.
use Prim.Native.Nat.{ℕ, ◌+◌, ◌-◌, ◌*◌, ◌≤◌, ◌<◌}
use mathlib.Core.Path.{◌≡◌, refl, sym, ap, ◌∙◌}
use mathlib.Core.Bool.{Bool, true, false, ◌&&◌, not}
use mathlib.Core.List.{List, []}
use native.Mathlib.Omega.{arith}
use lib.IntN.{ℤ, pos}
use lib.Dec.{eqb, ltb}
use lib.ListN.{length, get_or}
use lib.Pow.{pow_pos}
use borrow.Author.Tests.{ne_eqb}
use Rattle.format.specs.Lists.{every}
use Rattle.format.specs.Numbers.{holds}
use Rattle.format.specs.Encoding.{channel, padded, padded_channels, blocks, mid_side, parity, takes_mid, encoded_group, is_mid_side}
use Rattle.format.specs.declared.settings.PcmSpec.{PcmSpec}
use Rattle.format.specs.declared.settings.StereoMode.{StereoMode}
use Rattle.format.specs.declared.settings.StereoMode.TheVariants.{Auto, Direct, MidSide}
use Rattle.lent_samples.specs.Lent.{frames_from}
use Rattle.lent_samples.proofs.Taken.{frames_length}
use Rattle.laws.proofs.Tests.{never, and_left}
use Rattle.laws.proofs.Each.{each_from}
use Rattle.laws.proofs.Signs.{Holds, AllHold, every_holds, holds_every}
use Rattle.laws.proofs.Channels.{Level, padded_holds, padded_channels_level}
use Rattle.laws.proofs.Stereo.{both_level}
use Rattle.encode_group.specs.Choice.{auto_takes, takes_of}
use Rattle.encode_group.specs.Writable.{Writable}
use Rattle.laws.proofs.Stereo.{parity_padded}
use Rattle.encode_group.proofs.Blocks.{nexts}

-- ---- what a mode takes
takes_are : (mode : StereoMode) (depth : ℕ) (s : List ℤ) → takes_of mode depth (padded_channels 2 s) ≡ takes_mid mode 2 depth s
unfolding takes_of auto_takes takes_mid
takes_are Direct depth s = refl
takes_are MidSide depth s = refl
takes_are Auto depth s = ap (λ (b : Bool). b && ltb (length (blocks depth 1 (mid_side (padded_channels 2 s)))) (length (blocks depth 0 (padded_channels 2 s)))) (parity_padded s)

-- mid/side is taken only at equal parity, if MidSide comes only with it
takes_even : (mode : StereoMode) (depth : ℕ) (a : List (List ℤ)) → (is_mid_side mode ≡ true → parity a ≡ true) → takes_of mode depth a ≡ true → parity a ≡ true
unfolding takes_of auto_takes is_mid_side
takes_even Direct depth a even h = never (sym h)
takes_even MidSide depth a even h = even refl
takes_even Auto depth a even h = and_left _ _ h

-- other than two channels are direct
not_taken : (mode : StereoMode) (n depth : ℕ) (s : List ℤ) → (n ≡ 2 → ⊥) → (is_mid_side mode && not (eqb n 2)) ≡ false → takes_mid mode n depth s ≡ false
unfolding takes_mid is_mid_side
not_taken Direct n depth s h e = refl
not_taken MidSide n depth s h e = never (rw (ne_eqb n 2 h) at e)
not_taken Auto n depth s h e = rw (ne_eqb n 2 h)

-- ---- the n frames from the frame `first` on
frames_hold : (b C first n : ℕ) (s : List ℤ) → AllHold b s → AllHold b (frames_from C first n s)
unfolding frames_from
frames_hold b C first n s = each_from (Holds b) (pos 0) (pow_pos (b - 1)) (first * C) (n * C) s

-- ---- a group of them
module _ (p : PcmSpec) (mode : StereoMode) (first n : ℕ) (s : List ℤ) (w : Writable p mode first n s) where
  abbrev depth : ℕ
  depth = p.bits_per_sample

  abbrev C : ℕ
  C = p.channels

  abbrev frames : List ℤ
  frames = frames_from C first n s

  long : length frames ≡ C * n
  long = frames_length C first n s w.inside

  all_hold : AllHold depth frames
  all_hold = frames_hold depth C first n s (every_holds depth s w.hold)

  pub channel_holds : (c : ℕ) (run : List ℤ) → run ≡ padded (channel C frames c) → every (holds depth) run ≡ true
  channel_holds c run is = rw is (holds_every depth _ (padded_holds C n w.channels frames long w.most depth c all_hold))

  -- other than two channels
  pub group_other : (C ≡ 2 → ⊥) → blocks depth 0 (padded_channels C frames) ≡ encoded_group p mode frames
  unfolding encoded_group
  group_other ne = rw (not_taken mode C depth frames ne w.stereo)

  pub as_direct : Writable p Direct first n s
  unfolding is_mid_side
  as_direct = record { some = w.some; most = w.most; inside = w.inside; channels = w.channels; low = w.low; high = w.high; hold = w.hold; stereo = refl; even = λ e. never (sym e) }

  -- two channels a; t is what the mode takes
  module _ (two : C ≡ 2) where
    pub two_inside : (first + n) * 2 ≤ length s
    two_inside = rw two at w.inside

    module _ (a : List (List ℤ)) (are : a ≡ padded_channels 2 (frames_from 2 first n s)) where
      chans_are : padded_channels C frames ≡ a
      chans_are = ap (λ (k : ℕ). padded_channels k (frames_from k first n s)) two ∙ sym are

      level : Level depth C 512 a
      level = rw chans_are at (padded_channels_level C n w.channels frames long w.most depth all_hold)

      pub direct_holds : (c : ℕ) → c < 2 → every (holds depth) (get_or a c []) ≡ true
      direct_holds c h = holds_every depth _ (level.hold c (omega arith))

      pub mid_holds : (b : List (List ℤ)) → b ≡ mid_side a → (c : ℕ) → c < 2 → every (holds depth) (get_or b c []) ≡ true
      mid_holds b e c h = rw e (holds_every depth _ ((both_level depth C 512 w.high two a level).hold c (omega arith)))

      chans_even : is_mid_side mode ≡ true → parity a ≡ true
      chans_even e = ap parity are ∙ parity_padded (frames_from 2 first n s) ∙ (rw two at (w.even e))

      module _ (t : Bool) (takes : t ≡ takes_of mode depth a) where
        pub taken_even : t ≡ true → parity a ≡ true
        taken_even h = takes_even mode depth a chans_even (sym takes ∙ h)

        taken : takes_mid mode C depth frames ≡ t
        taken = ap (λ (k : ℕ). takes_mid mode k depth (frames_from k first n s)) two ∙ sym (takes_are mode depth (frames_from 2 first n s)) ∙ ap (takes_of mode depth) (sym are) ∙ sym takes

        pub group_direct : t ≡ false → blocks depth 0 a ≡ encoded_group p mode frames
        unfolding encoded_group
        group_direct h = rw (taken ∙ h, chans_are)

        pub size_direct : t ≡ false → (r : ℕ) → ((flags : ℕ) → r ≡ length (blocks depth flags a)) → r ≡ length (encoded_group p mode frames)
        size_direct h r e = e 0 ∙ ap length (group_direct h)

        pub group_mid : t ≡ true → (b : List (List ℤ)) → b ≡ mid_side a → blocks depth 1 b ≡ encoded_group p mode frames
        unfolding encoded_group
        group_mid h b both = rw (taken ∙ h, chans_are, both)

        pub size_mid : t ≡ true → (b : List (List ℤ)) → b ≡ mid_side a → (r : ℕ) → ((flags : ℕ) → r ≡ length (blocks depth flags b)) → r ≡ length (encoded_group p mode frames)
        size_mid h b both r e = e 1 ∙ ap length (group_mid h b both)

pub ruleset groups = (taken_even, mid_holds, direct_holds, group_mid, group_direct, group_other, as_direct)

pub ruleset channels = (channel_holds, nexts)
