-- Channels of interleaved samples, padded, and woven again: frame i of n channels is samples i * n to i * n + n - 1,
-- so weaving undoes the taking apart, over the channel count.
use Prim.Native.Nat.{ℕ, suc, ◌+◌, ◌-◌, ◌*◌, ◌/◌, ◌≤◌, ◌<◌, min}
use native.Mathlib.Decide.{dec_le}
use mathlib.Core.Path.{◌≡◌, refl, sym, ap, ap₂, ◌∙◌}
use mathlib.Core.List.{List, [], ◌∷◌}
use native.Mathlib.Omega.{arith}
use native.Mathlib.Nat.{mul-div_right, mul_comm, mul-sub, mul_assoc, mul-le-mul_left, mul-suc}
use lib.ListN.{length, get_or, take, drop, length-append, length-replicate, length-take, length-drop, length-map, get_or-append, get_or-map}
use lib.Seq.{get_or-take, get_or-drop, take_all, length-take-le, ext_get_or}
use lib.IntN.{ℤ, pos}
use lib.Pow.{pow_pos}
use Rattle.format.specs.Lists.{joined, from, last_or}
use Rattle.format.specs.Header.{groups_of}
use Rattle.format.specs.Units.{active}
use Rattle.format.specs.Decoding.{frame_of, woven}
use Rattle.format.specs.Encoding.{channel, unwoven, padded, padded_channels, group_in}
use Rattle.format.specs.declared.units.Frames.{Frames}
use Rattle.laws.proofs.Parts.{length_tab, get_d_tab, joined_cong, joined_from, joined_at}
use Rattle.laws.proofs.Each.{Each, each_append, each_tab, each_replicate, each_from, each_joined}
use Rattle.laws.proofs.Signs.{Holds, AllHold}

last_holds : (b : ℕ) (d : ℤ) (xs : List ℤ) → Holds b d → AllHold b xs → Holds b (last_or d xs)
unfolding last_or
last_holds b d [] h p = h
last_holds b d (x ∷ xs) h p = last_holds b x xs (p 0) (λ j. p (suc j))

-- n channels of k samples each that b bits hold
pub record Level (b n k : ℕ) (chans : List (List ℤ)) : Type 0 where
  pub count : length chans ≡ n
  pub long : (c : ℕ) → c < n → length (get_or chans c []) ≡ k
  pub hold : (c : ℕ) → c < n → AllHold b (get_or chans c [])

-- ---- the channels of k frames of n samples
module _ (n k : ℕ) (some : 1 ≤ n) (s : List ℤ) (l : length s ≡ n * k) where
  frame_count : length s / n ≡ k
  frame_count = ap (λ (x : ℕ). x / n) l ∙ mul-div_right k some

  pub channel_length : (c : ℕ) → length (channel n s c) ≡ k
  unfolding channel
  channel_length c = length_tab (length s / n) (λ i. get_or s (i * n + c) (pos 0)) ∙ frame_count

  -- sample i of channel c
  pub channel_at : (c i : ℕ) → i < k → get_or (channel n s c) i (pos 0) ≡ get_or s (i * n + c) (pos 0)
  unfolding channel
  channel_at c i h = get_d_tab (length s / n) (λ j. get_or s (j * n + c) (pos 0)) i (pos 0) (omega (arith, frame_count))

  pub channel_holds : (b c : ℕ) → AllHold b s → AllHold b (channel n s c)
  unfolding channel
  channel_holds b c h = each_tab (Holds b) (pos 0) (pow_pos (b - 1)) (length s / n) (λ i. get_or s (i * n + c) (pos 0)) (λ i q. h (i * n + c))

  -- as they stand
  pub unwoven_is : (c : ℕ) → c < n → get_or (unwoven n s) c [] ≡ channel n s c
  unfolding unwoven
  unwoven_is c q = get_d_tab n (channel n s) c [] q

  pub unwoven_at : (c i : ℕ) → c < n → i < k → get_or (get_or (unwoven n s) c []) i (pos 0) ≡ get_or s (i * n + c) (pos 0)
  unwoven_at c i q h = ap (λ (x : List ℤ). get_or x i (pos 0)) (unwoven_is c q) ∙ channel_at c i h

  pub unwoven_long : (c : ℕ) → c < n → length (get_or (unwoven n s) c []) ≡ k
  unwoven_long c q = ap length (unwoven_is c q) ∙ channel_length c

  pub unwoven_level : (b : ℕ) → AllHold b s → Level b n k (unwoven n s)
  unfolding unwoven
  unwoven_level b h =
      record {
        count = length_tab n (channel n s);
        long = unwoven_long;
        hold = λ c q i. rw (unwoven_is c q) (channel_holds b c h i);
      }

  -- and padded to 512
  module _ (few : k ≤ 512) where
    padded_length : (c : ℕ) → length (padded (channel n s c)) ≡ 512
    unfolding padded
    padded_length c = length-append (channel n s c) _ ∙ omega (arith, channel_length c, length-replicate (512 - length (channel n s c)) (last_or (pos 0) (channel n s c)))

    pub padded_holds : (b c : ℕ) → AllHold b s → AllHold b (padded (channel n s c))
    unfolding padded
    padded_holds b c h =
        let a = channel_holds b c h in
        let z = pow_pos (b - 1) in
        each_append (Holds b) (pos 0) z (channel n s c) _ a
        (each_replicate (Holds b) (pos 0) z (512 - length (channel n s c)) (last_or (pos 0) (channel n s c)) (last_holds b (pos 0) (channel n s c) z a))

    padded_at : (c i : ℕ) → i < k → get_or (padded (channel n s c)) i (pos 0) ≡ get_or s (i * n + c) (pos 0)
    unfolding padded
    padded_at c i h = get_or-append (channel n s c) _ (pos 0) i (omega (arith, channel_length c)) ∙ channel_at c i h

    pub padded_channels_is : (c : ℕ) → c < n → get_or (padded_channels n s) c [] ≡ padded (channel n s c)
    unfolding padded_channels
    padded_channels_is c q = get_d_tab n (λ c. padded (channel n s c)) c [] q

    padded_channels_at : (c i : ℕ) → c < n → i < k → get_or (get_or (padded_channels n s) c []) i (pos 0) ≡ get_or s (i * n + c) (pos 0)
    padded_channels_at c i q h = ap (λ (x : List ℤ). get_or x i (pos 0)) (padded_channels_is c q) ∙ padded_at c i h

    pub padded_channels_level : (b : ℕ) → AllHold b s → Level b n 512 (padded_channels n s)
    unfolding padded_channels
    padded_channels_level b h =
        record {
          count = length_tab n (λ c. padded (channel n s c));
          long = λ c q. ap length (padded_channels_is c q) ∙ padded_length c;
          hold = λ c q i. rw (padded_channels_is c q) (padded_holds b c h i);
        }

-- ---- channels whose first k samples are those of s, woven
pub frame_length : (chans : List (List ℤ)) (i : ℕ) → length (frame_of chans i) ≡ length chans
frame_length chans i = length-map chans (λ (ch : List ℤ). get_or ch i (pos 0))

pub frame_at_lem : (chans : List (List ℤ)) (i c : ℕ) → get_or (frame_of chans i) c (pos 0) ≡ get_or (get_or chans c []) i (pos 0)
frame_at_lem chans i c = get_or-map (λ (ch : List ℤ). get_or ch i (pos 0)) chans c []

woven_is : (k : ℕ) (chans : List (List ℤ)) → woven k chans ≡ joined (frame_of chans) k
unfolding woven
woven_is k chans = refl

module _ (n k : ℕ) (s : List ℤ) (l : length s ≡ n * k) (chans : List (List ℤ)) (m : length chans ≡ n)
    (are : (c i : ℕ) → c < n → i < k → get_or (get_or chans c []) i (pos 0) ≡ get_or s (i * n + c) (pos 0)) where
  frame_is : (i : ℕ) → i < k → frame_of chans i ≡ from (n * i) n s
  unfolding from
  frame_is i h =
      let room : n * i + n ≤ length s = omega (arith, mul-le-mul_left {m = suc i} {n = k} n h, mul-suc n i) in
      let long : length (take n (drop (n * i) s)) ≡ n = length-take-le n (drop (n * i) s) (omega (arith, length-drop (n * i) s)) in
      let wide : length (frame_of chans i) ≡ n = frame_length chans i ∙ m in
      ext_get_or (pos 0) (frame_of chans i) (take n (drop (n * i) s)) (wide ∙ sym long)
      (λ c p. let q : c < n = omega arith in
      frame_at_lem chans i c ∙ are c i q h ∙ ap (λ (x : ℕ). get_or s (x + c) (pos 0)) (mul_comm i n)
      ∙ sym (get_or-take n (drop (n * i) s) c (pos 0) q ∙ get_or-drop (n * i) s c (pos 0)))

  -- they give s back
  pub woven_back : woven k chans ≡ s
  woven_back = woven_is k chans ∙ joined_cong (frame_of chans) (λ i. from (n * i) n s) k frame_is ∙ joined_from n s k ∙ take_all (n * k) s (omega arith)

-- and taken apart again
pub woven_at : (n k : ℕ) (chans : List (List ℤ)) → length chans ≡ n → (c i : ℕ) → c < n → i < k → get_or (woven k chans) (i * n + c) (pos 0) ≡ get_or (get_or chans c []) i (pos 0)
woven_at n k chans m c i q h =
    ap (λ (l : List ℤ). get_or l (i * n + c) (pos 0)) (woven_is k chans) ∙ joined_at (frame_of chans) n (λ j. frame_length chans j ∙ m) k i c (pos 0) h q ∙ frame_at_lem chans i c

-- what holds of each sample of the channels holds of them woven
pub each_woven : (P : ℤ → Type 0) → P (pos 0) → (k : ℕ) (chans : List (List ℤ)) → Each (Each P (pos 0)) [] chans → Each P (pos 0) (woven k chans)
unfolding woven
each_woven P z k chans p = each_joined P (pos 0) z (frame_of chans) k (λ i l c. rw (frame_at_lem chans i c) (p c i))

-- the padded channels give their samples back
pub woven_padded : (n k : ℕ) → 1 ≤ n → k ≤ 512 → (s : List ℤ) → length s ≡ n * k → woven k (padded_channels n s) ≡ s
unfolding padded_channels
woven_padded n k some few s l = woven_back n k s l (padded_channels n s) (length_tab n (λ c. padded (channel n s c))) (padded_channels_at n k some s l few)

-- ---- the groups of a whole list: n × frames samples
mul_min : (w a b : ℕ) → w * min a b ≡ min (w * a) (w * b)
mul_min w a b =
    elim (dec_le a b) [
      | yes h ↦ let e : min a b ≡ a = omega arith in ap (λ (x : ℕ). w * x) e ∙ omega (arith, mul-le-mul_left w h)
      | no h ↦ let e : min a b ≡ b = omega arith in let h' : b ≤ a = omega arith in ap (λ (x : ℕ). w * x) e ∙ omega (arith, mul-le-mul_left w h')
    ]

-- a group that is there has from 1 to 512 active frames
pub some_active : (frames : Frames) (g : ℕ) → g < groups_of frames → 0 < active frames g
unfolding active groups_of
some_active frames g l = omega arith

pub active_low : (frames : Frames) (g : ℕ) → active frames g ≤ 512
unfolding active
active_low frames g = omega arith

-- where group g begins
pub group_starts : (n g : ℕ) → 512 * n * g ≡ n * (512 * g)
group_starts n g = ap (λ (x : ℕ). x * g) (mul_comm 512 n) ∙ mul_assoc n 512 g

pub group_holds : (b n : ℕ) (s : List ℤ) (g : ℕ) → AllHold b s → AllHold b (group_in n s g)
unfolding group_in
group_holds b n s g = each_from (Holds b) (pos 0) (pow_pos (b - 1)) (512 * n * g) (512 * n) s

module _ (n : ℕ) (frames : Frames) (s : List ℤ) (l : length s ≡ n * frames.0) where
  pub group_length : (g : ℕ) → length (group_in n s g) ≡ n * active frames g
  unfolding group_in from active
  group_length g =
      let e = group_starts n g in
      let d : length (drop (512 * n * g) s) ≡ n * (frames.0 - 512 * g) = length-drop (512 * n * g) s ∙ omega (arith, mul-sub n frames.0 (512 * g)) in
      length-take (512 * n) (drop (512 * n * g) s) ∙ ap₂ min (mul_comm 512 n) d ∙ sym (mul_min n 512 (frames.0 - 512 * g))

  -- the groups, joined
  pub groups_joined : joined (group_in n s) (groups_of frames) ≡ s
  unfolding group_in groups_of
  groups_joined =
      let g = (frames.0 + 511) / 512 in
      joined_from (512 * n) s g ∙ take_all (512 * n * g) s (omega (arith, mul-le-mul_left {m = frames.0} {n = 512 * g} n (omega arith), group_starts n g))
