-- The header, put number by number, and the file behind it.
use Prim.Native.Nat.{ℕ, ◌+◌, ◌*◌, ◌/◌, ◌≤◌}
use mathlib.Core.Path.{◌≡◌, sym, ap, ap₂, ◌∙◌}
use mathlib.Core.List.{List, ◌++◌, append_assoc}
use native.Mathlib.Omega.{arith}
use lib.IntN.{ℤ}
use lib.ListN.{length, take, drop, length-take, length-drop, replicate, length-replicate}
use lib.Seq.{sets, sets-eq, drop-drop}
use Rattle.format.specs.Lists.{joined, over}
use Rattle.format.specs.Numbers.{le, digits}
use Rattle.format.specs.Header.{signature, groups_of}
use Rattle.format.specs.Encoding.{encoded_group_at, header_bytes, table_of, assembled, encoded_file}
use Rattle.format.specs.declared.units.Frames.{Frames}
use Rattle.format.specs.declared.settings.PcmSpec.{PcmSpec}
use Rattle.format.specs.declared.settings.StereoMode.{StereoMode}
use Rattle.laws.proofs.Over.{sets_join, over_sets}
use Rattle.laws.proofs.Written.{header_length, assembled_length}

-- ---- n zeros put from i on
pub zeros_put : (s z : List ℕ) (i n : ℕ) → i + n ≤ length s → z ≡ replicate (length (take n (drop i s))) 0 → take i s ++ (z ++ drop n (drop i s)) ≡ sets s i (replicate n 0)
zeros_put s z i n h e =
    let k : length (take n (drop i s)) ≡ n = omega (arith, length-take n (drop i s), length-drop i s) in
    let m : i + length {A = ℕ} (replicate n 0) ≤ length s = omega (arith, length-replicate {A = ℕ} n 0) in
    rw (e, k, drop-drop, ← append_assoc) (sym (rw length-replicate at (sets-eq (replicate n 0) s i m)))

-- ---- the header, put in three parts
module _ (p : PcmSpec) (frames : Frames) (start size : ℕ) (s t₁ t₂ t₃ : List ℕ)
    (settings : t₁ ≡ sets s 0 (signature 0x31 ++ (le 2 p.channels ++ (le 2 p.bits_per_sample ++ le 4 p.sample_rate))))
    (places : t₂ ≡ sets t₁ 16 (le 4 frames.0 ++ (le 4 120 ++ (le 4 start ++ le 4 size))))
    (zeros : t₃ ≡ sets t₂ 32 (replicate 88 0)) where
  put : t₃ ≡ sets s 0 (header_bytes p frames start size)
  unfolding header_bytes signature le digits
  put = rw (zeros, places, settings)

  pub header_put : 120 ≤ length s → t₃ ≡ over (header_bytes p frames start size) s
  header_put room = put ∙ sym (over_sets (header_bytes p frames start size) s (omega (arith, header_length p frames start size)))

-- ---- the file
module _ (p : PcmSpec) (mode : StereoMode) (s : List ℤ) (frames : Frames) (whole : frames.0 ≡ length s / p.channels) where
  pub file_long : length (encoded_file p mode s) ≡ 120 + 4 * (groups_of frames + 1) + length (joined (encoded_group_at p mode s) (groups_of frames))
  unfolding encoded_file
  file_long = rw (← whole) (assembled_length p frames (encoded_group_at p mode s))

  module _ (start size : ℕ) (starts : start ≡ 120 + 4 * (groups_of frames + 1)) (sized : size ≡ length (joined (encoded_group_at p mode s) (groups_of frames))) where
    file_is : header_bytes p frames start size ++ (table_of (encoded_group_at p mode s) (groups_of frames) ++ joined (encoded_group_at p mode s) (groups_of frames)) ≡ encoded_file p mode s
    unfolding encoded_file assembled
    file_is = rw (starts, sized, ← whole)

    pub file_put : (out : List ℕ) → length (encoded_file p mode s) ≤ length out
        → sets (over (header_bytes p frames start size) out) 120 (table_of (encoded_group_at p mode s) (groups_of frames) ++ joined (encoded_group_at p mode s) (groups_of frames)) ≡ over (encoded_file p mode s) out
    file_put out room =
        let H = header_bytes p frames start size in
        let B = table_of (encoded_group_at p mode s) (groups_of frames) ++ joined (encoded_group_at p mode s) (groups_of frames) in
        let n : 120 ≡ 0 + length H = omega (arith, header_length p frames start size) in
        let front = over_sets H out (omega (arith, header_length p frames start size, file_long)) in
        ap₂ (λ (l : List ℕ) (k : ℕ). sets l k B) front n ∙ sets_join H B out 0 ∙ ap (sets out 0) file_is ∙ sym (over_sets (encoded_file p mode s) out room)

pub ruleset files = (file_long, file_put)
