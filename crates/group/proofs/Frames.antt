-- The groups of interleaved samples, each a run of frames.
use Prim.Native.Nat.{ℕ, ◌+◌, ◌*◌, ◌≤◌, ◌<◌}
use mathlib.Core.Path.{◌≡◌, sym, ap, ap₂, ◌∙◌}
use mathlib.Core.List.{List}
use native.Mathlib.Nat.{mul_comm, mul_assoc, mul-le-mul_left}
use native.Mathlib.Omega.{arith}
use lib.IntN.{ℤ}
use lib.ListN.{length, take, drop}
use lib.Seq.{take_all, take-take}
use Rattle.format.specs.Lists.{from}
use Rattle.format.specs.Header.{groups_of}
use Rattle.format.specs.Units.{active}
use Rattle.format.specs.Encoding.{group_in}
use Rattle.format.specs.declared.units.Frames.{Frames}
use Rattle.laws.proofs.Channels.{active_low, group_length}
use Rattle.lent_samples.specs.Lent.{frames_from}

module _ (n : ℕ) (frames : Frames) (s : List ℤ) (l : length s ≡ n * frames.0) where
  pub group_frames : (g k : ℕ) → k ≡ active frames g → frames_from n (512 * g) k s ≡ group_in n s g
  unfolding group_in frames_from from
  group_frames g k count =
      let a = active frames g in
      let x = drop (512 * n * g) s in
      let long : length (take (512 * n) x) ≡ a * n = group_length n frames s l g ∙ mul_comm n a in
      let few : a * n ≤ 512 * n = omega (arith, mul-le-mul_left n (active_low frames g), mul_comm n a, mul_comm n 512) in
      let e : 512 * g * n ≡ 512 * n * g = mul_assoc 512 g n ∙ ap (λ (y : ℕ). 512 * y) (mul_comm g n) ∙ sym (mul_assoc 512 n g) in
      ap₂ (λ (y z : ℕ). take (y * n) (drop z s)) count e ∙ sym (take-take (a * n) (512 * n) x few) ∙ take_all (a * n) (take (512 * n) x) (omega arith)

  pub group_inside : (g : ℕ) → g < groups_of frames → (512 * g + active frames g) * n ≤ length s
  unfolding groups_of active
  group_inside g h =
      let q : 512 * g + active frames g ≤ frames.0 = omega arith in
      omega (arith, mul-le-mul_left n q, mul_comm n (512 * g + active frames g))
