-- A refusal and its place as one number: which it is, and that it fits.
use Rattle.std.specs.Prelude.{Err}
use Prim.Native.Nat.{ℕ, ◌+◌, ◌*◌, ◌^◌, ◌<◌}
use mathlib.Core.Path.{◌≡◌, sym, ap, ap₂, ◌∙◌}
use native.Mathlib.Omega.{arith}
use mir.Syntax.{w64}
use mir.Val.{Fits}
use Rattle.format.specs.Refusals.{Checked, Fine, No, number, told, nowhere}
use Rattle.format.specs.Boundary.{misfit_told, refusal_word}
use Rattle.format.specs.declared.refusals.Refusal.{Refusal}
use Rattle.format.specs.declared.refusals.Told.{Told}
use Rattle.format.specs.declared.refusals.Place.{Place}
use Rattle.format.specs.declared.refusals.RefusedAt.{RefusedAt}
use Rattle.laws.proofs.Checks.{same_place}

pub word_fine : (k : Checked) → k ≡ Fine → 0 ≡ refusal_word k
word_fine k e = sym (ap refusal_word e)

-- what names no group
pub nowhere_few : (refused : RefusedAt) → refused.place ≡ nowhere → (r : Refusal) (at : Place) → Err refused ≡ No r at → at.group < 8388608
nowhere_few refused none r at e = let q : refused.place ≡ at = same_place e in omega (arith, ap (λ (p : Place). p.group) q, ap (λ (p : Place). p.group) none)

-- its number, with that place
pub nowhere_word : (refused : RefusedAt) (x : Refusal) (word : ℕ) → word ≡ refusal_word (Err refused) → refused.why ≡ x → refused.place ≡ nowhere → word ≡ refusal_word (No x nowhere)
nowhere_word refused x word e why place = e ∙ ap₂ (λ (y : Refusal) (p : Place). refusal_word (No y p)) why place

module _ (k : Checked) (few : (r : Refusal) (at : Place) → k ≡ No r at → at.group < 8388608) (r : Refusal) (at : Place) (e : k ≡ No r at) where
  pub group_fits : Fits w64 (2 ^ 40 * at.group)
  group_fits = record { fits = omega (arith, few r at e) }

  -- n and m are of 32 and 16 bits, the channel too
  pub word_fits : (n m : ℕ) → n < 2 ^ 32 → m < 2 ^ 16 → at.channel < 2 ^ 16 → Fits w64 (n + 2 ^ 8 * m + 2 ^ 24 * at.channel + 2 ^ 40 * at.group)
  word_fits n m ln lm lc = record { fits = omega (arith, few r at e) }

  pub word_is : (n m : ℕ) (t : Told) → n ≡ number r → t ≡ told r → m ≡ misfit_told t → (n + 2 ^ 8 * m + 2 ^ 24 * at.channel + 2 ^ 40 * at.group) ≡ refusal_word k
  word_is n m t en et em =
      ap₂ (λ (x y : ℕ). x + 2 ^ 8 * y + 2 ^ 24 * at.channel + 2 ^ 40 * at.group) en (em ∙ ap misfit_told et) ∙ sym (ap refusal_word e)
