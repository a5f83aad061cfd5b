-- What calls with signed arguments ensure.
-- (A signed argument reaches its callee, and a signed result its caller, as what the machine reads back from the
-- bits: `to_z w32 (of_z w32 z)`.)
use Rattle.std.proofs.Common.{◌≡◌, ℕ, ◌^◌, ◌<◌, ℤ, ap, ◌∙◌, ap₂, w32, SFits, to_z, of_z}
use lib.Signed.{mag}
use mir.ValLaws.{to_z-of_z}
use Rattle.format.specs.Numbers.{value, code_of}

-- a result that is returned
pub given : {r v : ℤ} → mag r < 2 ^ 31 → r ≡ v → to_z w32 (of_z w32 r) ≡ v
given {r} h e = to_z-of_z w32 r (record { sfits = h }) ∙ e

-- the bits of an argument
bits_back : {a : ℤ} {x : ℕ} → SFits w32 a → x ≡ code_of 32 (to_z w32 (of_z w32 a)) → x ≡ code_of 32 a
bits_back {a} f p = p ∙ ap (code_of 32) (to_z-of_z w32 a f)

-- a call with two signed arguments and a signed result
pub called : (op : ℤ → ℤ → ℤ) {a b r : ℤ} → SFits w32 a → SFits w32 b → mag r < 2 ^ 31 → r ≡ op (to_z w32 (of_z w32 a)) (to_z w32 (of_z w32 b)) → to_z w32 (of_z w32 r) ≡ op a b
called op {a} {b} f g h e = given h (e ∙ ap₂ op (to_z-of_z w32 a f) (to_z-of_z w32 b g))

-- `of_bits` of what is computed of the bits of both arguments
pub on_bits : (op : ℕ → ℕ → ℕ) {a b r : ℤ} {x y s : ℕ} → SFits w32 a → SFits w32 b → mag r < 2 ^ 31
    → x ≡ code_of 32 (to_z w32 (of_z w32 a)) → y ≡ code_of 32 (to_z w32 (of_z w32 b)) → r ≡ value 32 s → s ≡ op x y
    → to_z w32 (of_z w32 r) ≡ value 32 (op (code_of 32 a) (code_of 32 b))
on_bits op f g h p q v e = given h (v ∙ ap (value 32) (e ∙ ap₂ op (bits_back f p) (bits_back g q)))
