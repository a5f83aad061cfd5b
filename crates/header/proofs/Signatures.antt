-- The file's signature, compared as a number: eight bytes are the same where the numbers that they are, are.
use Prim.Native.Nat.{ℕ, ◌≤◌}
use mathlib.Core.Path.{◌≡◌, refl}
use mathlib.Core.Bool.{true, false, ◌||◌}
use mathlib.Core.List.{List}
use lib.Dec.{eqb}
use lib.ListN.{length}
use borrow.Author.Tests.{ne_eqb}
use Rattle.format.specs.Lists.{every}
use Rattle.format.specs.Numbers.{num, num_at, Below}
use Rattle.format.specs.Header.{signature, is_signature}
use Rattle.laws.proofs.Marks.{begins}

module _ (s : List ℕ) (long : 8 ≤ length s) (bytes : Below 256 s) where
  signature_number : is_signature s ≡ (eqb (num_at 0 8 s) 0x00000131D69EA801 || eqb (num_at 0 8 s) 0x00000130D69EA801)
  unfolding is_signature signature num every
  signature_number = rw (begins (signature 0x31) s long refl bytes, begins (signature 0x30) s long refl bytes)

  pub signed_31 : (n : ℕ) → n ≡ num_at 0 8 s → n ≡ 0x00000131D69EA801 → true ≡ is_signature s
  signed_31 n e h = rw (signature_number, ← e, h)

  pub signed_30 : (n : ℕ) → n ≡ num_at 0 8 s → n ≡ 0x00000130D69EA801 → true ≡ is_signature s
  signed_30 n e h = rw (signature_number, ← e, h)

  pub unsigned : (n : ℕ) → n ≡ num_at 0 8 s → (n ≡ 0x00000131D69EA801 → ⊥) → (n ≡ 0x00000130D69EA801 → ⊥) → false ≡ is_signature s
  unsigned n e h k = rw (signature_number, ← e, ne_eqb _ _ h, ne_eqb _ _ k)
