-- A block's mark, compared as a number: four bytes are the same where the numbers that they are, are.
use Rattle.std.proofs.Common.{◌≡◌, ℕ, ◌≤◌, List, length, get_or, refl, eqb, w8, Fits}
use Rattle.format.specs.Lists.{every}
use Rattle.format.specs.Numbers.{num, num_at}
use Rattle.format.specs.Blocks.{block_mark, is_block}
use Rattle.laws.proofs.Marks.{begins}

pub block_number : (s : List ℕ) → 4 ≤ length s → ((i : ℕ) → Fits w8 (get_or s i 0)) → is_block s ≡ eqb (num_at 0 4 s) 0x3E9A_0C16
unfolding is_block block_mark num every
block_number s long bytes = begins block_mark s long refl (λ i. (bytes i).fits)
