-- A group that can be read.
use Rattle.std.specs.Prelude.{ℕ, ◌≤◌, ◌≡◌, List}
use Rattle.format.specs.Refusals.{Fine}
use Rattle.format.specs.Decoding.{check_group}
use Rattle.format.specs.declared.settings.SampleFormat.{SampleFormat}
use Rattle.format.specs.declared.answers.Fields.{Fields}

-- bs are the bytes of a group, whose checks have passed
pub record Readable (h : Fields) (f : SampleFormat) (bs : List ℕ) : Type 0 where
  pub some : 1 ≤ h.channels
  pub least : 1 ≤ h.depth
  pub most : h.depth ≤ 32
  pub fine : check_group h f bs ≡ Fine
