-- The two containers that samples are lent in, side by side: as numbers, or as bytes, four to a sample.
use Rattle.std.specs.Prelude.{ℕ, List, [], ℤ}
use Rattle.format.specs.Boundary.{samples_from}
use Rattle.lent_samples.specs.Lent.{bytes_behind}

pub data Container : Type 0 where
  Words : Container
  Bytes : Container

-- the samples that are lent, of the words w and the bytes b
abbrev pub lent_of : Container → List ℤ → List ℕ → List ℤ
lent_of Words w b = w
lent_of Bytes w b = samples_from b

-- what is lent besides
pub record Rest : Type 0 where
  pub words : List ℤ
  pub bytes : List ℕ

abbrev pub rest_of : Container → List ℤ → List ℕ → Rest
rest_of Words w b = record { words = []; bytes = b }
rest_of Bytes w b = record { words = w; bytes = bytes_behind b }
