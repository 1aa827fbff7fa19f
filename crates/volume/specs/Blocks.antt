-- Cells whose corners all have samples, and where a table has these.
use Rattle.std.specs.Prelude.{ℕ, ◌+◌, ◌<◌, ◌≤◌, Bool, List, [], ◌∷◌, Option}
use Rattle.grid.specs.declared.geometry.Point.{Point}
use Rattle.grid.specs.Points.{Sides}
use Rattle.volume.specs.Insides.{answer_inside}
use Rattle.volume.specs.Volumes.{entry_sample}

-- the block has a sample at each corner of the cell at B
pub record Inner (s : Sides) (B : Point) : Type 0 where
  pub x_low : 1 ≤ B.x
  pub x_high : B.x < s.nx
  pub y_low : 1 ≤ B.y
  pub y_high : B.y < s.ny
  pub z_low : 1 ≤ B.z
  pub z_high : B.z < s.nz

-- an entry is there and stands for a sample that is inside
abbrev pub entry_inside : {E K L : Type 0} → (E → Option K) → (K → L → Bool) → L → Option E → Bool
entry_inside stored inside h entry = answer_inside inside h (entry_sample stored entry)

-- the places in a table of a cell's eight corners by their codes, where the first is at `at`
abbrev pub block : ℕ → ℕ → ℕ → List ℕ
block at row layer =
    at ∷ (at + 1) ∷ (at + row) ∷ (at + row + 1) ∷ (at + layer) ∷ (at + layer + 1) ∷ (at + layer + row) ∷ (at + layer + row + 1) ∷ []
