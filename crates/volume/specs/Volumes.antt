-- The volumes: which sample each has at which grid point.
use Rattle.std.specs.Prelude.{ℕ, ◌+◌, ◌-◌, ◌*◌, min, cond, List, Some, None, Option, slice_index_or}
use Rattle.grid.specs.declared.geometry.Point.{Point}
use Rattle.grid.specs.Points.{Sides, sampled}
use Rattle.grid.specs.Shapes.{sides}
use Rattle.volume.specs.declared.samples.Density.{Density}
use Rattle.volume.specs.declared.phantoms.Phantom.{Phantom}
use Rattle.volume.specs.Kinds.{density_stored}

-- the place in a table of the sample at a grid point: sample (i, j, k) lies at (i + 1, j + 1, k + 1), and a table has x fastest
abbrev pub table_place : Sides → Point → ℕ
table_place s p = (p.x - 1) + s.nx * ((p.y - 1) + s.ny * (p.z - 1))

-- what an entry stands for, if it is there
abbrev pub entry_sample : {E K : Type 0} → (E → Option K) → Option E → Option K
entry_sample stored None = None
entry_sample stored (Some e) = stored e

-- the sample at a grid point of a table volume: that of its entry, and none on the border, beyond it, or beyond the table's end
abbrev pub table_sample : {E K : Type 0} → (E → Option K) → Sides → List (Option E) → Point → Option K
table_sample stored s entries p = cond (sampled s p) (entry_sample stored (slice_index_or entries (table_place s p) None)) None

-- the square of the distance between two coordinates
abbrev pub square_apart : ℕ → ℕ → ℕ
square_apart a b = ((a - b) + (b - a)) * ((a - b) + (b - a))

-- the squared distance of the sample at a grid point from the phantom's centre
abbrev pub squared_distance : Phantom → Point → ℕ
squared_distance v p = square_apart (p.x - 1) v.cx + square_apart (p.y - 1) v.cy + square_apart (p.z - 1) v.cz

-- the sample of a phantom at a grid point
abbrev pub phantom_sample : Phantom → Point → Option Density
phantom_sample v p = cond (sampled (sides v.shape) p) (density_stored (65535 - min 65535 (squared_distance v p))) None
