-- The sides of a shape, and why a shape is refused.
use Rattle.std.specs.Prelude.{◌≡◌, ℕ, ◌<◌, ◌≤◌, Bool, cond, ◌&&◌, Some, None, Option, ◌==◌, nat_le}
use Rattle.refusal.specs.declared.refusals.Refusal.{Refusal}
use Rattle.refusal.specs.declared.refusals.Refusal.TheVariants.{Side, OtherShape}
use Rattle.refusal.specs.declared.refusals.Axis.TheVariants.{X, Y, Z}
use Rattle.grid.specs.declared.shapes.Shape.{Shape}
use Rattle.grid.specs.declared.cells.Cell.{Cell}
use Rattle.grid.specs.declared.geometry.Point.{Point}
use Rattle.grid.specs.Points.{Sides}
use Rattle.grid.specs.Cells.{cell_count, cell_number, cell_base, Base}

abbrev pub sides : Shape → Sides
sides s = record { nx = s.nx; ny = s.ny; nz = s.nz }

abbrev pub triple : ℕ → ℕ → ℕ → Sides
triple nx ny nz = record { nx = nx; ny = ny; nz = nz }

-- a side that a shape can have
abbrev pub lawful : ℕ → Bool
lawful n = nat_le 1 n && nat_le n 254

-- why three numbers are refused as sides: the lowest axis whose side is not 1 to 254
abbrev pub sides_refusal : Sides → Option Refusal
sides_refusal s = cond (lawful s.nx) (cond (lawful s.ny) (cond (lawful s.nz) None (Some (Side Z))) (Some (Side Y))) (Some (Side X))

-- why a volume with sides t is refused by a surface with sides s: the lowest axis on which they differ
abbrev pub shapes_refusal : Sides → Sides → Option Refusal
shapes_refusal s t = cond (s.nx == t.nx) (cond (s.ny == t.ny) (cond (s.nz == t.nz) None (Some (OtherShape Z))) (Some (OtherShape Y))) (Some (OtherShape X))

-- the cell of the number n: its base has that number; or there is none
abbrev pub CellAt : Sides → ℕ → Option Cell → Type 0
CellAt s n None = cell_count s ≤ n
CellAt s n (Some c) = (n < cell_count s) × (c.base ≡ cell_base s n) × Base s c.base × (cell_number s c.base ≡ n)

-- the number of the cell at a base, or there is none
abbrev pub NumberOf : Sides → Point → Option ℕ → Type 0
NumberOf s b (Some n) = Base s b × (n ≡ cell_number s b)
NumberOf s b None = Base s b → ⊥
