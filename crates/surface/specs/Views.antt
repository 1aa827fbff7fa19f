-- A surface's fields as plain values.
use Rattle.std.specs.Prelude.{◌≡◌, ℕ, ◌<◌, length, None}
use Rattle.grid.specs.declared.cells.Cell.{Cell}
use Rattle.grid.specs.Cells.{cell_base}
use Rattle.grid.specs.Shapes.{sides}
use Rattle.surface.specs.declared.surfaces.Surface.{Surface}
use Rattle.surface.specs.declared.tables.Numbering.{Numbering as HeldNumbering}
use Rattle.surface.specs.declared.tables.Tables.{Tables as HeldTables}
use Rattle.surface.specs.States.{Numbering, Tables, numbering, tables}
use Rattle.surface.specs.Marches.{State, cell_refusal}

-- the vertices, the tables and the surface that the program holds
abbrev pub numbered : HeldNumbering → Numbering
numbered n = numbering n.map.entries.now n.vertices.items.now n.vertices.count

abbrev pub tabled : HeldTables → Tables
tabled t = tables (numbered t.numbering) t.triangles.items.now t.triangles.count

abbrev pub state : Surface → State
state s = record { sides = sides s.shape; marks = s.marks.now; tables = tabled s.tables }

-- the cell of a number, which no rule about cells and marks forbids to march
pub record Marchable (s : State) (n : ℕ) (c : Cell) : Type 0 where
  pub allowed : cell_refusal s n ≡ None
  pub base : c.base ≡ cell_base s.sides n
  pub marked : n < length s.marks
