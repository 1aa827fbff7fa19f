-- What a march does.
use Rattle.std.specs.Prelude.{◌≡◌, ℕ, ◌+◌, Bool, true, false, cond, List, length, replicate, Some, None, Ok, Err, Option, Result, nat_lt, slice_index_or, slice_set}
use Rattle.grid.specs.declared.geometry.Point.{Point}
use Rattle.grid.specs.declared.geometry.GridEdge.{GridEdge}
use Rattle.refusal.specs.declared.refusals.Refusal.{Refusal}
use Rattle.refusal.specs.declared.refusals.Refusal.TheVariants.{Outside, Marched, NoMark}
use Rattle.grid.specs.Points.{Sides}
use Rattle.grid.specs.Cells.{cell_count, cell_base, cell_triangles}
use Rattle.grid.specs.Shapes.{shapes_refusal}
use Rattle.keymap.specs.Frees.{free}
use Rattle.grid.specs.declared.geometry.Triangle.{Triangle}
use Rattle.mesh.specs.declared.records.Coordinates.{Coordinates}
use Rattle.mesh.specs.declared.records.Vertex.{Vertex}
use Rattle.surface.specs.declared.sizes.Counts.{Counts}
use Rattle.surface.specs.Needs.{need, lack}
use Rattle.volume.specs.declared.fractions.Fraction.{Fraction}
use Rattle.volume.specs.Insides.{inside_at}
use Rattle.surface.specs.Answers.{place}
use Rattle.surface.specs.Rooms.{room_left}
use Rattle.surface.specs.States.{Tables, tables, numbering, added_all}

-- a surface: the sides of its shape, which cells are marked as marched, and its tables
pub record State : Type 0 where
  pub sides : Sides
  pub marks : List Bool
  pub tables : Tables

-- a volume at a level, as a march sees it: its sides, the points that are inside, and where each crossed edge has its vertex
pub record Field : Type 0 where
  pub sides : Sides
  pub inside : Point → Bool
  pub place : GridEdge → Coordinates

-- the field of a volume of any kind of samples K with levels L: its sides and its samples at the level h
abbrev pub field : {K L : Type 0} → (K → L → Bool) → (K → K → L → Fraction) → L → Sides → (Point → Option K) → Field
field inside crossing h s sample = record { sides = s; inside = inside_at inside h sample; place = place inside crossing h sample }

-- why a surface has no room for a need
abbrev pub room_refusal : Tables → Counts → ℕ → Option Refusal
room_refusal s n cell = lack n (free s.numbered.entries) (room_left (length s.numbered.vertices) s.numbered.count) (room_left (length s.triangles) s.count) cell

-- why a cell cannot be marched: there is no such cell, no mark for it, or it is marched already
abbrev pub cell_refusal : State → ℕ → Option Refusal
cell_refusal s cell =
    cond (nat_lt cell (cell_count s.sides))
    (cond (nat_lt cell (length s.marks))
    (cond (slice_index_or s.marks cell false) (Some (Marched cell)) None)
    (Some (NoMark cell)))
    (Some (Outside cell))

abbrev pub else_by : Option Refusal → Option Refusal → Option Refusal
else_by (Some e) o = Some e
else_by None o = o

-- why a march is refused, if it is: another shape, then the cell, then room
unfoldable pub march_refusal : Field → State → ℕ → Option Refusal
march_refusal f s cell =
    else_by (shapes_refusal s.sides f.sides)
    (else_by (cell_refusal s cell) (room_refusal s.tables (need f.inside s.tables.numbered.entries (cell_base s.sides cell)) cell))

-- the surface after an accepted march
unfoldable pub marched : Field → State → ℕ → State
marched f s cell = record {
  sides = s.sides;
  marks = slice_set s.marks cell true;
  tables = added_all f.place s.tables (cell_triangles f.inside (cell_base s.sides cell));
}

-- a march that took `s` to `t` and answered so
abbrev pub March : Field → State → ℕ → Result Counts Refusal → State → Type 0
March f s cell (Err e) t = (march_refusal f s cell ≡ Some e) × (t ≡ s)
March f s cell (Ok n) t =
    (march_refusal f s cell ≡ None)
    × (n ≡ need f.inside s.tables.numbered.entries (cell_base s.sides cell))
    × (t ≡ marched f s cell)
    × (t.tables.numbered.count ≡ s.tables.numbered.count + n.vertices)

-- a surface as it begins: no cell is marked, no entry is taken, and there are no vertices and no triangles
unfoldable pub begun : Sides → ℕ → ℕ → List Vertex → List (Triangle ℕ) → State
begun s marks entries vs ts = record {
  sides = s;
  marks = replicate marks false;
  tables = tables (numbering (replicate entries None) vs 0) ts 0;
}
