-- What a cell needs, and where there is no room for it.
use Rattle.std.specs.Prelude.{ℕ, Bool, cond, not, ◌&&◌, List, length, is_some, Some, None, count_by, Option, nat_le}
use Rattle.grid.specs.declared.geometry.Point.{Point}
use Rattle.grid.specs.declared.geometry.GridEdge.{GridEdge}
use Rattle.refusal.specs.declared.refusals.Refusal.{Refusal}
use Rattle.refusal.specs.declared.refusals.Refusal.TheVariants.{EntryRoom, VertexRoom, TriangleRoom}
use Rattle.grid.specs.Points.{crossed}
use Rattle.grid.specs.Cells.{cell_edges, cell_triangles}
use Rattle.grid.specs.Patterns.{flag_edges, flag_triangles}
use Rattle.grid.specs.EdgeKeys.{vertex_on}
use Rattle.keymap.specs.declared.table.Entry.{Entry}
use Rattle.surface.specs.declared.sizes.Counts.{Counts}

-- the edge has no vertex
abbrev pub bare : List (Option (Entry GridEdge)) → GridEdge → Bool
bare es e = not (is_some (vertex_on es e))

-- it is crossed too
abbrev pub wanting : (Point → Bool) → List (Option (Entry GridEdge)) → GridEdge → Bool
wanting inside es e = crossed inside e && bare es e

-- what a march of the cell at B needs: its crossed edges that have no vertex, and its triangles
unfoldable pub need : (Point → Bool) → List (Option (Entry GridEdge)) → Point → Counts
need inside es B = record { vertices = count_by (wanting inside es) (cell_edges B); triangles = length (cell_triangles inside B) }

-- the same from the flags of its corners
unfoldable pub flag_need : List (Option (Entry GridEdge)) → List Bool → Point → Counts
flag_need es flags B = record { vertices = count_by (bare es) (flag_edges flags B); triangles = length (flag_triangles flags B) }

-- why a need is refused: too few free entries, vertex records or triangle records, in this order
abbrev pub lack : Counts → ℕ → ℕ → ℕ → ℕ → Option Refusal
lack n entries vertices triangles cell =
    cond (nat_le n.vertices entries)
    (cond (nat_le n.vertices vertices)
    (cond (nat_le n.triangles triangles) None (Some (TriangleRoom cell)))
    (Some (VertexRoom cell)))
    (Some (EntryRoom cell))
