-- A cell's triangles and crossed edges from the flags of its eight corners.
use Rattle.std.specs.Prelude.{ℕ, ◌+◌, Bool, false, List, [], ◌∷◌, map, filter, slice_index_or}
use Rattle.std.specs.List.{flat_map}
use Rattle.grid.specs.declared.geometry.Point.{Point}
use Rattle.grid.specs.declared.geometry.GridEdge.{GridEdge}
use Rattle.grid.specs.declared.geometry.Triangle.{Triangle}
use Rattle.grid.specs.declared.geometry.Span.{Span}
use Rattle.grid.specs.Points.{◌⊕◌, offset, differ}
use Rattle.grid.specs.Cells.{corner, odd, pack, placed}
use Rattle.grid.specs.Cases.{row}

-- the corner codes
abbrev pub codes : List ℕ
codes = 0 ∷ 1 ∷ 2 ∷ 3 ∷ 4 ∷ 5 ∷ 6 ∷ 7 ∷ []

-- which of the corners 0 to 7 of the cell at B are inside
unfoldable pub corner_flags : (Point → Bool) → Point → List Bool
corner_flags inside B = map (λ c. inside (B ⊕ offset c)) codes

abbrev pub flag : List Bool → ℕ → Bool
flag flags c = slice_index_or flags c false

-- the mask of a tetrahedron
unfoldable pub flag_mask : List Bool → ℕ → ℕ
flag_mask flags t = pack (flag flags (corner t 0)) (flag flags (corner t 1)) (flag flags (corner t 2)) (flag flags (corner t 3))

-- the triangles of one tetrahedron, and of all six
unfoldable pub flag_tet : List Bool → Point → ℕ → List (Triangle GridEdge)
flag_tet flags B t = map (placed B t) (row (odd t) (flag_mask flags t))

abbrev pub six : List ℕ
six = 0 ∷ 1 ∷ 2 ∷ 3 ∷ 4 ∷ 5 ∷ []

unfoldable pub flag_triangles : List Bool → Point → List (Triangle GridEdge)
flag_triangles flags B = flat_map (flag_tet flags B) six

abbrev span : ℕ → ℕ → Span
span c d = record { corner = c; direction = d }

abbrev pub no_span : Span
no_span = span 0 0

-- the nineteen edges of a cell: from each corner in each direction that stays in the cell
abbrev pub spans : List Span
spans =
    span 0 1 ∷ span 0 2 ∷ span 0 3 ∷ span 0 4 ∷ span 0 5 ∷ span 0 6 ∷ span 0 7 ∷ span 1 2 ∷ span 1 4 ∷ span 1 6 ∷ span 2 1 ∷ span 2 4 ∷ span 2 5
    ∷ span 3 4 ∷ span 4 1 ∷ span 4 2 ∷ span 4 3 ∷ span 5 2 ∷ span 6 1 ∷ []

-- the span of the cell at B
abbrev pub span_edge : Point → Span → GridEdge
span_edge B s = record { low = B ⊕ offset s.corner; direction = s.direction }

-- one end of the span is inside, and the other is not
abbrev pub span_crossed : List Bool → Span → Bool
span_crossed flags s = differ (flag flags s.corner) (flag flags (s.corner + s.direction))

-- the crossed edges of the cell at B
unfoldable pub flag_edges : List Bool → Point → List GridEdge
flag_edges flags B = map (span_edge B) (filter (span_crossed flags) spans)
