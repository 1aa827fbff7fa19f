-- Cells, their six tetrahedra, and the triangles that the case table gives them.
use Rattle.std.specs.Prelude.{ℕ, ◌+◌, ◌-◌, ◌*◌, ◌/◌, ◌%◌, ◌≤◌, Bool, true, false, List, [], ◌∷◌, map, slice_index, slice_index_or}
use Rattle.std.specs.List.{flat_map}
use Rattle.grid.specs.declared.geometry.Point.{Point}
use Rattle.grid.specs.declared.geometry.GridEdge.{GridEdge}
use Rattle.grid.specs.declared.geometry.Triangle.{Triangle}
use Rattle.grid.specs.declared.geometry.TetEdge.{TetEdge}
use Rattle.grid.specs.Points.{Sides, ◌⊕◌, offset}
use Rattle.grid.specs.Cases.{low_position, high_position, row}

-- how many cells a grid has, the number of the cell at a base, and the base of the cell of a number
abbrev pub cell_count : Sides → ℕ
cell_count s = (s.nx + 1) * ((s.ny + 1) * (s.nz + 1))

abbrev pub cell_number : Sides → Point → ℕ
cell_number s b = b.x + (s.nx + 1) * (b.y + (s.ny + 1) * b.z)

abbrev pub cell_base : Sides → ℕ → Point
cell_base s n = record { x = n % (s.nx + 1); y = n / (s.nx + 1) % (s.ny + 1); z = n / (s.nx + 1) / (s.ny + 1) }

-- the bases of the grid's cells
pub record Base (s : Sides) (b : Point) : Type 0 where
  pub x : b.x ≤ s.nx
  pub y : b.y ≤ s.ny
  pub z : b.z ≤ s.nz

-- the corner codes of the tetrahedra at their positions 0 to 3
unfoldable pub tetrahedra : List (List ℕ)
tetrahedra =
    (0 ∷ 1 ∷ 3 ∷ 7 ∷ [])
    ∷ (0 ∷ 1 ∷ 5 ∷ 7 ∷ [])
    ∷ (0 ∷ 2 ∷ 3 ∷ 7 ∷ [])
    ∷ (0 ∷ 2 ∷ 6 ∷ 7 ∷ [])
    ∷ (0 ∷ 4 ∷ 5 ∷ 7 ∷ [])
    ∷ (0 ∷ 4 ∷ 6 ∷ 7 ∷ [])
    ∷ []

-- the corner code of tetrahedron t at position m
unfoldable pub corner : ℕ → ℕ → ℕ
corner t m = slice_index (slice_index_or tetrahedra t []) m

-- T1, T2 and T5 are odd, and T0, T3 and T4 even
unfoldable pub odd : ℕ → Bool
odd t = slice_index_or (false ∷ true ∷ true ∷ false ∷ false ∷ true ∷ []) t false

-- the corner of the tetrahedron t of the cell at B, at position m
unfoldable pub vertex : Point → ℕ → ℕ → Point
vertex B t m = B ⊕ offset (corner t m)

-- the grid edge between two of its corners
unfoldable pub edge : Point → ℕ → TetEdge → GridEdge
edge B t mn = record { low = vertex B t (low_position mn); direction = corner t (high_position mn) - corner t (low_position mn) }

unfoldable pub value : Bool → ℕ
value true = 1
value false = 0

unfoldable pub pack : Bool → Bool → Bool → Bool → ℕ
pack p q r s = value p + 2 * value q + 4 * value r + 8 * value s

-- the mask of a tetrahedron: bit m is set where the corner at position m is inside
unfoldable pub mask : (Point → Bool) → Point → ℕ → ℕ
mask inside B t = pack (inside (vertex B t 0)) (inside (vertex B t 1)) (inside (vertex B t 2)) (inside (vertex B t 3))

unfoldable pub placed : Point → ℕ → Triangle TetEdge → Triangle GridEdge
placed B t τ = record { a = edge B t τ.a; b = edge B t τ.b; c = edge B t τ.c }

-- the triangles of the tetrahedron t of the cell at B, by the grid edges that carry their corners
unfoldable pub tet_triangles : (Point → Bool) → Point → ℕ → List (Triangle GridEdge)
tet_triangles inside B t = map (placed B t) (row (odd t) (mask inside B t))

-- the triangles of the cell at B, tetrahedron by tetrahedron
unfoldable pub cell_triangles : (Point → Bool) → Point → List (Triangle GridEdge)
cell_triangles inside B = flat_map (tet_triangles inside B) (0 ∷ 1 ∷ 2 ∷ 3 ∷ 4 ∷ 5 ∷ [])

-- the nineteen grid edges of the cell at B: from each corner in each direction that stays in the cell
unfoldable pub cell_edges : Point → List GridEdge
cell_edges B = flat_map (λ c. map (λ d. record { low = B ⊕ offset c; direction = d }) (directions c)) (0 ∷ 1 ∷ 2 ∷ 3 ∷ 4 ∷ 5 ∷ 6 ∷ [])
  where
    directions : ℕ → List ℕ
    directions c = slice_index_or ((1 ∷ 2 ∷ 3 ∷ 4 ∷ 5 ∷ 6 ∷ 7 ∷ []) ∷ (2 ∷ 4 ∷ 6 ∷ []) ∷ (1 ∷ 4 ∷ 5 ∷ []) ∷ (4 ∷ []) ∷ (1 ∷ 2 ∷ 3 ∷ []) ∷ (2 ∷ []) ∷ (1 ∷ []) ∷ []) c []
