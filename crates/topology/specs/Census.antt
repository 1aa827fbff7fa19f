-- The census of a grid, and the counts of its surface.
use Rattle.std.specs.Prelude.{◌≡◌, ℕ, zero, suc, ◌+◌, ◌*◌, ◌<◌, Bool, true, cond, ◌&&◌, List, [], ◌∷◌, map, length, sum_by, count_by}
use Rattle.std.specs.List.{ContainsAt as Has}
use Rattle.grid.specs.declared.geometry.Point.{Point}
use Rattle.grid.specs.declared.geometry.GridEdge.{GridEdge}
use Rattle.grid.specs.Points.{Sides, ◌⊕◌, offset, top, in_grid, crossed}
use Rattle.grid.specs.Cells.{Base, cell_count, cell_base, tetrahedra, cell_triangles}
use Rattle.grid.specs.GridTriangles.{Part}
use Rattle.topology.specs.Crossings.{NoRepeat}
use Rattle.topology.specs.Sides.{Padded}

-- the sum of f at 0, 1, .., n - 1
abbrev pub Σ : ℕ → (ℕ → ℕ) → ℕ
Σ zero f = 0
Σ (suc n) f = Σ n f + f n

-- the sum of f over all points of a grid, whose coordinates run from 0 to the side plus 1
unfoldable pub over_points : Sides → (Point → ℕ) → ℕ
over_points n f = Σ (n.nz + 2) (λ z. Σ (n.ny + 2) (λ y. Σ (n.nx + 2) (λ x. f (record { x = x; y = y; z = z }))))

-- the sum of f over all cells, by their numbers
unfoldable pub over_cells : Sides → (Point → ℕ) → ℕ
over_cells n f = Σ (cell_count n) (λ k. f (cell_base n k))

-- P moved by each of the corner codes is inside; this as 1 or 0; and at how many points P of the grid it holds
abbrev pub every_inside : (Point → Bool) → Point → List ℕ → Bool
every_inside inside P [] = true
every_inside inside P (c ∷ more) = inside (P ⊕ offset c) && every_inside inside P more

unfoldable pub full : (Point → Bool) → List ℕ → Point → ℕ
full inside codes P = cond (every_inside inside P codes) 1 0

unfoldable pub count : Sides → (Point → Bool) → List ℕ → ℕ
count n inside codes = over_points n (full inside codes)

-- the seven directions, and the corner codes of the twelve grid triangles at a point
abbrev pub directions : List ℕ
directions = 1 ∷ 2 ∷ 3 ∷ 4 ∷ 5 ∷ 6 ∷ 7 ∷ []

abbrev pub triangle_codes : List (List ℕ)
triangle_codes =
    (0 ∷ 1 ∷ 3 ∷ []) ∷ (0 ∷ 1 ∷ 5 ∷ []) ∷ (0 ∷ 1 ∷ 7 ∷ []) ∷ (0 ∷ 2 ∷ 3 ∷ []) ∷ (0 ∷ 2 ∷ 6 ∷ []) ∷ (0 ∷ 2 ∷ 7 ∷ []) ∷
    (0 ∷ 3 ∷ 7 ∷ []) ∷ (0 ∷ 4 ∷ 5 ∷ []) ∷ (0 ∷ 4 ∷ 6 ∷ []) ∷ (0 ∷ 4 ∷ 7 ∷ []) ∷ (0 ∷ 5 ∷ 7 ∷ []) ∷ (0 ∷ 6 ∷ 7 ∷ []) ∷ []

-- these are the grid triangles: the bits of the second code are a proper and non-empty part of those of the third
abbrev pub TrianglesListed : Type 0
TrianglesListed = (a b : ℕ) →
    (Has triangle_codes (0 ∷ a ∷ b ∷ []) → Part a b) × (Part a b → Has triangle_codes (0 ∷ a ∷ b ∷ []))

-- how many points, edges, triangles and tetrahedra have all corners inside
abbrev pub N0 : Sides → (Point → Bool) → ℕ
N0 n inside = count n inside (0 ∷ [])

abbrev pub N1 : Sides → (Point → Bool) → ℕ
N1 n inside = sum_by (λ d. count n inside (0 ∷ d ∷ [])) directions

abbrev pub N2 : Sides → (Point → Bool) → ℕ
N2 n inside = sum_by (count n inside) triangle_codes

abbrev pub N3 : Sides → (Point → Bool) → ℕ
N3 n inside = sum_by (count n inside) tetrahedra

-- how many grid edges are crossed: at each point the seven edges of which it is the lower end
abbrev pub edges_from : Point → List GridEdge
edges_from P = map (λ d. record { low = P; direction = d }) directions

abbrev pub V : Sides → (Point → Bool) → ℕ
V n inside = over_points n (λ P. count_by (crossed inside) (edges_from P))

-- an edge from a border point may leave the grid, but then it is not crossed
abbrev pub CrossedInGrid : Type 0
CrossedInGrid = (n : Sides) (inside : Point → Bool) → Padded n inside → (e : GridEdge) → crossed inside e ≡ true →
    (in_grid n e.low ≡ true) × (in_grid n (top e) ≡ true)

-- how many triangles all cells have
abbrev pub F : Sides → (Point → Bool) → ℕ
F n inside = over_cells n (λ B. length (cell_triangles inside B))

-- the sum over the cells, axis by axis
abbrev pub CellSums : Type 0
CellSums = (n : Sides) (f : Point → ℕ) →
    over_cells n f ≡ Σ (n.nz + 1) (λ z. Σ (n.ny + 1) (λ y. Σ (n.nx + 1) (λ x. f (record { x = x; y = y; z = z }))))

-- a list that has each crossed edge once has V members, whatever its order
abbrev pub VerticesCounted : Type 0
VerticesCounted = (n : Sides) (inside : Point → Bool) → Padded n inside → (es : List GridEdge) → NoRepeat es →
    ((e : GridEdge) → Has es e → (0 < e.direction) × (e.direction < 8) × (crossed inside e ≡ true)) →
    ((e : GridEdge) → 0 < e.direction → e.direction < 8 → crossed inside e ≡ true → Has es e) →
    length es ≡ V n inside

-- a sum over a list that has each cell once is the sum over all cells, whatever its order
abbrev pub CellsCounted : Type 0
CellsCounted = (n : Sides) (f : Point → ℕ) (cells : List Point) → NoRepeat cells →
    ((B : Point) → Has cells B → Base n B) → ((B : Point) → Base n B → Has cells B) →
    sum_by f cells ≡ over_cells n f

abbrev pub Euler : Type 0
Euler = (n : Sides) (inside : Point → Bool) → Padded n inside →
    (V n inside + 2 * N1 n inside ≡ 14 * N0 n inside) × (F n inside + 4 * N2 n inside ≡ 24 * N0 n inside + 4 * N3 n inside)
