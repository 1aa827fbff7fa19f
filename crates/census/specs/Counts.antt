-- The census of a grid, what of it starts at one point, and its Euler number.
use Rattle.std.specs.Prelude.{◌≡◌, ℕ, ◌+◌, ◌^◌, ◌≤◌, Bool, List, [], ◌∷◌, map, ℤ, pos, ◌+ℤ◌, ◌-ℤ◌, count_by}
use Rattle.std.specs.List.{list_all}
use Rattle.grid.specs.declared.geometry.Point.{Point}
use Rattle.grid.specs.Points.{Sides}
use Rattle.grid.specs.Cells.{tetrahedra}
use Rattle.grid.specs.Patterns.{flag}
use Rattle.topology.specs.Census.{N0, N1, N2, N3, every_inside, directions, triangle_codes}
use Rattle.census.specs.declared.counts.Census.{Census}

-- its numbers are those of the grid's points, edges, triangles and tetrahedra with all corners inside
pub record Taken (n : Sides) (inside : Point → Bool) (c : Census) : Type 0 where
  pub points : c.points ≡ N0 n inside
  pub edges : c.edges ≡ N1 n inside
  pub triangles : c.triangles ≡ N2 n inside
  pub tetrahedra : c.tetrahedra ≡ N3 n inside

-- it counts nothing
pub record Nothing (c : Census) : Type 0 where
  pub points : c.points ≡ 0
  pub edges : c.edges ≡ 0
  pub triangles : c.triangles ≡ 0
  pub tetrahedra : c.tetrahedra ≡ 0

-- two of them may be added: no number of the sum is above the limit
pub record SumFits (a b : Census) : Type 0 where
  pub points : a.points + b.points ≤ 2 ^ 40
  pub edges : a.edges + b.edges ≤ 2 ^ 40
  pub triangles : a.triangles + b.triangles ≤ 2 ^ 40
  pub tetrahedra : a.tetrahedra + b.tetrahedra ≤ 2 ^ 40

-- their sum, number by number
pub record Sum (a b c : Census) : Type 0 where
  pub points : c.points ≡ a.points + b.points
  pub edges : c.edges ≡ a.edges + b.edges
  pub triangles : c.triangles ≡ a.triangles + b.triangles
  pub tetrahedra : c.tetrahedra ≡ a.tetrahedra + b.tetrahedra

-- points - edges + triangles - tetrahedra
abbrev pub euler_number : Census → ℤ
euler_number c = pos c.points -ℤ pos c.edges +ℤ pos c.triangles -ℤ pos c.tetrahedra

-- the corner codes of what starts at a point: the point itself, and its edges, triangles and tetrahedra, of which it is the lowest corner
abbrev pub point_codes : List (List ℕ)
point_codes = (0 ∷ []) ∷ []

abbrev pub edge_codes : List (List ℕ)
edge_codes = map (λ d. 0 ∷ d ∷ []) directions

-- how many of these have all corners inside
unfoldable pub starting : (Point → Bool) → List (List ℕ) → Point → ℕ
starting inside simplices P = count_by (every_inside inside P) simplices

-- it counts what starts at P, and that is at most twelve of each
pub record Starting (inside : Point → Bool) (P : Point) (c : Census) : Type 0 where
  pub points : c.points ≡ starting inside point_codes P
  pub edges : c.edges ≡ starting inside edge_codes P
  pub triangles : c.triangles ≡ starting inside triangle_codes P
  pub tetrahedra : c.tetrahedra ≡ starting inside Rattle.grid.specs.Cells.tetrahedra P
  pub few : (c.points ≤ 12) × (c.edges ≤ 12) × (c.triangles ≤ 12) × (c.tetrahedra ≤ 12)

-- how many of some simplices have all corners inside, by the flags of the corners of their cell
unfoldable pub flag_starting : List Bool → List (List ℕ) → ℕ
flag_starting flags simplices = count_by (λ corners. list_all (λ c. flag flags c) corners) simplices

-- it counts what starts at the base of a cell with these flags, and that is at most twelve of each
pub record FlagsStarting (flags : List Bool) (c : Census) : Type 0 where
  pub points : c.points ≡ flag_starting flags point_codes
  pub edges : c.edges ≡ flag_starting flags edge_codes
  pub triangles : c.triangles ≡ flag_starting flags triangle_codes
  pub tetrahedra : c.tetrahedra ≡ flag_starting flags Rattle.grid.specs.Cells.tetrahedra
  pub few : (c.points ≤ 12) × (c.edges ≤ 12) × (c.triangles ≤ 12) × (c.tetrahedra ≤ 12)
