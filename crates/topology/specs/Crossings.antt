-- Which grid edges the triangles of a cell name, and how many triangles a cell has.
use Rattle.std.specs.Prelude.{◌≡◌, ℕ, zero, suc, ◌+◌, ◌<◌, Bool, true, false, ◌⊎◌, List, [], ◌∷◌, length, sum_by, count_by, ◌≢◌, count_ones}
use Rattle.std.specs.List.{ContainsAt as Has}
use Rattle.grid.specs.declared.geometry.Point.{Point}
use Rattle.grid.specs.declared.geometry.GridEdge.{GridEdge}
use Rattle.grid.specs.declared.geometry.Triangle.{Triangle}
use Rattle.grid.specs.declared.geometry.TetEdge.{TetEdge}
use Rattle.grid.specs.Points.{crossed}
use Rattle.grid.specs.Cells.{vertex, edge, value, mask, tet_triangles, cell_triangles, cell_edges}

-- e is a corner of the triangle
abbrev pub CornerOf : Triangle GridEdge → GridEdge → Type 0
CornerOf τ e = (τ.a ≡ e) ⊎ ((τ.b ≡ e) ⊎ (τ.c ≡ e))

-- e is a corner of some triangle of the list
pub record Named (ts : List (Triangle GridEdge)) (e : GridEdge) : Type 0 where
  pub triangle : Triangle GridEdge
  pub has : Has ts triangle
  pub corner : CornerOf triangle e

-- e is an edge of the tetrahedron t of the cell at B
pub record IsTetEdge (B : Point) (t : ℕ) (e : GridEdge) : Type 0 where
  pub which : TetEdge
  pub is : edge B t which ≡ e

-- the triangles of a tetrahedron name exactly the crossed ones of its six edges
abbrev pub TetCrossings : Type 0
TetCrossings = (inside : Point → Bool) (B : Point) (t : ℕ) → t < 6 → (e : GridEdge) →
    (Named (tet_triangles inside B t) e → IsTetEdge B t e × (crossed inside e ≡ true))
    × (IsTetEdge B t e → crossed inside e ≡ true → Named (tet_triangles inside B t) e)

-- the triangles of a cell name exactly the crossed ones of its nineteen edges
abbrev pub CellCrossings : Type 0
CellCrossings = (inside : Point → Bool) (B : Point) (e : GridEdge) →
    (Named (cell_triangles inside B) e → Has (cell_edges B) e × (crossed inside e ≡ true))
    × (Has (cell_edges B) e → crossed inside e ≡ true → Named (cell_triangles inside B) e)

-- no two corners are one edge
pub record Apart (τ : Triangle GridEdge) : Type 0 where
  pub ab : τ.a ≡ τ.b → ⊥
  pub bc : τ.b ≡ τ.c → ⊥
  pub ca : τ.c ≡ τ.a → ⊥

abbrev pub CornersDiffer : Type 0
CornersDiffer = (inside : Point → Bool) (B : Point) (τ : Triangle GridEdge) → Has (cell_triangles inside B) τ → Apart τ

-- no member of the list occurs in it again
abbrev pub NoRepeat : {X : Type 0} → List X → Type 0
NoRepeat [] = Unit {0}
NoRepeat (x ∷ xs) = (Has xs x → ⊥) × NoRepeat xs

abbrev pub EdgesDiffer : Type 0
EdgesDiffer = (B : Point) → NoRepeat (cell_edges B)

-- of two tests that differ at one of a cell's edges only, the one that fails there passes one edge less
abbrev pub OneLess : Type 0
OneLess = (B : Point) (f g : GridEdge → Bool) (e : GridEdge) → Has (cell_edges B) e → f e ≡ true → g e ≡ false →
    ((x : GridEdge) → Has (cell_edges B) x → (x ≢ e) → g x ≡ f x) → count_by f (cell_edges B) ≡ count_by g (cell_edges B) + 1

-- how many corners of a tetrahedron are inside
unfoldable pub inside_corners : (Point → Bool) → Point → ℕ → ℕ
inside_corners inside B t = value (inside (vertex B t 0)) + value (inside (vertex B t 1)) + value (inside (vertex B t 2)) + value (inside (vertex B t 3))

-- how many triangles a tetrahedron has, by that number
unfoldable pub faces : ℕ → ℕ
faces zero = 0
faces (suc zero) = 1
faces (suc (suc zero)) = 2
faces (suc (suc (suc zero))) = 1
faces (suc (suc (suc (suc n)))) = 0

-- the number of inside corners is the count of ones in the mask
abbrev pub OnesCount : Type 0
OnesCount = (inside : Point → Bool) (B : Point) (t : ℕ) → count_ones (mask inside B t) ≡ inside_corners inside B t

abbrev pub TetCount : Type 0
TetCount = (inside : Point → Bool) (B : Point) (t : ℕ) → length (tet_triangles inside B t) ≡ faces (inside_corners inside B t)

abbrev pub TriangleCount : Type 0
TriangleCount = (inside : Point → Bool) (B : Point) →
    length (cell_triangles inside B) ≡ sum_by (λ t. faces (inside_corners inside B t)) (0 ∷ 1 ∷ 2 ∷ 3 ∷ 4 ∷ 5 ∷ [])
