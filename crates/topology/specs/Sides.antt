-- The surface is closed: along each directed edge of a triangle runs no other triangle, and exactly one runs the other way.
use Rattle.std.specs.Prelude.{◌≡◌, ℕ, zero, suc, ◌+◌, ◌-◌, ◌<◌, ◌≤◌, Bool, true, ◌⊎◌, length, ◌≢◌, slice_index_or}
use Rattle.grid.specs.declared.geometry.Point.{Point}
use Rattle.grid.specs.declared.geometry.GridEdge.{GridEdge}
use Rattle.grid.specs.declared.geometry.Triangle.{Triangle}
use Rattle.grid.specs.declared.geometry.GridTriangle.{GridTriangle}
use Rattle.grid.specs.Points.{Sides, ◌⊕◌, offset, sampled}
use Rattle.grid.specs.Cells.{Base, cell_triangles}
use Rattle.grid.specs.GridTriangles.{Part}
use Rattle.topology.specs.Crossings.{CornerOf}

-- a triangle runs from corner to corner along its sides 0, 1 and 2; the rest is the corner that the side has not
unfoldable pub start : {E : Type 0} → ℕ → Triangle E → E
start zero τ = τ.a
start (suc zero) τ = τ.b
start (suc (suc j)) τ = τ.c

unfoldable pub end : {E : Type 0} → ℕ → Triangle E → E
end zero τ = τ.b
end (suc zero) τ = τ.c
end (suc (suc j)) τ = τ.a

unfoldable pub rest : {E : Type 0} → ℕ → Triangle E → E
rest zero τ = τ.c
rest (suc zero) τ = τ.a
rest (suc (suc j)) τ = τ.b

-- side `turn` of triangle number `triangle` of the cell at `base`
pub record Side : Type 0 where
  pub base : Point
  pub triangle : ℕ
  pub turn : ℕ

pub record Lives (inside : Point → Bool) (s : Side) : Type 0 where
  pub triangle : s.triangle < length (cell_triangles inside s.base)
  pub turn : s.turn < 3

-- what stands past the end of a list of triangles
unfoldable pub none : Triangle GridEdge
none = let p : Point = record { x = 0; y = 0; z = 0 } in
    let e : GridEdge = record { low = p; direction = 0 } in record { a = e; b = e; c = e }

unfoldable pub its_triangle : (Point → Bool) → Side → Triangle GridEdge
its_triangle inside s = slice_index_or (cell_triangles inside s.base) s.triangle none

-- the grid edges that carry the corners which the side runs from and to, and the third corner
unfoldable pub source : (Point → Bool) → Side → GridEdge
source inside s = start s.turn (its_triangle inside s)

unfoldable pub target : (Point → Bool) → Side → GridEdge
target inside s = end s.turn (its_triangle inside s)

unfoldable pub third : (Point → Bool) → Side → GridEdge
third inside s = rest s.turn (its_triangle inside s)

-- over all cells, one side at most runs from one grid edge to another
abbrev pub Unique : Type 0
Unique = (inside : Point → Bool) (s r : Side) → Lives inside s → Lives inside r →
    source inside s ≡ source inside r → target inside s ≡ target inside r → s ≡ r

-- e is one of the three edges of a grid triangle
abbrev pub EdgeOf : GridTriangle → GridEdge → Type 0
EdgeOf g e =
    (e ≡ record { low = g.low; direction = g.a })
    ⊎ ((e ≡ record { low = g.low; direction = g.b }) ⊎ (e ≡ record { low = g.low ⊕ offset g.a; direction = g.b - g.a }))

-- p is a corner of the cell at B: each coordinate is that of B, or one more
pub record Belongs (B p : Point) : Type 0 where
  pub x : B.x ≤ p.x
  pub x_next : p.x ≤ B.x + 1
  pub y : B.y ≤ p.y
  pub y_next : p.y ≤ B.y + 1
  pub z : B.z ≤ p.z
  pub z_next : p.z ≤ B.z + 1

pub record InCell (B : Point) (g : GridTriangle) : Type 0 where
  pub low : Belongs B g.low
  pub a : Belongs B (g.low ⊕ offset g.a)
  pub b : Belongs B (g.low ⊕ offset g.b)

-- a mesh edge with the crossings e and f lies on the wall between the cells at B and C: both crossings are edges of a grid triangle
-- whose corners belong to both cells
pub record OnWall (B C : Point) (e f : GridEdge) : Type 0 where
  pub two : B ≡ C → ⊥
  pub triangle : GridTriangle
  pub part : Part triangle.a triangle.b
  pub one_cell : InCell B triangle
  pub other_cell : InCell C triangle
  pub first : EdgeOf triangle e
  pub second : EdgeOf triangle f

-- r is the one side that runs against s: its triangle is another one, and no third triangle has the mesh edge; it is in the cell of s,
-- or else in the cell across the wall on which the mesh edge lies; and the mesh edge lies on no other wall
pub record Opposed (inside : Point → Bool) (s r : Side) : Type 0 where
  pub lives : Lives inside r
  pub begins : source inside r ≡ target inside s
  pub ends : target inside r ≡ source inside s
  pub only : (q : Side) → Lives inside q → source inside q ≡ target inside s → target inside q ≡ source inside s → q ≡ r
  pub other : r.base ≡ s.base → r.triangle ≢ s.triangle
  pub two : (B : Point) (k : ℕ) → k < length (cell_triangles inside B) →
      CornerOf (slice_index_or (cell_triangles inside B) k none) (source inside s) → CornerOf (slice_index_or (cell_triangles inside B) k none) (target inside s) →
      ((B ≡ s.base) × (k ≡ s.triangle)) ⊎ ((B ≡ r.base) × (k ≡ r.triangle))
  pub place : (r.base ≡ s.base) ⊎ OnWall s.base r.base (source inside s) (target inside s)
  pub walls : (B C : Point) → OnWall B C (source inside s) (target inside s) → ((B ≡ s.base) × (C ≡ r.base)) ⊎ ((B ≡ r.base) × (C ≡ s.base))

-- no point on a plane at 0 is inside
abbrev pub Grounded : (Point → Bool) → Type 0
Grounded inside = (p : Point) → inside p ≡ true → (0 < p.x) × (0 < p.y) × (0 < p.z)

-- over all cells, each side has exactly one that runs against it
abbrev pub Closed : Type 0
Closed = (inside : Point → Bool) → Grounded inside → (s : Side) → Lives inside s → (r : Side) × Opposed inside s r

-- no point on the border or beyond is inside
abbrev pub Padded : Sides → (Point → Bool) → Type 0
Padded n inside = (p : Point) → inside p ≡ true → sampled n p ≡ true

-- then every triangle is in a cell of the grid, and so are the cells at a wall with a mesh edge
abbrev pub Kept : Type 0
Kept = (n : Sides) (inside : Point → Bool) → Padded n inside → (s : Side) → Lives inside s → Base n s.base

abbrev pub PaddedGrounded : Type 0
PaddedGrounded = (n : Sides) (inside : Point → Bool) → Padded n inside → Grounded inside
