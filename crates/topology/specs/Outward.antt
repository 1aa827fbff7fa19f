-- The case table faces outward, and its rows keep two rules.
use Rattle.std.specs.Prelude.{◌≡◌, ℕ, ◌-◌, ◌<◌, Bool, true, false, map, ℤ, pos, ◌+ℤ◌, ◌-ℤ◌, ◌*ℤ◌, ◌<ℤ◌}
use Rattle.std.specs.List.{ContainsAt as Has}
use Rattle.grid.specs.declared.geometry.Point.{Point}
use Rattle.grid.specs.declared.geometry.GridEdge.{GridEdge}
use Rattle.grid.specs.declared.geometry.Triangle.{Triangle}
use Rattle.grid.specs.Points.{◌⊕◌, top}
use Rattle.grid.specs.Cases.{swap, row}
use Rattle.grid.specs.Cells.{vertex, tet_triangles}

pub record Vector : Type 0 where
  pub x : ℤ
  pub y : ℤ
  pub z : ℤ

-- the vector from p to q
unfoldable pub from_to : Point → Point → Vector
from_to p q = record { x = pos q.x -ℤ pos p.x; y = pos q.y -ℤ pos p.y; z = pos q.z -ℤ pos p.z }

unfoldable pub cross : Vector → Vector → Vector
cross u v = record { x = u.y *ℤ v.z -ℤ u.z *ℤ v.y; y = u.z *ℤ v.x -ℤ u.x *ℤ v.z; z = u.x *ℤ v.y -ℤ u.y *ℤ v.x }

unfoldable pub dot : Vector → Vector → ℤ
dot u v = u.x *ℤ v.x +ℤ u.y *ℤ v.y +ℤ u.z *ℤ v.z

-- twice the midpoint of a grid edge
unfoldable pub double_middle : GridEdge → Point
double_middle e = e.low ⊕ top e

-- the normal of the triangle through the midpoints, at twice the size: its corners go round it anticlockwise
unfoldable pub normal : Triangle GridEdge → Vector
normal τ = cross (from_to (double_middle τ.a) (double_middle τ.b)) (from_to (double_middle τ.a) (double_middle τ.c))

-- a triangle of a tetrahedron faces from each inside corner to each outside corner
abbrev pub Outward : Type 0
Outward = (inside : Point → Bool) (B : Point) (t : ℕ) → t < 6 → (τ : Triangle GridEdge) → Has (tet_triangles inside B t) τ →
    (m n : ℕ) → m < 4 → n < 4 → inside (vertex B t m) ≡ true → inside (vertex B t n) ≡ false →
    pos 0 <ℤ dot (normal τ) (from_to (vertex B t m) (vertex B t n))

-- with inside and outside exchanged a row has the same triangles, running round the other way; so has the row of an odd tetrahedron
abbrev pub Complement : Type 0
Complement = (odd : Bool) (w : ℕ) → w < 16 → row odd (15 - w) ≡ map swap (row odd w)

abbrev pub Parity : Type 0
Parity = (w : ℕ) → row true w ≡ map swap (row false w)
