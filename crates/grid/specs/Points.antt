-- Grid points, grid edges and their numbers.
use Rattle.std.specs.Prelude.{◌≡◌, ℕ, ◌+◌, ◌*◌, ◌/◌, ◌%◌, ◌<◌, ◌≤◌, Bool, true, false, cond, not, ◌&&◌, ◌⊎◌, Some, None, Option, ◌==◌, nat_le}
use Rattle.grid.specs.declared.geometry.Point.{Point}
use Rattle.grid.specs.declared.geometry.GridEdge.{GridEdge}

-- the number of samples along each axis
pub record Sides : Type 0 where
  pub nx : ℕ
  pub ny : ℕ
  pub nz : ℕ

infixl 60 ◌⊕◌
unfoldable pub ◌⊕◌ : Point → Point → Point
p ⊕ q = record { x = p.x + q.x; y = p.y + q.y; z = p.z + q.z }

-- the bits 0, 1 and 2 of a corner code or of a direction, as steps along x, y and z
unfoldable pub offset : ℕ → Point
offset c = record { x = c % 2; y = c / 2 % 2; z = c / 4 % 2 }

-- the upper end of a grid edge
unfoldable pub top : GridEdge → Point
top e = e.low ⊕ offset e.direction

-- the upper end as three numbers of 8 bits, or one of them is too large
abbrev pub TopAnswer : GridEdge → Option Point → Type 0
TopAnswer e (Some p) = p ≡ top e
TopAnswer e None = (256 ≤ (top e).x) ⊎ ((256 ≤ (top e).y) ⊎ (256 ≤ (top e).z))

-- the number of a point
abbrev pub point_number : Point → ℕ
point_number p = p.x + 256 * p.y + 65536 * p.z

-- the key of a grid edge
abbrev pub edge_key : GridEdge → ℕ
edge_key e = 8 * point_number e.low + e.direction

-- the point has a sample: it is neither on the border nor beyond
abbrev pub sampled : Sides → Point → Bool
sampled s p = nat_le 1 p.x && nat_le p.x s.nx && (nat_le 1 p.y && nat_le p.y s.ny) && (nat_le 1 p.z && nat_le p.z s.nz)

-- a coordinate 0 or the side plus 1
abbrev pub at_end : ℕ → ℕ → Bool
at_end side c = cond (c == 0) true (c == side + 1)

-- the point is one of the grid's
abbrev pub in_grid : Sides → Point → Bool
in_grid s p = nat_le p.x (s.nx + 1) && (nat_le p.y (s.ny + 1) && nat_le p.z (s.nz + 1))

-- a point of the grid of which some coordinate is 0 or the side plus 1
abbrev pub on_border : Sides → Point → Bool
on_border s p = in_grid s p && cond (at_end s.nx p.x) true (cond (at_end s.ny p.y) true (at_end s.nz p.z))

-- exactly one of two
abbrev pub differ : Bool → Bool → Bool
differ true b = not b
differ false b = b

-- one end of the edge is inside, and the other is not
unfoldable pub crossed : (Point → Bool) → GridEdge → Bool
crossed inside e = differ (inside e.low) (inside (top e))

-- an edge that has a key: coordinates up to 255, and one of the seven directions
pub record Keyed (e : GridEdge) : Type 0 where
  pub x : e.low.x < 256
  pub y : e.low.y < 256
  pub z : e.low.z < 256
  pub some : 1 ≤ e.direction
  pub few : e.direction < 8

-- different edges have different keys
abbrev pub KeysDiffer : Type 0
KeysDiffer = (e f : GridEdge) → Keyed e → Keyed f → edge_key e ≡ edge_key f → e ≡ f

-- the point of a number, and the edge of a key
abbrev pub point_of : ℕ → Point
point_of n = record { x = n % 256; y = n / 256 % 256; z = n / 65536 % 256 }

abbrev pub edge_of : ℕ → Option GridEdge
edge_of k = cond (nat_le (2 * 67108864) k) None (cond (k % 8 == 0) None (Some (record { low = point_of (k / 8); direction = k % 8 })))
