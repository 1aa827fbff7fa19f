-- Round each vertex of the mesh the triangles form one ring.
use Rattle.std.specs.Prelude.{◌≡◌, ◌<◌, Bool, true}
use Rattle.grid.specs.declared.geometry.GridEdge.{GridEdge}
use Rattle.grid.specs.declared.geometry.Point.{Point}
use Rattle.grid.specs.Points.{crossed}
use Rattle.topology.specs.Sides.{Side, Lives, source, target, third, Grounded}

-- A side with source v is a triangle at v: read from v on it is (v, a, b), with a the target and b the third corner.
-- A step goes on from (v, a, b) to the triangle that has the directed edge from v to b.
pub record Step (inside : Point → Bool) (s r : Side) : Type 0 where
  pub lives : Lives inside r
  pub apex : source inside r ≡ source inside s
  pub shares : target inside r ≡ third inside s

-- some number of steps
pub data Leads (inside : Point → Bool) : Side → Side → Type 0 where
  stay : {s : Side} → Leads inside s s
  on : {s q r : Side} → Step inside s q → Leads inside q r → Leads inside s r

-- the triangles at v form one ring: there is one, going on is always possible in exactly one way, and each leads to every other
pub record Ring (inside : Point → Bool) (v : GridEdge) : Type 0 where
  pub some : (s : Side) × Lives inside s × (source inside s ≡ v)
  pub next : (s : Side) → Lives inside s → source inside s ≡ v → (r : Side) × Step inside s r × ((q : Side) → Step inside s q → q ≡ r)
  pub one : (s r : Side) → Lives inside s → Lives inside r → source inside s ≡ v → source inside r ≡ v → Leads inside s r

-- over all cells, round every crossed grid edge
abbrev pub Ringed : Type 0
Ringed = (inside : Point → Bool) → Grounded inside → (v : GridEdge) → 0 < v.direction → v.direction < 8 → crossed inside v ≡ true → Ring inside v
