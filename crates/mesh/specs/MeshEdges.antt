-- The mesh edges, and how many there are.
use Rattle.std.specs.Prelude.{◌≡◌, ℕ, ◌<◌, ◌⊎◌, List, length}
use Rattle.grid.specs.declared.geometry.Triangle.{Triangle}
use Rattle.mesh.specs.Triangles.{triangle_at, Runs}

-- `u` and `v`, in either order, are the ends of a mesh edge: of a side of a triangle
pub record MeshEdge (ts : List (Triangle ℕ)) (u v : ℕ) : Type 0 where
  pub at : ℕ
  pub within : at < length ts
  pub runs : Runs (triangle_at ts at) u v ⊎ Runs (triangle_at ts at) v u

-- The mesh edges are `n`: each number below `n` has one, by its lower and its higher end, no two numbers have the same, and each mesh
-- edge has a number.
pub record MeshEdges (ts : List (Triangle ℕ)) (n : ℕ) : Type 0 where
  pub low : ℕ → ℕ
  pub high : ℕ → ℕ
  pub rising : (i : ℕ) → i < n → low i < high i
  pub edge : (i : ℕ) → i < n → MeshEdge ts (low i) (high i)
  pub single : (i j : ℕ) → i < n → j < n → low i ≡ low j → high i ≡ high j → i ≡ j
  pub all : (u v : ℕ) → u < v → MeshEdge ts u v → (i : ℕ) × (i < n) × (low i ≡ u) × (high i ≡ v)

-- no two numbers count the mesh edges
abbrev pub OneEdgeCount : Type 0
OneEdgeCount = (ts : List (Triangle ℕ)) (m n : ℕ) → MeshEdges ts m → MeshEdges ts n → m ≡ n
