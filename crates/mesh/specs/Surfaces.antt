-- Closed oriented surfaces.
use Rattle.std.specs.Prelude.{◌≡◌, ℕ, ◌<◌, List, length}
use Rattle.grid.specs.declared.geometry.Triangle.{Triangle}
use Rattle.mesh.specs.Triangles.{triangle_at, Runs, Apart, Below, Has}
use Rattle.mesh.specs.Rings.{At, OneRing}

-- The triangles, on the vertices below `n`, are a closed oriented surface: each names three different vertices below `n`, no directed
-- edge occurs twice, each has its reverse, and every vertex has triangles, which form one ring.
pub record Surface (n : ℕ) (ts : List (Triangle ℕ)) : Type 0 where
  pub below : (k : ℕ) → k < length ts → Below n (triangle_at ts k)
  pub different : (k : ℕ) → k < length ts → Apart (triangle_at ts k)
  pub once : (j k u v : ℕ) → j < length ts → k < length ts → Runs (triangle_at ts j) u v → Runs (triangle_at ts k) u v → j ≡ k
  pub paired : (k u v : ℕ) → k < length ts → Runs (triangle_at ts k) u v → Has ts (length ts) v u
  pub covered : (v : ℕ) → v < n → (k : ℕ) × At ts v k
  pub rings : (v : ℕ) → v < n → OneRing ts v
