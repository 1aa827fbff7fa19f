-- What a triangle that names no wrong vertex and none twice names. Assumes nothing.
use Rattle.std.proofs.Common.{ℕ, ◌<◌, length, arith}
use Rattle.grid.specs.declared.geometry.Triangle.{Triangle}
use Rattle.mesh.specs.declared.names.NamedMesh.{NamedMesh}
use Rattle.mesh.specs.Triangles.{triangle_at, Apart, Below}
use Rattle.mesh.specs.Faults.{Misnames}

module _ (n : ℕ) (t : Triangle ℕ) (named : Misnames n t → ⊥) where
  pub named_below : Below n t
  named_below = record { a_below = grind arith; b_below = grind arith; c_below = grind arith }

  pub named_apart : Apart t
  named_apart = record { ab = λ e. grind arith; bc = λ e. grind arith; ca = λ e. grind arith }

-- the triangles of a mesh whose triangles are so named
pub mesh_apart : (m : NamedMesh) (k : ℕ) → k < length m.triangles.now → Apart (triangle_at m.triangles.now k)
mesh_apart m k h = named_apart m.vertices (triangle_at m.triangles.now k) (m.named k h)
