-- The parts of a mesh: the groups of vertices that mesh edges join.
use Rattle.std.specs.Prelude.{◌≡◌, ℕ, ◌<◌, List}
use Rattle.grid.specs.declared.geometry.Triangle.{Triangle}
use Rattle.mesh.specs.MeshEdges.{MeshEdge}

-- a walk over mesh edges from one vertex to another
pub data Joined (ts : List (Triangle ℕ)) : ℕ → ℕ → Type 0 where
  stay : {u : ℕ} → Joined ts u u
  step : {u v w : ℕ} → MeshEdge ts u v → Joined ts v w → Joined ts u w

-- The vertices below `vertices` are in `n` groups: they are numbered by the numbers below `n`, each of which is used, and two have one
-- number exactly when a walk over mesh edges joins them.
pub record Groups (ts : List (Triangle ℕ)) (vertices n : ℕ) : Type 0 where
  pub number : ℕ → ℕ
  pub below : (v : ℕ) → v < vertices → number v < n
  pub onto : (i : ℕ) → i < n → (v : ℕ) × (v < vertices) × (number v ≡ i)
  pub same : (u v : ℕ) → u < vertices → v < vertices → Joined ts u v → number u ≡ number v
  pub joined : (u v : ℕ) → u < vertices → v < vertices → number u ≡ number v → Joined ts u v

-- no two numbers count the groups
abbrev pub OnePartCount : Type 0
OnePartCount = (ts : List (Triangle ℕ)) (vertices m n : ℕ) → Groups ts vertices m → Groups ts vertices n → m ≡ n
