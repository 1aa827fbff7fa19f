-- What is noted of each vertex.
use Rattle.std.specs.Prelude.{◌≡◌, ℕ, ◌+◌, ◌<◌, List, length, ◌≢◌, slice_index_or}
use Rattle.grid.specs.declared.geometry.Triangle.{Triangle}
use Rattle.mesh.specs.declared.verdicts.VertexRecord.{VertexRecord}
use Rattle.mesh.specs.Triangles.{Has}
use Rattle.mesh.specs.Counting.{count, is_at}

abbrev pub no_record : VertexRecord
no_record = record { parent = 0; neighbour = 0; degree = 0 }

abbrev pub degree_at : List VertexRecord → ℕ → ℕ
degree_at ps v = (slice_index_or ps v no_record).degree

abbrev pub neighbour_at : List VertexRecord → ℕ → ℕ
neighbour_at ps v = (slice_index_or ps v no_record).neighbour

-- one triangle more is noted at `v`, which runs from there to `x`
pub record Tallied (ps qs : List VertexRecord) (v x : ℕ) : Type 0 where
  pub more : degree_at qs v ≡ degree_at ps v + 1
  pub first : neighbour_at qs v ≡ x
  pub others : (u : ℕ) → (u ≢ v) → (degree_at qs u ≡ degree_at ps u) × (neighbour_at qs u ≡ neighbour_at ps u)

-- of each vertex, how many of the first `n` triangles are at it, and a vertex to which one of them runs from there
pub record Surveyed (ts : List (Triangle ℕ)) (n : ℕ) (ps : List VertexRecord) : Type 0 where
  pub degrees : (v : ℕ) → v < length ps → degree_at ps v ≡ count (is_at ts v) n
  pub firsts : (v : ℕ) → v < length ps → 0 < degree_at ps v → Has ts (length ts) v (neighbour_at ps v)
