-- What ties the map to the vertex records.
use Rattle.std.specs.Prelude.{◌≡◌, ℕ, ◌+◌, ◌<◌, ◌≤◌, length, Some, slice_index_or}
use Rattle.grid.specs.declared.geometry.GridEdge.{GridEdge}
use Rattle.mesh.specs.declared.records.Vertex.{Vertex}
use Rattle.surface.specs.States.{Numbering}
use Rattle.keymap.specs.Probe.{Sound}
use Rattle.keymap.specs.Frees.{free}
use Rattle.grid.specs.EdgeKeys.{edge_meaning, edge_hash, vertex_on}

-- as many entries are taken as there are vertices, and the map holds for each edge the number of the one vertex on it
pub record Tied (s : Numbering) : Type 0 where
  pub within : s.count ≤ length s.vertices
  pub used : free s.entries + s.count ≡ length s.entries
  pub sound : Sound edge_meaning edge_hash s.entries
  pub below : (e : GridEdge) (k : ℕ) → vertex_on s.entries e ≡ Some k → k < s.count
  pub keyed : (e : GridEdge) (k : ℕ) (d : Vertex) → vertex_on s.entries e ≡ Some k → (slice_index_or s.vertices k d).edge ≡ e
  pub held : (k : ℕ) (d : Vertex) → k < s.count → vertex_on s.entries (slice_index_or s.vertices k d).edge ≡ Some k
