-- Directed mesh edges as keys.
use Rattle.std.specs.Prelude.{ℕ, ◌+◌, ◌*◌, ◌%◌, ◌^◌, List, [], ◌∷◌, slice_index}
use Rattle.grid.specs.declared.geometry.Triangle.{Triangle}
use Rattle.mesh.specs.declared.sides.DirectedEdge.{DirectedEdge}

-- what a directed edge stands for: the vertex that it leaves, and the one that it reaches
abbrev pub edge_ends : DirectedEdge → List ℕ
edge_ends e = e.from ∷ e.to ∷ []

-- its hash, 65,599 times the first end plus the second, kept to 32 bits
abbrev pub edge_hash : List ℕ → ℕ
edge_hash m = (65599 * slice_index m 0 + slice_index m 1) % 2 ^ 32

-- the edge of the same ends in the other direction
abbrev pub reverse : DirectedEdge → DirectedEdge
reverse e = record { from = e.to; to = e.from }

-- the directed edges that a triangle runs along
abbrev pub edges_of : Triangle ℕ → List DirectedEdge
edges_of t = record { from = t.a; to = t.b } ∷ record { from = t.b; to = t.c } ∷ record { from = t.c; to = t.a } ∷ []
