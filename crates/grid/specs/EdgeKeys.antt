-- Grid edges as keys of a map.
use Rattle.std.specs.Prelude.{ℕ, ◌+◌, ◌*◌, List, [], ◌∷◌, Option}
use Rattle.grid.specs.declared.geometry.GridEdge.{GridEdge}
use Rattle.keymap.specs.declared.table.Entry.{Entry}
use Rattle.keymap.specs.Probe.{lookup as lookup-in, slot as slot-in, put}

-- what an edge stands for: its lower end and its direction
abbrev pub edge_meaning : GridEdge → List ℕ
edge_meaning e = e.low.x ∷ e.low.y ∷ e.low.z ∷ e.direction ∷ []

-- its hash is its key
abbrev pub edge_hash : List ℕ → ℕ
edge_hash [] = 0
edge_hash (x ∷ []) = 0
edge_hash (x ∷ y ∷ []) = 0
edge_hash (x ∷ y ∷ z ∷ []) = 0
edge_hash (x ∷ y ∷ z ∷ d ∷ more) = 8 * (x + 256 * y + 65536 * z) + d

-- the number of the vertex on an edge, if the table holds one
unfoldable pub vertex_on : List (Option (Entry GridEdge)) → GridEdge → Option ℕ
vertex_on es e = lookup-in edge_meaning edge_hash es (edge_meaning e)

-- the table once it holds the number n for an edge
unfoldable pub with_vertex : List (Option (Entry GridEdge)) → GridEdge → ℕ → List (Option (Entry GridEdge))
with_vertex es e n = put es (slot-in edge_meaning edge_hash es (edge_meaning e)) e n
