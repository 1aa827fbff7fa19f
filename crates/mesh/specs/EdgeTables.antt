-- A table of the directed edges of triangles: each with the vertex that follows it, the triangle's third.
use Rattle.std.specs.Prelude.{◌≡◌, ℕ, zero, suc, ◌+◌, ◌<◌, ◌≤◌, Bool, List, [], ◌∷◌, is_none, is_some, Some, Option}
use Rattle.std.specs.List.{list_any}
use Rattle.std.specs.Option.{unwrap_or}
use Rattle.grid.specs.declared.geometry.Triangle.{Triangle}
use Rattle.keymap.specs.declared.table.Entry.{Entry}
use Rattle.keymap.specs.Probe.{lookup, Sound}
use Rattle.keymap.specs.Frees.{free}
use Rattle.mesh.specs.declared.sides.DirectedEdge.{DirectedEdge}
use Rattle.mesh.specs.Sides.{edge_ends, edge_hash, edges_of}
use Rattle.mesh.specs.Triangles.{triangle_at, Runs}

-- the vertex that the table holds for the directed edge from `u` to `v`
unfoldable pub found : List (Option (Entry DirectedEdge)) → ℕ → ℕ → Option ℕ
found es u v = lookup edge_ends edge_hash es (u ∷ v ∷ [])

-- whether the table holds one of the directed edges of a triangle
abbrev pub seen : List (Option (Entry DirectedEdge)) → Triangle ℕ → Bool
seen es t = list_any (λ e. is_some (found es e.from e.to)) (edges_of t)

-- whether it lacks the reverse of one of them
abbrev pub missed : List (Option (Entry DirectedEdge)) → Triangle ℕ → Bool
missed es t = list_any (λ e. is_none (found es e.to e.from)) (edges_of t)

-- one of the first `n` triangles runs from `u` to `v` and on to `w`
pub record Follows (ts : List (Triangle ℕ)) (n u v w : ℕ) : Type 0 where
  pub at : ℕ
  pub within : at < n
  pub runs : Runs (triangle_at ts at) u v
  pub on : Runs (triangle_at ts at) v w

-- the table holds the directed edges of the first `n` triangles, each with the vertex that follows it, and no others
pub record Noted (ts : List (Triangle ℕ)) (n : ℕ) (es : List (Option (Entry DirectedEdge))) : Type 0 where
  pub sound : Sound edge_ends edge_hash es
  pub held : (u v w k : ℕ) → k < n → Runs (triangle_at ts k) u v → Runs (triangle_at ts k) v w → found es u v ≡ Some w
  pub only : (u v w : ℕ) → found es u v ≡ Some w → Follows ts n u v w

-- the table after it took one directed edge more
pub record Noting (before after : List (Option (Entry DirectedEdge))) (edge : DirectedEdge) (third : ℕ) : Type 0 where
  pub sound : Sound edge_ends edge_hash after
  pub here : found after edge.from edge.to ≡ Some third
  pub others : (u v : ℕ) → ((u ≡ edge.from) × (v ≡ edge.to) → ⊥) → found after u v ≡ found before u v
  pub fewer : free before ≤ free after + 1

-- from the neighbour `x` of `v`, the one that follows
abbrev pub turn : List (Option (Entry DirectedEdge)) → ℕ → ℕ → ℕ
turn es v x = unwrap_or (found es v x) 0

-- where one comes from `k`, going on `n` times
unfoldable pub after : (ℕ → ℕ) → ℕ → ℕ → ℕ
after go zero k = k
after go (suc n) k = go (after go n k)

-- turning round `v` from its neighbour `start` comes back in fewer than `degree` turns
pub record Early (es : List (Option (Entry DirectedEdge))) (v start degree : ℕ) : Type 0 where
  pub turns : ℕ
  pub some : 0 < turns
  pub few : turns < degree
  pub back : after (turn es v) turns start ≡ start
