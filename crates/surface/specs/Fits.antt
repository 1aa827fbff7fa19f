-- Room for the corners of triangles that are named.
use Rattle.std.specs.Prelude.{◌≡◌, ℕ, ◌<◌, List, length, take, None, slice_index_or}
use Rattle.grid.specs.declared.geometry.GridEdge.{GridEdge}
use Rattle.grid.specs.declared.geometry.Triangle.{Triangle}
use Rattle.grid.specs.EdgeKeys.{vertex_on}
use Rattle.keymap.specs.Frees.{free}
use Rattle.mesh.specs.declared.records.Coordinates.{Coordinates}
use Rattle.surface.specs.Rooms.{room_left}
use Rattle.surface.specs.States.{Numbering, Tables, named, added_all}

-- an edge that has no vertex can get one
pub record Fits (s : Numbering) (e : GridEdge) : Type 0 where
  pub entry : vertex_on s.entries e ≡ None → 0 < free s.entries
  pub vertex : vertex_on s.entries e ≡ None → 0 < room_left (length s.vertices) s.count

-- and so can the corners of a triangle, one after the other
pub record FitsTriangle (place : GridEdge → Coordinates) (s : Numbering) (τ : Triangle GridEdge) : Type 0 where
  pub a : Fits s τ.a
  pub b : Fits (named place s τ.a) τ.b
  pub c : Fits (named place (named place s τ.a) τ.b) τ.c

-- and those of a list of triangles
abbrev pub FitsAll : (GridEdge → Coordinates) → Tables → List (Triangle GridEdge) → Type 0
FitsAll place s τs = (i : ℕ) (d : Triangle GridEdge) → i < length τs → FitsTriangle place (added_all place s (take i τs)).numbered (slice_index_or τs i d)
