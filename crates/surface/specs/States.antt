-- The tables of a surface as plain values, and what naming the corners of triangles does to them.
use Rattle.std.specs.Prelude.{ℕ, ◌+◌, List, Some, None, fold, Option, slice_set}
use Rattle.grid.specs.declared.geometry.GridEdge.{GridEdge}
use Rattle.grid.specs.declared.geometry.Triangle.{Triangle}
use Rattle.grid.specs.EdgeKeys.{vertex_on, with_vertex}
use Rattle.keymap.specs.declared.table.Entry.{Entry}
use Rattle.mesh.specs.declared.records.Coordinates.{Coordinates}
use Rattle.mesh.specs.declared.records.Vertex.{Vertex}

-- the map's entries, and the vertex records with how many are taken
pub record Numbering : Type 0 where
  pub entries : List (Option (Entry GridEdge))
  pub vertices : List Vertex
  pub count : ℕ

abbrev pub numbering : List (Option (Entry GridEdge)) → List Vertex → ℕ → Numbering
numbering es vs n = record { entries = es; vertices = vs; count = n }

-- these, and the triangle records with how many are taken
pub record Tables : Type 0 where
  pub numbered : Numbering
  pub triangles : List (Triangle ℕ)
  pub count : ℕ

abbrev pub tables : Numbering → List (Triangle ℕ) → ℕ → Tables
tables v ts m = record { numbered = v; triangles = ts; count = m }

-- the number of the vertex on an edge, once it has one: the next number where it has none
abbrev pub number_by : Option ℕ → ℕ → ℕ
number_by (Some n) count = n
number_by None count = count

unfoldable pub number : Numbering → GridEdge → ℕ
number s e = number_by (vertex_on s.entries e) s.count

module _ (place : GridEdge → Coordinates) where
  -- an edge that has no vertex gets the next one, at its place
  abbrev pub named_by : Option ℕ → Numbering → GridEdge → Numbering
  named_by (Some n) s e = s
  named_by None s e = record {
    entries = with_vertex s.entries e s.count;
    vertices = slice_set s.vertices s.count (record { edge = e; at = place e });
    count = s.count + 1;
  }

  unfoldable pub named : Numbering → GridEdge → Numbering
  named s e = named_by (vertex_on s.entries e) s e

  -- the corners of a triangle, one after the other
  abbrev pub named_all : Numbering → Triangle GridEdge → Numbering
  named_all s τ = named (named (named s τ.a) τ.b) τ.c

  -- a triangle of grid edges becomes one of vertex numbers
  abbrev pub numbers : Numbering → Triangle GridEdge → Triangle ℕ
  numbers s τ = record { a = number s τ.a; b = number (named s τ.a) τ.b; c = number (named (named s τ.a) τ.b) τ.c }

  unfoldable pub added : Tables → Triangle GridEdge → Tables
  added s τ = record {
    numbered = named_all s.numbered τ;
    triangles = slice_set s.triangles s.count (numbers s.numbered τ);
    count = s.count + 1;
  }

  unfoldable pub added_all : Tables → List (Triangle GridEdge) → Tables
  added_all s τs = fold added s τs
