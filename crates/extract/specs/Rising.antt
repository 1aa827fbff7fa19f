-- Cells marched in rising order, and the page of the mesh that they give.
use Rattle.std.specs.Prelude.{ℕ, zero, suc, List, map, take, Some, None, Ok, Err, Option, Result}
use Rattle.refusal.specs.declared.refusals.Refusal.{Refusal}
use Rattle.grid.specs.Cells.{cell_count}
use Rattle.mesh.specs.declared.records.Vertex.{Vertex}
use Rattle.page.specs.Text.{Mesh, page}
use Rattle.page.specs.Whole.{mesh, page_outcome}
use Rattle.surface.specs.Marches.{State, Field, march_refusal, marched}

-- the surface after one march more, or the refusal
abbrev pub unless : Option Refusal → State → Result State Refusal
unless (Some e) t = Err e
unless None t = Ok t

abbrev pub then_march : Field → ℕ → Result State Refusal → Result State Refusal
then_march f cell (Ok s) = unless (march_refusal f s cell) (marched f s cell)
then_march f cell (Err e) = Err e

-- the surface after the first n cells are marched in rising order, or the first refusal
unfoldable pub rising : Field → State → ℕ → Result State Refusal
rising f s zero = Ok s
rising f s (suc n) = then_march f n (rising f s n)

-- the mesh of a surface: its vertices and triangles
abbrev pub mesh_of : State → Mesh
mesh_of s = mesh (map (λ (v : Vertex). v.at) (take s.tables.numbered.count s.tables.numbered.vertices)) (take s.tables.count s.tables.triangles)

-- the page of the mesh of a surface, where it fits so many bytes
abbrev pub page_or : Option Refusal → Mesh → Result (List ℕ) Refusal
page_or (Some e) m = Err e
page_or None m = Ok (page m)

abbrev pub page_of : ℕ → Result State Refusal → Result (List ℕ) Refusal
page_of long (Err e) = Err e
page_of long (Ok s) = page_or (page_outcome long (mesh_of s)).why (mesh_of s)

-- the page of the skin of a field: all its cells marched in rising order on the surface s, as a page of at most so many bytes
unfoldable pub skin_page : Field → State → ℕ → Result (List ℕ) Refusal
skin_page f s long = page_of long (rising f s (cell_count f.sides))
