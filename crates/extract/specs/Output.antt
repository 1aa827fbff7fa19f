-- What `skin` writes: the page of a volume file's skin, or the refusal.
use Rattle.std.specs.Prelude.{ℕ, cond, List, ◌++◌, length, replicate, Some, None, Ok, Err, codes, Option, Result, ◌==◌, nat_lt}
use Rattle.grid.specs.declared.geometry.GridEdge.{GridEdge}
use Rattle.grid.specs.declared.geometry.Triangle.{Triangle}
use Rattle.refusal.specs.declared.refusals.Refusal.{Refusal}
use Rattle.refusal.specs.declared.refusals.Refusal.TheVariants.{TableRoom}
use Rattle.grid.specs.Points.{Sides}
use Rattle.refusal.specs.Refusals.{line}
use Rattle.mesh.specs.declared.records.Vertex.{Vertex}
use Rattle.surface.specs.Marches.{State, Field, field, begun}
use Rattle.volume.specs.Files.{file_kind, file_sides, file_refusal, density_level, density_samples, label_level, label_samples}
use Rattle.volume.specs.Kinds.{density_inside, density_crossing, density_stored, label_inside, label_crossing, label_stored}
use Rattle.volume.specs.Volumes.{table_sample}
use Rattle.extract.specs.Rising.{skin_page}

abbrev no_edge : GridEdge
no_edge = record { low = record { x = 0; y = 0; z = 0 }; direction = 0 }

abbrev pub no_vertex : Vertex
no_vertex = record { edge = no_edge; at = record { x = 0; y = 0; z = 0 } }

abbrev pub no_triangle : Triangle ℕ
no_triangle = record { a = 0; b = 0; c = 0 }

-- the surface that the program begins: 2,048 cells, 4,096 entries, 2,048 vertices and 4,096 triangles
abbrev pub start : Sides → State
start s = begun s 2048 4096 (replicate 2048 no_vertex) (replicate 4096 no_triangle)

-- the volume of a density file, and of a label file, at the file's level
abbrev pub density_field : List ℕ → Field
density_field b = field density_inside density_crossing (density_level b) (file_sides b) (table_sample density_stored (file_sides b) (density_samples b))

abbrev pub label_field : List ℕ → Field
label_field b = field label_inside label_crossing (label_level b) (file_sides b) (table_sample label_stored (file_sides b) (label_samples b))

-- the page of a field's skin, of at most 65,536 bytes
abbrev pub field_page : Field → Result (List ℕ) Refusal
field_page f = skin_page f (start f.sides) 65536

abbrev pub refuse_or : Option Refusal → Result (List ℕ) Refusal → Result (List ℕ) Refusal
refuse_or (Some e) r = Err e
refuse_or None r = r

-- the page of a file's skin: over 4,096 bytes are refused first, then what the reader refuses, with 1,024 samples at most
unfoldable pub file_page : List ℕ → Result (List ℕ) Refusal
file_page b =
    cond (nat_lt 4096 (length b)) (Err (TableRoom 4096))
    (refuse_or (file_refusal b 1024 1024) (cond (file_kind b == 1) (field_page (density_field b)) (field_page (label_field b))))

-- `refused n p` on a line: the number of a refusal, and its place
abbrev pub refused_line : Refusal → List ℕ
refused_line e = line e ++ codes "\n"

abbrev pub written : Result (List ℕ) Refusal → List ℕ
written (Ok text) = text
written (Err e) = refused_line e

-- what comes out for what comes in
abbrev pub output : List ℕ → List ℕ
output b = written (file_page b)
