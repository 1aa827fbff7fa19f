-- The tables of the program are of the stated sizes. Assumes nothing.
use Rattle.std.proofs.Common.{◌≡◌, ℕ, List, replicate, Result, sym, ◌∙◌}
use Rattle.grid.specs.declared.geometry.Triangle.{Triangle}
use Rattle.refusal.specs.declared.refusals.Refusal.{Refusal}
use Rattle.mesh.specs.declared.records.Vertex.{Vertex}
use Rattle.surface.specs.Marches.{Field, begun}
use Rattle.extract.specs.Rising.{skin_page}
use Rattle.extract.specs.Output.{no_vertex, no_triangle, field_page}

pub on_tables : (f : Field) (marks entries : ℕ) (vs : List Vertex) (ts : List (Triangle ℕ)) (long : ℕ) (r : Result (List ℕ) Refusal) → marks ≡ 2048 → entries ≡ 4096
    → vs ≡ replicate 2048 no_vertex → ts ≡ replicate 4096 no_triangle → long ≡ 65536 → skin_page f (begun f.sides marks entries vs ts) long ≡ r → field_page f ≡ r
on_tables f marks entries vs ts long r a b c d e h = sym (λ i. skin_page f (begun f.sides (a i) (b i) (c i) (d i)) (e i)) ∙ h
