-- The page of a whole mesh, line by line, and what becomes of it in a buffer.
use Rattle.std.specs.Prelude.{◌≡◌, ℕ, ◌≤◌, List, [], ◌∷◌, ◌++◌, map, length, take, Some, None, Ok, Err, Option, Result}
use Rattle.std.proofs.lemmas.List.Edits.{sets}
use Rattle.grid.specs.declared.geometry.Triangle.{Triangle}
use Rattle.refusal.specs.declared.refusals.Refusal.{Refusal}
use Rattle.mesh.specs.declared.records.Coordinates.{Coordinates}
use Rattle.page.specs.Text.{Mesh, page}
use Rattle.page.specs.Lines.{Line, heading, vertex, face, line_refusal}
use Rattle.page.specs.declared.states.Finished.{Finished}

-- a mesh, by the places of its vertices and by its triangles
abbrev pub mesh : List Coordinates → List (Triangle ℕ) → Mesh
mesh vs ts = record { vertices = vs; triangles = ts }

-- the lines of a mesh's page, in order: the first two as one, the vertices, the faces
abbrev pub lines : Mesh → List Line
lines m =
    let count = length m.vertices in
    heading count (length m.triangles) ∷ (map vertex m.vertices ++ map (face count) m.triangles)

-- what came of writing lines: the text that stands, and why the next line was refused, if one was
pub record Outcome : Type 0 where
  pub text : List ℕ
  pub why : Option Refusal

-- a line behind `text`: refused, or what came of going on
abbrev pub unless : Option Refusal → List ℕ → Outcome → Outcome
unless (Some e) text more = record { text = text; why = Some e }
unless None text more = more

-- lines are written one by one, until one is refused, into a buffer of `long` bytes that starts with `text`
unfoldable pub outcome : ℕ → List ℕ → List Line → Outcome
outcome long text [] = record { text = text; why = None }
outcome long text (l ∷ ls) =
    unless (line_refusal l.outside (length l.text) (length text) long) text (outcome long (text ++ l.text) ls)

-- what comes of writing the page of a mesh into a buffer of `long` bytes
abbrev pub page_outcome : ℕ → Mesh → Outcome
page_outcome long m = outcome long [] (lines m)

-- no line is refused: the page of the mesh stands in the first n bytes, and the rest is as it was
pub record Shown (m : Mesh) (before after : List ℕ) (n : ℕ) : Type 0 where
  pub accepted : (page_outcome (length before) m).why ≡ None
  pub text : take n after ≡ page m
  pub bytes : after ≡ sets before 0 (page m)
  pub long : n ≡ length (page m)
  pub fits : n ≤ length before
  -- no other mesh has this page: meshes that differ in a coordinate or in a triangle have different pages
  pub only : (other : Mesh) → page other ≡ take n after → other ≡ m

-- the first refused line is refused for `e`: the lines before it stand at the start of the buffer, and the rest is as it was
pub record Stopped (m : Mesh) (before after : List ℕ) (e : Refusal) : Type 0 where
  pub refused : (page_outcome (length before) m).why ≡ Some e
  pub bytes : after ≡ sets before 0 (page_outcome (length before) m).text

-- a call that writes the page of a mesh: how many bytes it takes, or why a line is refused
abbrev pub PageAnswer : Mesh → List ℕ → List ℕ → Result ℕ Refusal → Type 0
PageAnswer m before after (Ok n) = Shown m before after n
PageAnswer m before after (Err e) = Stopped m before after e

-- the same, with the finished page
abbrev pub LinesAnswer : Mesh → List ℕ → List ℕ → Result Finished Refusal → Type 0
LinesAnswer m before after (Ok p) = Shown m before after p.length
LinesAnswer m before after (Err e) = Stopped m before after e
