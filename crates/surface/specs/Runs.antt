-- Runs: what the calls on a surface lead to, in any order and number.
use Rattle.std.specs.Prelude.{◌≡◌, ℕ, List, [], ◌∷◌, Ok, Err, Result, ◌≢◌}
use Rattle.grid.specs.declared.geometry.Triangle.{Triangle}
use Rattle.refusal.specs.declared.refusals.Refusal.{Refusal}
use Rattle.mesh.specs.declared.records.Vertex.{Vertex}
use Rattle.surface.specs.declared.sizes.Counts.{Counts}
use Rattle.surface.specs.Marches.{State, Field, March, begun}

-- A run on the field f that ends in a state. It begins with a surface of the field's shape over any four tables. Then come calls, each
-- by what its contract says of the state before, its answer and the state after: marches of the field, whatever the cell number and the
-- answer; marches of any field of another shape; and questions, which leave the state as it is.
pub data Run (f : Field) : State → Type 0 where
  begin : (marks entries : ℕ) (vs : List Vertex) (ts : List (Triangle ℕ)) → Run f (begun f.sides marks entries vs ts)
  march : {s t : State} → Run f s → (cell : ℕ) (answer : Result Counts Refusal) → March f s cell answer t → Run f t
  other : {s t : State} → Run f s → (g : Field) → (g.sides ≢ f.sides) → (cell : ℕ) (answer : Result Counts Refusal) → March g s cell answer t → Run f t
  ask : {s t : State} → Run f s → t ≡ s → Run f t

-- the cells whose marches were accepted, the last one first
abbrev pub accepted_cells : (f : Field) (s : State) → Run f s → List ℕ
accepted_cells f s (begin marks entries vs ts) = []
accepted_cells f t (march {s = s} r cell (Ok n) h) = cell ∷ accepted_cells f s r
accepted_cells f t (march {s = s} r cell (Err e) h) = accepted_cells f s r
accepted_cells f t (other {s = s} r g d cell answer h) = accepted_cells f s r
accepted_cells f t (ask {s = s} r h) = accepted_cells f s r
