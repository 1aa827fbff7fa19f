-- What a page answers, and what its buffer then holds.
use Rattle.std.specs.Prelude.{◌≡◌, ℕ, ◌+◌, List, length, Some, None, Ok, Err, Option, Result, ◌≢◌}
use Rattle.std.proofs.lemmas.List.Edits.{sets}
use Rattle.grid.specs.declared.geometry.Triangle.{Triangle}
use Rattle.refusal.specs.declared.refusals.Refusal.{Refusal}
use Rattle.refusal.specs.declared.refusals.Refusal.TheVariants.{LineCount}
use Rattle.mesh.specs.declared.records.Coordinates.{Coordinates}
use Rattle.page.specs.Text.{header}
use Rattle.page.specs.Lines.{Line, vertex, face, line_refusal, stage_refusal}
use Rattle.page.specs.declared.states.Declined.{Declined}
use Rattle.page.specs.declared.states.Open.{Open}
use Rattle.page.specs.declared.states.Finished.{Finished}

-- a text is written at `free`, up to the answered place; or it is refused for `why`, and nothing is written
abbrev pub TextAnswer : Option Refusal → ℕ → List ℕ → List ℕ → List ℕ → Result ℕ Refusal → Type 0
TextAnswer why free text before after (Ok end) = (why ≡ None) × (end ≡ free + length text) × (after ≡ sets before free text)
TextAnswer why free text before after (Err e) = (why ≡ Some e) × (after ≡ before)

-- a page whose first two lines are written
abbrev pub begun : ℕ → ℕ → Open Coordinates
begun v f = record { vertices = v; faces = f; written = 0; free = length (header v f); stage = record {} }

-- the page is begun, with its first two lines at the start of the buffer; or there is no room, and nothing is written
abbrev pub BeginAnswer : ℕ → ℕ → List ℕ → List ℕ → Result (Open Coordinates) Refusal → Type 0
BeginAnswer v f before after (Ok p) = (line_refusal None (length (header v f)) 0 (length before) ≡ None) × (p ≡ begun v f) × (after ≡ sets before 0 (header v f))
BeginAnswer v f before after (Err e) = (line_refusal None (length (header v f)) 0 (length before) ≡ Some e) × (after ≡ before)

-- why a page whose stage has `announced` lines refuses a line, in a buffer of `long` bytes
abbrev pub page_refusal : {L : Type 0} → ℕ → Open L → Line → ℕ → Option Refusal
page_refusal announced p l long = stage_refusal announced p.written l.outside (length l.text) p.free long

-- the page with one more line
abbrev pub with_line : {L : Type 0} → Open L → Line → Open L
with_line p l = record { vertices = p.vertices; faces = p.faces; written = p.written + 1; free = p.free + length l.text; stage = p.stage }

-- a line on a page whose stage has `announced` lines: it is written at the first free byte; or the page is given back and nothing is written
abbrev pub LineAnswer : {L : Type 0} → ℕ → Open L → Line → List ℕ → List ℕ → Result (Open L) (Declined (Open L)) → Type 0
LineAnswer announced p l before after (Ok q) = (page_refusal announced p l (length before) ≡ None) × (q ≡ with_line p l) × (after ≡ sets before p.free l.text)
LineAnswer announced p l before after (Err d) = (page_refusal announced p l (length before) ≡ Some d.why) × (d.page ≡ p) × (after ≡ before)

-- a vertex line
abbrev pub VertexAnswer : Open Coordinates → Coordinates → List ℕ → List ℕ → Result (Open Coordinates) (Declined (Open Coordinates)) → Type 0
VertexAnswer p v before after r = LineAnswer p.vertices p (vertex v) before after r

-- a face line
abbrev pub FaceAnswer : Open (Triangle ℕ) → Triangle ℕ → List ℕ → List ℕ → Result (Open (Triangle ℕ)) (Declined (Open (Triangle ℕ))) → Type 0
FaceAnswer p f before after r = LineAnswer p.faces p (face p.vertices f) before after r

-- a stage is ended and makes the page `q`, or it is short of its lines and the page `p` is given back
abbrev pub Ended : {P Q : Type 0} → ℕ → ℕ → P → Q → Result Q (Declined P) → Type 0
Ended announced written p q (Ok r) = (written ≡ announced) × (r ≡ q)
Ended announced written p q (Err d) = (written ≢ announced) × (d.why ≡ LineCount written) × (d.page ≡ p)

-- the page once its vertices are ended
abbrev pub for_faces : Open Coordinates → Open (Triangle ℕ)
for_faces p = record { vertices = p.vertices; faces = p.faces; written = 0; free = p.free; stage = record {} }

-- the page once its faces are ended
abbrev pub done : Open (Triangle ℕ) → Finished
done p = record { length = p.free }
