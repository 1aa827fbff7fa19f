-- The lines of a page, and why one is refused.
use Rattle.std.specs.Prelude.{ℕ, ◌+◌, cond, List, [], ◌∷◌, Some, None, Option, nat_le, nat_lt}
use Rattle.std.specs.List.{find}
use Rattle.grid.specs.declared.geometry.Triangle.{Triangle}
use Rattle.refusal.specs.declared.refusals.Refusal.{Refusal}
use Rattle.refusal.specs.declared.refusals.Refusal.TheVariants.{Outside, PageRoom, LineCount}
use Rattle.mesh.specs.declared.records.Coordinates.{Coordinates}
use Rattle.page.specs.Text.{vertex_line, face_line, header}

-- the first of some numbers that is not below `bound`
abbrev pub first_from : ℕ → List ℕ → Option ℕ
first_from bound ns = find (λ n. nat_le bound n) ns

-- a line to be written: the first number on it that lies outside, if any, and its text
pub record Line : Type 0 where
  pub outside : Option ℕ
  pub text : List ℕ

-- a line that shows some numbers, of which those from `bound` on lie outside
abbrev pub line : ℕ → List ℕ → List ℕ → Line
line bound ns text = record { outside = first_from bound ns; text = text }

-- the first two lines, as one
abbrev pub heading : ℕ → ℕ → Line
heading v f = record { outside = None; text = header v f }

-- a coordinate lies outside above 2,550,000
abbrev pub vertex : Coordinates → Line
vertex v = line 2550001 (v.x ∷ v.y ∷ v.z ∷ []) (vertex_line v)

-- an index lies outside where it is not below the count of the vertices
abbrev pub face : ℕ → Triangle ℕ → Line
face count f = line count (f.a ∷ f.b ∷ f.c ∷ []) (face_line f)

-- a number outside, or else
abbrev pub outside_or : Option ℕ → Option Refusal → Option Refusal
outside_or (Some n) r = Some (Outside n)
outside_or None r = r

-- why a line of `width` bytes is refused where `free` is the first free byte of `long`: a number outside, then no room
abbrev pub line_refusal : Option ℕ → (width free long : ℕ) → Option Refusal
line_refusal outside width free long = outside_or outside (cond (nat_le (free + width) long) None (Some (PageRoom free)))

-- why it is refused in a stage of `announced` lines of which some are written: too many lines, then as above
abbrev pub stage_refusal : (announced written : ℕ) → Option ℕ → (width free long : ℕ) → Option Refusal
stage_refusal announced written outside width free long = cond (nat_lt written announced) (line_refusal outside width free long) (Some (LineCount written))
