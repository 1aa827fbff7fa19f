-- What an inspection answers.
use Rattle.std.specs.Prelude.{◌≡◌, ℕ, ◌-◌, ◌*◌, ◌^◌, ◌<◌, min, cond, ◌⊎◌, List, length, pos, ◌+ℤ◌, ◌-ℤ◌, Some, None, Ok, Err, Option, Result, nat_lt}
use Rattle.std.proofs.Common.{inl, inr}
use Rattle.grid.specs.declared.geometry.Triangle.{Triangle}
use Rattle.refusal.specs.declared.refusals.Refusal.{Refusal}
use Rattle.refusal.specs.Refusals.{code}
use Rattle.mesh.specs.declared.verdicts.Counts.{Counts}
use Rattle.mesh.specs.declared.verdicts.Verdict.{Verdict}
use Rattle.mesh.specs.declared.verdicts.Verdict.TheVariants.{Misnamed, Doubled, Unpaired, Bare, Torn, Sound}
use Rattle.mesh.specs.Faults.{Fault}
use Rattle.mesh.specs.Surfaces.{Surface}
use Rattle.mesh.specs.MeshEdges.{MeshEdges}
use Rattle.mesh.specs.Parts.{Groups}

-- the number of a verdict, 0 if it is sound, and its values: the place of the fault, or the counts of a sound mesh
abbrev pub report : Verdict → ℕ × (ℕ ⊎ Counts)
report (Misnamed triangle) = (1, inl triangle)
report (Doubled triangle) = (2, inl triangle)
report (Unpaired triangle) = (3, inl triangle)
report (Bare vertex) = (4, inl vertex)
report (Torn vertex) = (5, inl vertex)
report (Sound counts) = (0, inr counts)

-- the counts of the mesh of these triangles on `n` vertices
pub record Counted (n : ℕ) (ts : List (Triangle ℕ)) (c : Counts) : Type 0 where
  pub vertices : c.vertices ≡ n
  pub edges : MeshEdges ts c.edges
  pub triangles : c.triangles ≡ length ts
  pub euler : c.euler ≡ (pos c.vertices -ℤ pos c.edges) +ℤ pos c.triangles
  pub parts : Groups ts n c.parts

-- The verdict of these number and values: the first fault that there is, at its lowest place, or the counts where there is none.
abbrev pub Judged : ℕ → List (Triangle ℕ) → ℕ → ℕ ⊎ Counts → Type 0
Judged n ts number (inl place) =
    Fault n ts number place
    × ((q : ℕ) → q < place → Fault n ts number q → ⊥)
    × ((m q : ℕ) → m < number → Fault n ts m q → ⊥)
Judged n ts number (inr counts) =
    (number ≡ 0) × ((m q : ℕ) → Fault n ts m q → ⊥) × Counted n ts counts

-- the edge entries that an inspection of `triangles` triangles needs, or the largest number of 64 bits where that is less
abbrev pub entries_needed : ℕ → ℕ
entries_needed triangles = min (3 * triangles) (2 ^ 64 - 1)

-- The number and the place of the refusal of an inspection with `entries` edge entries and `records` vertex records, where a table is too
-- short: the length that it needs, the edge table's first.
abbrev pub room_refusal : ℕ → ℕ → ℕ → ℕ → Option (ℕ × ℕ)
room_refusal vertices triangles entries records =
    cond (nat_lt entries (3 * triangles)) (Some (15, entries_needed triangles)) (cond (nat_lt records vertices) (Some (15, vertices)) None)

-- The answer to these triangles on `n` vertices: the refusal that is due, or else the verdict.
abbrev pub Inspected : ℕ → List (Triangle ℕ) → ℕ → ℕ → Result Verdict Refusal → Type 0
Inspected n ts entries records (Err why) = room_refusal n (length ts) entries records ≡ Some (code why)
Inspected n ts entries records (Ok verdict) =
    (room_refusal n (length ts) entries records ≡ None) × Judged n ts (report verdict).0 (report verdict).1

-- a verdict is sound exactly for a closed oriented surface
abbrev pub SoundForSurfaces : ℕ → List (Triangle ℕ) → Verdict → Type 0
SoundForSurfaces n ts verdict = ((report verdict).0 ≡ 0 → Surface n ts) × (Surface n ts → (report verdict).0 ≡ 0)
