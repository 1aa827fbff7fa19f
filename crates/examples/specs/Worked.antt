-- Worked examples: crossings, sides, the room that a march needs, and the counts of small meshes, as one table.
use Rattle.std.specs.Prelude.{◌≡◌, ℕ, Bool, true, false, ◌&&◌, T, List, [], ◌∷◌, replicate, pos, Some, None, Option, ◌==◌}
use Rattle.grid.specs.declared.geometry.Point.{Point}
use Rattle.grid.specs.declared.geometry.GridEdge.{GridEdge}
use Rattle.refusal.specs.declared.refusals.Refusal.{Refusal}
use Rattle.grid.specs.Points.{Sides, sampled}
use Rattle.grid.specs.Cells.{cell_base}
use Rattle.refusal.specs.Refusals.{code}
use Rattle.grid.specs.Shapes.{triple, sides_refusal}
use Rattle.mesh.specs.declared.records.Coordinates.{Coordinates}
use Rattle.mesh.specs.declared.verdicts.Counts.{Counts}
use Rattle.mesh.specs.Triangles.{no_triangle}
use Rattle.mesh.specs.Verdicts.{Counted}
use Rattle.volume.specs.declared.fractions.Fraction.{Fraction}
use Rattle.volume.specs.declared.samples.RatioParts.{RatioParts}
use Rattle.volume.specs.Kinds.{density_inside, density_crossing, density_stored, parts, ratio_inside, ratio_crossing, ratio_stored}
use Rattle.surface.specs.Answers.{along, fraction, from_low}
use Rattle.surface.specs.Marches.{State, Field, march_refusal, marched, begun}
use Rattle.surface.specs.Needs.{need}
use Rattle.surface.specs.Runs.{Run}
use Rattle.surface.specs.Skins.{no_vertex, vertex_count, mesh, AllMarched}

-- one worked example
pub data Example : Type 0 where
  -- an edge between an inside and an outside sample, at a level: the crossing num/den, and how far up the edge it lies, in
  -- ten-thousandths, with the lower end inside and with the upper
  densities : (inside outside level num den lower upper : ℕ) → Example
  ratios : (inside outside level : RatioParts) (num den lower upper : ℕ) → Example
  -- three sides are taken; or refused, with this number and this axis
  taken : Sides → Example
  refused : Sides → (number axis : ℕ) → Example
  -- on a block of one sample, which is inside, and so many vertex records, the first march of cell 0 is refused with this number and
  -- this place; or it adds so many vertices and triangles
  no_room : (records number place : ℕ) → Example
  adds : (records vertices triangles : ℕ) → Example
  -- the mesh of a block of samples, all inside or none: its vertices, mesh edges and triangles, its Euler number and its parts
  skinned : Sides → (all : Bool) (vertices edges triangles euler parts : ℕ) → Example

-- the crossing between two answers, and where it lies
abbrev pub crosses : {K L : Type 0} → (K → L → Bool) → (K → K → L → Fraction) → Option K → Option K → Option L → ℕ → ℕ → ℕ → ℕ → Bool
crosses inside crossing a b None num den lower upper = false
crosses inside crossing a b (Some h) num den lower upper =
    ((fraction inside crossing h a b).num == num) && (fraction inside crossing h a b).den == den
    && from_low inside crossing h a b == lower && from_low inside crossing h b a == upper

-- there is no refusal; or there is one with this number and this place
abbrev pub accepts : Option Refusal → Bool
accepts None = true
accepts (Some e) = false

abbrev pub refuses : Option Refusal → ℕ → ℕ → Bool
refuses None number place = false
refuses (Some e) number place = (code e).0 == number && (code e).1 == place

-- a block of samples that are all inside or all outside, whatever their kind
pub record Block (n : Sides) (all : Bool) (f : Field) : Type 0 where
  pub sides : f.sides ≡ n
  pub inside : (p : Point) → f.inside p ≡ (all && sampled n p)

abbrev pub block : Sides → Bool → (GridEdge → Coordinates) → Field
block n all place = record { sides = n; inside = λ p. all && sampled n p; place = place }

-- vertices half_way up their edges, as between labels
abbrev pub half_way : GridEdge → Coordinates
half_way e = along e 5000

-- one sample, which is inside
abbrev pub dot : Field
dot = block (triple 1 1 1) true half_way

-- a surface over tables with a mark for each of the eight cells, 16 entries, so many vertex records and 24 triangle records
abbrev pub before : ℕ → State
before records = begun (triple 1 1 1) 8 16 (replicate records no_vertex) (replicate 24 no_triangle)

-- what each kind of example tests
abbrev pub densities_cross : ℕ → ℕ → ℕ → ℕ → ℕ → ℕ → ℕ → Bool
densities_cross a b h num den lower upper = crosses density_inside density_crossing (density_stored a) (density_stored b) (Some h) num den lower upper

abbrev pub ratios_cross : RatioParts → RatioParts → RatioParts → ℕ → ℕ → ℕ → ℕ → Bool
ratios_cross a b h num den lower upper = crosses ratio_inside ratio_crossing (ratio_stored a) (ratio_stored b) (ratio_stored h) num den lower upper

abbrev pub march_refused : ℕ → ℕ → ℕ → Bool
march_refused records number place = refuses (march_refusal dot (before records) 0) number place

-- it is accepted, answers this need, and leaves these counts
abbrev pub march_adds : ℕ → ℕ → ℕ → Bool
march_adds records vertices triangles =
    let n = need dot.inside (before records).tables.numbered.entries (cell_base (triple 1 1 1) 0) in
    let after = (marched dot (before records) 0).tables in
    accepts (march_refusal dot (before records) 0)
    && (n.vertices == vertices && n.triangles == triangles)
    && (after.numbered.count == vertices && after.count == triangles)

abbrev pub counts : ℕ → ℕ → ℕ → ℕ → ℕ → Counts
counts vertices edges triangles euler parts = record { vertices = vertices; edges = edges; triangles = triangles; euler = pos euler; parts = parts }

-- of a block: some run marches every cell; and after every run that does, refused marches and other calls in it or not, the mesh
-- counts these
pub record Skinned (n : Sides) (all : Bool) (c : Counts) : Type 0 where
  pub some : (s : State) × Run (block n all half_way) s × AllMarched (block n all half_way) s
  pub every : (f : Field) → Block n all f → (s : State) → Run f s → AllMarched f s → Counted (vertex_count s) (mesh s) c

-- what an example says: it passes its test; a mesh counts what it says
abbrev pub Holds : Example → Type 0
Holds (densities a b h num den lower upper) = T (densities_cross a b h num den lower upper)
Holds (ratios a b h num den lower upper) = T (ratios_cross a b h num den lower upper)
Holds (taken n) = T (accepts (sides_refusal n))
Holds (refused n number axis) = T (refuses (sides_refusal n) number axis)
Holds (no_room records number place) = T (march_refused records number place)
Holds (adds records vertices triangles) = T (march_adds records vertices triangles)
Holds (skinned n all v e t x p) = Skinned n all (counts v e t x p)

abbrev pub examples : List Example
examples =
    densities 10 4 7 3 6 5000 5000
    ∷ densities 7 4 7 0 3 0 10000
    ∷ densities 5 2 3 2 3 6667 3333
    ∷ ratios (parts 3 4) (parts 1 4) (parts 1 2) 8 16 5000 5000
    ∷ taken (triple 254 254 254)
    ∷ refused (triple 0 1 1) 1 0
    ∷ refused (triple 1 0 1) 1 1
    ∷ refused (triple 1 1 0) 1 2
    ∷ refused (triple 255 1 1) 1 0
    ∷ refused (triple 1 255 1) 1 1
    ∷ refused (triple 1 1 255) 1 2
    ∷ no_room 6 7 0
    ∷ adds 7 7 6
    ∷ skinned (triple 1 1 1) false 0 0 0 0 0
    ∷ skinned (triple 1 1 1) true 14 36 24 2 1
    ∷ skinned (triple 2 1 1) true 26 72 48 2 1
    ∷ []
