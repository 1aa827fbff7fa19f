-- The case table: the triangles of a tetrahedron, by which of its corners are inside.
use Rattle.std.specs.Prelude.{ℕ, Bool, cond, List, [], ◌∷◌, map, slice_index_or}
use Rattle.grid.specs.declared.geometry.Triangle.{Triangle}
use Rattle.grid.specs.declared.geometry.TetEdge.{TetEdge}
use Rattle.grid.specs.declared.geometry.TetEdge.TheVariants.{E01, E02, E03, E12, E13, E23}

-- the positions of the corners of a tetrahedron's edge, the lower first
abbrev pub low_position : TetEdge → ℕ
low_position E01 = 0
low_position E02 = 0
low_position E03 = 0
low_position E12 = 1
low_position E13 = 1
low_position E23 = 2

abbrev pub high_position : TetEdge → ℕ
high_position E01 = 1
high_position E02 = 2
high_position E03 = 3
high_position E12 = 2
high_position E13 = 3
high_position E23 = 3

abbrev pub tri : TetEdge → TetEdge → TetEdge → Triangle TetEdge
tri p q r = record { a = p; b = q; c = r }

-- what stands where a row has no triangle
abbrev pub no_case : Triangle TetEdge
no_case = tri E01 E01 E01

-- the triangle that runs round the other way
unfoldable pub swap : {E : Type 0} → Triangle E → Triangle E
swap τ = record { a = τ.a; b = τ.c; c = τ.b }

-- a triangle of the table as it runs round in an odd or an even tetrahedron
abbrev pub turned : Bool → Triangle TetEdge → Triangle TetEdge
turned odd τ = cond odd (swap τ) τ

-- the rows of the masks 0 to 15: a row names exactly the edges between an inside and an outside corner, and the row of 15 - w is that
-- of w, each triangle running round the other way
unfoldable pub rows : List (List (Triangle TetEdge))
rows =
    let r1 : List (Triangle TetEdge) = tri E01 E02 E03 ∷ [] in
    let r2 : List (Triangle TetEdge) = tri E01 E13 E12 ∷ [] in
    let r4 : List (Triangle TetEdge) = tri E02 E12 E23 ∷ [] in
    let r8 : List (Triangle TetEdge) = tri E03 E23 E13 ∷ [] in
    let r3 : List (Triangle TetEdge) = tri E02 E03 E13 ∷ tri E02 E13 E12 ∷ [] in
    let r5 : List (Triangle TetEdge) = tri E03 E01 E12 ∷ tri E03 E12 E23 ∷ [] in
    let r9 : List (Triangle TetEdge) = tri E01 E02 E23 ∷ tri E01 E23 E13 ∷ [] in
    [] ∷ r1 ∷ r2 ∷ r3 ∷ r4 ∷ r5 ∷ map swap r9 ∷ map swap r8 ∷ r8 ∷ r9 ∷ map swap r5 ∷ map swap r4 ∷ map swap r3 ∷ map swap r2 ∷ map swap r1 ∷ [] ∷ []

-- the triangles of a tetrahedron, odd or even, by its mask
unfoldable pub row : Bool → ℕ → List (Triangle TetEdge)
row odd w = cond odd (map swap (slice_index_or rows w [])) (slice_index_or rows w [])
