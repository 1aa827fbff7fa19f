-- A row of the case table as the program holds it.
use Rattle.std.specs.Prelude.{ℕ, List, [], ◌∷◌, slice_index_or}
use Rattle.grid.specs.declared.geometry.Triangle.{Triangle}
use Rattle.grid.specs.declared.geometry.TetEdge.{TetEdge}
use Rattle.grid.specs.declared.geometry.TetEdge.TheVariants.{E01, E02, E03, E12, E13, E23}
use Rattle.grid.specs.Cases.{tri, no_case}

-- a row's triangles, filled up to two
unfoldable pub filled : List (Triangle TetEdge) → List (Triangle TetEdge)
filled [] = no_case ∷ no_case ∷ []
filled (t ∷ []) = t ∷ no_case ∷ []
filled (t ∷ u ∷ more) = t ∷ u ∷ []

abbrev none : List (Triangle TetEdge)
none = no_case ∷ no_case ∷ []

abbrev one : Triangle TetEdge → List (Triangle TetEdge)
one t = t ∷ no_case ∷ []

abbrev two : Triangle TetEdge → Triangle TetEdge → List (Triangle TetEdge)
two t u = t ∷ u ∷ []

-- the sixteen rows, written out
abbrev pub table : List (List (Triangle TetEdge))
table =
    none
    ∷ one (tri E01 E02 E03)
    ∷ one (tri E01 E13 E12)
    ∷ two (tri E02 E03 E13) (tri E02 E13 E12)
    ∷ one (tri E02 E12 E23)
    ∷ two (tri E03 E01 E12) (tri E03 E12 E23)
    ∷ two (tri E01 E23 E02) (tri E01 E13 E23)
    ∷ one (tri E03 E13 E23)
    ∷ one (tri E03 E23 E13)
    ∷ two (tri E01 E02 E23) (tri E01 E23 E13)
    ∷ two (tri E03 E12 E01) (tri E03 E23 E12)
    ∷ one (tri E02 E23 E12)
    ∷ two (tri E02 E13 E03) (tri E02 E12 E13)
    ∷ one (tri E01 E12 E13)
    ∷ one (tri E01 E03 E02)
    ∷ none
    ∷ []

-- the row of a mask
abbrev pub table_row : ℕ → List (Triangle TetEdge)
table_row mask = slice_index_or table mask none
