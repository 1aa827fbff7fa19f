-- What `{}` prints of a census.
use Rattle.std.specs.Prelude.{ℕ, List, ◌++◌, codes}
use Rattle.std.specs.Fmt.{decimal}
use Rattle.census.specs.declared.counts.Census.{Census}

-- its four numbers, each before the name of what it counts
abbrev pub census_text : Census → List ℕ
census_text c =
    decimal c.points ++ codes " points, " ++ decimal c.edges ++ codes " edges, " ++ decimal c.triangles ++ codes " triangles, "
    ++ decimal c.tetrahedra ++ codes " tetrahedra"
