-- How the counts of a surface are printed.
use Rattle.std.specs.Prelude.{ℕ, List, ◌++◌, codes, decimal}
use Rattle.surface.specs.declared.sizes.Counts.{Counts}

-- `N vertices, M triangles`
abbrev pub counts_text : Counts → List ℕ
counts_text c = decimal c.vertices ++ (codes " vertices, " ++ (decimal c.triangles ++ codes " triangles"))
