-- The text of an OFF page: numbers, lines and the whole page, as lists of byte codes.
use Rattle.std.specs.Prelude.{ℕ, ◌+◌, ◌/◌, ◌%◌, cond, List, [], ◌∷◌, ◌++◌, map, length, ◌==◌}
use Rattle.std.specs.Int.Digits.{digits_of}
use Rattle.std.specs.List.{flat_map}
use Rattle.grid.specs.declared.geometry.Triangle.{Triangle}
use Rattle.mesh.specs.declared.records.Coordinates.{Coordinates}

-- the digits of a number, the highest first, and `0` for 0
unfoldable pub decimal : ℕ → List ℕ
decimal n = cond (n == 0) (48 ∷ []) (map (λ d. 48 + d) (digits_of 10 n))

-- the last four digits of a number
abbrev pub four : ℕ → List ℕ
four n = (48 + n / 1000 % 10) ∷ (48 + n / 100 % 10) ∷ (48 + n / 10 % 10) ∷ (48 + n % 10) ∷ []

-- a number of ten-thousandths: its whole part, a point and four digits
unfoldable pub coordinate : ℕ → List ℕ
coordinate n = decimal (n / 10000) ++ (46 ∷ []) ++ four n

-- the line `x y z`
unfoldable pub vertex_line : Coordinates → List ℕ
vertex_line v = coordinate v.x ++ (32 ∷ []) ++ coordinate v.y ++ (32 ∷ []) ++ coordinate v.z ++ (10 ∷ [])

-- the line `3 a b c`
unfoldable pub face_line : Triangle ℕ → List ℕ
face_line f = (51 ∷ 32 ∷ []) ++ decimal f.a ++ (32 ∷ []) ++ decimal f.b ++ (32 ∷ []) ++ decimal f.c ++ (10 ∷ [])

-- the lines `OFF` and `V F 0`
unfoldable pub header : ℕ → ℕ → List ℕ
header v f = (79 ∷ 70 ∷ 70 ∷ 10 ∷ []) ++ decimal v ++ (32 ∷ []) ++ decimal f ++ (32 ∷ 48 ∷ 10 ∷ [])

-- where the vertices of a mesh lie, and its triangles
pub record Mesh : Type 0 where
  pub vertices : List Coordinates
  pub triangles : List (Triangle ℕ)

-- the page of a mesh
unfoldable pub page : Mesh → List ℕ
page m = header (length m.vertices) (length m.triangles) ++ flat_map vertex_line m.vertices ++ flat_map face_line m.triangles
