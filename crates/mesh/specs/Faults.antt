-- What can be wrong with a mesh.
use Rattle.std.specs.Prelude.{◌≡◌, ℕ, ◌<◌, ◌≤◌, ◌⊎◌, List, length}
use Rattle.grid.specs.declared.geometry.Triangle.{Triangle}
use Rattle.mesh.specs.Triangles.{triangle_at, Runs}
use Rattle.mesh.specs.Rings.{At, MoreRings}

-- a triangle names a vertex that is not below `n`, or one vertex twice
abbrev pub Misnames : ℕ → Triangle ℕ → Type 0
Misnames n t = (n ≤ t.a) ⊎ (n ≤ t.b) ⊎ (n ≤ t.c) ⊎ (t.a ≡ t.b) ⊎ (t.b ≡ t.c) ⊎ (t.c ≡ t.a)

abbrev pub Misnamed : ℕ → List (Triangle ℕ) → ℕ → Type 0
Misnamed n ts k = Misnames n (triangle_at ts k)

-- a triangle has a directed edge of an earlier one
pub record Doubled (ts : List (Triangle ℕ)) (k : ℕ) : Type 0 where
  pub earlier : ℕ
  pub before : earlier < k
  pub from : ℕ
  pub to : ℕ
  pub here : Runs (triangle_at ts k) from to
  pub there : Runs (triangle_at ts earlier) from to

-- a triangle has a directed edge without its reverse
pub record Unpaired (ts : List (Triangle ℕ)) (k : ℕ) : Type 0 where
  pub from : ℕ
  pub to : ℕ
  pub runs : Runs (triangle_at ts k) from to
  pub alone : (j : ℕ) → j < length ts → Runs (triangle_at ts j) to from → ⊥

-- a vertex has no triangle
abbrev pub Bare : List (Triangle ℕ) → ℕ → Type 0
Bare ts v = (k : ℕ) → At ts v k → ⊥

-- The fault of the number `rule`, from 1 to 5, is at this place: a triangle for 1 to 3, a vertex for 4 and 5.
abbrev pub Fault : ℕ → List (Triangle ℕ) → ℕ → ℕ → Type 0
Fault n ts rule place =
    ((rule ≡ 1) × (place < length ts) × Misnamed n ts place)
    ⊎ (((rule ≡ 2) × (place < length ts) × Doubled ts place)
    ⊎ (((rule ≡ 3) × (place < length ts) × Unpaired ts place)
    ⊎ (((rule ≡ 4) × (place < n) × Bare ts place)
    ⊎ ((rule ≡ 5) × (place < n) × MoreRings ts place))))
