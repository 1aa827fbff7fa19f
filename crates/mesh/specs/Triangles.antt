-- The triangles of a mesh, and the directed edges that they run along.
use Rattle.std.specs.Prelude.{◌≡◌, ℕ, ◌<◌, ◌⊎◌, List, slice_index_or}
use Rattle.grid.specs.declared.geometry.Triangle.{Triangle}

abbrev pub no_triangle : Triangle ℕ
no_triangle = record { a = 0; b = 0; c = 0 }

-- the triangle of the number `k`
abbrev pub triangle_at : List (Triangle ℕ) → ℕ → Triangle ℕ
triangle_at ts k = slice_index_or ts k no_triangle

-- `v` is a corner of the triangle
abbrev pub Corner : Triangle ℕ → ℕ → Type 0
Corner t v = (v ≡ t.a) ⊎ ((v ≡ t.b) ⊎ (v ≡ t.c))

-- a triangle (a, b, c) runs along the directed edges a to b, b to c and c to a
abbrev pub Runs : Triangle ℕ → ℕ → ℕ → Type 0
Runs t u v = ((u ≡ t.a) × (v ≡ t.b)) ⊎ (((u ≡ t.b) × (v ≡ t.c)) ⊎ ((u ≡ t.c) × (v ≡ t.a)))

-- the corners are three different vertices
pub record Apart (t : Triangle ℕ) : Type 0 where
  pub ab : t.a ≡ t.b → ⊥
  pub bc : t.b ≡ t.c → ⊥
  pub ca : t.c ≡ t.a → ⊥

-- the corners are vertices below `n`
pub record Below (n : ℕ) (t : Triangle ℕ) : Type 0 where
  pub a_below : t.a < n
  pub b_below : t.b < n
  pub c_below : t.c < n

-- one of the first `n` triangles runs from `u` to `v`
pub record Has (ts : List (Triangle ℕ)) (n u v : ℕ) : Type 0 where
  pub at : ℕ
  pub within : at < n
  pub runs : Runs (triangle_at ts at) u v
