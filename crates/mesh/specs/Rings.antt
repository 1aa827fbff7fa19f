-- The triangles round a vertex.
use Rattle.std.specs.Prelude.{ℕ, ◌<◌, List, length}
use Rattle.grid.specs.declared.geometry.Triangle.{Triangle}
use Rattle.mesh.specs.Triangles.{triangle_at, Corner, Runs}

-- the triangle of the number `k` is one at `v`
pub record At (ts : List (Triangle ℕ)) (v k : ℕ) : Type 0 where
  pub within : k < length ts
  pub corner : Corner (triangle_at ts k) v

-- From the triangle (v, a, b) of the number `j`, which runs from b to v, the ring goes on to one of the number `k` that runs from v to b.
pub record GoesOn (ts : List (Triangle ℕ)) (v j k : ℕ) : Type 0 where
  pub within : k < length ts
  pub over : ℕ
  pub inward : Runs (triangle_at ts j) over v
  pub outward : Runs (triangle_at ts k) v over

-- going on, some times or not at all, leads from one triangle at `v` to another
pub data Leads (ts : List (Triangle ℕ)) (v : ℕ) : ℕ → ℕ → Type 0 where
  stay : {j : ℕ} → Leads ts v j j
  step : {j k l : ℕ} → GoesOn ts v j k → Leads ts v k l → Leads ts v j l

-- the triangles at `v` form one ring: going on leads from any of them to any other
pub record OneRing (ts : List (Triangle ℕ)) (v : ℕ) : Type 0 where
  pub leads : (j k : ℕ) → At ts v j → At ts v k → Leads ts v j k

-- they form more: going on never leads from some of them to some other
pub record MoreRings (ts : List (Triangle ℕ)) (v : ℕ) : Type 0 where
  pub from : ℕ
  pub to : ℕ
  pub from_at : At ts v from
  pub to_at : At ts v to
  pub apart : Leads ts v from to → ⊥
