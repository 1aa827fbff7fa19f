-- How many numbers pass a test.
use Rattle.std.specs.Prelude.{ℕ, zero, suc, ◌+◌, Bool, cond, ◌&&◌, ◌||◌, List, length, ◌==◌, nat_lt}
use Rattle.grid.specs.declared.geometry.Triangle.{Triangle}
use Rattle.mesh.specs.Triangles.{triangle_at}

-- how many numbers below `n` pass the test
unfoldable pub count : (ℕ → Bool) → ℕ → ℕ
count p zero = 0
count p (suc n) = count p n + cond (p n) 1 0

-- the test that the triangle of the number `k` is one at `v`
abbrev pub is_at : List (Triangle ℕ) → ℕ → ℕ → Bool
is_at ts v k = nat_lt k (length ts) && (v == (triangle_at ts k).a || (v == (triangle_at ts k).b || v == (triangle_at ts k).c))
