-- Grid triangles.
use Rattle.std.specs.Prelude.{◌≡◌, ℕ, ◌<◌, ◌≢◌, Some, None, Option, bit_and}
use Rattle.grid.specs.declared.geometry.Point.{Point}
use Rattle.grid.specs.declared.geometry.GridTriangle.{GridTriangle}

-- the bits of a, codes of steps along x, y and z, are a proper non-empty part of the bits of b
pub record Part (a b : ℕ) : Type 0 where
  pub code : b < 8
  pub part : bit_and a b ≡ a
  pub some : a ≢ 0
  pub proper : a ≢ b

abbrev pub TriangleAnswer : Point → ℕ → ℕ → Option GridTriangle → Type 0
TriangleAnswer p a b (Some t) = (t ≡ record { low = p; a = a; b = b }) × Part a b
TriangleAnswer p a b None = Part a b → ⊥
