-- Where a volume has no samples.
use Rattle.std.specs.Prelude.{◌≡◌, false, None, Option}
use Rattle.grid.specs.declared.geometry.Point.{Point}
use Rattle.grid.specs.Points.{Sides, sampled}

-- at border points and beyond there is no sample
abbrev pub Bordered : {K : Type 0} → Sides → (Point → Option K) → Type 0
Bordered s sample = (p : Point) → sampled s p ≡ false → sample p ≡ None
