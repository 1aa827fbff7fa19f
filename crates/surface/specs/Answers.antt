-- Where a grid edge is crossed, by a volume's answers at its ends.
use Rattle.std.specs.Prelude.{ℕ, ◌+◌, ◌-◌, ◌*◌, ◌/◌, ◌%◌, Bool, cond, not, ◌&&◌, Some, None, Option}
use Rattle.grid.specs.declared.geometry.Point.{Point}
use Rattle.grid.specs.declared.geometry.GridEdge.{GridEdge}
use Rattle.grid.specs.Points.{top}
use Rattle.mesh.specs.declared.records.Coordinates.{Coordinates}
use Rattle.volume.specs.declared.fractions.Fraction.{Fraction}
use Rattle.volume.specs.Insides.{answer_inside}

abbrev pub half : Fraction
half = record { num = 1; den = 2 }

-- m/den in ten-thousandths, rounded to the nearest whole number, and up half_way
abbrev pub rounded : ℕ → ℕ → ℕ
rounded m den = (20000 * m + den) / (2 * den)

-- the place r ten-thousandths up a grid edge
abbrev pub along : GridEdge → ℕ → Coordinates
along e r = record {
  x = 10000 * e.low.x + r * (e.direction % 2);
  y = 10000 * e.low.y + r * (e.direction / 2 % 2);
  z = 10000 * e.low.z + r * (e.direction / 4 % 2);
}

-- over any kind of samples K with levels L
module _ {K L : Type 0} (inside : K → L → Bool) (crossing : K → K → L → Fraction) where
  -- how far from the inside answer, which comes first, the crossing lies: half_way where the outside end has no sample
  abbrev pub fraction : L → Option K → Option K → Fraction
  fraction h None b = half
  fraction h (Some a) None = half
  fraction h (Some a) (Some b) = cond (inside a h && not (inside b h)) (crossing a b h) half

  -- how far up from the lower end it lies, in ten-thousandths
  abbrev pub from_low : L → Option K → Option K → ℕ
  from_low h low high = cond (answer_inside inside h low)
      (rounded (fraction h low high).num (fraction h low high).den)
      (rounded ((fraction h high low).den - (fraction h high low).num) (fraction h high low).den)

  -- the place of the vertex on a grid edge
  unfoldable pub place : L → (Point → Option K) → GridEdge → Coordinates
  place h sample e = along e (from_low h (sample e.low) (sample (top e)))
