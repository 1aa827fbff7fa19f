-- Which grid points are inside at a level.
use Rattle.std.specs.Prelude.{◌≡◌, Bool, true, false, Some, None, Option}
use Rattle.grid.specs.declared.geometry.Point.{Point}

-- over any kind of samples K with levels L
module _ {K L : Type 0} (inside : K → L → Bool) where
  -- a sample is inside or not; where there is none, it is outside
  abbrev pub answer_inside : L → Option K → Bool
  answer_inside h None = false
  answer_inside h (Some a) = inside a h

  -- the points that are inside
  abbrev pub inside_at : L → (Point → Option K) → Point → Bool
  inside_at h sample p = answer_inside h (sample p)

  -- the point has a sample that is inside at the level
  pub record HasInside (h : L) (sample : Point → Option K) (p : Point) : Type 0 where
    pub value : K
    pub there : sample p ≡ Some value
    pub within : inside value h ≡ true

  -- these are the points that are inside, and no others
  abbrev pub InsidesExact : L → (Point → Option K) → Type 0
  InsidesExact h sample = (p : Point) →
      (inside_at h sample p ≡ true → HasInside h sample p) × (HasInside h sample p → inside_at h sample p ≡ true)
