-- The points that are inside are those with a sample that is inside. Assumes nothing.
use Rattle.std.proofs.Common.{◌≡◌, Bool, true, false, T, Some, None, Option, sym, refl, ap, ◌∙◌, subst}
use Rattle.grid.specs.declared.geometry.Point.{Point}
use Rattle.volume.specs.Insides.{answer_inside, InsidesExact}

module _ {K L : Type 0} (inside : K → L → Bool) (h : L) where
  found : (o : Option K) → answer_inside inside h o ≡ true → (a : K) × (o ≡ Some a) × (inside a h ≡ true)
  found None e = absurd (let z : T false = subst T (sym e) tt in z)
  found (Some a) e = (a, refl, e)

  pub insides_exact : (sample : Point → Option K) → InsidesExact inside h sample
  insides_exact sample p = (
    λ e. let k = found (sample p) e in record { value = k.0; there = k.1; within = k.2 },
    λ k. ap (answer_inside inside h) k.there ∙ k.within,
  )
