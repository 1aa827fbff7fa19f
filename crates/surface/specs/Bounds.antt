-- No point on the border of a volume's grid or beyond is inside.
use Rattle.std.proofs.Common.{Bool, Option, ap, ◌∙◌, ⊎_elim, sym}
use Rattle.std.proofs.lemmas.Bool.{cases_Bool, true≢false}
use Rattle.grid.specs.declared.geometry.Point.{Point}
use Rattle.grid.specs.Points.{Sides, sampled}
use Rattle.volume.specs.declared.fractions.Fraction.{Fraction}
use Rattle.volume.specs.Borders.{Bordered}
use Rattle.volume.specs.Insides.{answer_inside}
use Rattle.surface.specs.Law.{Bounded}
use Rattle.surface.specs.Marches.{field}

-- where a volume has no sample no point is inside
pub volume_bounded : {K L : Type 0} (inside : K → L → Bool) (crossing : K → K → L → Fraction) (h : L) (n : Sides) (sample : Point → Option K) → Bordered n sample → Bounded (field inside crossing h n sample)
volume_bounded inside crossing h n sample border p i =
    ⊎_elim
    (λ t. t)
    (λ t. absurd (true≢false (sym i ∙ ap (answer_inside inside h) (border p t))))
    (cases_Bool (sampled n p))
