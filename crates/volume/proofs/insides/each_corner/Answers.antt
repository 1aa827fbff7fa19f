use Rattle.std.proofs.Common.{◌∷◌, [], ap, ◌∙◌}
use Rattle.grid.specs.Patterns.{corner_flags}
use Rattle.volume.proofs.insides.each_corner.Goals as goal

pub returns : goal.returns
unfolding corner_flags
returns g c = λ inside by i.
    (by _ _ c.asked.ensures ∙ ap inside c.corner.ensures) i
    ∷ (by _ _ c.asked-2.ensures ∙ ap inside c.corner-2.ensures) i
    ∷ (by _ _ c.asked-3.ensures ∙ ap inside c.corner-3.ensures) i
    ∷ (by _ _ c.asked-4.ensures ∙ ap inside c.corner-4.ensures) i
    ∷ (by _ _ c.asked-5.ensures ∙ ap inside c.corner-5.ensures) i
    ∷ (by _ _ c.asked-6.ensures ∙ ap inside c.corner-6.ensures) i
    ∷ (by _ _ c.asked-7.ensures ∙ ap inside c.corner-7.ensures) i
    ∷ (by _ _ c.asked-8.ensures ∙ ap inside c.corner-8.ensures) i
    ∷ []
