use Rattle.std.proofs.Common.{ap, ◌∙◌}
use Rattle.surface.specs.Answers.{along, from_low, place}
use Rattle.surface.proofs.fields.AtLevelField.place.Goals as goal

pub returns : goal.returns
unfolding place
returns g c =
    let k = g.V.Kind.SampleKind in
    let h = c.args.self.now.level in
    c.along.ensures
    ∙ ap (along c.args.edge) (c.height.ensures.value ∙ (λ i. from_low k.inside k.crossing h (c.sample_at-low.ensures i) (c.sample_on_top-high.ensures i)))
