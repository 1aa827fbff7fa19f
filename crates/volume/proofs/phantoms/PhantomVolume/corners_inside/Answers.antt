use Rattle.std.proofs.Common.{◌∷◌, [], ◌∙◌}
use Rattle.volume.proofs.Corners.{ball_corners}
use Rattle.volume.proofs.phantoms.PhantomVolume.corners_inside.Goals as goal

pub returns-clause-value : goal.returns-clause-value
returns-clause-value c =
    let x = c.square_apart-x in
    let y = c.square_apart-y in
    let z = c.square_apart-z in
    let next_x = c.square_apart-next_x in
    let next_y = c.square_apart-next_y in
    let next_z = c.square_apart-next_z in
    (λ i.
    c.inside_at.ensures i
    ∷ c.inside_at-2.ensures i
    ∷ c.inside_at-3.ensures i
    ∷ c.inside_at-4.ensures i
    ∷ c.inside_at-5.ensures i
    ∷ c.inside_at-6.ensures i
    ∷ c.inside_at-7.ensures i
    ∷ c.inside_at-8.ensures i
    ∷ [])
    ∙ ball_corners c.args.self.now c.args.level.now c.args.cell.base (c.is_inner.ensures c.if-not-is_inner.false) x.result next_x.result y.result next_y.result z.result next_z.result x.ensures next_x.ensures y.ensures next_y.ensures z.ensures next_z.ensures
