use Rattle.std.proofs.Common.{◌≡◌, ◌*◌, length, ap, ◌∙◌}
use Rattle.grid.specs.Shapes.{sides}
use Rattle.volume.proofs.Corners.{block_corners}
use Rattle.volume.proofs.tables.TableVolumeVolume.corners_inside.Goals as goal

pub returns-then-at-layer : goal.returns-then-at-layer
returns-then-at-layer g c =
    let k = g.K.SampleKind in
    let v = c.args.self.now in
    let row = c.from-row.ensures in
    let layer : c.from-row.result * c.from.result ≡ v.shape.nx * v.shape.ny = (λ i. row i * c.from.ensures i) in
    let inner = c.is_inner.ensures c.if-is_inner.true in
    let e = block_corners k.stored k.inside c.args.level.now (sides v.shape) v.entries.now c.args.cell.base c.place-at.result c.from-row.result (c.from-row.result * c.from.result) inner c.place-at.ensures row layer in
    record { value = c.block_inside.ensures ∙ e; eight = ap length c.block_inside.ensures }
