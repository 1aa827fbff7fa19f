use Rattle.std.proofs.Common.{ℕ, ◌-◌, ap, ◌∙◌}
use Rattle.grid.specs.Points.{◌⊕◌, offset}
use Rattle.grid.specs.Cells.{corner, vertex, edge}
use Rattle.grid.proofs.Corners.{kind_corner}
use Rattle.grid.proofs.cells.Tetrahedron.edge.Goals as goal

pub returns : goal.returns
unfolding vertex edge
returns c =
    let B = c.args.self.cell.base in
    let t = c.args.self.number in
    let p = c.positions-m in
    let low = kind_corner t p.result.0 c.args.self.one_of_six ∙ ap (corner t) p.ensures.low in
    let high = kind_corner t p.result.1 c.args.self.one_of_six ∙ ap (corner t) p.ensures.high in
    λ i. record { low = (c.corner.ensures ∙ ap (λ (k : ℕ). B ⊕ offset k) low) i; direction = high i - low i }
