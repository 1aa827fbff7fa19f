use Rattle.std.proofs.Common.{◌≡◌, Bool, sym, ap, ◌∙◌}
use Rattle.grid.specs.Cases.{turned}
use Rattle.grid.specs.Cells.{odd, placed}
use Rattle.grid.proofs.Corners.{kind_odd}
use Rattle.grid.proofs.cells.Tetrahedron.place.Goals.{then-self, else-self}
use Rattle.grid.proofs.cells.Tetrahedron.place.Goals as goal

pub returns : goal.returns
unfolding placed
returns c =
    let t = c.args.self.number in
    let o = kind_odd t c.args.self.one_of_six in
    let turn : c.if-self.case ≡ turned (odd t) c.args.case = elim c.if-self.branch [
      | then-self w ↦ w.case-is ∙ w.reversed-case.ensures ∙ ap (λ (b : Bool). turned b c.args.case) (sym w.if-self.true ∙ o)
      | else-self w ↦ w.case-is ∙ ap (λ (b : Bool). turned b c.args.case) (sym w.if-self.false ∙ o)
    ] in
    (λ i. record { a = c.edge.ensures i; b = c.edge-2.ensures i; c = c.edge-3.ensures i }) ∙ ap (placed c.args.self.cell.base t) turn
