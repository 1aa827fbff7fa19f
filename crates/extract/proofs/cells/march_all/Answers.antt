use Rattle.std.proofs.Common.{◌≡◌, ap, ◌∙◌, arith}
use Rattle.std.proofs.lemmas.Result.{err_from_is_err_and}
use Rattle.grid.specs.Cells.{cell_count}
use Rattle.surface.specs.Views.{state}
use Rattle.extract.specs.Rising.{rising}
use Rattle.extract.proofs.Rises.{rising_none, rising_more, refused_at}
use Rattle.extract.proofs.cells.march_all.Goals as goal

pub loop-cell-init : goal.loop-cell-init
loop-cell-init g c = rising_none _ _

pub loop-cell-preserved : goal.loop-cell-preserved
loop-cell-preserved g c =
    let m = c.in_ok-march.ensures.is in
    rising_more (g.F.Field.field c.args.field.now) (state c.args.surface.now) c.loop-cell.cell (state c.loop-cell.surface) (state c.march.new.self) c.loop-cell.invariant m.0 m.2

pub returns-in_err-march : goal.returns-in_err-march
returns-in_err-march g c =
    let f = g.F.Field.field c.args.field.now in
    let p = err_from_is_err_and c.from_residual.result c.from_residual.ensures.1 in
    let last : c.cell_count-cell-end.result ≡ cell_count f.sides = c.cell_count-cell-end.ensures ∙ ap cell_count c.shape.ensures.is in
    rw (p.1, p.2)
    (refused_at f (state c.args.surface.now) c.loop-cell.cell (cell_count f.sides) (state c.loop-cell.surface) _ (omega (arith, last)) c.loop-cell.invariant c.in_err-march.ensures.is.0)

pub returns : goal.returns
returns g c =
    let f = g.F.Field.field c.args.field.now in
    let last : c.cell_count-cell-end.result ≡ cell_count f.sides = c.cell_count-cell-end.ensures ∙ ap cell_count c.shape.ensures.is in
    let e : cell_count f.sides ≡ c.loop-cell.cell = omega (arith, last) in
    ap (rising f (state c.args.surface.now)) e ∙ c.loop-cell.invariant
