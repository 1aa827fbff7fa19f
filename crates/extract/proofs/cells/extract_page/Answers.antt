use Rattle.std.proofs.Common.{◌≡◌, map, length, sym, ap, ◌∙◌}
use Rattle.std.proofs.lemmas.Result.{err_from_is_err_and}
use Rattle.grid.specs.Points.{Sides}
use Rattle.grid.specs.Cells.{cell_count}
use Rattle.mesh.specs.declared.records.Vertex.{Vertex}
use Rattle.page.specs.Whole.{mesh}
use Rattle.surface.specs.Marches.{State, begun}
use Rattle.surface.specs.Views.{state}
use Rattle.extract.specs.Rising.{rising}
use Rattle.extract.proofs.Rises.{page_refused, page_answered}
use Rattle.extract.proofs.cells.extract_page.Goals as goal

pub returns-in_err-march_all : goal.returns-in_err-march_all
returns-in_err-march_all g c =
    let f = g.F.Field.field c.args.field.now in
    let s : State = begun f.sides (length c.args.marks.now) (length c.args.entries.now) c.args.vertices.now c.args.triangles.now in
    let start : state c.begin-surface.result ≡ s =
    c.begin-surface.ensures.is ∙ ap (λ (n : Sides). begun n (length c.args.marks.now) (length c.args.entries.now) c.args.vertices.now c.args.triangles.now) c.shape.ensures.is in
    let p = err_from_is_err_and c.from_residual.result c.from_residual.ensures.1 in
    rw (p.1, p.2)
    (page_refused f s (length c.args.page.now) _ (ap (λ (q : State). rising f q (cell_count f.sides)) (sym start) ∙ c.in_err-march_all.ensures))

pub returns : goal.returns
returns g c =
    let f = g.F.Field.field c.args.field.now in
    let s : State = begun f.sides (length c.args.marks.now) (length c.args.entries.now) c.args.vertices.now c.args.triangles.now in
    let start : state c.begin-surface.result ≡ s =
    c.begin-surface.ensures.is ∙ ap (λ (n : Sides). begun n (length c.args.marks.now) (length c.args.entries.now) c.args.vertices.now c.args.triangles.now) c.shape.ensures.is in
    page_answered f s (state c.march_all.new.surface) _ c.args.page.now c.write_page.new.buffer c.write_page.result
    (ap (λ (q : State). rising f q (cell_count f.sides)) (sym start) ∙ c.in_ok-march_all.ensures)
    (λ i. mesh (map (λ (v : Vertex). v.at) (c.vertices.ensures i)) (c.triangles.ensures i))
    c.write_page.ensures
