use Rattle.std.proofs.Common.{◌≡◌, [], ◌++◌, map, get_or, take, ap, sym, ◌∙◌}
use Rattle.std.proofs.lemmas.List.{take_all}
use Rattle.std.proofs.lemmas.Simd.{map-map}
use Rattle.grid.specs.Cells.{odd, placed}
use Rattle.grid.specs.Cases.{rows, row, turned}
use Rattle.grid.specs.Patterns.{flag_tet}
use Rattle.grid.proofs.Rows.{row_turned, row_counted}
use Rattle.grid.proofs.cells.Tetrahedron.add_triangles.Goals as goal

pub returns-clause-items : goal.returns-clause-items
unfolding flag_tet
returns-clause-items c =
    let f = placed c.args.self.cell.base c.args.self.number in
    let o = odd c.args.self.number in
    let m = c.mask-mask.result.bits in
    let all : take c.loop-case.case-index (take c.triangle_count.result c.row.result.now) ≡ get_or rows m [] =
    take_all c.loop-case.case-index (take c.triangle_count.result c.row.result.now) c.loop-case-test.false
    ∙ row_counted m c.triangle_count.result c.row.result.now c.mask-mask.result.four c.row.ensures c.triangle_count.ensures.value in
    let tet : map (λ τ. f (turned o τ)) (get_or rows m []) ≡ flag_tet c.args.inside.now c.args.self.cell.base c.args.self.number =
    sym (map-map f (turned o) (get_or rows m [])) ∙ ap (map f) (sym (row_turned o m)) ∙ (λ j. map f (row o (c.mask-mask.ensures j))) in
    c.loop-case.invariant.items ∙ (λ j. take c.args.found.now.count c.args.found.now.items ++ (ap (map (λ τ. f (turned o τ))) all ∙ tet) j)
