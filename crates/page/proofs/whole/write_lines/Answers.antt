use Rattle.std.proofs.Common.{◌≡◌, ℕ, map, length, sym, ap, ◌∙◌, arith}
use Rattle.std.proofs.lemmas.List.{length-map}
use Rattle.std.proofs.lemmas.Result.{err_from_is_err_and}
use Rattle.grid.specs.declared.geometry.Triangle.{Triangle}
use Rattle.mesh.specs.declared.records.Coordinates.{Coordinates}
use Rattle.page.specs.Answers.{for_faces}
use Rattle.page.specs.declared.states.Open.{Open}
use Rattle.page.specs.declared.states.Finished.{Finished}
use Rattle.page.proofs.Pages.{begin_stop, begin_on, at_place, stage_none, stage_all, vertices_more, vertices_stop, faces_more, faces_stop, reached_faces, reached_end}
use Rattle.page.proofs.whole.write_lines.Goals as goal

abbrev none : Triangle ℕ
none = record { a = 0; b = 0; c = 0 }

pub returns-in_err-open : goal.returns-in_err-open
returns-in_err-open g c =
    let p = err_from_is_err_and c.from_residual.result c.from_residual.ensures.1 in
    rw (p.1, p.2)
    (begin_stop g.P.Located.place c.args.vertices.now c.args.triangles.now c.args.buffer.now c.begin.new.buffer c.in_err-open.field-0.0 c.in_err-open.ensures)

pub loop-vertex-init : goal.loop-vertex-init
loop-vertex-init g c =
    let b = begin_on g.P.Located.place c.args.vertices.now c.args.triangles.now c.args.buffer.now c.begin.new.buffer c.in_ok-open.«open» c.in_ok-open.ensures in
    stage_none b.0

pub returns-in_err-open-2 : goal.returns-in_err-open-2
returns-in_err-open-2 g c =
    let place = g.P.Located.place in
    let b = begin_on place c.args.vertices.now c.args.triangles.now c.args.buffer.now c.begin.new.buffer c.in_ok-open.«open» c.in_ok-open.ensures in
    let at = at_place place c.args.vertices.now c.loop-vertex.vertex-index c.vertex-item.result c.coordinates.result c.loop-vertex-test.true c.vertex-item.is c.coordinates.ensures in
    let p = err_from_is_err_and c.from_residual-in_err-open-2.result c.from_residual-in_err-open-2.ensures.1 in
    let m = vertices_stop c.args.triangles.now at.0 at.1 c.loop-vertex.invariant c.in_err-open-2.ensures b.1 in
    rw (p.1, p.2) (record { refused = m.0; bytes = m.1 })

pub loop-vertex-preserved : goal.loop-vertex-preserved
loop-vertex-preserved g c =
    let at = at_place g.P.Located.place c.args.vertices.now c.loop-vertex.vertex-index c.vertex-item.result c.coordinates.result c.loop-vertex-test.true c.vertex-item.is c.coordinates.ensures in
    vertices_more c.args.triangles.now at.0 at.1 c.loop-vertex.invariant c.in_ok-open-2.ensures

pub returns-in_err-faces : goal.returns-in_err-faces
returns-in_err-faces g c =
    let full = stage_all (omega (arith, length-map c.args.vertices.now g.P.Located.place)) c.loop-vertex.invariant in
    absurd (c.in_err-faces.ensures.0 (ap (λ (p : Open Coordinates). p.written) full ∙ sym (ap (λ (p : Open Coordinates). p.vertices) full)))

pub loop-triangle-init : goal.loop-triangle-init
loop-triangle-init g c =
    let full = stage_all (omega (arith, length-map c.args.vertices.now g.P.Located.place)) c.loop-vertex.invariant in
    stage_none (c.in_ok-faces.ensures.1 ∙ ap for_faces full)

pub loop-triangle-preserved : goal.loop-triangle-preserved
loop-triangle-preserved g c =
    faces_more (map g.P.Located.place c.args.vertices.now) none c.loop-triangle-test.true c.loop-triangle.invariant c.in_ok-faces-2.ensures

pub returns-in_err-faces-2 : goal.returns-in_err-faces-2
returns-in_err-faces-2 g c =
    let vs = map g.P.Located.place c.args.vertices.now in
    let b = begin_on g.P.Located.place c.args.vertices.now c.args.triangles.now c.args.buffer.now c.begin.new.buffer c.in_ok-open.«open» c.in_ok-open.ensures in
    let r = reached_faces vs c.args.triangles.now (omega (arith, length-map c.args.vertices.now g.P.Located.place)) c.loop-vertex.invariant b.1 in
    let p = err_from_is_err_and c.from_residual-in_err-faces-2.result c.from_residual-in_err-faces-2.ensures.1 in
    let m = faces_stop vs none c.loop-triangle-test.true c.loop-triangle.invariant c.in_err-faces-2.ensures r in
    rw (p.1, p.2) (record { refused = m.0; bytes = m.1 })

pub returns : goal.returns
returns g c =
    let vs = map g.P.Located.place c.args.vertices.now in
    let b = begin_on g.P.Located.place c.args.vertices.now c.args.triangles.now c.args.buffer.now c.begin.new.buffer c.in_ok-open.«open» c.in_ok-open.ensures in
    let r = reached_faces vs c.args.triangles.now (omega (arith, length-map c.args.vertices.now g.P.Located.place)) c.loop-vertex.invariant b.1 in
    let every : c.loop-triangle.triangle-index ≡ length c.args.triangles.now = omega arith in
    let full = stage_all every c.loop-triangle.invariant in
    let long = ap (λ (z : Finished). z.length) c.in_ok-finish.ensures.1 ∙ ap (λ (z : Open (Triangle ℕ)). z.free) full in
    reached_end vs c.args.triangles.now every long c.loop-triangle.invariant r
