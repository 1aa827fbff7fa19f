use Rattle.std.proofs.Common.{rules, ◌≡◌, Bool, true, false, List, get_or, set, Some, sym, refl, ap, ◌∙◌}
use Rattle.std.proofs.lemmas.Result.{err_from_is_err_and}
use Rattle.grid.specs.Cells.{cell_base}
use Rattle.surface.specs.Marches.{State}
use Rattle.surface.specs.Needs.{need, flag_need}
use Rattle.surface.specs.States.{added_all}
use Rattle.surface.specs.Views.{state, tabled}
use Rattle.surface.proofs.Marching.{listed, need_by_flags, by_room, roomy, all_fit, room_for, nothing_added, accepted}
use Rattle.surface.proofs.Uniform.{nothing, uniform_need, nothing_lacks}
use Rattle.surface.proofs.surfaces.Surface.march_at.Goals as goal

pub returns-then-is_uniform : goal.returns-then-is_uniform
returns-then-is_uniform g c =
    let f = g.F.Field.field c.args.field.now in
    let s = state c.args.self.now in
    let B = cell_base s.sides c.args.cell in
    let flags = c.corners_inside-inside.result in
    let es = s.tables.numbered.entries in
    let n : nothing ≡ need f.inside es B =
    uniform_need es (get_or flags 0 false) c.args.at.base
    ∙ ap (λ (l : List Bool). flag_need es l c.args.at.base) (sym (c.is_uniform.ensures.whole c.if-is_uniform.true))
    ∙ need_by_flags f.inside es B c.args.at.base flags c.requires.allowed.base c.corners_inside-inside.ensures.value in
    let none = nothing_lacks s.tables c.args.cell in
    let tied = c.args.self.now.tables.numbering.tied in
    let t : State = record { sides = s.sides; marks = set s.marks c.args.cell true; tables = s.tables } in
    let e : c.default.result ≡ nothing = search rules in
    rw e
    (accepted f s t c.args.cell nothing c.requires.shape c.requires.allowed.allowed n tied none refl refl
    (nothing_added f.place f.inside B s.tables nothing n tied (roomy nothing _ _ _ c.args.cell none) refl))

pub returns-in_err-check_room : goal.returns-in_err-check_room
returns-in_err-check_room g c =
    let f = g.F.Field.field c.args.field.now in
    let s = state c.args.self.now in
    let l = listed f.inside s.tables.numbered.entries (cell_base s.sides c.args.cell) c.args.at.base c.corners_inside-inside.result _ _ c.need-need.result c.requires.allowed.base
    c.corners_inside-inside.ensures.value c.crossed_edges-edges.ensures.value c.triangles-list.ensures.value c.need-need.ensures.vertices c.need-need.ensures.triangles in
    let p = err_from_is_err_and c.from_residual.result c.from_residual.ensures.1 in
    rw (p.1, p.2)
    (by_room f s c.args.cell c.need-need.result (Some c.in_err-check_room.field-0.0) c.requires.shape c.requires.allowed.allowed l.need_is c.in_err-check_room.ensures, refl)

pub add_all-requires : goal.add_all-requires
add_all-requires g c =
    let f = g.F.Field.field c.args.field.now in
    let s = state c.args.self.now in
    let B = cell_base s.sides c.args.cell in
    let l = listed f.inside s.tables.numbered.entries B c.args.at.base c.corners_inside-inside.result _ _ c.need-need.result c.requires.allowed.base
    c.corners_inside-inside.ensures.value c.crossed_edges-edges.ensures.value c.triangles-list.ensures.value c.need-need.ensures.vertices c.need-need.ensures.triangles in
    let tied = c.args.self.now.tables.numbering.tied in
    let room = roomy c.need-need.result _ _ _ c.args.cell c.in_ok-check_room.ensures in
    record {
      fits = all_fit f.place f.inside B s.tables c.need-need.result l.need_is tied room _ l.list_is;
      room = room_for f.place f.inside B s.tables c.need-need.result l.need_is tied room _ l.list_is;
    }

pub returns : goal.returns
returns g c =
    let f = g.F.Field.field c.args.field.now in
    let s = state c.args.self.now in
    let l = listed f.inside s.tables.numbered.entries (cell_base s.sides c.args.cell) c.args.at.base c.corners_inside-inside.result _ _ c.need-need.result c.requires.allowed.base
    c.corners_inside-inside.ensures.value c.crossed_edges-edges.ensures.value c.triangles-list.ensures.value c.need-need.ensures.vertices c.need-need.ensures.triangles in
    let t : State = record { sides = s.sides; marks = set s.marks c.args.cell true; tables = tabled c.add_all.new.self } in
    accepted f s t c.args.cell c.need-need.result c.requires.shape c.requires.allowed.allowed l.need_is c.args.self.now.tables.numbering.tied c.in_ok-check_room.ensures refl refl
    (c.add_all.ensures.after ∙ ap (added_all f.place s.tables) l.list_is)
