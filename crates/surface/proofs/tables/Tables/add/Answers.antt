use Rattle.std.proofs.Common.{length, ap, ◌∙◌, length-set}
use Rattle.surface.specs.Views.{numbered}
use Rattle.surface.proofs.Namings.{added_made}
use Rattle.surface.proofs.tables.Tables.add.Goals as goal

pub returns : goal.returns
returns g c =
    let t = c.args.self.now.triangles in
    let A = c.vertex_number-a in
    let B = c.vertex_number-b in
    let C = c.vertex_number-c in
    record {
      after = added_made (g.F.Field.field c.args.field.now).place (numbered c.args.self.now.numbering) (numbered A.new.self) (numbered B.new.self) (numbered C.new.self)
          t.items.now c.push.new.self.items.now t.count c.push.new.self.count c.args.triangle A.result B.result C.result
          A.ensures.after B.ensures.after C.ensures.after A.ensures.number B.ensures.number C.ensures.number
          c.push.ensures.items c.push.ensures.count;
      long = ap length c.push.ensures.items ∙ length-set t.items.now t.count _;
      same_map = C.ensures.same_map ∙ B.ensures.same_map ∙ A.ensures.same_map;
      same_vertices = C.ensures.same_vertices ∙ B.ensures.same_vertices ∙ A.ensures.same_vertices;
      same_triangles = c.push.ensures.same;
    }
