use Rattle.std.proofs.Common.{refl, ◌∙◌, arith}
use Rattle.surface.proofs.Namings.{added_none, added_more, added_all_of, added_count}
use Rattle.surface.proofs.tables.Tables.add_all.Goals as goal

pub loop-triangle-init : goal.loop-triangle-init
loop-triangle-init g c = (added_none (g.F.Field.field c.args.field.now).place _, omega arith, refl, refl, refl, refl)

pub loop-triangle-preserved : goal.loop-triangle-preserved
loop-triangle-preserved g c =
    let p = (g.F.Field.field c.args.field.now).place in
    let l = c.loop-triangle in
    let inv = l.invariant in
    let done = c.add.ensures in
    let count = added_count p _ _ _ done.after in (
      added_more p _ _ _ c.args.list.now l.triangle-index _ c.loop-triangle-test.true inv.0 done.after,
      omega (arith, count),
      done.long ∙ inv.2,
      done.same_map ∙ inv.3,
      done.same_vertices ∙ inv.4,
      done.same_triangles ∙ inv.5,
    )

pub returns : goal.returns
returns g c =
    let l = c.loop-triangle in
    record {
      after = added_all_of (g.F.Field.field c.args.field.now).place _ _ c.args.list.now l.triangle-index c.loop-triangle-test.false l.invariant.0;
      same_map = l.invariant.3;
      same_vertices = l.invariant.4;
      same_triangles = l.invariant.5;
    }
