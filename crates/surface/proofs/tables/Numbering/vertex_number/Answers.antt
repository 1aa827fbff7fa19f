use Rattle.std.proofs.Common.{sym, refl, arith}
use Rattle.grid.specs.EdgeKeys.{vertex_on, with_vertex}
use Rattle.keymap.proofs.Frees.{free_crowded}
use Rattle.surface.specs.Views.{numbered}
use Rattle.surface.proofs.Begun.{tied_again, ok_unless}
use Rattle.surface.proofs.Namings.{named_old, named_new, number_old, number_new}
use Rattle.surface.proofs.tables.Numbering.vertex_number.Goals as goal

pub returns-in-Some : goal.returns-in-Some
unfolding vertex_on
returns-in-Some g c =
    let s = numbered c.args.self.now in
    let h = c.in-Some.ensures in
    record {
      after = named_old (g.F.Field.field c.args.field.now).place s c.args.edge _ h;
      number = number_old s c.args.edge _ h;
      same_map = refl;
      same_vertices = refl;
    }

pub push-requires : goal.push-requires
unfolding vertex_on
push-requires g c = c.requires.vertex (sym c.in_default.ensures)

pub unwrap-requires : goal.unwrap-requires
unfolding vertex_on
unwrap-requires g c =
    let h = c.requires.entry (sym c.in_default.ensures) in
    ok_unless c.insert.result (λ f. let n = free_crowded c.args.self.now.map.entries.now (c.insert.ensures.full f) in omega (arith, h))

pub invariant_of-self : goal.invariant_of-self
unfolding vertex_on with_vertex
invariant_of-self g c = record {
  tied = tied_again (g.F.Field.field c.args.field.now).place (numbered c.args.self.now) c.args.edge _ _ _ c.args.self.now.tied c.requires c.in_default.ensures c.insert.ensures.entries (c.push.ensures.items) c.push.ensures.count c.place-at.ensures;
}

pub returns : goal.returns
unfolding vertex_on with_vertex
returns g c =
    let s = numbered c.args.self.now in
    let h = c.in_default.ensures in
    record {
      after = named_new (g.F.Field.field c.args.field.now).place s c.args.edge _ _ _ _ h c.insert.ensures.entries c.place-at.ensures c.push.ensures.items c.push.ensures.count;
      number = number_new s c.args.edge h;
      same_map = c.insert.ensures.same;
      same_vertices = c.push.ensures.same;
    }
