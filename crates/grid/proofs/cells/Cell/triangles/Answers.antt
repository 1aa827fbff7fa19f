use Rattle.std.proofs.Common.{◌≡◌, ℕ, List, length, take, sym, ap, ◌∙◌, arith}
use Rattle.std.specs.List.{flat_map}
use Rattle.std.proofs.lemmas.List.{take_all, length-take-le}
use Rattle.grid.specs.Patterns.{six, flag_tet, flag_triangles}
use Rattle.grid.proofs.Patterns.{tet_more}
use Rattle.grid.proofs.cells.Cell.triangles.Goals as goal

pub loop-number-preserved : goal.loop-number-preserved
loop-number-preserved c =
    let inv = c.loop-number.invariant in
    let e = tet_more c.args.inside.now c.args.self.base c.loop-number.number c.loop-number-test.true in
    record { items = (cc); few = omega (arith, c.add_triangles.ensures.few); room = c.add_triangles.ensures.room ∙ inv.room }

pub returns : goal.returns
unfolding flag_triangles
returns c =
    let inv = c.loop-number.invariant in
    let found = c.loop-number.found in
    let value : take found.count found.items ≡ flag_triangles c.args.inside.now c.args.self.base =
    inv.items ∙ ap (λ (ts : List ℕ). flat_map (flag_tet c.args.inside.now c.args.self.base) ts) (take_all c.loop-number.number six c.loop-number-test.false) in
    record { value = value; count = sym (length-take-le found.count found.items (omega arith)) ∙ ap length value; few = omega arith }
