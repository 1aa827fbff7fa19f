use Rattle.std.proofs.Common.{refl, arith, rules}
use Rattle.grid.specs.Shapes.{sides}
use Rattle.grid.proofs.Numbers.{base_within, number_of_base}
use Rattle.grid.proofs.shapes.Shape.cell.Goals as goal

pub overflow_cast-result-3 : goal.overflow_cast-result-3
overflow_cast-result-3 c =
    let b = base_within (sides c.args.self) c.args.number (omega arith) in
    rw (c.from-row.ensures, c.from-column.ensures) (search rules)

pub invariant_of-result : goal.invariant_of-result
invariant_of-result c =
    let b = base_within (sides c.args.self) c.args.number (omega arith) in
    rw (c.from-row.ensures, c.from-column.ensures) (record { room = (omega arith, omega arith, omega arith) })

pub returns : goal.returns
returns c =
    let s = sides c.args.self in
    rw (c.from-row.ensures, c.from-column.ensures) (omega arith, refl, base_within s c.args.number (omega arith), number_of_base s c.args.number)
