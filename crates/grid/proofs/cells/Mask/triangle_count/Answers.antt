use Rattle.std.proofs.Common.{arith, rules, sym, ap, ◌∙◌, ⊎_elim}
use Rattle.grid.proofs.Rows.{by_ones, count_by_ones}
use Rattle.grid.proofs.cells.Mask.triangle_count.Goals as goal

pub returns-in-1 : goal.returns-in-1
returns-in-1 c =
    let e = count_by_ones c.args.self.bits c.args.self.four in
    record { value = ⊎_elim (λ h. sym (e ∙ ap by_ones h)) (λ h. sym (e ∙ ap by_ones h)) c.in-1.is; few = omega arith }

pub returns-in-2-clause-value : goal.returns-in-2-clause-value
returns-in-2-clause-value c = let e = count_by_ones c.args.self.bits c.args.self.four in search rules

pub returns-in_default-clause-value : goal.returns-in_default-clause-value
returns-in_default-clause-value c = let e = count_by_ones c.args.self.bits c.args.self.four in search rules
