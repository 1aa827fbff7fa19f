use Rattle.std.proofs.Common.{◌≡◌, Bool, false, count_by, get_or, ap, ◌∙◌, ⊎_elim, arith}
use mir.Val.{bool_byte}
use Rattle.std.proofs.lemmas.Bool.{cases_Bool}
use Rattle.std.proofs.lemmas.List.{take_all}
use Rattle.std.proofs.lemmas.List.Sums.{count_by_more_yes, count_by_more_no}
use Rattle.census.proofs.cells.count.Goals as goal

pub loop-test-preserved : goal.loop-test-preserved
loop-test-preserved c =
    let xs = c.args.tests.now in
    let i = c.loop-test.test-index in
    let k = c.from-met.ensures in
    ⊎_elim
    (λ yes. let one : c.from-met.result ≡ 1 = k ∙ ap bool_byte yes in let more = count_by_more_yes (λ (b : Bool). b) xs i false c.loop-test-test.true yes in (omega arith, omega arith))
    (λ no. let none : c.from-met.result ≡ 0 = k ∙ ap bool_byte no in let more = count_by_more_no (λ (b : Bool). b) xs i false c.loop-test-test.true no in (omega arith, omega arith))
    (cases_Bool (get_or xs i false))

pub returns : goal.returns
returns c =
    let e = take_all c.loop-test.test-index c.args.tests.now c.loop-test-test.false in
    record { value = c.loop-test.invariant.0 ∙ ap (count_by (λ (b : Bool). b)) e; few = omega arith }
