use Rattle.std.proofs.Common.{◌<◌, None, sym, ap, ◌∙◌, arith}
use Rattle.std.proofs.lemmas.List.{get_or_read}
use Rattle.keymap.specs.Probe.{stops}
use Rattle.keymap.proofs.Positions.{position_here, position_none}
use Rattle.keymap.proofs.map.first_end.Goals as goal

pub returns-then-ends_at-clause-place : goal.returns-then-ends_at-clause-place
returns-then-ends_at-clause-place g c =
    let p = stops g.K.Key.meaning (g.K.Key.meaning c.args.key.now) in
    let es = c.args.entries.now in
    position_here p es None c.loop-i.i c.loop-i-test.true c.loop-i.invariant
    (sym (ap p (get_or_read es c.loop-i.i _ c.loop-i-test.true c.index-entries-i.is None)) ∙ sym c.if-ends_at.ensures)

pub returns-clause-place : goal.returns-clause-place
returns-clause-place g c =
    let es = c.args.entries.now in
    position_none (stops g.K.Key.meaning (g.K.Key.meaning c.args.key.now)) es None
    (λ j h. let b : j < c.loop-i.i = omega arith in c.loop-i.invariant j b)
