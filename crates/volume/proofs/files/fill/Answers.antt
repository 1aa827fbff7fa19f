use Rattle.std.proofs.Common.{Some, set, rules, ap, ◌∙◌}
use Rattle.volume.proofs.Runs.{fill_more}
use Rattle.volume.proofs.files.fill.Goals as goal

pub loop-i-preserved : goal.loop-i-preserved
loop-i-preserved g c =
    let f = (λ (b : _). Some (g.N.FileNumber.number b 0)) in
    ap (λ (v : _). set c.loop-i.table c.loop-i.i (Some v)) c.from_bytes.ensures
    ∙ fill_more f c.args.numbers.now c.args.table.now c.loop-i.table c.loop-i.i c.index-numbers-i.result c.loop-i-test.true (search rules) c.loop-i.invariant
