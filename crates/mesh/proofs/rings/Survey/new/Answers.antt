use Rattle.std.proofs.Common.{◌≡◌, length, ap, ◌∙◌, arith, rules}
use Rattle.std.proofs.lemmas.List.{get_or-replicate}
use Rattle.mesh.specs.declared.verdicts.VertexRecord.{VertexRecord}
use Rattle.mesh.specs.VertexNotes.{no_record}
use Rattle.mesh.proofs.Named.{mesh_apart}
use Rattle.mesh.proofs.Tallies.{surveyed_none, surveyed_more}
use Rattle.mesh.proofs.rings.Survey.new.Goals as goal

pub loop-t-init : goal.loop-t-init
loop-t-init c =
    let blank = c.fill.ensures.after (λ y e. search rules) in
    let zero : c.default.result.degree ≡ 0 = search rules in
    surveyed_none c.args.mesh.triangles.now _
    (λ v h. rw blank (ap (λ (p : VertexRecord). p.degree) (get_or-replicate (length c.args.records.now) v c.default.result no_record (omega arith)) ∙ zero))

pub loop-t-preserved : goal.loop-t-preserved
loop-t-preserved c =
    surveyed_more c.args.mesh.triangles.now c.loop-t.t-index c.loop-t-test.true
    (mesh_apart c.args.mesh c.loop-t.t-index c.loop-t-test.true)
    c.loop-t.records c.tally.new.records c.tally-in-loop-t.new.records c.tally-in-loop-t-2.new.records (omega arith) c.loop-t.invariant
    c.tally.ensures c.tally-in-loop-t.ensures c.tally-in-loop-t-2.ensures
