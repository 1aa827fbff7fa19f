use Rattle.std.proofs.Common.{ℕ, List, take, subst, arith}
use Rattle.std.proofs.lemmas.List.{take_all}
use Rattle.grid.specs.declared.geometry.Triangle.{Triangle}
use Rattle.mesh.specs.Triangles.{triangle_at}
use Rattle.mesh.specs.Parts.{Groups}
use Rattle.mesh.specs.Forests.{Forest, Settled, labels, merge}
use Rattle.mesh.proofs.Labels.{settled_none, merge_settled, labels_settled, labels_more}
use Rattle.mesh.proofs.Grouping.{groups}
use Rattle.mesh.proofs.parts.part_count.Goals as goal

pub loop-t-init : goal.loop-t-init
unfolding labels
loop-t-init c = (omega arith, c.new-groups.ensures.apart)

pub loop-t-preserved : goal.loop-t-preserved
loop-t-preserved c =
    let i = c.loop-t.t-index in
    let ts = c.args.survey.mesh.triangles.now in
    let t = triangle_at ts i in
    let f : ℕ → ℕ = labels (λ x. x) (take i ts) in
    let s : Settled f = labels_settled (λ x. x) (take i ts) settled_none in
    let one = c.join.ensures.joins f s c.loop-t.invariant.1 in
    let two = c.join-in-loop-t.ensures.joins (merge f t.a t.b) (merge_settled f t.a t.b s) one in
    (omega arith, subst (λ (g : ℕ → ℕ). Forest g c.join-in-loop-t.new.self.records.now) (labels_more (λ x. x) ts i c.loop-t-test.true) two)

pub returns : goal.returns
returns c =
    let ts = c.args.survey.mesh.triangles.now in
    let ps = c.loop-t.groups.records.now in
    let all = take_all c.loop-t.t-index ts c.loop-t-test.false in
    let F = subst (λ (us : List (Triangle ℕ)). Forest (labels (λ x. x) us) ps) all c.loop-t.invariant.1 in
    subst (λ (n : ℕ). Groups ts n c.count.result) c.loop-t.invariant.0 (groups ts ps c.count.result F c.count.ensures)
