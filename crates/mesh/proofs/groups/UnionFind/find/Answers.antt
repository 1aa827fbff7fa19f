use Rattle.std.proofs.Common.{◌<◌, length, ◌∙◌, rules, arith}
use Rattle.mesh.specs.Forests.{parent_of}
use Rattle.mesh.proofs.Pointers.{halved}
use Rattle.mesh.proofs.groups.UnionFind.find.Goals as goal

pub loop-self-preserved : goal.loop-self-preserved
loop-self-preserved c = (
  search rules,
  search rules,
  λ f F.
      let ps = c.loop-self.self.records.now in
      let x = c.loop-self.x in
      let was = c.loop-self.invariant.2 f F in
      let h : x < length ps = omega arith in
      let low = was.0.low x h in
      let up : parent_of ps x < length ps = omega arith in
      (halved f _ _ _ h (search rules) was.0, was.0.same (parent_of ps x) up ∙ was.0.same x h ∙ was.1),
)
