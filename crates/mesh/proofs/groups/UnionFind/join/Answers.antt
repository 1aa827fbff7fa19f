use Rattle.std.proofs.Common.{arith}
use Rattle.mesh.proofs.Pointers.{joined}
use Rattle.mesh.proofs.groups.UnionFind.join.Goals as goal

pub returns-clause-joins : goal.returns-clause-joins
returns-clause-joins c f s F =
    let one = c.find-p.ensures.finds f F in
    let two = c.find-q.ensures.finds f one.0 in
    joined f c.find-q.new.self.records.now _ _ _ _ _ _ one.1 two.1 c.max.ensures (omega arith) c.min.ensures s two.0
