use Rattle.std.proofs.Common.{◌≡◌, ℕ, ◌<◌}
use Rattle.mesh.specs.Forests.{parent_of}
use Rattle.mesh.proofs.groups.UnionFind.new.Given as goal

abbrev pub invariant-loop-v : goal.invariant-loop-v
invariant-loop-v l = (x : ℕ) → x < l.v → parent_of l.records x ≡ x
