use Rattle.std.proofs.Common.{◌≡◌, ℕ, ◌≤◌, length}
use Rattle.mesh.specs.Forests.{Forest}
use Rattle.mesh.proofs.groups.UnionFind.find.Given as goal

abbrev pub invariant-loop-self : goal.invariant-loop-self
invariant-loop-self l =
    (length l.self.records.now ≡ length l.initial.self.records.now)
    × (l.x ≤ l.vertex)
    × ((f : ℕ → ℕ) → Forest f l.initial.self.records.now → Forest f l.self.records.now × (f l.x ≡ f l.vertex))

abbrev pub decreases-loop-self : goal.decreases-loop-self
decreases-loop-self l = l.x
