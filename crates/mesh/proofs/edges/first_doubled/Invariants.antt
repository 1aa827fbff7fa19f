use Rattle.std.proofs.Common.{◌+◌, ◌*◌, ◌≤◌, length}
use Rattle.keymap.specs.Frees.{free}
use Rattle.mesh.specs.First.{Clear}
use Rattle.mesh.specs.Faults.{Doubled}
use Rattle.mesh.specs.EdgeTables.{Noted}
use Rattle.mesh.proofs.edges.first_doubled.Given as goal

abbrev pub invariant-loop-k : goal.invariant-loop-k
invariant-loop-k l =
    Clear (Doubled l.mesh.triangles.now) l.k
    × Noted l.mesh.triangles.now l.k l.map.entries.now
    × (3 * length l.mesh.triangles.now ≤ free l.map.entries.now + 3 * l.k)
