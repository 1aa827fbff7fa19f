use Rattle.std.proofs.Common.{◌≡◌, ℕ, ◌<◌}
use Rattle.mesh.specs.EdgeTables.{turn, after}
use Rattle.mesh.proofs.rings.comes_back_early.Given as goal

abbrev pub invariant-loop : goal.invariant-loop
invariant-loop l =
    (turn l.map.entries.now l.v l.at ≡ after (turn l.map.entries.now l.v) l.counter l.start)
    × ((m : ℕ) → 0 < m → m < l.counter → after (turn l.map.entries.now l.v) m l.start ≡ l.start → ⊥)
