use Rattle.std.proofs.Common.{◌≡◌, ◌*◌, ◌≤◌, length, take}
use Rattle.std.specs.List.{flat_map}
use Rattle.grid.specs.Patterns.{flag_tet, six}
use Rattle.grid.proofs.cells.Cell.triangles.Given as goal

abbrev pub invariant-loop-number : goal.invariant-loop-number
invariant-loop-number l = record {
  items : take l.found.count l.found.items ≡ flat_map (flag_tet l.inside l.self.base) (take l.number six);
  few : l.found.count ≤ 2 * l.number;
  room : length l.found.items ≡ 12;
}
