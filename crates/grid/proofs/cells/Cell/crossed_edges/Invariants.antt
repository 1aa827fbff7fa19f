use Rattle.std.proofs.Common.{◌≡◌, ◌≤◌, map, length, take, filter}
use Rattle.grid.specs.Patterns.{spans, span_crossed, span_edge}
use Rattle.grid.proofs.cells.Cell.crossed_edges.Given as goal

abbrev pub invariant-loop-span : goal.invariant-loop-span
invariant-loop-span l = record {
  items : take l.crossed.count l.crossed.items ≡ map (span_edge l.self.base) (filter (span_crossed l.inside) (take l.span-index spans));
  few : l.crossed.count ≤ l.span-index;
  room : length l.crossed.items ≡ 19;
}
