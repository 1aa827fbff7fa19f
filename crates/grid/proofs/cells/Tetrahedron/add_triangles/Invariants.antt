use Rattle.std.proofs.Common.{◌≡◌, ◌+◌, ◌++◌, map, length, take}
use Rattle.grid.specs.Cells.{odd, placed}
use Rattle.grid.specs.Cases.{turned}
use Rattle.grid.proofs.cells.Tetrahedron.add_triangles.Given as goal

abbrev pub invariant-loop-case : goal.invariant-loop-case
invariant-loop-case l = record {
  items : take l.found.count l.found.items
      ≡ take l.initial.found.count l.initial.found.items ++ map (λ τ. placed l.self.cell.base l.self.number (turned (odd l.self.number) τ)) (take l.case-index l.case-items);
  few : l.found.count ≡ l.initial.found.count + l.case-index;
  room : length l.found.items ≡ length l.initial.found.items;
}
