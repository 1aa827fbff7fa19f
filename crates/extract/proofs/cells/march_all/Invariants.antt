use Rattle.std.proofs.Common.{◌≡◌, Ok}
use Rattle.surface.specs.Views.{state}
use Rattle.extract.specs.Rising.{rising}
use Rattle.extract.proofs.cells.march_all.Given as goal

abbrev pub invariant-loop-cell : goal.invariant-loop-cell
invariant-loop-cell g l = rising (g.F.Field.field l.field) (state l.initial.surface) l.cell ≡ Ok (state l.surface)
