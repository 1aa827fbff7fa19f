use Rattle.std.proofs.Common.{refl}
use Rattle.grid.specs.Points.{◌⊕◌, offset}
use Rattle.grid.proofs.cells.Cell.corner.Goals as goal

pub returns : goal.returns
unfolding ◌⊕◌ offset
returns c = refl
