use Rattle.grid.specs.Shapes.{sides}
use Rattle.volume.specs.Insides.{inside_at}
use Rattle.census.proofs.Totals.{Summed}
use Rattle.census.proofs.grids.take.Given as goal

abbrev pub invariant-loop-number : goal.invariant-loop-number
invariant-loop-number g l =
    Summed (sides l.shape) (inside_at g.V.Kind.SampleKind.inside l.at.level (g.V.Volume.sample l.at.volume.now)) l.number l.total
