use Rattle.topology.proofs.Sums.{cell_sums}
use Rattle.topology.proofs.Balance.{triangles_listed, euler, crossed_in_grid}
use Rattle.topology.proofs.Listed.{vertices_counted, cells_counted}
use Rattle.topology.proofs.census_balances.Goals as goal

pub returns : goal.returns
returns c = record { listed = triangles_listed; euler = euler; sums = cell_sums; within = crossed_in_grid; vertices = vertices_counted; cells = cells_counted }
