use Rattle.topology.proofs.Crossed.{tet_crossings, cell_crossings, corners_differ, edges_differ, one_less, ones_count, tet_count, triangle_count}
use Rattle.topology.proofs.crossings_exact.Goals as goal

pub returns : goal.returns
returns c = record {
  tetrahedron = tet_crossings;
  cell = cell_crossings;
  corners = corners_differ;
  edges = edges_differ;
  less = one_less;
  ones = ones_count;
  count = tet_count;
  triangles = triangle_count;
}
