use Rattle.std.proofs.Common.{refl, rules}
use Rattle.mesh.proofs.Round.{surface_mesh}
use Rattle.mesh.proofs.EdgeCount.{mesh_edges}
use Rattle.mesh.proofs.inspection.surface_counts.Goals as goal

pub returns : goal.returns
returns c = record {
  vertices = refl;
  edges = mesh_edges c.args.mesh.triangles.now (surface_mesh _ c.args.mesh.triangles.now c.requires.surface) _ c.edge_count-edges.ensures;
  triangles = refl;
  euler = search rules;
  parts = c.requires.parts;
}
