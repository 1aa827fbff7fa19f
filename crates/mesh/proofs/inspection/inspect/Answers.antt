use Rattle.std.proofs.Common.{rules}
use Rattle.mesh.proofs.EdgeCount.{one_edge_count}
use Rattle.mesh.proofs.Grouping.{one_part_count}
use Rattle.mesh.proofs.Judging.{sound_for_surfaces}
use Rattle.mesh.proofs.inspection.inspect.Goals as goal

pub returns-in_err-check_room : goal.returns-in_err-check_room
returns-in_err-check_room c = record {
  answer = search rules;
  surface = search rules;
  refused = search rules;
  determined = (one_edge_count, one_part_count);
}

pub returns : goal.returns
returns c = record {
  answer = (search rules, c.judge.ensures);
  surface = sound_for_surfaces c.args.vertex_count c.args.triangles.now c.judge.result c.judge.ensures;
  refused = tt;
  determined = (one_edge_count, one_part_count);
}
