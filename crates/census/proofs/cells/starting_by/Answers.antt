use Rattle.std.proofs.Common.{◌≡◌, true, false, sym, ◌∙◌, arith, rules}
use Rattle.grid.specs.Patterns.{flag}
use Rattle.census.proofs.Starts.{point_start, edges_start, triangles_start, tetrahedra_start, no_points, no_edges, no_triangles, no_tetrahedra}
use Rattle.census.proofs.cells.starting_by.Goals as goal

pub returns-in_default : goal.returns-in_default
returns-in_default c =
    let f = c.args.flags.now in
    let e : flag f 0 ≡ false = search rules in
    record {
      points = c.default.ensures.points ∙ sym (no_points f e);
      edges = c.default.ensures.edges ∙ sym (no_edges f e);
      triangles = c.default.ensures.triangles ∙ sym (no_triangles f e);
      tetrahedra = c.default.ensures.tetrahedra ∙ sym (no_tetrahedra f e);
      few = (omega arith, omega arith, omega arith, omega arith);
    }

pub returns : goal.returns
returns c =
    let f = c.args.flags.now in
    let e : flag f 0 ≡ true = search rules in
    record {
      points = point_start f e;
      edges = c.count.ensures.value ∙ edges_start f e;
      triangles = c.count-2.ensures.value ∙ triangles_start f e;
      tetrahedra = c.count-3.ensures.value ∙ tetrahedra_start f e;
      few = (omega arith, omega arith, omega arith, omega arith);
    }
