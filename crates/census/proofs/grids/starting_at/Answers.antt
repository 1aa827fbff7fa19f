use Rattle.std.proofs.Common.{◌≡◌, Bool, false, List, sym, ◌∙◌, subst, arith, rules}
use Rattle.grid.specs.declared.geometry.Point.{Point}
use Rattle.grid.specs.Cells.{tetrahedra}
use Rattle.topology.specs.Census.{triangle_codes}
use Rattle.volume.specs.Insides.{inside_at}
use Rattle.census.specs.Counts.{FlagsStarting, point_codes, edge_codes}
use Rattle.census.proofs.Starts.{tails, by_flags, none_start}
use Rattle.census.proofs.grids.starting_at.Goals as goal

pub returns-then-not-is_inside : goal.returns-then-not-is_inside
unfolding tetrahedra
returns-then-not-is_inside g c =
    let inside : Point → Bool = inside_at g.V.Kind.SampleKind.inside c.args.at.now.level (g.V.Volume.sample c.args.at.now.volume.now) in
    let P : Point = c.args.cell.base in
    let e : inside P ≡ false = search rules in
    record {
      points = c.default.ensures.points ∙ sym (none_start inside P (tails point_codes) e);
      edges = c.default.ensures.edges ∙ sym (none_start inside P (tails edge_codes) e);
      triangles = c.default.ensures.triangles ∙ sym (none_start inside P (tails triangle_codes) e);
      tetrahedra = c.default.ensures.tetrahedra ∙ sym (none_start inside P (tails tetrahedra) e);
      few = (omega arith, omega arith, omega arith, omega arith);
    }

pub returns : goal.returns
returns g c =
    let inside : Point → Bool = inside_at g.V.Kind.SampleKind.inside c.args.at.now.level (g.V.Volume.sample c.args.at.now.volume.now) in
    by_flags inside c.args.cell.base c.starting_by.result
    (subst (λ (flags : List Bool). FlagsStarting flags c.starting_by.result) c.corners_inside.ensures.value c.starting_by.ensures)
