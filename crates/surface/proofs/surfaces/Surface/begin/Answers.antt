use Rattle.std.proofs.Common.{◌≡◌, length}
use Rattle.grid.specs.Shapes.{sides}
use Rattle.surface.specs.Marches.{State, begun}
use Rattle.surface.specs.Views.{tabled}
use Rattle.surface.proofs.Kept.{begin_keeps}
use Rattle.surface.proofs.surfaces.Surface.begin.Goals as goal

pub returns : goal.returns
unfolding begun
returns c =
    let s : State = record { sides = sides c.args.shape; marks = c.fill.new.self; tables = tabled c.over.result } in
    let is : s ≡ begun (sides c.args.shape) (length c.args.marks.now) (length c.args.entries.now) c.args.vertices.now c.args.triangles.now =
    (λ i. record { sides = sides c.args.shape; marks = c.fill.ensures.after (λ y h. h) i; tables = c.over.ensures i }) in
    record { is = is; skin = begin_keeps (sides c.args.shape) (length c.args.marks.now) (length c.args.entries.now) c.args.vertices.now c.args.triangles.now s is }
