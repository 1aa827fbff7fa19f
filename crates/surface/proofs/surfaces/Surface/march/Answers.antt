use Rattle.std.proofs.Common.{◌≡◌, Some, None, Err, sym, refl, ap, ◌∙◌}
use Rattle.std.proofs.lemmas.Result.{err_from_is_err_and}
use Rattle.grid.specs.Points.{Sides}
use Rattle.grid.specs.Shapes.{shapes_refusal}
use Rattle.surface.specs.Marches.{March}
use Rattle.surface.specs.Views.{state}
use Rattle.surface.proofs.Kept.{march_keeps}
use Rattle.surface.proofs.Marching.{refused_shape, refused_cell}
use Rattle.surface.proofs.surfaces.Surface.march.Goals as goal

pub returns-in_err-check_same : goal.returns-in_err-check_same
returns-in_err-check_same g c =
    let f = g.F.Field.field c.args.field.now in
    let s = state c.args.self.now in
    let shape : shapes_refusal s.sides f.sides ≡ Some c.in_err-check_same.field-0.0 = ap (λ (n : Sides). shapes_refusal s.sides n) (sym c.shape.ensures.is) ∙ c.in_err-check_same.ensures in
    let p = err_from_is_err_and c.from_residual.result c.from_residual.ensures.1 in
    rw (p.1, p.2)
    (let m : March f s c.args.cell (Err c.in_err-check_same.field-0.0) s = (refused_shape f s c.args.cell c.in_err-check_same.field-0.0 shape, refl) in
    record { is = m; skin = march_keeps f s s c.args.cell (Err c.in_err-check_same.field-0.0) c.shape.ensures.bounded m })

pub returns-in_err-at : goal.returns-in_err-at
returns-in_err-at g c =
    let f = g.F.Field.field c.args.field.now in
    let s = state c.args.self.now in
    let shape : shapes_refusal s.sides f.sides ≡ None = ap (λ (n : Sides). shapes_refusal s.sides n) (sym c.shape.ensures.is) ∙ c.in_ok-check_same.ensures in
    let p = err_from_is_err_and c.from_residual-in_err-at.result c.from_residual-in_err-at.ensures.1 in
    rw (p.1, p.2)
    (let m : March f s c.args.cell (Err c.in_err-at.field-0.0) s = (refused_cell f s c.args.cell c.in_err-at.field-0.0 shape c.in_err-at.ensures, refl) in
    record { is = m; skin = march_keeps f s s c.args.cell (Err c.in_err-at.field-0.0) c.shape.ensures.bounded m })

pub returns : goal.returns
returns g c =
    let f = g.F.Field.field c.args.field.now in
    let s = state c.args.self.now in
    record { is = c.march_at.ensures; skin = march_keeps f s (state c.march_at.new.self) c.args.cell c.march_at.result c.shape.ensures.bounded c.march_at.ensures }
