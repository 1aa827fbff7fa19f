use Rattle.std.proofs.Common.{◌+◌, ◌*◌}
use Rattle.grid.specs.Cells.{pack}
use Rattle.grid.specs.Patterns.{flag_mask}
use Rattle.grid.proofs.Corners.{flag_value}
use Rattle.grid.proofs.cells.Tetrahedron.mask.Goals as goal

pub returns : goal.returns
unfolding pack flag_mask
returns c =
    let flags = c.args.inside.now in
    let t = c.args.self.number in
    let h = c.args.self.one_of_six in
    let p = flag_value flags t 0 _ _ h c.from.ensures c.from-a.ensures in
    let q = flag_value flags t 1 _ _ h c.from-2.ensures c.from-b.ensures in
    let r = flag_value flags t 2 _ _ h c.from-3.ensures c.from-c.ensures in
    let s = flag_value flags t 3 _ _ h c.from-4.ensures c.from-d.ensures in
    λ j. p j + 2 * q j + 4 * r j + 8 * s j
