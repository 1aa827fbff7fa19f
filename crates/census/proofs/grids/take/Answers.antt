use Rattle.std.proofs.Common.{◌≡◌, ℕ, ◌+◌, ◌<◌, ◌≤◌, Bool, sym, ap, ◌∙◌, subst, arith}
use Rattle.grid.specs.declared.geometry.Point.{Point}
use Rattle.grid.specs.Points.{Sides}
use Rattle.grid.specs.Cells.{cell_count}
use Rattle.grid.specs.Shapes.{sides}
use Rattle.volume.specs.Insides.{inside_at}
use Rattle.census.specs.declared.counts.Census.{Census}
use Rattle.census.proofs.Totals.{Summed, summed_more, summed_all, padded}
use Rattle.census.proofs.grids.take.Goals as goal
use Rattle.census.proofs.grids.take.Goals.{in-Some, in_default}

pub loop-number-preserved : goal.loop-number-preserved
loop-number-preserved g c =
    let n : Sides = sides c.shape-shape.result in
    let inside : Point → Bool = inside_at g.V.Kind.SampleKind.inside c.args.at.now.level (g.V.Volume.sample c.args.at.now.volume.now) in
    let k : ℕ = c.loop-number.number in
    elim c.match-cell.branch [
      | in-Some w ↦
          subst (λ (t : Census). Summed n inside (k + 1) t) (sym w.total-is)
          (summed_more n inside k c.loop-number.total w.starting_at.result w.add_assign.new.self w.in-Some.cell.base w.in-Some.ensures.1 c.loop-number.invariant w.starting_at.ensures w.add_assign.ensures.after)
      | in_default w ↦
          let beyond : cell_count n ≤ k = w.in_default.ensures in
          let before : k < c.cell_count-number-end.result = c.loop-number-test.true in
          absurd (omega (arith, c.cell_count-number-end.ensures))
    ]

pub returns : goal.returns
returns g c =
    let inside : Point → Bool = inside_at g.V.Kind.SampleKind.inside c.args.at.now.level (g.V.Volume.sample c.args.at.now.volume.now) in
    let n : Sides = sides (g.V.Volume.shaped c.args.at.now.volume.now) in
    let s : Sides = sides c.shape-shape.result in
    let e : s ≡ n = ap sides c.shape-shape.ensures.is in
    let k : ℕ = c.loop-number.number in
    let low : c.cell_count-number-end.result ≤ k = c.loop-number-test.false in
    let high : k ≤ c.cell_count-number-end.result = c.loop-number.auto.number-end in
    let all : k ≡ cell_count s = omega (arith, c.cell_count-number-end.ensures) in
    summed_all n inside
    (padded g.V.Kind.SampleKind.inside c.args.at.now.level n (g.V.Volume.sample c.args.at.now.volume.now) c.shape-shape.ensures.border)
    k c.loop-number.total (all ∙ ap cell_count e) (subst (λ (v : Sides). Summed v inside k c.loop-number.total) e c.loop-number.invariant)
