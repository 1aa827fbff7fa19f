use Rattle.std.proofs.Common.{Some, None, refl}
use Rattle.mesh.proofs.Judging.{surface_clear, clear_mesh, clear_surface, judged_doubled, judged_unpaired, judged_bare, judged_torn}
use Rattle.mesh.proofs.Vertices.{first_bare, first_torn, nothing}
use Rattle.mesh.proofs.inspection.judge.Goals as goal

pub returns-in-Some-first_doubled : goal.returns-in-Some-first_doubled
returns-in-Some-first_doubled c =
    judged_doubled c.args.vertices c.args.triangles.now c.in_default.ensures _ c.in-Some-first_doubled.ensures.first

pub returns-in-Some-first_unpaired : goal.returns-in-Some-first_unpaired
returns-in-Some-first_unpaired c =
    judged_unpaired c.args.vertices c.args.triangles.now c.in_default.ensures c.in_default-first_doubled.ensures.first _
    c.in-Some-first_unpaired.ensures

pub returns-in-Some-first_without : goal.returns-in-Some-first_without
returns-in-Some-first_without c =
    let survey = c.new-survey in
    judged_bare c.args.vertices c.args.triangles.now c.in_default.ensures c.in_default-first_doubled.ensures.first c.in_default-first_unpaired.ensures _
    (first_bare survey.result survey.ensures.mesh survey.ensures.noted (Some _) c.in-Some-first_without.ensures)

pub returns-in-Some-first_early : goal.returns-in-Some-first_early
returns-in-Some-first_early c =
    let n = c.args.vertices in
    let ts = c.args.triangles.now in
    let survey = c.new-survey in
    let named = c.in_default.ensures in
    let doubled = c.in_default-first_doubled.ensures in
    let pairs = c.in_default-first_unpaired.ensures in
    let without = c.in_default-first_without.ensures in
    judged_torn n ts named doubled.first pairs (first_bare survey.result survey.ensures.mesh survey.ensures.noted None without) _
    (first_torn survey.result survey.ensures.mesh survey.ensures.noted (clear_mesh n ts named doubled.first pairs) _ doubled.noted without (Some _) c.in-Some-first_early.ensures)

pub surface_counts-requires-clause-surface : goal.surface_counts-requires-clause-surface
surface_counts-requires-clause-surface c =
    let survey = c.new-survey in
    let doubled = c.in_default-first_doubled.ensures in
    clear_surface c.args.vertices c.args.triangles.now
    (nothing survey.result survey.ensures.mesh survey.ensures.noted _ doubled.first doubled.noted c.in_default-first_unpaired.ensures c.in_default-first_without.ensures c.in_default-first_early.ensures)

pub returns : goal.returns
returns c = (refl, surface_clear c.args.vertices c.args.triangles.now (surface_counts-requires-clause-surface c.before), c.surface_counts.ensures)
