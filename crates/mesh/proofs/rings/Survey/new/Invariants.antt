use Rattle.mesh.specs.VertexNotes.{Surveyed}
use Rattle.mesh.proofs.rings.Survey.new.Given as goal

abbrev pub invariant-loop-t : goal.invariant-loop-t
invariant-loop-t l = Surveyed l.mesh.triangles.now l.t-index l.records
