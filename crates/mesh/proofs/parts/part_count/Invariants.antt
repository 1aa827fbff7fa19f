use Rattle.std.proofs.Common.{◌≡◌, length, take}
use Rattle.mesh.specs.Forests.{Forest, labels}
use Rattle.mesh.proofs.parts.part_count.Given as goal

abbrev pub invariant-loop-t : goal.invariant-loop-t
invariant-loop-t l =
    (length l.groups.records.now ≡ l.fn.survey.mesh.vertices)
    × Forest (labels (λ x. x) (take l.t-index l.t-items)) l.groups.records.now
