use Rattle.std.proofs.Common.{◌≡◌, rules}
use Rattle.std.proofs.lemmas.Iterator.{YieldsList-from_slice}
use Rattle.std.proofs.lemmas.Iterator.Search.{position_from_yields_List}
use Rattle.std.specs.List.{position}
use Rattle.mesh.specs.Triangles.{no_triangle}
use Rattle.mesh.specs.Faults.{Unpaired}
use Rattle.mesh.specs.EdgeTables.{missed}
use Rattle.mesh.proofs.Named.{mesh_apart}
use Rattle.mesh.proofs.Firsts.{first_position}
use Rattle.mesh.proofs.EdgeNotes.{missed_unpaired, unpaired_missed}
use Rattle.mesh.proofs.edges.first_unpaired.Goals as goal

pub returns : goal.returns
returns c =
    let ts = c.args.mesh.triangles.now in
    let es = c.args.map.now.entries.now in
    let e : c.position.result ≡ position (missed es) ts =
    position_from_yields_List (missed es) _ _ c.position.result c.position.ensures.ran (YieldsList-from_slice ts cc) (λ x b q k. search rules) in
    rw e (first_position (missed es) (Unpaired ts) ts no_triangle
    (λ k h. missed_unpaired ts es c.requires (mesh_apart c.args.mesh) k)
    (λ k h. unpaired_missed ts es c.requires (mesh_apart c.args.mesh) k))
