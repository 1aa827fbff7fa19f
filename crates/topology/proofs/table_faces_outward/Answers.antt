use Rattle.topology.proofs.Facing.{outward, complement, parity}
use Rattle.topology.proofs.table_faces_outward.Goals as goal

pub returns : goal.returns
returns c = record { outward = outward; complement = complement; parity = parity }
