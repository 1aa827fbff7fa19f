use Rattle.topology.proofs.Whole.{unique, closed, kept, padded_grounded}
use Rattle.topology.proofs.edges_paired.Goals as goal

pub returns : goal.returns
returns c = record { unique = unique; closed = closed; grounded = padded_grounded; kept = kept }
