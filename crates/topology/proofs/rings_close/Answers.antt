use Rattle.topology.proofs.Ringed.{ringed}
use Rattle.topology.proofs.rings_close.Goals as goal

pub returns : goal.returns
returns c = ringed
