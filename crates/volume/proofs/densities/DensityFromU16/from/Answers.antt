use Rattle.volume.proofs.Stored.{density_stored_is}
use Rattle.volume.proofs.densities.DensityFromU16.from.Goals as goal

pub returns : goal.returns
returns c = density_stored_is _
