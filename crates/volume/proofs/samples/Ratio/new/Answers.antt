use Rattle.std.proofs.Common.{refl, rules}
use Rattle.volume.proofs.Stored.{ratio_stored_is}
use Rattle.volume.proofs.samples.Ratio.new.Goals as goal

pub returns : goal.returns
returns c = (search rules, (refl, refl), ratio_stored_is _)
