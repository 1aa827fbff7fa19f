use Rattle.surface.proofs.Uniform.{each_as_first, uniform_list}
use Rattle.surface.proofs.needs.is_uniform.Goals as goal

pub returns : goal.returns
returns c = record { each = each_as_first c.args.inside.now; whole = uniform_list c.args.inside.now c.told-inside }
