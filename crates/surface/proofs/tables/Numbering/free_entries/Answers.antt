use Rattle.surface.specs.Views.{numbered}
use Rattle.surface.proofs.Begun.{free_within, free_left}
use Rattle.surface.proofs.tables.Numbering.free_entries.Goals as goal

pub overflow_sub-result : goal.overflow_sub-result
overflow_sub-result c = free_within (numbered c.args.self.now) c.len.result c.len.ensures c.args.self.now.tied

pub returns : goal.returns
returns c = free_left (numbered c.args.self.now) c.len.result c.len.ensures c.args.self.now.tied
