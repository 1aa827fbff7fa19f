use Rattle.examples.proofs.Rows.{rows_hold}
use Rattle.examples.proofs.worked_examples.Goals as goal

pub returns : goal.returns
returns c = rows_hold
