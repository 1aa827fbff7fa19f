use Rattle.std.proofs.Common.{None}
use Rattle.keymap.specs.Probe.{stops}
use Rattle.keymap.proofs.Positions.{Fails}
use Rattle.keymap.proofs.map.first_end.Given as goal

abbrev pub invariant-loop-i : goal.invariant-loop-i
invariant-loop-i g l = let k = g.K.Key in Fails (stops k.meaning (k.meaning l.key)) l.entries None l.i
