use Rattle.std.proofs.Common.{◌≡◌, None, take, replicate}
use Rattle.keymap.proofs.map.KeyMap.clear.Given as goal

abbrev pub invariant-loop-entry : goal.invariant-loop-entry
invariant-loop-entry g l = take l.entry-index l.entry-items ≡ replicate l.entry-index None
