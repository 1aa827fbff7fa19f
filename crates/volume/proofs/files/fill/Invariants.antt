use Rattle.std.proofs.Common.{◌≡◌, map, take, Some}
use Rattle.std.proofs.lemmas.List.Edits.{sets}
use Rattle.volume.proofs.files.fill.Given as goal

abbrev pub invariant-loop-i : goal.invariant-loop-i
invariant-loop-i g l = l.table ≡ sets l.initial.table 0 (map (λ b. Some (g.N.FileNumber.number b 0)) (take l.i l.numbers))
