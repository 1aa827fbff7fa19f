use Rattle.std.proofs.Common.{◌≡◌, ◌≤◌, take, count_by}
use Rattle.census.proofs.cells.count.Given as goal

abbrev pub invariant-loop-test : goal.invariant-loop-test
invariant-loop-test l = (l.met ≡ count_by (λ b. b) (take l.test-index l.tests)) × (l.met ≤ l.test-index)
