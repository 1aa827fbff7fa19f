use Rattle.std.proofs.Common.{rules}
use Rattle.grid.specs.Points.{top, ◌⊕◌, offset}
use Rattle.grid.proofs.geometry.GridEdge.top.Goals as goal

pub returns-in_err-checked_add : goal.returns-in_err-checked_add
unfolding top ◌⊕◌ offset
returns-in_err-checked_add c = search rules

pub returns-in_err-checked_add-2 : goal.returns-in_err-checked_add-2
unfolding top ◌⊕◌ offset
returns-in_err-checked_add-2 c = search rules

pub returns-in_err-checked_add-3 : goal.returns-in_err-checked_add-3
unfolding top ◌⊕◌ offset
returns-in_err-checked_add-3 c = search rules

pub returns : goal.returns
unfolding top ◌⊕◌ offset
returns c = λ i. record { x = c.in_ok-checked_add.ensures.1 i; y = c.in_ok-checked_add-2.ensures.1 i; z = c.in_ok-checked_add-3.ensures.1 i }
