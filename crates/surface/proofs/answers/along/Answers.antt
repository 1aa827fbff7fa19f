use Rattle.std.proofs.Common.{ℕ, ◌*◌, ◌/◌, ◌%◌, ◌≤◌, mul-le-mul_left, arith}
use Rattle.surface.proofs.answers.along.Goals as goal

-- a bit of a number takes r or nothing
bit : (r n : ℕ) → r ≤ 10000 → r * (n % 2) ≤ 10000
bit r n h = let b : n % 2 ≤ 1 = omega arith in let m = mul-le-mul_left r b in omega (arith, m)

pub overflow_add-result : goal.overflow_add-result
overflow_add-result c = let b = bit c.args.r c.args.edge.direction c.requires in omega arith

pub overflow_add-result-2 : goal.overflow_add-result-2
overflow_add-result-2 c = let b = bit c.args.r (c.args.edge.direction / 2) c.requires in omega arith

pub overflow_add-result-3 : goal.overflow_add-result-3
overflow_add-result-3 c = let b = bit c.args.r (c.args.edge.direction / 4) c.requires in omega arith
