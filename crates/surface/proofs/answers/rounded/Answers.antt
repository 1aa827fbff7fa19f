use Rattle.std.proofs.Common.{ℕ, ◌+◌, ◌*◌, ◌/◌, ◌<◌, ◌≤◌, refl, div-lt_iff_lt-mul, arith}
use Rattle.surface.proofs.answers.rounded.Goals as goal

small : (m den : ℕ) → 0 < den → m ≤ den → (20000 * m + den) / (2 * den) < 10001
small m den p h = (div-lt_iff_lt-mul {k = 2 * den} (omega arith)).1 (omega arith)

pub overflow_cast-result : goal.overflow_cast-result
overflow_cast-result c = let s = small c.args.m c.args.den c.requires.some c.requires.part in omega arith

pub returns : goal.returns
returns c = record { value = refl; few = (let s = small c.args.m c.args.den c.requires.some c.requires.part in omega arith) }
