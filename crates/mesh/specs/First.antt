-- The first place at which a rule is broken.
use Rattle.std.specs.Prelude.{ℕ, ◌<◌, Some, None, Option}

-- `Bad` holds at no place before `n`
abbrev pub Clear : (ℕ → Type 0) → ℕ → Type 0
Clear Bad n = (k : ℕ) → k < n → Bad k → ⊥

-- the lowest of the places below `n` at which `Bad` holds, or none where it holds at none of them
abbrev pub First : (ℕ → Type 0) → ℕ → Option ℕ → Type 0
First Bad n None = Clear Bad n
First Bad n (Some i) = (i < n) × Bad i × Clear Bad i
