-- A test that passes at each number below some number: computed once, used at each. Assumes nothing.
use Rattle.std.proofs.Common.{◌≡◌, ℕ, zero, suc, ◌<◌, Bool, true, ◌&&◌, ap, ◌∙◌, ⊎_elim, arith}
use Rattle.std.proofs.lemmas.Bool.{and_parts, cases_eq}

abbrev pub below : (ℕ → Bool) → ℕ → Bool
below f zero = true
below f (suc n) = f n && below f n

pub below_at : (f : ℕ → Bool) (n : ℕ) → below f n ≡ true → (k : ℕ) → k < n → f k ≡ true
below_at f zero t k h = absurd (omega arith)
below_at f (suc n) t k h =
    let p = and_parts (f n) (below f n) t in
    ⊎_elim (λ e. ap f e ∙ p.0) (λ d. below_at f n p.1 k (omega arith)) (cases_eq k n)
