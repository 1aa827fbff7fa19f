-- What `position` finds is the first place. Assumes nothing.
use Rattle.std.proofs.Common.{◌≡◌, ℕ, ◌<◌, Bool, true, List, length, get_or, Some, None, sym, ◌∙◌, ⊎_elim, arith}
use Rattle.std.proofs.lemmas.Bool.{cases_lt, true≢false}
use Rattle.std.proofs.lemmas.Grind.{common_steps}
use Rattle.std.proofs.lemmas.List.Sums.{passes_at_first, fails_before_first}
use Rattle.std.specs.List.{position, position_or_len}
use Rattle.mesh.specs.First.{Clear, First}

-- where a test passes at the elements of the places at which `Bad` holds, and at no other
pub first_position : {X : Type 0} (p : X → Bool) (Bad : ℕ → Type 0) (xs : List X) (d : X)
    → ((k : ℕ) → k < length xs → p (get_or xs k d) ≡ true → Bad k)
    → ((k : ℕ) → k < length xs → Bad k → p (get_or xs k d) ≡ true)
    → First Bad (length xs) (position p xs)
first_position p Bad xs d bad passes =
    let n : ℕ = position_or_len p xs in
    ⊎_elim
    (λ b. let e : position p xs ≡ Some n = grind (arith, common_steps) in
    let clear : Clear Bad n = λ k h z. (let w : k < length xs = omega arith in true≢false (sym (passes k w z) ∙ fails_before_first p xs k d h)) in
    rw e (b, bad n b (passes_at_first p xs d b), clear))
    (λ b. let e : position p xs ≡ None = grind (arith, common_steps) in
    let clear : Clear Bad (length xs) = λ k h z. (let w : k < n = omega arith in true≢false (sym (passes k h z) ∙ fails_before_first p xs k d w)) in
    rw e clear)
    (cases_lt n (length xs))
