-- What is known of `position` from the elements before a place. Assumes nothing.
use Rattle.std.proofs.Common.{◌≡◌, ℕ, ◌<◌, ◌≤◌, Bool, true, false, List, length, get_or, Some, None, sym, ◌∙◌, ⊎_elim, arith}
use Rattle.std.proofs.lemmas.Bool.{cases_lt, true≢false}
use Rattle.std.proofs.lemmas.Grind.{common_steps}
use Rattle.std.proofs.lemmas.List.Sums.{passes_at_first, fails_before_first}
use Rattle.std.specs.List.{position, position_or_len}

module _ {X : Type 0} (p : X → Bool) (xs : List X) (d : X) where
  -- the test passes no element below `i`
  abbrev pub Fails : ℕ → Type 0
  Fails i = (j : ℕ) → j < i → p (get_or xs j d) ≡ false

  -- it passes the one at `i` first
  pub position_here : (i : ℕ) → i < length xs → Fails i → p (get_or xs i d) ≡ true → Some i ≡ position p xs
  position_here i b fails here =
      let n : ℕ = position_or_len p xs in
      let low : i ≤ n =
      ⊎_elim
      (λ l. let w : n < length xs = omega arith in absurd (true≢false (sym (passes_at_first p xs d w) ∙ fails n l)))
      (λ l. l)
      (cases_lt n i) in
      let high : n ≤ i =
      ⊎_elim (λ l. absurd (true≢false (sym here ∙ fails_before_first p xs i d l))) (λ l. l) (cases_lt i n) in
      let e : n ≡ i = omega arith in
      grind (arith, common_steps)

  -- it passes none
  pub position_none : Fails (length xs) → None ≡ position p xs
  position_none fails =
      let n : ℕ = position_or_len p xs in
      let high : length xs ≤ n =
      ⊎_elim (λ l. absurd (true≢false (sym (passes_at_first p xs d l) ∙ fails n l))) (λ l. l) (cases_lt n (length xs)) in
      grind (arith, common_steps)
