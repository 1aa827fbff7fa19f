-- Where a member of joined lists stands: in which list, and at which place of it.
use Rattle.std.proofs.Common.{◌≡◌, ℕ, zero, suc, ◌+◌, ◌-◌, ◌<◌, List, [], ◌∷◌, length, get_or, refl, ◌∙◌, inl, inr, arith, length-append}
use Rattle.std.specs.List.{flat_map}
use Rattle.std.proofs.lemmas.List.{get_or_append_left, get_or-append-add}
use Rattle.std.proofs.lemmas.Bool.{cases_lt}

-- the number of the member i of the list n, of the lists f x joined
unfoldable pub spot : {X A : Type 0} → (X → List A) → List X → ℕ → ℕ → ℕ
spot f [] n i = i
spot f (x ∷ xs) zero i = i
spot f (x ∷ xs) (suc n) i = length (f x) + spot f xs n i

module _ {X A : Type 0} (f : X → List A) (d : X) where
  pub spot_below : (xs : List X) (n i : ℕ) → n < length xs → i < length (f (get_or xs n d)) → spot f xs n i < length (flat_map f xs)
  unfolding spot
  spot_below [] n i h k = absurd (omega arith)
  spot_below (x ∷ xs) zero i h k = omega (arith, length-append (f x) (flat_map f xs))
  spot_below (x ∷ xs) (suc n) i h k = omega (arith, length-append (f x) (flat_map f xs), spot_below xs n i (omega arith) k)

  pub spot_at : (e : A) (xs : List X) (n i : ℕ) → n < length xs → i < length (f (get_or xs n d)) → get_or (flat_map f xs) (spot f xs n i) e ≡ get_or (f (get_or xs n d)) i e
  unfolding spot
  spot_at e [] n i h k = absurd (omega arith)
  spot_at e (x ∷ xs) zero i h k = get_or_append_left (f x) (flat_map f xs) e i k
  spot_at e (x ∷ xs) (suc n) i h k = get_or-append-add (f x) (flat_map f xs) (spot f xs n i) e ∙ spot_at e xs n i (omega arith) k

  pub record Seat (xs : List X) (k : ℕ) : Type 0 where
    pub row : ℕ
    pub rank : ℕ
    pub row_below : row < length xs
    pub rank_below : rank < length (f (get_or xs row d))
    pub is : spot f xs row rank ≡ k

  pub seat : (xs : List X) (k : ℕ) → k < length (flat_map f xs) → Seat xs k
  unfolding spot
  seat [] k h = absurd (omega arith)
  seat (x ∷ xs) k h =
      elim (cases_lt k (length (f x))) [
        | inl l ↦ record { row = 0; rank = k; row_below = omega arith; rank_below = l; is = refl }
        | inr l ↦
            let r = seat xs (k - length (f x)) (omega (arith, length-append (f x) (flat_map f xs))) in
            record { row = suc r.row; rank = r.rank; row_below = omega (arith, r.row_below); rank_below = r.rank_below; is = omega (arith, r.is) }
      ]
