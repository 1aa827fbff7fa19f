-- How many entries are free, and what that says of a search. Assumes nothing.
use Rattle.std.proofs.Common.{◌≡◌, ℕ, zero, suc, ◌+◌, ◌<◌, ◌≤◌, true, cond, List, [], ◌∷◌, length, get_or, replicate, is_none, is_some, Some, None, Option, refl, ◌∙◌, ⊎_elim, arith, length-set}
use Rattle.std.proofs.lemmas.List.{set_past}
use Rattle.std.proofs.lemmas.List.Sums.{sum_by-cons, sum_by-set, count_by-le-length}
use Rattle.std.proofs.lemmas.Bool.{cases_lt, false≢true}
use Rattle.keymap.specs.declared.table.Entry.{Entry}
use Rattle.keymap.specs.Probe.{slot, number_in, number_at, lookup, put, Crowded}
use Rattle.keymap.specs.Frees.{free}
use Rattle.keymap.proofs.Laws.{held, slot_below, crowded}

module _ {K : Type 0} where
  abbrev one : Option (Entry K) → ℕ
  one x = cond (is_none x) 1 0

  one_small : (x : Option (Entry K)) → one x ≤ 1
  one_small None = omega arith
  one_small (Some e) = omega arith

  -- no entry of a table where none is free counts
  pub free_crowded : (es : List (Option (Entry K))) → Crowded es → free es ≡ 0
  unfolding free
  free_crowded [] c = refl
  free_crowded (None ∷ es) c = absurd (c 0 (omega arith) refl)
  free_crowded (Some e ∷ es) c =
      let h = free_crowded es (λ i b. c (suc i) (omega arith)) in
      sum_by-cons one (Some e) es ∙ omega (arith, h)

  -- no more entries are free than there are
  pub free_le_length : (es : List (Option (Entry K))) → free es ≤ length es
  unfolding free
  free_le_length es = count_by-le-length is_none es

  pub length_put : (es : List (Option (Entry K))) (o : Option ℕ) (k : K) (v : ℕ) → length (put es o k v) ≡ length es
  length_put es None k v = refl
  length_put es (Some i) k v = length-set es i (held k v)

  -- a put takes at most one free entry
  pub free_put : (es : List (Option (Entry K))) (o : Option ℕ) (k : K) (v : ℕ) → free es ≤ free (put es o k v) + 1
  unfolding free
  free_put es None k v = omega arith
  free_put es (Some i) k v =
      ⊎_elim
      (λ b. let e = sum_by-set one es i (held k v) None b in
      let s = one_small (get_or es i None) in
      omega (arith, e, s))
      (λ b. rw (set_past es i (held k v) b) (omega arith))
      (cases_lt i (length es))

  -- an entry is free where it holds no number
  one_none : (x : Option (Entry K)) → number_in x ≡ None → one x ≡ 1
  one_none None e = refl
  one_none (Some x) e = cc

  one_some : (x : Option (Entry K)) (n : ℕ) → number_in x ≡ Some n → one x ≡ 0
  one_some None n e = cc
  one_some (Some x) n e = refl

  module _ (meaning : K → List ℕ) (hashed : List ℕ → ℕ) (es : List (Option (Entry K))) where
    is_some_at : (m : List ℕ) → 0 < free es → (o : Option ℕ) → slot meaning hashed es m ≡ o → is_some o ≡ true
    is_some_at m b None e = absurd (omega (arith, free_crowded es (crowded meaning hashed es m e)))
    is_some_at m b (Some i) e = refl

    -- with a free entry every search ends at an entry
    pub slot_free : (m : List ℕ) → 0 < free es → is_some (slot meaning hashed es m) ≡ true
    slot_free m b = is_some_at m b (slot meaning hashed es m) refl

    module _ (k : K) (v : ℕ) where
      new_at : (o : Option ℕ) → slot meaning hashed es (meaning k) ≡ o → number_at es o ≡ None → is_some o ≡ true → free es ≡ free (put es o k v) + 1
      unfolding free
      new_at None e h s = absurd (false≢true s)
      new_at (Some i) e h s =
          let b = sum_by-set one es i (held k v) None (slot_below meaning hashed es (meaning k) i e) in
          let f = one_none (get_or es i None) h in
          omega (arith, b, f)

      old_at : (n : ℕ) (o : Option ℕ) → slot meaning hashed es (meaning k) ≡ o → number_at es o ≡ Some n → free (put es o k v) ≡ free es
      unfolding free
      old_at n None e h = refl
      old_at n (Some i) e h =
          let b = sum_by-set one es i (held k v) None (slot_below meaning hashed es (meaning k) i e) in
          let f = one_some (get_or es i None) n h in
          omega (arith, b, f)

      -- a new key takes one free entry
      pub free_new : lookup meaning hashed es (meaning k) ≡ None → is_some (slot meaning hashed es (meaning k)) ≡ true → free es ≡ free (put es (slot meaning hashed es (meaning k)) k v) + 1
      free_new = new_at (slot meaning hashed es (meaning k)) refl

      -- a held key takes none
      pub free_old : (n : ℕ) → lookup meaning hashed es (meaning k) ≡ Some n → free (put es (slot meaning hashed es (meaning k)) k v) ≡ free es
      free_old n = old_at n (slot meaning hashed es (meaning k)) refl

-- each entry of a cleared table counts
pub free_cleared : (K : Type 0) (n : ℕ) → free {K = K} (replicate n None) ≡ n
unfolding free
free_cleared K zero = refl
free_cleared K (suc n) =
    let h = free_cleared K n in
    sum_by-cons (one {K = K}) None (replicate n None) ∙ omega (arith, h)
