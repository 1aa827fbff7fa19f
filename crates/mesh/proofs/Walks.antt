-- A walk that comes back as late as it can has met every member; one that comes back earlier has not. Assumes nothing.
use Rattle.std.proofs.Common.{◌≡◌, ℕ, zero, suc, ◌+◌, ◌-◌, ◌<◌, ◌≤◌, Bool, true, cond, eqb, sym, refl, ap, ◌∙◌, subst, ⊎_elim, suc-add, zero-add, add-one, arith}
use Rattle.std.proofs.lemmas.Bool.{cases_eq, cases_order, cond-true, cond-false, eq-eqb, ne_eqb}
use Rattle.mesh.specs.Counting.{count}
use Rattle.mesh.specs.EdgeTables.{after}
use Rattle.mesh.proofs.Counting.{apart_le, cover_le, hit_or, all_hit_or}

-- from any member, going on leads to any other
abbrev pub Reached : (ℕ → Bool) → (ℕ → ℕ) → Type 0
Reached p go = (j k : ℕ) → p j ≡ true → p k ≡ true → (n : ℕ) × (after go n j ≡ k)

-- from some member, going on never leads to some other
pub record Parted (p : ℕ → Bool) (go : ℕ → ℕ) : Type 0 where
  pub from : ℕ
  pub to : ℕ
  pub from_member : p from ≡ true
  pub to_member : p to ≡ true
  pub apart : (n : ℕ) → after go n from ≡ to → ⊥

pub after_none : (go : ℕ → ℕ) (k : ℕ) → after go 0 k ≡ k
unfolding after
after_none go k = refl

pub after_more : (go : ℕ → ℕ) (n k : ℕ) → after go (n + 1) k ≡ go (after go n k)
unfolding after
after_more go n k = ap (λ (m : ℕ). after go m k) (add-one n)

pub after_add : (go : ℕ → ℕ) (m n k : ℕ) → after go (m + n) k ≡ after go m (after go n k)
unfolding after
after_add go zero n k = ap (λ (i : ℕ). after go i k) (zero-add n)
after_add go (suc m) n k = ap (λ (i : ℕ). after go i k) (suc-add m n) ∙ ap go (after_add go m n k)

module _ (p : ℕ → Bool) (go : ℕ → ℕ) (size : ℕ) (within : (k : ℕ) → p k ≡ true → k < size) (closed : (k : ℕ) → p k ≡ true → p (go k) ≡ true)
    (single : (j k : ℕ) → p j ≡ true → p k ≡ true → go j ≡ go k → j ≡ k) (s : ℕ) (start : p s ≡ true) where
  pub met : (i : ℕ) → p (after go i s) ≡ true
  unfolding after
  met zero = start
  met (suc i) = closed (after go i s) (met i)

  -- equal steps from the start on can be taken back
  back : (i j : ℕ) → after go (i + j) s ≡ after go i s → after go j s ≡ s
  unfolding after
  back zero j e = ap (λ (n : ℕ). after go n s) (sym (zero-add j)) ∙ e
  back (suc i) j e =
      back i j (single (after go (i + j) s) (after go i s) (met (i + j)) (met i) (ap (λ (n : ℕ). after go n s) (sym (suc-add i j)) ∙ e))

  module _ (d : ℕ) (all : d ≡ count p size) (late : (m : ℕ) → 0 < m → m < d → after go m s ≡ s → ⊥) where
    ordered : (i j : ℕ) → i < j → j < d → after go i s ≡ after go j s → ⊥
    ordered i j h b e =
        let q : i + (j - i) ≡ j = omega arith in
        late (j - i) (omega arith) (omega arith) (back i (j - i) (ap (λ (n : ℕ). after go n s) q ∙ sym e))

    apart : (i j : ℕ) → i < d → j < d → after go i s ≡ after go j s → i ≡ j
    apart i j h b e =
        ⊎_elim (λ q. q) (λ o. ⊎_elim (λ lt. absurd (ordered i j lt b e)) (λ lt. absurd (ordered j i lt h (sym e))) o) (cases_order i j)

    -- the walk, with `k` after it
    abbrev with : ℕ → ℕ → ℕ
    with k i = cond (eqb i d) k (after go i s)

    with_last : (k i : ℕ) → i ≡ d → with k i ≡ k
    with_last k i e = cond-true (eqb i d) k (after go i s) (eq-eqb i d e)

    with_other : (k i : ℕ) → (i ≡ d → ⊥) → with k i ≡ after go i s
    with_other k i o = cond-false (eqb i d) k (after go i s) (ne_eqb i d o)

    every : (k : ℕ) → p k ≡ true → (i : ℕ) × (i < d) × (after go i s ≡ k)
    every k e =
        ⊎_elim
        (λ r. r)
        (λ none.
        let long : suc d ≤ count p size =
        apart_le p size (suc d) (with k)
        (λ i h. ⊎_elim
        (λ q. subst (λ (x : ℕ). (x < size) × (p x ≡ true)) (sym (with_last k i q)) (within k e, e))
        (λ o. subst (λ (x : ℕ). (x < size) × (p x ≡ true)) (sym (with_other k i o)) (within (after go i s) (met i), met i))
        (cases_eq i d))
        (λ i j h b q. ⊎_elim
        (λ x. ⊎_elim
        (λ y. x ∙ sym y)
        (λ y. absurd (none j (omega arith) (sym (with_other k j y) ∙ sym q ∙ with_last k i x)))
        (cases_eq j d))
        (λ x. ⊎_elim
        (λ y. absurd (none i (omega arith) (sym (with_other k i x) ∙ q ∙ with_last k j y)))
        (λ y. apart i j (omega arith) (omega arith) (sym (with_other k i x) ∙ q ∙ with_other k j y))
        (cases_eq j d))
        (cases_eq i d)) in
        absurd (omega arith))
        (hit_or (λ i. after go i s) d k)

    comes_back : after go d s ≡ s
    comes_back =
        let r = every (after go d s) (met d) in
        let i = r.0 in
        let h : i < d = r.1 in
        let q : i + (d - i) ≡ d = omega arith in
        let t : after go (d - i) s ≡ s = back i (d - i) (ap (λ (n : ℕ). after go n s) q ∙ sym r.2) in
        ⊎_elim
        (λ z. let w : d - i ≡ d = omega arith in ap (λ (n : ℕ). after go n s) (sym w) ∙ t)
        (λ o. absurd (late (d - i) (omega arith) (omega arith) t))
        (cases_eq i 0)

    pub whole : Reached p go
    whole j k a b =
        let u = every j a in
        let v = every k b in
        let q : (d - u.0) + u.0 ≡ d = omega (arith, u.1) in
        let home : after go (d - u.0) j ≡ s =
        ap (after go (d - u.0)) (sym u.2) ∙ sym (after_add go (d - u.0) u.0 s) ∙ ap (λ (n : ℕ). after go n s) q ∙ comes_back in
        (v.0 + (d - u.0), after_add go v.0 (d - u.0) j ∙ ap (after go v.0) home ∙ v.2)

  module _ (n : ℕ) (some : 0 < n) (few : n < count p size) (early : after go n s ≡ s) where
    round : (m : ℕ) → (i : ℕ) × (i < n) × (after go i s ≡ after go m s)
    unfolding after
    round zero = (0, some, refl)
    round (suc m) =
        let r = round m in
        let i = r.0 in
        let h : i < n = r.1 in
        ⊎_elim
        (λ q. (0, some, sym (ap (λ (x : ℕ). after go x s) q ∙ early) ∙ ap go r.2))
        (λ o. (suc i, omega arith, ap go r.2))
        (cases_eq (suc i) n)

    pub more : Parted p go
    more =
        ⊎_elim
        (λ all. absurd (omega (arith, cover_le p size n (λ i. after go i s) all)))
        (λ r. record {
          from = s;
          to = r.0;
          from_member = start;
          to_member = r.2;
          apart = λ m e. r.3 (round m).0 (round m).1 ((round m).2 ∙ e);
        })
        (all_hit_or p (λ i. after go i s) n size)
