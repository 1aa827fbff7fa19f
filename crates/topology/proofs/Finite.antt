-- A test over a finite range, computed once, as a statement over the range.
use Rattle.std.proofs.Common.{ℕ, zero, suc, ◌<◌, Bool, true, false, ◌||◌, T, ◌⊎◌, sym, subst, inl, inr, not-suc-le-zero, arith}
use native.Mathlib.Decide.{ℕ_discrete}

infixr 35 ◌and◌
-- shut, unlike _&&_, so that antt finds p and q in T (p and q) whatever they are
unfoldable pub ◌and◌ : Bool → Bool → Bool
true and b = b
false and b = false

abbrev pub all : ℕ → (ℕ → Bool) → Bool
all zero f = true
all (suc n) f = f n and all n f

abbrev pub all_b : (Bool → Bool) → Bool
all_b f = f true and f false

-- the second test is computed only where the first passes
abbrev pub imp : Bool → (Bool → Bool) → Bool
imp true f = f true
imp false f = true

abbrev pub some : ℕ → (ℕ → Bool) → Bool
some zero f = false
some (suc n) f = f n || some n f

pub left : (p q : Bool) → T (p and q) → T p
unfolding ◌and◌
left true q t = tt
left false q t = t

pub right : (p q : Bool) → T (p and q) → T q
unfolding ◌and◌
right true q t = t
right false q t = absurd t

pub both : (p q : Bool) → T p → T q → T (p and q)
unfolding ◌and◌
both true q s t = t
both false q s t = s

pub given : (p : Bool) (f : Bool → Bool) → T (imp p f) → T p → T (f true)
given true f t s = t
given false f t s = absurd s

pub when : (p : Bool) (f : Bool → Bool) → (T p → T (f true)) → T (imp p f)
when true f h = h tt
when false f h = tt

pub or_left : (p q : Bool) → T p → T (p || q)
or_left true q t = tt
or_left false q t = absurd t

pub or_right : (p q : Bool) → T q → T (p || q)
or_right true q t = tt
or_right false q t = t

pub or_cases : (p q : Bool) → T (p || q) → T p ⊎ T q
or_cases true q t = inl tt
or_cases false q t = inr t

pub all_at : (n : ℕ) (f : ℕ → Bool) → T (all n f) → (i : ℕ) → i < n → T (f i)
all_at zero f t i h = absurd (not-suc-le-zero h)
all_at (suc n) f t i h =
    elim (ℕ_discrete i n) [
      | yes e ↦ subst (λ k. T (f k)) (sym e) (left (f n) (all n f) t)
      | no e ↦ all_at n f (right (f n) (all n f) t) i (omega arith)
    ]

pub all_from : (n : ℕ) (f : ℕ → Bool) → ((i : ℕ) → i < n → T (f i)) → T (all n f)
all_from zero f h = tt
all_from (suc n) f h = both (f n) (all n f) (h n (omega arith)) (all_from n f (λ i k. h i (omega arith)))

pub all_b_at : (f : Bool → Bool) → T (all_b f) → (b : Bool) → T (f b)
all_b_at f t true = left (f true) (f false) t
all_b_at f t false = right (f true) (f false) t

pub some_at : (n : ℕ) (f : ℕ → Bool) → T (some n f) → (i : ℕ) × (i < n) × T (f i)
some_at zero f t = absurd t
some_at (suc n) f t =
    elim (or_cases (f n) (some n f) t) [
      | inl h ↦ (n, omega arith, h)
      | inr h ↦ let r = some_at n f h in (r.0, omega (arith, r.1), r.2)
    ]

pub some_from : (n : ℕ) (f : ℕ → Bool) (i : ℕ) → i < n → T (f i) → T (some n f)
some_from zero f i h t = absurd (not-suc-le-zero h)
some_from (suc n) f i h t =
    elim (ℕ_discrete i n) [
      | yes e ↦ or_left (f n) (some n f) (subst (λ k. T (f k)) e t)
      | no e ↦ or_right (f n) (some n f) (some_from n f i (omega arith) t)
    ]
