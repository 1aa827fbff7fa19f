-- Membership in lists that are mapped or joined, lists without repeats, and counts over them.
use Rattle.std.proofs.Common.{◌≡◌, ℕ, zero, suc, ◌+◌, ◌<◌, Bool, true, false, cond, ◌||◌, T, ◌⊎◌, List, [], ◌∷◌, ◌++◌, map, length, get_or, count_by, sym, refl, ap, ◌∙◌, subst, ap₂, inl, inr, arith}
use Rattle.std.specs.List.{ContainsAt as Has, flat_map}
use Rattle.std.proofs.lemmas.List.Sums.{sum_by-cons}
use Rattle.topology.specs.Crossings.{NoRepeat}
use Rattle.topology.proofs.Finite.{◌and◌, left, right, or_left, or_right, or_cases}

-- x is a member of the list, by recursion over the list
abbrev pub In : {X : Type 0} → X → List X → Type 0
In x [] = ⊥
In x (y ∷ ys) = (y ≡ x) ⊎ In x ys

pub in_has : {X : Type 0} (xs : List X) (x : X) → In x xs → Has xs x
in_has [] x h = absurd h
in_has (y ∷ ys) x (inl e) = (0, omega arith, λ d. e)
in_has (y ∷ ys) x (inr h) = let r = in_has ys x h in (suc r.0, omega (arith, r.1), r.2)

in_at : {X : Type 0} (xs : List X) (x : X) (k : ℕ) → k < length xs → ((d : X) → get_or xs k d ≡ x) → In x xs
in_at [] x k l f = absurd (omega arith)
in_at (y ∷ ys) x zero l f = inl (f y)
in_at (y ∷ ys) x (suc k) l f = inr (in_at ys x k (omega arith) f)

pub has_in : {X : Type 0} (xs : List X) (x : X) → Has xs x → In x xs
has_in xs x h = in_at xs x h.0 h.1 h.2

pub in_map : {X Y : Type 0} (f : X → Y) (xs : List X) (x : X) → In x xs → In (f x) (map f xs)
in_map f [] x h = absurd h
in_map f (y ∷ ys) x (inl e) = inl (ap f e)
in_map f (y ∷ ys) x (inr h) = inr (in_map f ys x h)

pub map_in : {X Y : Type 0} (f : X → Y) (xs : List X) (y : Y) → In y (map f xs) → (x : X) × In x xs × (f x ≡ y)
map_in f [] y h = absurd h
map_in f (x ∷ xs) y (inl e) = (x, inl refl, e)
map_in f (x ∷ xs) y (inr h) = let r = map_in f xs y h in (r.0, inr r.1, r.2)

pub in_left : {X : Type 0} (xs ys : List X) (x : X) → In x xs → In x (xs ++ ys)
in_left [] ys x h = absurd h
in_left (y ∷ xs) ys x (inl e) = inl e
in_left (y ∷ xs) ys x (inr h) = inr (in_left xs ys x h)

pub in_right : {X : Type 0} (xs ys : List X) (x : X) → In x ys → In x (xs ++ ys)
in_right [] ys x h = h
in_right (y ∷ xs) ys x h = inr (in_right xs ys x h)

pub in_cases : {X : Type 0} (xs ys : List X) (x : X) → In x (xs ++ ys) → In x xs ⊎ In x ys
in_cases [] ys x h = inr h
in_cases (y ∷ xs) ys x (inl e) = inl (inl e)
in_cases (y ∷ xs) ys x (inr h) = elim (in_cases xs ys x h) [ inl k ↦ inl (inr k) | inr k ↦ inr k ]

pub in_joined : {X A : Type 0} (f : X → List A) (xs : List X) (x : X) (a : A) → In x xs → In a (f x) → In a (flat_map f xs)
in_joined f [] x a h k = absurd h
in_joined f (y ∷ ys) x a (inl e) k = in_left (f y) (flat_map f ys) a (subst (λ z. In a (f z)) (sym e) k)
in_joined f (y ∷ ys) x a (inr h) k = in_right (f y) (flat_map f ys) a (in_joined f ys x a h k)

pub joined_in : {X A : Type 0} (f : X → List A) (xs : List X) (a : A) → In a (flat_map f xs) → (x : X) × In x xs × In a (f x)
joined_in f [] a h = absurd h
joined_in f (y ∷ ys) a h =
    elim (in_cases (f y) (flat_map f ys) a h) [
      | inl k ↦ (y, inl refl, k)
      | inr k ↦ let r = joined_in f ys a k in (r.0, inr r.1, r.2)
    ]

-- a test at each member, and at some
abbrev pub all_l : {X : Type 0} → (X → Bool) → List X → Bool
all_l f [] = true
all_l f (x ∷ xs) = f x and all_l f xs

abbrev pub any_l : {X : Type 0} → (X → Bool) → List X → Bool
any_l f [] = false
any_l f (x ∷ xs) = f x || any_l f xs

pub all_l_at : {X : Type 0} (f : X → Bool) (xs : List X) → T (all_l f xs) → (x : X) → In x xs → T (f x)
all_l_at f [] t x h = absurd h
all_l_at f (y ∷ ys) t x (inl e) = subst (λ z. T (f z)) e (left (f y) (all_l f ys) t)
all_l_at f (y ∷ ys) t x (inr h) = all_l_at f ys (right (f y) (all_l f ys) t) x h

pub any_l_at : {X : Type 0} (f : X → Bool) (xs : List X) → T (any_l f xs) → (x : X) × In x xs × T (f x)
any_l_at f [] t = absurd t
any_l_at f (y ∷ ys) t =
    elim (or_cases (f y) (any_l f ys) t) [
      | inl h ↦ (y, inl refl, h)
      | inr h ↦ let r = any_l_at f ys h in (r.0, inr r.1, r.2)
    ]

pub any_l_from : {X : Type 0} (f : X → Bool) (xs : List X) (x : X) → In x xs → T (f x) → T (any_l f xs)
any_l_from f [] x h t = absurd h
any_l_from f (y ∷ ys) x (inl e) t = or_left (f y) (any_l f ys) (subst (λ z. T (f z)) (sym e) t)
any_l_from f (y ∷ ys) x (inr h) t = or_right (f y) (any_l f ys) (any_l_from f ys x h t)

-- a list moved by a function that keeps its members apart has no repeats if the list has none
pub norepeat_map : {X Y : Type 0} (f : X → Y) → ((x y : X) → f x ≡ f y → x ≡ y) → (xs : List X) → NoRepeat xs → NoRepeat (map f xs)
norepeat_map f inj [] h = tt
norepeat_map f inj (x ∷ xs) h = (
  λ k.
      let r = map_in f xs (f x) (has_in (map f xs) (f x) k) in
      h.0 (in_has xs x (subst (λ z. In z xs) (inj r.0 x r.2) r.1)),
  norepeat_map f inj xs h.1,
)

-- counts of two tests that agree on the list, and of two that differ at one member
pub count_same : {X : Type 0} (f g : X → Bool) (xs : List X) → ((y : X) → In y xs → g y ≡ f y) → count_by f xs ≡ count_by g xs
count_same f g [] h = refl
count_same f g (x ∷ xs) h =
    let e = h x (inl refl) in
    let a = sum_by-cons (λ x. cond (f x) 1 0) x xs in
    let b = sum_by-cons (λ x. cond (g x) 1 0) x xs in
    a ∙ (ap₂ (λ p n. cond p 1 0 + n) (sym e) (count_same f g xs (λ y k. h y (inr k))) ∙ sym b)

pub count_less : {X : Type 0} (f g : X → Bool) (xs : List X) (x : X) → NoRepeat xs → In x xs → f x ≡ true → g x ≡ false →
    ((y : X) → In y xs → (y ≡ x → ⊥) → g y ≡ f y) → count_by f xs ≡ count_by g xs + 1
count_less f g [] x n h ft gf o = absurd h
count_less f g (y ∷ ys) x n (inl e) ft gf o =
    let rest = count_same f g ys (λ z k. o z (inr k) (λ q. n.0 (in_has ys y (subst (λ v. In v ys) (q ∙ sym e) k)))) in
    let a : count_by f (y ∷ ys) ≡ 1 + count_by f ys = sum_by-cons (λ x. cond (f x) 1 0) y ys ∙ ap (λ p. cond p 1 0 + count_by f ys) (ap f e ∙ ft) in
    let b : count_by g (y ∷ ys) ≡ 0 + count_by g ys = sum_by-cons (λ x. cond (g x) 1 0) y ys ∙ ap (λ p. cond p 1 0 + count_by g ys) (ap g e ∙ gf) in
    omega arith
count_less f g (y ∷ ys) x n (inr h) ft gf o =
    let rest = count_less f g ys x n.1 h ft gf (λ z k. o z (inr k)) in
    let e = o y (inl refl) (λ q. n.0 (in_has ys y (subst (λ v. In v ys) (sym q) h))) in
    let a : count_by f (y ∷ ys) ≡ cond (f y) 1 0 + count_by f ys = sum_by-cons (λ x. cond (f x) 1 0) y ys in
    let b : count_by g (y ∷ ys) ≡ cond (f y) 1 0 + count_by g ys = sum_by-cons (λ x. cond (g x) 1 0) y ys ∙ ap (λ p. cond p 1 0 + count_by g ys) e in
    omega arith
