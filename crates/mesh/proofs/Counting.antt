-- Counting the numbers that pass a test. Assumes nothing.
use Rattle.std.proofs.Common.{◌≡◌, ℕ, zero, suc, ◌+◌, ◌<◌, ◌≤◌, Bool, true, false, cond, not, eqb, ◌⊎◌, sym, refl, ap, ◌∙◌, subst, inl, inr, ⊎_elim, add-one, arith}
use Rattle.std.proofs.lemmas.Bool.{cases_eq, cases_Bool, cases_order, true≢false}
use Rattle.std.proofs.lemmas.Bool.Decides.{nat_tests}
use Rattle.mesh.specs.Counting.{count}

-- a value `z` takes the place of the value `m`
abbrev put : ℕ → ℕ → ℕ → ℕ
put m z x = cond (eqb x m) z x

put_below : (m z x : ℕ) → z < suc m → x < suc m → (x ≡ z → ⊥) → put m z x < m
put_below m z x hz hx d = grind (arith, nat_tests)

put_one : (m z x y : ℕ) → (x ≡ z → ⊥) → (y ≡ z → ⊥) → put m z x ≡ put m z y → x ≡ y
put_one m z x y dx dy e = grind (arith, nat_tests)

-- numbers below `n` that are told apart by numbers below `m` are at most `m`
pub at_most : (n m : ℕ) (g : (i : ℕ) → i < n → ℕ) → ((i : ℕ) (h : i < n) → g i h < m)
    → ((i j : ℕ) (h : i < n) (k : j < n) → g i h ≡ g j k → i ≡ j) → n ≤ m
at_most zero m g below one = omega arith
at_most (suc n) zero g below one = absurd (let b : g n (omega arith) < 0 = below n (omega arith) in omega arith)
at_most (suc n) (suc m) g below one =
    let top : n < suc n = omega arith in
    let up : (i : ℕ) → i < n → i < suc n = λ i h. omega arith in
    let apart : (i : ℕ) (h : i < n) → g i (up i h) ≡ g n top → ⊥ = λ i h e. omega (arith, one i n (up i h) top e) in
    let rest : n ≤ m =
    at_most n m (λ i h. put m (g n top) (g i (up i h)))
    (λ i h. put_below m (g n top) (g i (up i h)) (below n top) (below i (up i h)) (apart i h))
    (λ i j h k e. one i j (up i h) (up j k) (put_one m (g n top) (g i (up i h)) (g j (up j k)) (apart i h) (apart j k) e)) in
    omega arith

module _ (p : ℕ → Bool) where
  count_at : (n : ℕ) → p n ≡ true → count p (suc n) ≡ count p n + 1
  unfolding count
  count_at n e = grind arith

  count_off : (n : ℕ) → p n ≡ false → count p (suc n) ≡ count p n
  unfolding count
  count_off n e = grind arith

  count_up : (n : ℕ) → count p n ≤ count p (suc n)
  count_up n = ⊎_elim (λ e. omega (arith, count_at n e)) (λ d. omega (arith, count_off n d)) (cases_Bool (p n))

  count_mono : (m n : ℕ) → m ≤ n → count p m ≤ count p n
  count_mono m zero h = let e : m ≡ 0 = omega arith in subst (λ (k : ℕ). count p k ≤ count p 0) (sym e) (omega arith)
  count_mono m (suc n) h =
      ⊎_elim
      (λ e. subst (λ (k : ℕ). count p k ≤ count p (suc n)) (sym e) (omega arith))
      (λ d. omega (arith, count_mono m n (omega arith), count_up n))
      (cases_eq m (suc n))

  pub count_strict : (m n : ℕ) → p m ≡ true → m < n → count p m < count p n
  count_strict m n e h = omega (arith, count_at m e, count_mono (suc m) n h)

  pub count_one : (i j : ℕ) → p i ≡ true → p j ≡ true → count p i ≡ count p j → i ≡ j
  count_one i j ei ej e =
      ⊎_elim
      (λ s. s)
      (λ o. ⊎_elim (λ h. absurd (omega (arith, count_strict i j ei h))) (λ h. absurd (omega (arith, count_strict j i ej h))) o)
      (cases_order i j)

  pub count_onto : (i n : ℕ) → i < count p n → (x : ℕ) × (x < n) × (p x ≡ true) × (count p x ≡ i)
  unfolding count
  count_onto i zero h = absurd (omega arith)
  count_onto i (suc n) h =
      let more : i < count p n → (x : ℕ) × (x < suc n) × (p x ≡ true) × (count p x ≡ i) =
      λ b. let r = count_onto i n b in (r.0, omega (arith, r.1), r.2, r.3) in
      ⊎_elim
      (λ e. let s = count_at n e in ⊎_elim (λ z. (n, omega arith, e, sym z)) (λ d. more (omega arith)) (cases_eq i (count p n)))
      (λ d. more (omega (arith, count_off n d)))
      (cases_Bool (p n))

  pub count_none : count p 0 ≡ 0
  unfolding count
  count_none = refl

  pub count_more : (n : ℕ) → count p (n + 1) ≡ count p n + cond (p n) 1 0
  unfolding count
  count_more n = ap (count p) (add-one n)

  pub count_front : (n : ℕ) → count p (suc n) ≡ cond (p 0) 1 0 + count (λ x. p (suc x)) n
  unfolding count
  count_front zero = omega arith
  count_front (suc n) = omega (arith, count_front n)

  pub count_le : (n : ℕ) → count p n ≤ n
  unfolding count
  count_le zero = omega arith
  count_le (suc n) = ⊎_elim (λ e. omega (arith, count_at n e, count_le n)) (λ d. omega (arith, count_off n d, count_le n)) (cases_Bool (p n))

  -- different ones that pass are at most as many as pass
  pub apart_le : (size n : ℕ) (g : ℕ → ℕ) → ((i : ℕ) → i < n → (g i < size) × (p (g i) ≡ true))
      → ((i j : ℕ) → i < n → j < n → g i ≡ g j → i ≡ j) → n ≤ count p size
  apart_le size n g good one =
      at_most n (count p size) (λ i h. count p (g i))
      (λ i h. count_strict (g i) size (good i h).1 (good i h).0)
      (λ i j h k e. one i j h k (count_one (g i) (g j) (good i h).1 (good j k).1 e))

  -- and where they are all that pass, at least as many
  pub cover_le : (size n : ℕ) (g : ℕ → ℕ) → ((k : ℕ) → k < size → p k ≡ true → (i : ℕ) × (i < n) × (g i ≡ k)) → count p size ≤ n
  cover_le size n g hit =
      let at : (r : ℕ) → r < count p size → (x : ℕ) × (x < size) × (p x ≡ true) × (count p x ≡ r) = λ r h. count_onto r size h in
      let by : (r : ℕ) (h : r < count p size) → (i : ℕ) × (i < n) × (g i ≡ (at r h).0) = λ r h. hit (at r h).0 (at r h).1 (at r h).2 in
      at_most (count p size) n
      (λ r h. (by r h).0)
      (λ r h. (by r h).1)
      (λ r s h k e. let x : (at r h).0 ≡ (at s k).0 = sym (by r h).2 ∙ ap g e ∙ (by s k).2 in sym (at r h).3 ∙ ap (count p) x ∙ (at s k).3)

-- whether some number below `n` has what each number has or lacks
pub some_or : (P : ℕ → Type 0) → ((k : ℕ) → P k ⊎ (P k → ⊥)) → (n : ℕ) → ((k : ℕ) × (k < n) × P k) ⊎ ((k : ℕ) → k < n → P k → ⊥)
some_or P or zero = inr (λ k h p. omega arith)
some_or P or (suc n) =
    ⊎_elim
    (λ p. inl (n, omega arith, p))
    (λ d. ⊎_elim
    (λ r. inl (r.0, omega (arith, r.1), r.2))
    (λ none. inr (λ k h p. ⊎_elim (λ s. d (subst P s p)) (λ o. none k (omega arith) p) (cases_eq k n)))
    (some_or P or n))
    (or n)

-- whether `g` gives `k` below `n`
pub hit_or : (g : ℕ → ℕ) (n k : ℕ) → ((i : ℕ) × (i < n) × (g i ≡ k)) ⊎ ((i : ℕ) → i < n → g i ≡ k → ⊥)
hit_or g n k = some_or (λ i. g i ≡ k) (λ i. cases_eq (g i) k) n

-- whether all that pass below `size` are given by `g` below `n`
pub all_hit_or : (p : ℕ → Bool) (g : ℕ → ℕ) (n size : ℕ)
    → ((k : ℕ) → k < size → p k ≡ true → (i : ℕ) × (i < n) × (g i ≡ k)) ⊎ ((k : ℕ) × (k < size) × (p k ≡ true) × ((i : ℕ) → i < n → g i ≡ k → ⊥))
all_hit_or p g n zero = inl (λ k h e. absurd (omega arith))
all_hit_or p g n (suc size) =
    ⊎_elim
    (λ all. ⊎_elim
    (λ t. ⊎_elim
    (λ r. inl (λ k h e. ⊎_elim
    (λ s. (r.0, r.1, r.2 ∙ sym s))
    (λ o. all k (omega arith) e)
    (cases_eq k size)))
    (λ none. inr (size, omega arith, t, none))
    (hit_or g n size))
    (λ t. inl (λ k h e. all k (let o : k ≡ size → ⊥ = λ s. true≢false (sym e ∙ ap p s ∙ t) in omega arith) e))
    (cases_Bool (p size)))
    (λ r. inr (r.0, omega (arith, r.1), r.2, r.3))
    (all_hit_or p g n size)

-- where each that passes one test has its own that passes another, no fewer pass the other
pub count_inj : (p q : ℕ → Bool) (size : ℕ) (g : (x : ℕ) → x < size → p x ≡ true → (y : ℕ) × (y < size) × (q y ≡ true))
    → ((x y : ℕ) (h : x < size) (k : y < size) (e : p x ≡ true) (f : p y ≡ true) → (g x h e).0 ≡ (g y k f).0 → x ≡ y) → count p size ≤ count q size
count_inj p q size g one =
    let at : (r : ℕ) → r < count p size → (x : ℕ) × (x < size) × (p x ≡ true) × (count p x ≡ r) = λ r h. count_onto p r size h in
    let to : (r : ℕ) (h : r < count p size) → (y : ℕ) × (y < size) × (q y ≡ true) = λ r h. g (at r h).0 (at r h).1 (at r h).2 in
    at_most (count p size) (count q size)
    (λ r h. count q (to r h).0)
    (λ r h. count_strict q (to r h).0 size (to r h).2 (to r h).1)
    (λ r s h k e.
    let same : (to r h).0 ≡ (to s k).0 = count_one q (to r h).0 (to s k).0 (to r h).2 (to s k).2 e in
    let x : (at r h).0 ≡ (at s k).0 = one (at r h).0 (at s k).0 (at r h).1 (at s k).1 (at r h).2 (at s k).2 same in
    sym (at r h).3 ∙ ap (count p) x ∙ (at s k).3)

pub count_not : (p q : ℕ → Bool) → (n : ℕ) → ((x : ℕ) → x < n → q x ≡ not (p x)) → count p n + count q n ≡ n
unfolding count
count_not p q zero d = refl
count_not p q (suc n) d =
    let rest = count_not p q n (λ x h. d x (omega arith)) in
    let e = d n (omega arith) in
    ⊎_elim
    (λ t. omega (arith, count_at p n t, count_off q n (e ∙ ap not t), rest))
    (λ f. omega (arith, count_off p n f, count_at q n (e ∙ ap not f), rest))
    (cases_Bool (p n))

-- the same numbers pass
pub count_like : (p q : ℕ → Bool) (n : ℕ) → ((x : ℕ) → x < n → p x ≡ true → q x ≡ true) → ((x : ℕ) → x < n → q x ≡ true → p x ≡ true) → count p n ≡ count q n
unfolding count
count_like p q zero to back = refl
count_like p q (suc n) to back =
    let rest = count_like p q n (λ x h. to x (omega arith)) (λ x h. back x (omega arith)) in
    ⊎_elim
    (λ t. omega (arith, count_at p n t, count_at q n (to n (omega arith) t), rest))
    (λ f. ⊎_elim
    (λ t. absurd (true≢false (sym (back n (omega arith) t) ∙ f)))
    (λ g. omega (arith, count_off p n f, count_off q n g, rest))
    (cases_Bool (q n)))
    (cases_Bool (p n))
