-- Sums over lists without repeats: only the members matter. The points, edges and cells of a grid as such lists.
use Rattle.std.proofs.Common.{◌≡◌, ℕ, zero, suc, ◌+◌, ◌<◌, Bool, true, cond, ◌&&◌, leb, ◌⊎◌, List, [], ◌∷◌, ◌++◌, map, length, sum_by, filter, sym, refl, ap, ◌∙◌, subst, inl, inr, arith}
use mathlib.Core.Path.{fun_ext}
use native.Mathlib.Decide.{ℕ_discrete}
use Rattle.std.specs.List.{flat_map}
use Rattle.std.proofs.lemmas.List.Sums.{sum_by-cons, sum_by-append, length-filter}
use Rattle.std.proofs.lemmas.Bool.{leb-true, and_parts, cases_Bool, cond-true, cond-false}
use Rattle.grid.specs.declared.geometry.Point.{Point}
use Rattle.grid.specs.declared.geometry.GridEdge.{GridEdge}
use Rattle.grid.specs.Points.{Sides, crossed}
use Rattle.topology.specs.Crossings.{NoRepeat}
use Rattle.topology.specs.Sides.{Padded}
use Rattle.topology.specs.Census.{Σ, over_points, directions, edges_from, V, VerticesCounted, CellsCounted}
use Rattle.topology.proofs.Members.{In, in_has, has_in, in_map, map_in, in_joined, joined_in, in_cases, in_left, in_right, norepeat_map}
use Rattle.topology.proofs.Sums.{cell_sums}
use Rattle.topology.proofs.Balance.{crossed_in_grid}

-- a list without one of its members
module _ {X : Type 0} where
  pub without : (ys : List X) (x : X) → In x ys → List X
  without [] x m = []
  without (y ∷ ys) x (inl e) = ys
  without (y ∷ ys) x (inr m) = y ∷ without ys x m

  without_sum : (f : X → ℕ) (ys : List X) (x : X) (m : In x ys) → sum_by f ys ≡ f x + sum_by f (without ys x m)
  unfolding without
  without_sum f [] x m = absurd m
  without_sum f (y ∷ ys) x (inl e) = sum_by-cons f y ys ∙ ap (λ z. f z + sum_by f ys) e
  without_sum f (y ∷ ys) x (inr m) = omega (arith, sum_by-cons f y ys, without_sum f ys x m, sum_by-cons f y (without ys x m))

  without_in : (ys : List X) (x : X) (m : In x ys) (z : X) → In z (without ys x m) → In z ys
  unfolding without
  without_in [] x m z h = absurd m
  without_in (y ∷ ys) x (inl e) z h = inr h
  without_in (y ∷ ys) x (inr m) z (inl h) = inl h
  without_in (y ∷ ys) x (inr m) z (inr h) = inr (without_in ys x m z h)

  in_without : (ys : List X) (x : X) (m : In x ys) (z : X) → In z ys → (x ≡ z) ⊎ In z (without ys x m)
  unfolding without
  in_without [] x m z h = absurd m
  in_without (y ∷ ys) x (inl e) z (inl h) = inl (sym e ∙ h)
  in_without (y ∷ ys) x (inl e) z (inr h) = inr h
  in_without (y ∷ ys) x (inr m) z (inl h) = inr (inl h)
  in_without (y ∷ ys) x (inr m) z (inr h) = elim (in_without ys x m z h) [ inl k ↦ inl k | inr k ↦ inr (inr k) ]

  without_gone : (ys : List X) (x : X) (m : In x ys) → NoRepeat ys → In x (without ys x m) → ⊥
  unfolding without
  without_gone [] x m n h = absurd m
  without_gone (y ∷ ys) x (inl e) n h = n.0 (in_has ys y (subst (λ v. In v ys) (sym e) h))
  without_gone (y ∷ ys) x (inr m) n (inl h) = n.0 (in_has ys y (subst (λ v. In v ys) (sym h) m))
  without_gone (y ∷ ys) x (inr m) n (inr h) = without_gone ys x m n.1 h

  without_norepeat : (ys : List X) (x : X) (m : In x ys) → NoRepeat ys → NoRepeat (without ys x m)
  unfolding without
  without_norepeat [] x m n = absurd m
  without_norepeat (y ∷ ys) x (inl e) n = n.1
  without_norepeat (y ∷ ys) x (inr m) n = (λ h. n.0 (in_has ys y (without_in ys x m y (has_in _ _ h))), without_norepeat ys x m n.1)

  -- two lists without repeats that have the same members have the same sums
  pub sum_same : (f : X → ℕ) (xs ys : List X) → NoRepeat xs → NoRepeat ys → ((x : X) → In x xs → In x ys) → ((x : X) → In x ys → In x xs) → sum_by f xs ≡ sum_by f ys
  sum_same f [] [] n o to from = refl
  sum_same f [] (y ∷ ys) n o to from = absurd (from y (inl refl))
  sum_same f (x ∷ xs) ys n o to from =
      let m = to x (inl refl) in
      let rest = sum_same f xs (without ys x m) n.1 (without_norepeat ys x m o)
      (λ z h. elim (in_without ys x m z (to z (inr h))) [ inl e ↦ absurd (n.0 (in_has xs x (subst (λ v. In v xs) (sym e) h))) | inr k ↦ k ])
      (λ z h. elim (from z (without_in ys x m z h)) [ inl e ↦ absurd (without_gone ys x m o (subst (λ v. In v (without ys x m)) (sym e) h)) | inr k ↦ k ]) in
      sum_by-cons f x xs ∙ ap (λ k. f x + k) rest ∙ sym (without_sum f ys x m)

  norepeat_append : (xs ys : List X) → NoRepeat xs → NoRepeat ys → ((x : X) → In x xs → In x ys → ⊥) → NoRepeat (xs ++ ys)
  norepeat_append [] ys n o d = o
  norepeat_append (x ∷ xs) ys n o d = (
    λ h. elim (in_cases xs ys x (has_in _ _ h)) [ inl k ↦ n.0 (in_has xs x k) | inr k ↦ d x (inl refl) k ],
    norepeat_append xs ys n.1 o (λ z h k. d z (inr h) k),
  )

  kept_in : (p : X → Bool) (xs : List X) (x : X) → In x (filter p xs) → In x xs × (p x ≡ true)
  kept_in p [] x h = absurd h
  kept_in p (y ∷ ys) x h =
      let l = filter p ys in
      elim (cases_Bool (p y)) [
        | inl e ↦
            let k : In x (y ∷ l) = subst (In x) (cond-true (p y) (y ∷ l) l e) h in
            elim k [ inl q ↦ (inl q, ap p (sym q) ∙ e) | inr k ↦ let r = kept_in p ys x k in (inr r.0, r.1) ]
        | inr e ↦ let r = kept_in p ys x (subst (In x) (cond-false (p y) (y ∷ l) l e) h) in (inr r.0, r.1)
      ]

  in_kept : (p : X → Bool) (xs : List X) (x : X) → In x xs → p x ≡ true → In x (filter p xs)
  in_kept p [] x h t = absurd h
  in_kept p (y ∷ ys) x h t =
      let l = filter p ys in
      elim h [
        | inl q ↦ subst (In x) (sym (cond-true (p y) (y ∷ l) l (ap p q ∙ t))) (inl q)
        | inr k ↦
            let r = in_kept p ys x k t in
            elim (cases_Bool (p y)) [
              | inl e ↦ subst (In x) (sym (cond-true (p y) (y ∷ l) l e)) (inr r)
              | inr e ↦ subst (In x) (sym (cond-false (p y) (y ∷ l) l e)) r
            ]
      ]

  norepeat_kept : (p : X → Bool) (xs : List X) → NoRepeat xs → NoRepeat (filter p xs)
  norepeat_kept p [] n = tt
  norepeat_kept p (y ∷ ys) n =
      let l = filter p ys in
      let r = norepeat_kept p ys n.1 in
      elim (cases_Bool (p y)) [
        | inl e ↦ subst NoRepeat (sym (cond-true (p y) (y ∷ l) l e)) (λ h. n.0 (in_has ys y (kept_in p ys y (has_in _ _ h)).0), r)
        | inr e ↦ subst NoRepeat (sym (cond-false (p y) (y ∷ l) l e)) r
      ]

  length_sum : (xs : List X) → length xs ≡ sum_by (λ _. 1) xs
  length_sum [] = refl
  length_sum (x ∷ xs) = omega (arith, length_sum xs, sum_by-cons (λ (_ : X). 1) x xs)

module _ {X A : Type 0} where
  joined_sum : (f : A → ℕ) (g : X → List A) (xs : List X) → sum_by f (flat_map g xs) ≡ sum_by (λ x. sum_by f (g x)) xs
  joined_sum f g [] = refl
  joined_sum f g (x ∷ xs) = sum_by-append f (g x) (flat_map g xs) ∙ ap (λ k. sum_by f (g x) + k) (joined_sum f g xs) ∙ sym (sum_by-cons (λ x. sum_by f (g x)) x xs)

  map_sum : (f : A → ℕ) (g : X → A) (xs : List X) → sum_by f (map g xs) ≡ sum_by (λ x. f (g x)) xs
  map_sum f g [] = refl
  map_sum f g (x ∷ xs) = sum_by-cons f (g x) (map g xs) ∙ ap (λ k. f (g x) + k) (map_sum f g xs) ∙ sym (sum_by-cons (λ x. f (g x)) x xs)

  norepeat_joined : (g : X → List A) (xs : List X) → NoRepeat xs → ((x : X) → NoRepeat (g x)) → ((x y : X) (a : A) → In a (g x) → In a (g y) → x ≡ y) → NoRepeat (flat_map g xs)
  norepeat_joined g [] n each apart = tt
  norepeat_joined g (x ∷ xs) n each apart =
      norepeat_append (g x) (flat_map g xs) (each x) (norepeat_joined g xs n.1 each apart)
      (λ a h k. let r = joined_in g xs a k in n.0 (in_has xs x (subst (λ v. In v xs) (sym (apart x r.0 a h r.2)) r.1)))

-- 0, 1, .., n - 1
unfoldable pub numbers : ℕ → List ℕ
numbers zero = []
numbers (suc n) = numbers n ++ (n ∷ [])

numbers_sum : (n : ℕ) (f : ℕ → ℕ) → sum_by f (numbers n) ≡ Σ n f
unfolding numbers
numbers_sum zero f = refl
numbers_sum (suc n) f = sum_by-append f (numbers n) (n ∷ []) ∙ omega (arith, numbers_sum n f)

numbers_in : (n k : ℕ) → In k (numbers n) → k < n
unfolding numbers
numbers_in zero k h = absurd h
numbers_in (suc n) k h =
    elim (in_cases (numbers n) (n ∷ []) k h) [
      | inl m ↦ omega (arith, numbers_in n k m)
      | inr m ↦ elim m [ inl e ↦ omega (arith, e) | inr z ↦ absurd z ]
    ]

in_numbers : (n k : ℕ) → k < n → In k (numbers n)
unfolding numbers
in_numbers zero k h = absurd (omega arith)
in_numbers (suc n) k h =
    elim (ℕ_discrete k n) [
      | yes e ↦ in_right (numbers n) (n ∷ []) k (inl (sym e))
      | no e ↦ in_left (numbers n) (n ∷ []) k (in_numbers n k (omega arith))
    ]

numbers_norepeat : (n : ℕ) → NoRepeat (numbers n)
unfolding numbers
numbers_norepeat zero = tt
numbers_norepeat (suc n) =
    norepeat_append (numbers n) (n ∷ []) (numbers_norepeat n) (λ h. has_in [] n h, tt)
    (λ k a b. elim b [ inl e ↦ omega (arith, numbers_in n k a, e) | inr z ↦ absurd z ])

-- the points with coordinates below a, b and c
abbrev line : ℕ → ℕ → ℕ → List Point
line a y z = map (λ x. record { x = x; y = y; z = z }) (numbers a)

abbrev plane : ℕ → ℕ → ℕ → List Point
plane a b z = flat_map (λ y. line a y z) (numbers b)

unfoldable pub box : ℕ → ℕ → ℕ → List Point
box a b c = flat_map (plane a b) (numbers c)

module _ (a b c : ℕ) where
  line_in : (y z : ℕ) (P : Point) → In P (line a y z) → (P.x < a) × (P.y ≡ y) × (P.z ≡ z)
  line_in y z P h =
      let r = map_in (λ x. record { x = x; y = y; z = z }) (numbers a) P h in
      let l = numbers_in a r.0 r.1 in
      let ex : r.0 ≡ P.x = ap (λ (P : Point). P.x) r.2 in
      (omega arith, ap (λ (P : Point). P.y) (sym r.2), ap (λ (P : Point). P.z) (sym r.2))

  plane_in : (z : ℕ) (P : Point) → In P (plane a b z) → (P.x < a) × (P.y < b) × (P.z ≡ z)
  plane_in z P h =
      let r = joined_in (λ y. line a y z) (numbers b) P h in
      let l = numbers_in b r.0 r.1 in
      let k = line_in r.0 z P r.2 in
      (k.0, omega (arith, k.1), k.2)

  pub box_in : (P : Point) → In P (box a b c) → (P.x < a) × (P.y < b) × (P.z < c)
  unfolding box
  box_in P h =
      let r = joined_in (plane a b) (numbers c) P h in
      let l = numbers_in c r.0 r.1 in
      let k = plane_in r.0 P r.2 in
      (k.0, k.1, omega (arith, k.2))

  pub in_box : (P : Point) → P.x < a → P.y < b → P.z < c → In P (box a b c)
  unfolding box
  in_box P x y z =
      in_joined (plane a b) (numbers c) P.z P (in_numbers c P.z z)
      (in_joined (λ y. line a y P.z) (numbers b) P.y P (in_numbers b P.y y)
      (in_map (λ x. record { x = x; y = P.y; z = P.z }) (numbers a) P.x (in_numbers a P.x x)))

  pub box_norepeat : NoRepeat (box a b c)
  unfolding box
  box_norepeat =
      norepeat_joined (plane a b) (numbers c) (numbers_norepeat c)
      (λ z. norepeat_joined (λ y. line a y z) (numbers b) (numbers_norepeat b)
      (λ y. norepeat_map (λ x. record { x = x; y = y; z = z }) (λ x w e. ap (λ (P : Point). P.x) e) (numbers a) (numbers_norepeat a))
      (λ y w P h k. sym (line_in y z P h).1 ∙ (line_in w z P k).1))
      (λ z w P h k. sym (plane_in z P h).2 ∙ (plane_in w P k).2)

  pub box_sum : (f : Point → ℕ) → sum_by f (box a b c) ≡ Σ c (λ z. Σ b (λ y. Σ a (λ x. f (record { x = x; y = y; z = z }))))
  unfolding box
  box_sum f =
      joined_sum f (plane a b) (numbers c) ∙ numbers_sum c (λ z. sum_by f (plane a b z))
      ∙ ap (Σ c) (fun_ext λ z. joined_sum f (λ y. line a y z) (numbers b) ∙ numbers_sum b (λ y. sum_by f (line a y z))
      ∙ ap (Σ b) (fun_ext λ y. map_sum f (λ x. record { x = x; y = y; z = z }) (numbers a) ∙ numbers_sum a (λ x. f (record { x = x; y = y; z = z }))))

pub cells_counted : CellsCounted
cells_counted n f cells o to from =
    let l = box (n.nx + 1) (n.ny + 1) (n.nz + 1) in
    let into : (B : Point) → In B cells → In B l = λ B h.
    let k = to B (in_has _ _ h) in in_box (n.nx + 1) (n.ny + 1) (n.nz + 1) B (omega (arith, k.x)) (omega (arith, k.y)) (omega (arith, k.z)) in
    let back : (B : Point) → In B l → In B cells = λ B h.
    let k = box_in (n.nx + 1) (n.ny + 1) (n.nz + 1) B h in has_in _ _ (from B (record { x = omega (arith, k.0); y = omega (arith, k.1); z = omega (arith, k.2) })) in
    sum_same f cells l o (box_norepeat (n.nx + 1) (n.ny + 1) (n.nz + 1)) into back
    ∙ box_sum (n.nx + 1) (n.ny + 1) (n.nz + 1) f ∙ sym (cell_sums n f)

-- the edges from all points of a grid
directions_are : directions ≡ map suc (numbers 7)
unfolding numbers
directions_are = refl

directions_in : (d : ℕ) → In d directions → (0 < d) × (d < 8)
directions_in d h =
    let r = map_in suc (numbers 7) d (subst (In d) directions_are h) in
    let l = numbers_in 7 r.0 r.1 in
    (omega (arith, r.2), omega (arith, r.2))

in_directions : (d : ℕ) → 0 < d → d < 8 → In d directions
in_directions zero h k = absurd (omega arith)
in_directions (suc d) h k = subst (In (suc d)) (sym directions_are) (in_map suc (numbers 7) d (in_numbers 7 d (omega arith)))

abbrev from : Point → ℕ → GridEdge
from P d = record { low = P; direction = d }

from_norepeat : (P : Point) → NoRepeat (edges_from P)
from_norepeat P =
    norepeat_map (from P) (λ d c e. ap (λ (e : GridEdge). e.direction) e) directions
    (subst NoRepeat (sym directions_are) (norepeat_map suc (λ x y e. omega (arith, e)) (numbers 7) (numbers_norepeat 7)))

from_low : (P : Point) (e : GridEdge) → In e (edges_from P) → P ≡ e.low
from_low P e h = ap (λ (e : GridEdge). e.low) (map_in (from P) directions e h).2

module _ (n : Sides) (inside : Point → Bool) (pad : Padded n inside) where
  points : List Point
  points = box (n.nx + 2) (n.ny + 2) (n.nz + 2)

  edges : List GridEdge
  edges = flat_map edges_from points

  crossings : List GridEdge
  crossings = filter (crossed inside) edges

  crossings_norepeat : NoRepeat crossings
  unfolding crossings edges points
  crossings_norepeat =
      norepeat_kept (crossed inside) (flat_map edges_from points)
      (norepeat_joined edges_from points (box_norepeat (n.nx + 2) (n.ny + 2) (n.nz + 2)) from_norepeat (λ P Q e h k. from_low P e h ∙ sym (from_low Q e k)))

  crossings_in : (e : GridEdge) → In e crossings → (0 < e.direction) × (e.direction < 8) × (crossed inside e ≡ true)
  unfolding crossings edges
  crossings_in e h =
      let k = kept_in (crossed inside) (flat_map edges_from points) e h in
      let r = joined_in edges_from points e k.0 in
      let m = map_in (from r.0) directions e r.2 in
      let d = directions_in m.0 m.1 in
      let q : m.0 ≡ e.direction = ap (λ (e : GridEdge). e.direction) m.2 in
      (omega (arith, d.0), omega (arith, d.1), k.1)

  in_crossings : (e : GridEdge) → 0 < e.direction → e.direction < 8 → crossed inside e ≡ true → In e crossings
  unfolding crossings edges points
  in_crossings e x y c =
      let g = (crossed_in_grid n inside pad e c).0 in
      let a = and_parts (leb e.low.x (n.nx + 1)) (leb e.low.y (n.ny + 1) && leb e.low.z (n.nz + 1)) g in
      let b = and_parts (leb e.low.y (n.ny + 1)) (leb e.low.z (n.nz + 1)) a.1 in
      let hx = leb-true _ _ a.0 in
      let hy = leb-true _ _ b.0 in
      let hz = leb-true _ _ b.1 in
      let p = in_box (n.nx + 2) (n.ny + 2) (n.nz + 2) e.low (omega arith) (omega arith) (omega arith) in
      in_kept (crossed inside) (flat_map edges_from points) e
      (in_joined edges_from points e.low e p (in_map (from e.low) directions e.direction (in_directions e.direction x y))) c

  crossings_length : length crossings ≡ V n inside
  unfolding crossings edges points over_points
  crossings_length =
      let test : GridEdge → ℕ = λ e. cond (crossed inside e) 1 0 in
      length-filter (crossed inside) (flat_map edges_from points)
      ∙ joined_sum test edges_from points ∙ box_sum (n.nx + 2) (n.ny + 2) (n.nz + 2) (λ P. sum_by test (edges_from P))

pub vertices_counted : VerticesCounted
vertices_counted n inside pad es o to from =
    let l = crossings n inside pad in
    length_sum es
    ∙ sum_same (λ _. 1) es l o (crossings_norepeat n inside pad)
    (λ e h. let k = to e (in_has _ _ h) in in_crossings n inside pad e k.0 k.1 k.2)
    (λ e h. let k = crossings_in n inside pad e h in has_in _ _ (from e k.0 k.1 k.2))
    ∙ sym (length_sum l) ∙ crossings_length n inside pad
