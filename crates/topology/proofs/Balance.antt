-- The two equations of the census.
use Rattle.std.proofs.Common.{◌≡◌, ℕ, ◌+◌, ◌*◌, ◌≤◌, Bool, true, false, cond, ◌&&◌, T, eqb, List, [], ◌∷◌, map, length, get_or, sum_by, sym, refl, ap, ◌∙◌, subst, ap₂, add-zero, arith, eqb→eq}
use Rattle.std.proofs.lemmas.Bool.{and_from, le-leb}
use Rattle.grid.specs.declared.geometry.Point.{Point}
use Rattle.grid.specs.declared.geometry.GridEdge.{GridEdge}
use Rattle.grid.specs.Points.{Sides, ◌⊕◌, offset, top, differ, crossed, in_grid}
use Rattle.grid.specs.Cells.{tetrahedra, corner, vertex, value, cell_triangles}
use Rattle.topology.specs.Crossings.{inside_corners, faces}
use Rattle.topology.specs.Sides.{Padded}
use Rattle.topology.specs.Census.{over_points, every_inside, full, count, directions, triangle_codes, TrianglesListed, N0, N1, N2, N3, V, F, CrossedInGrid, Euler}
use Rattle.topology.proofs.Finite.{◌and◌, all as all-below, imp, left, right, both, given, all_at}
use Rattle.topology.proofs.Members.{In, in_has, has_in, all_l, all_l_at, any_l, any_l_at}
use Rattle.topology.proofs.Moved.{⊕_assoc, eq_point, point_eq}
use Rattle.grid.specs.Patterns.{six}
use Rattle.topology.proofs.Crossed.{triangle_count}
use Rattle.topology.proofs.Across.{part}
use Rattle.topology.proofs.Opposite.{one_true, part_is, part_from, part_below}
use Rattle.topology.proofs.Whole.{Within, within, below}
use Rattle.topology.proofs.Sums.{points_sum, points_add, points_mul, points_step, points_cells}

-- the two equations at one edge and at one tetrahedron, by what is inside of its corners
abbrev every : List Bool → Bool
every [] = true
every (b ∷ bs) = b && every bs

abbrev all : List Bool → ℕ
all bs = cond (every bs) 1 0

edge : (a b : Bool) → cond (differ a b) 1 0 + 2 * all (a ∷ b ∷ []) ≡ all (a ∷ []) + all (b ∷ [])
edge a b = grind arith

tetrahedron : (a b c d : Bool)
    → faces (value a + value b + value c + value d) + 2 * (all (a ∷ b ∷ c ∷ []) + all (a ∷ b ∷ d ∷ []) + all (a ∷ c ∷ d ∷ []) + all (b ∷ c ∷ d ∷ []))
    ≡ all (a ∷ []) + all (b ∷ []) + all (c ∷ []) + all (d ∷ []) + 4 * all (a ∷ b ∷ c ∷ d ∷ [])
unfolding faces value
tetrahedron a b c d = grind arith

out : (b c : Bool) → (b ≡ true → ⊥) → ◌≡◌ {A = ℕ} (cond (b && c) 1 0) 0
out true c h = absurd (h refl)
out false c h = refl

no_value : (b : Bool) → (b ≡ true → ⊥) → value b ≡ 0
unfolding value
no_value true h = absurd (h refl)
no_value false h = refl

base : (P : Point) → P ⊕ offset 0 ≡ P
unfolding ◌⊕◌ offset
base P = λ i. record { x = add-zero P.x i; y = add-zero P.y i; z = add-zero P.z i }

-- a direction and a code without a common bit
unfoldable disjoint : ℕ → ℕ → Bool
disjoint d c = eq_point (offset d ⊕ offset c) (offset (d + c))

module _ (n : Sides) (inside : Point → Bool) (pad : Padded n inside) where
  every_moved : (d : ℕ) (cs : List ℕ) → T (all_l (disjoint d) cs) → (P : Point) → every_inside inside P (map (λ c. d + c) cs) ≡ every_inside inside (P ⊕ offset d) cs
  unfolding disjoint
  every_moved d [] h P = refl
  every_moved d (c ∷ cs) h P =
      let e = ap (λ q. P ⊕ q) (sym (point_eq _ _ (left _ _ h))) ∙ sym (⊕_assoc P (offset d) (offset c)) in
      ap₂ ◌&&◌ (ap inside e) (every_moved d cs (right _ _ h) P)

  -- corners that are all moved by a direction d are as often inside
  moved : (d : ℕ) (cs : List ℕ) → T (all_l (disjoint d) (0 ∷ cs)) → count n inside (map (λ c. d + c) (0 ∷ cs)) ≡ count n inside (0 ∷ cs)
  unfolding count full
  moved d cs h =
      ap (over_points n) (λ i P. cond (every_moved d (0 ∷ cs) h P i) 1 0)
      ∙ points_step n d (full inside (0 ∷ cs)) (λ P k. out (inside (P ⊕ offset 0)) (every_inside inside P cs) (λ t. k (subst (Within n) (base P) (within n _ (pad _ t)))))

  on_edge : (d : ℕ) → count n inside (d ∷ []) ≡ count n inside (0 ∷ []) →
      over_points n (λ P. cond (crossed inside (record { low = P; direction = d })) 1 0) + 2 * count n inside (0 ∷ d ∷ []) ≡ 2 * count n inside (0 ∷ [])
  unfolding count full crossed top
  on_edge d c =
      let A : Point → ℕ = λ P. cond (differ (inside P) (inside (P ⊕ offset d))) 1 0 in
      let B = full inside (0 ∷ d ∷ []) in
      let here : (P : Point) → A P + 2 * B P ≡ full inside (0 ∷ []) P + full inside (d ∷ []) P =
      λ P. ap (λ q. cond (differ (inside q) (inside (P ⊕ offset d))) 1 0 + 2 * B P) (sym (base P)) ∙ edge (inside (P ⊕ offset 0)) (inside (P ⊕ offset d)) in
      let e = ap (over_points n) (λ i P. here P i) in
      omega (arith, c, e, points_add n A (λ P. 2 * B P), points_mul n 2 B, points_add n (full inside (0 ∷ [])) (full inside (d ∷ [])))

  cut : ℕ → ℕ → ℕ → ℕ → Point → ℕ
  cut i j k l P = faces (value (inside (P ⊕ offset i)) + value (inside (P ⊕ offset j)) + value (inside (P ⊕ offset k)) + value (inside (P ⊕ offset l)))

  in_tetrahedron : (i j k l : ℕ)
      → count n inside (i ∷ []) ≡ count n inside (0 ∷ []) → count n inside (j ∷ []) ≡ count n inside (0 ∷ [])
      → count n inside (k ∷ []) ≡ count n inside (0 ∷ []) → count n inside (l ∷ []) ≡ count n inside (0 ∷ [])
      → over_points n (cut i j k l) + 2 * (count n inside (i ∷ j ∷ k ∷ []) + count n inside (i ∷ j ∷ l ∷ []) + count n inside (i ∷ k ∷ l ∷ []) + count n inside (j ∷ k ∷ l ∷ []))
      ≡ 4 * count n inside (0 ∷ []) + 4 * count n inside (i ∷ j ∷ k ∷ l ∷ [])
  unfolding count full cut
  in_tetrahedron i j k l ei ej ek el =
      let e = ap (over_points n) (λ m P. tetrahedron (inside (P ⊕ offset i)) (inside (P ⊕ offset j)) (inside (P ⊕ offset k)) (inside (P ⊕ offset l)) m) in
      omega (arith, ei, ej, ek, el, simp (points_add, points_mul) at e)

  to_zero : (d : ℕ) → T (disjoint d 0) → d + 0 ≡ d → count n inside (d ∷ []) ≡ count n inside (0 ∷ [])
  to_zero d h e = ap (λ c. count n inside (c ∷ [])) (sym e) ∙ moved d [] (both (disjoint d 0) true h tt)

  first : V n inside + 2 * N1 n inside ≡ 14 * N0 n inside
  unfolding disjoint eq_point ◌and◌ ◌⊕◌ offset
  first =
      let z : (d : ℕ) → T (disjoint d 0) → d + 0 ≡ d → count n inside (d ∷ []) ≡ count n inside (0 ∷ []) = to_zero in
      let v : V n inside ≡ sum_by (λ d. over_points n (λ P. cond (crossed inside (record { low = P; direction = d })) 1 0)) directions =
      points_sum n (λ d P. cond (crossed inside (record { low = P; direction = d })) 1 0) directions in
      omega (
        arith,
        v,
        on_edge 1 (z 1 tt refl),
        on_edge 2 (z 2 tt refl),
        on_edge 3 (z 3 tt refl),
        on_edge 4 (z 4 tt refl),
        on_edge 5 (z 5 tt refl),
        on_edge 6 (z 6 tt refl),
        on_edge 7 (z 7 tt refl),
      )

  -- a point that is no base of a cell of the grid has no triangles
  no_corners : (P : Point) → (P.x ≤ n.nx → P.y ≤ n.ny → P.z ≤ n.nz → ⊥) → (t : ℕ) → faces (inside_corners inside P t) ≡ 0
  unfolding inside_corners faces
  no_corners P h t =
      let no : (m : ℕ) → value (inside (vertex P t m)) ≡ 0 = λ m. no_value (inside (vertex P t m)) λ a.
      let k = below n P t m (vertex P t m) refl (within n _ (pad _ a)) in h k.x k.y k.z in
      ap faces (ap₂ ◌+◌ (ap₂ ◌+◌ (ap₂ ◌+◌ (no 0) (no 1)) (no 2)) (no 3))

  no_triangles : (P : Point) → (P.x ≤ n.nx → P.y ≤ n.ny → P.z ≤ n.nz → ⊥) → length (cell_triangles inside P) ≡ 0
  no_triangles P h =
      let z = no_corners P h in
      triangle_count inside P ∙ omega (arith, z 0, z 1, z 2, z 3, z 4, z 5)

  faces_by_tet : F n inside ≡ sum_by (λ t. over_points n (λ B. faces (inside_corners inside B t))) six
  faces_by_tet =
      points_cells n (λ B. length (cell_triangles inside B)) no_triangles
      ∙ ap (over_points n) (λ i B. triangle_count inside B i)
      ∙ points_sum n (λ t B. faces (inside_corners inside B t)) six

  faces_by_cut : F n inside ≡ over_points n (cut 0 1 3 7) + over_points n (cut 0 1 5 7) + over_points n (cut 0 2 3 7)
      + over_points n (cut 0 2 6 7) + over_points n (cut 0 4 5 7) + over_points n (cut 0 4 6 7)
  unfolding cut inside_corners vertex corner tetrahedra
  faces_by_cut = faces_by_tet ∙ omega arith

  -- each triangle is a face of two tetrahedra; where it has not the corner 0, it is moved there
  second : F n inside + 4 * N2 n inside ≡ 24 * N0 n inside + 4 * N3 n inside
  unfolding tetrahedra disjoint eq_point ◌and◌ ◌⊕◌ offset
  second =
      let z : (d : ℕ) → T (disjoint d 0) → d + 0 ≡ d → count n inside (d ∷ []) ≡ count n inside (0 ∷ []) = to_zero in
      let c0 = z 0 tt refl in
      let c1 = z 1 tt refl in
      let c2 = z 2 tt refl in
      let c3 = z 3 tt refl in
      let c4 = z 4 tt refl in
      let c5 = z 5 tt refl in
      let c6 = z 6 tt refl in
      let c7 = z 7 tt refl in
      omega (
        arith,
        faces_by_cut,
        in_tetrahedron 0 1 3 7 c0 c1 c3 c7,
        in_tetrahedron 0 1 5 7 c0 c1 c5 c7,
        in_tetrahedron 0 2 3 7 c0 c2 c3 c7,
        in_tetrahedron 0 2 6 7 c0 c2 c6 c7,
        in_tetrahedron 0 4 5 7 c0 c4 c5 c7,
        in_tetrahedron 0 4 6 7 c0 c4 c6 c7,
        moved 1 (2 ∷ 6 ∷ []) tt,
        moved 1 (4 ∷ 6 ∷ []) tt,
        moved 2 (1 ∷ 5 ∷ []) tt,
        moved 2 (4 ∷ 5 ∷ []) tt,
        moved 4 (1 ∷ 3 ∷ []) tt,
        moved 4 (2 ∷ 3 ∷ []) tt,
      )

pub euler : Euler
euler n inside pad = (first n inside pad, second n inside pad)

-- the list of grid triangles
eq_codes : List ℕ → List ℕ → Bool
eq_codes [] [] = true
eq_codes [] (y ∷ ys) = false
eq_codes (x ∷ xs) [] = false
eq_codes (x ∷ xs) (y ∷ ys) = eqb x y and eq_codes xs ys

codes_eq : (xs ys : List ℕ) → T (eq_codes xs ys) → xs ≡ ys
unfolding eq_codes
codes_eq [] [] h = refl
codes_eq [] (y ∷ ys) h = absurd h
codes_eq (x ∷ xs) [] h = absurd h
codes_eq (x ∷ xs) (y ∷ ys) h = ap₂ ◌∷◌ (eqb→eq x y (left _ _ h)) (codes_eq xs ys (right _ _ h))

check_listed : ℕ → ℕ → Bool
check_listed a b = imp (part a b) λ _. any_l (eq_codes (0 ∷ a ∷ b ∷ [])) triangle_codes

fact_listed : T (all-below 8 λ a. all-below 8 λ b. check_listed a b)
unfolding ◌and◌ part eq_codes check_listed
fact_listed = tt

fact_part : T (all_l (λ l. part (get_or l 1 0) (get_or l 2 0)) triangle_codes)
unfolding ◌and◌ part
fact_part = tt

pub triangles_listed : TrianglesListed
unfolding check_listed
triangles_listed a b = (
  λ h.
      let f : List ℕ → Bool = λ l. part (get_or l 1 0) (get_or l 2 0) in
      part_is a b (all_l_at f triangle_codes fact_part (0 ∷ a ∷ b ∷ []) (has_in triangle_codes (0 ∷ a ∷ b ∷ []) h)),
  λ p.
      let k = all_at 8 (check_listed a) (all_at 8 (λ a. all-below 8 λ b. check_listed a b) fact_listed a (part_below a b p)) b p.code in
      let r = any_l_at (eq_codes (0 ∷ a ∷ b ∷ [])) triangle_codes (given _ (λ _. any_l (eq_codes (0 ∷ a ∷ b ∷ [])) triangle_codes) k (part_from a b p)) in
      in_has triangle_codes (0 ∷ a ∷ b ∷ []) (subst (λ l. In l triangle_codes) (sym (codes_eq _ _ r.2)) r.1),
)

near_inside : (n : Sides) (p q : Point) → Within n q → p.x ≤ q.x + 1 → p.y ≤ q.y + 1 → p.z ≤ q.z + 1 → in_grid n p ≡ true
near_inside n p q w x y z =
    and_from _ _ (le-leb p.x (n.nx + 1) (omega (arith, w.x_high))) (and_from _ _ (le-leb p.y (n.ny + 1) (omega (arith, w.y_high))) (le-leb p.z (n.nz + 1) (omega (arith, w.z_high))))

-- the ends of an edge are neighbours
ends_near : (e : GridEdge) →
    ((top e).x ≤ e.low.x + 1) × ((top e).y ≤ e.low.y + 1) × ((top e).z ≤ e.low.z + 1)
    × (e.low.x ≤ (top e).x + 1) × (e.low.y ≤ (top e).y + 1) × (e.low.z ≤ (top e).z + 1)
unfolding top ◌⊕◌ offset
ends_near e = (omega arith, omega arith, omega arith, omega arith, omega arith, omega arith)

pub crossed_in_grid : CrossedInGrid
unfolding crossed
crossed_in_grid n inside pad e c =
    let k = ends_near e in
    let own : (p : Point) → Within n p → in_grid n p ≡ true = λ p w. near_inside n p p w (omega arith) (omega arith) (omega arith) in
    one_true (inside e.low) (inside (top e)) c
    (λ a. let w = within n e.low (pad _ a) in (own e.low w, near_inside n (top e) e.low w k.0 k.1 k.2))
    (λ a. let w = within n (top e) (pad _ a) in (near_inside n e.low (top e) w k.3 k.4 k.5, own (top e) w))
