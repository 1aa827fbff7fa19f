-- A cell's triangles name exactly its crossed edges.
use Rattle.std.proofs.Common.{◌≡◌, ℕ, ◌+◌, ◌<◌, Bool, true, false, T, List, [], ◌∷◌, map, length, get_or, sum_by, sym, refl, ap, ◌∙◌, subst, ap₂, inl, inr, arith, T_not, length-append}
use lib.ListN.{length-map}
use Rattle.std.specs.List.{flat_map}
use Rattle.std.proofs.lemmas.List.Sums.{sum_by-cons}
use Rattle.grid.specs.declared.geometry.Point.{Point}
use Rattle.grid.specs.declared.geometry.GridEdge.{GridEdge}
use Rattle.grid.specs.declared.geometry.Triangle.{Triangle}
use Rattle.grid.specs.declared.geometry.TetEdge.{TetEdge}
use Rattle.grid.specs.declared.geometry.TetEdge.TheVariants.{E01}
use Rattle.grid.specs.Points.{◌⊕◌, top, differ, crossed}
use Rattle.grid.specs.Cases.{low_position, high_position, row}
use Rattle.grid.specs.Cells.{odd, vertex, edge, value, mask, placed, tet_triangles, cell_triangles, cell_edges}
use Rattle.grid.specs.Patterns.{six}
use Rattle.topology.specs.Crossings.{CornerOf, Named, IsTetEdge, Apart, NoRepeat, inside_corners, faces, TetCrossings, CellCrossings, CornersDiffer, EdgesDiffer, OneLess, OnesCount, TetCount, TriangleCount}
use Rattle.topology.proofs.Finite.{left, right, some_at, or_cases}
use Rattle.topology.proofs.Members.{In, in_has, has_in, in_map, map_in, in_joined, joined_in, all_l_at, any_l, any_l_at, any_l_from, norepeat_map, count_less}
use Rattle.topology.proofs.Moved.{zeros, shift, shift_cancel, vertex_zeros, crossing_zeros, top_shift, edges_shift, point_eq, eq_edge, edge_eq, eq_edge_from}
use Rattle.topology.proofs.Tables.{bit, tet_edges, tet_eq, some_e, low_below, high_below, mask_below, mask_ones, bit_mask, row_length, Spanned, Row, row_triangle, names, row_names, apart, row_apart, six_below, in_six, check_edge, edge_test, in_tet, in_some_tet, fact_in_tet, fresh, fact_fresh}

-- one end inside, as a sum
pub differ_sum : (a b : Bool) → differ a b ≡ true → value a + value b ≡ 1
unfolding value
differ_sum true true h = absurd (let z : T false = subst T (sym h) tt in z)
differ_sum true false h = refl
differ_sum false true h = refl
differ_sum false false h = absurd (let z : T false = subst T (sym h) tt in z)

pub sum_differ : (a b : Bool) → value a + value b ≡ 1 → differ a b ≡ true
unfolding value
sum_differ true true h = absurd (omega arith)
sum_differ true false h = refl
sum_differ false true h = refl
sum_differ false false h = absurd (omega arith)

-- the ends of an edge of a tetrahedron
module _ (B : Point) (t : ℕ) (p : TetEdge) (ht : t < 6) where
  pub edge_top : top (edge B t p) ≡ vertex B t (high_position p)
  unfolding check_edge
  edge_top =
      ap top (crossing_zeros B t p) ∙ top_shift B (edge zeros t p)
      ∙ ap (λ q. B ⊕ q) (point_eq _ _ (left _ _ (edge_test t p ht))) ∙ sym (vertex_zeros B t (high_position p))

  pub edge_in : In (edge B t p) (cell_edges B)
  unfolding check_edge
  edge_in =
      let r = any_l_at (eq_edge (edge zeros t p)) (cell_edges zeros) (right _ _ (edge_test t p ht)) in
      let k : In (edge zeros t p) (cell_edges zeros) = subst (λ e. In e (cell_edges zeros)) (sym (edge_eq _ _ r.2)) r.1 in
      subst (In (edge B t p)) (sym (edges_shift B))
      (subst (λ e. In e (map (shift B) (cell_edges zeros))) (sym (crossing_zeros B t p)) (in_map (shift B) (cell_edges zeros) (edge zeros t p) k))

module _ (inside : Point → Bool) (B : Point) (t : ℕ) (p : TetEdge) (ht : t < 6) where
  bits_sum : bit (mask inside B t) (low_position p) + bit (mask inside B t) (high_position p) ≡ value (inside (edge B t p).low) + value (inside (top (edge B t p)))
  unfolding edge
  bits_sum =
      ap₂ ◌+◌ (bit_mask inside B t (low_position p) (low_below p))
      (bit_mask inside B t (high_position p) (high_below p) ∙ ap (λ q. value (inside q)) (sym (edge_top B t p ht)))

  pub crossed_from : Spanned (mask inside B t) p → crossed inside (edge B t p) ≡ true
  unfolding crossed
  crossed_from e = sum_differ _ _ (sym bits_sum ∙ e)

  pub crossed_bits : crossed inside (edge B t p) ≡ true → Spanned (mask inside B t) p
  unfolding crossed
  crossed_bits c = bits_sum ∙ differ_sum _ _ c

-- a tetrahedron
module _ (inside : Point → Bool) (B : Point) (t : ℕ) (ht : t < 6) where
  spans : (p : TetEdge) → Spanned (mask inside B t) p → IsTetEdge B t (edge B t p) × (crossed inside (edge B t p) ≡ true)
  spans p s = (record { which = p; is = refl }, crossed_from inside B t p ht s)

  abbrev Both : GridEdge → Type 0
  Both e = IsTetEdge B t e × (crossed inside e ≡ true)

  row_of : (τ : Triangle GridEdge) → In τ (tet_triangles inside B t) → (σ : Triangle TetEdge) × Row (mask inside B t) σ × (placed B t σ ≡ τ)
  unfolding tet_triangles
  row_of τ m =
      let r = map_in (placed B t) (row (odd t) (mask inside B t)) τ m in
      (r.0, row_triangle (odd t) (mask inside B t) (mask_below inside B t) r.0 r.1, r.2)

  pub tet_named : (τ : Triangle GridEdge) → In τ (tet_triangles inside B t) → (e : GridEdge) → CornerOf τ e → Both e
  unfolding placed
  tet_named τ m e c =
      let r = row_of τ m in
      let σ = r.0 in
      let k = r.1 in
      elim c [
        | inl q ↦ subst Both (ap (λ (τ : Triangle GridEdge). τ.a) r.2 ∙ q) (spans σ.a k.a)
        | inr q ↦ elim q [
          | inl q ↦ subst Both (ap (λ (τ : Triangle GridEdge). τ.b) r.2 ∙ q) (spans σ.b k.b)
          | inr q ↦ subst Both (ap (λ (τ : Triangle GridEdge). τ.c) r.2 ∙ q) (spans σ.c k.c)
        ]
      ]

  corner_from : (σ : Triangle TetEdge) (p : TetEdge) → T (names σ p) → CornerOf (placed B t σ) (edge B t p)
  unfolding names placed
  corner_from σ p h =
      elim (or_cases _ _ h) [
        | inl k ↦ inl (ap (edge B t) (tet_eq _ _ k))
        | inr k ↦ elim (or_cases _ _ k) [
          | inl k ↦ inr (inl (ap (edge B t) (tet_eq _ _ k)))
          | inr k ↦ inr (inr (ap (edge B t) (tet_eq _ _ k)))
        ]
      ]

  pub tet_names : (p : TetEdge) → crossed inside (edge B t p) ≡ true → Named (tet_triangles inside B t) (edge B t p)
  unfolding tet_triangles
  tet_names p c =
      let w = mask inside B t in
      let r = any_l_at (λ τ. names τ p) (row (odd t) w) (row_names (odd t) w p (mask_below inside B t) (crossed_bits inside B t p ht c)) in
      record {
        triangle = placed B t r.0;
        has = in_has _ _ (in_map (placed B t) (row (odd t) w) r.0 r.1);
        corner = corner_from r.0 p r.2;
      }

  pub tet_apart : (τ : Triangle GridEdge) → In τ (tet_triangles inside B t) → Apart τ
  unfolding tet_triangles apart placed
  tet_apart τ m =
      let w = mask inside B t in
      let r = map_in (placed B t) (row (odd t) w) τ m in
      let σ = r.0 in
      let k = row_apart t w ht (mask_below inside B t) σ r.1 in
      let k1 = right _ _ k in
      let lower : (p q : TetEdge) → edge B t p ≡ edge B t q → T (eq_edge (edge zeros t p) (edge zeros t q)) =
      λ p q e. eq_edge_from _ _ (shift_cancel B _ _ (sym (crossing_zeros B t p) ∙ e ∙ crossing_zeros B t q)) in
      subst Apart r.2 (record {
        ab = λ e. T_not _ (left _ _ k) (lower σ.a σ.b e);
        bc = λ e. T_not _ (left _ _ k1) (lower σ.b σ.c e);
        ca = λ e. T_not _ (right _ _ k1) (lower σ.c σ.a e);
      })

pub tet_count : TetCount
unfolding tet_triangles
tet_count inside B t =
    let w = mask inside B t in
    length-map (row (odd t) w) (placed B t) ∙ row_length (odd t) w (mask_below inside B t) ∙ ap faces (mask_ones inside B t)

pub tet_crossings : TetCrossings
tet_crossings inside B t ht e = (
  λ h. tet_named inside B t ht h.triangle (has_in _ _ h.has) e h.corner,
  λ h c. subst (Named (tet_triangles inside B t)) h.is (tet_names inside B t ht h.which (subst (λ e. crossed inside e ≡ true) (sym h.is) c)),
)

-- each edge of a cell is one of a tetrahedron
pub tet_of : (B : Point) (e : GridEdge) → In e (cell_edges B) → (t : ℕ) × (t < 6) × IsTetEdge B t e
unfolding in_some_tet in_tet
tet_of B e h =
    let r = map_in (shift B) (cell_edges zeros) e (subst (In e) (edges_shift B) h) in
    let u = r.0 in
    let a = some_at 6 (λ t. some_e (in_tet u t)) (all_l_at in_some_tet (cell_edges zeros) fact_in_tet u r.1) in
    let t = a.0 in
    let b = some_at 6 (λ k. in_tet u t (get_or tet_edges k E01)) a.2 in
    let p = get_or tet_edges b.0 E01 in
    (t, a.1, record { which = p; is = crossing_zeros B t p ∙ ap (shift B) (edge_eq (edge zeros t p) u b.2) ∙ r.2 })

pub cell_crossings : CellCrossings
unfolding cell_triangles
cell_crossings inside B e = (
  λ h.
      let r = joined_in (tet_triangles inside B) six h.triangle (has_in _ _ h.has) in
      let ht = six_below r.0 r.1 in
      let k = tet_named inside B r.0 ht h.triangle r.2 e h.corner in
      (in_has _ _ (subst (λ e. In e (cell_edges B)) k.0.is (edge_in B r.0 k.0.which ht)), k.1),
  λ h c.
      let r = tet_of B e (has_in _ _ h) in
      let k = (tet_crossings inside B r.0 r.1 e).1 r.2 c in
      record { triangle = k.triangle; has = in_has _ _ (in_joined (tet_triangles inside B) six r.0 k.triangle (in_six r.0 r.1) (has_in _ _ k.has)); corner = k.corner },
)

pub corners_differ : CornersDiffer
unfolding cell_triangles
corners_differ inside B τ h =
    let r = joined_in (tet_triangles inside B) six τ (has_in _ _ h) in
    tet_apart inside B r.0 (six_below r.0 r.1) τ r.2

fresh_norepeat : (es : List GridEdge) → T (fresh es) → NoRepeat es
unfolding fresh
fresh_norepeat [] h = tt
fresh_norepeat (e ∷ es) h = (
  λ k. T_not (any_l (eq_edge e) es) (left _ _ h) (any_l_from (eq_edge e) es e (has_in es e k) (eq_edge_from e e refl)),
  fresh_norepeat es (right _ _ h),
)

pub edges_differ : EdgesDiffer
edges_differ B = subst NoRepeat (sym (edges_shift B)) (norepeat_map (shift B) (shift_cancel B) (cell_edges zeros) (fresh_norepeat (cell_edges zeros) fact_fresh))

pub one_less : OneLess
one_less B f g e h ft gf o = count_less f g (cell_edges B) e (edges_differ B) (has_in _ _ h) ft gf (λ x k. o x (in_has _ _ k))

pub ones_count : OnesCount
ones_count = mask_ones

joined_length : {X A : Type 0} (f : X → List A) (n : X → ℕ) (xs : List X) → ((x : X) → In x xs → length (f x) ≡ n x) → length (flat_map f xs) ≡ sum_by n xs
joined_length f n [] h = refl
joined_length f n (x ∷ xs) h =
    length-append (f x) (flat_map f xs) ∙ ap₂ ◌+◌ (h x (inl refl)) (joined_length f n xs (λ y k. h y (inr k))) ∙ sym (sum_by-cons n x xs)

pub triangle_count : TriangleCount
unfolding cell_triangles
triangle_count inside B = joined_length (tet_triangles inside B) (λ t. faces (inside_corners inside B t)) six (λ t h. tet_count inside B t)
