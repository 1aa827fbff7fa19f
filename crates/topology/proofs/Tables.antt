-- Masks and rows of the case table: each fact is one test over the whole table, computed.
use Rattle.std.proofs.Common.{◌≡◌, ℕ, zero, suc, ◌+◌, ◌/◌, ◌%◌, ◌<◌, Bool, true, false, not, ◌||◌, T, eqb, ltb, List, [], ◌∷◌, length, get_or, sym, refl, ap, ◌∙◌, subst, arith, lit<, eqb→eq, ltb→lt}
use lib.Count.{ones, ones_in}
use Rattle.grid.specs.declared.geometry.Point.{Point}
use Rattle.grid.specs.declared.geometry.GridEdge.{GridEdge}
use Rattle.grid.specs.declared.geometry.Triangle.{Triangle}
use Rattle.grid.specs.declared.geometry.TetEdge.{TetEdge}
use Rattle.grid.specs.declared.geometry.TetEdge.TheVariants.{E01, E02, E03, E12, E13, E23}
use Rattle.grid.specs.Points.{◌⊕◌, offset, top}
use Rattle.grid.specs.Cases.{low_position, high_position, swap, rows, row}
use Rattle.grid.specs.Patterns.{six}
use Rattle.grid.specs.Cells.{tetrahedra, corner, odd, vertex, edge, value, pack, mask, cell_edges}
use Rattle.topology.specs.Crossings.{inside_corners, faces}
use Rattle.topology.proofs.Finite.{◌and◌, all, all_b, some, left, right, all_at, all_b_at}
use Rattle.topology.proofs.Members.{In, all_l, all_l_at, any_l, any_l_at}
use Rattle.topology.proofs.Moved.{zeros, eq_point, eq_edge}

-- bit m of a mask
unfoldable pub bit : ℕ → ℕ → ℕ
bit w m = (w / get_or (1 ∷ 2 ∷ 4 ∷ 8 ∷ []) m 1) % 2

-- the six edges of a tetrahedron, and a test of their equality
abbrev pub tet_edges : List TetEdge
tet_edges = E01 ∷ E02 ∷ E03 ∷ E12 ∷ E13 ∷ E23 ∷ []

unfoldable pub rank : TetEdge → ℕ
rank E01 = 0
rank E02 = 1
rank E03 = 2
rank E12 = 3
rank E13 = 4
rank E23 = 5

ranked : (p : TetEdge) → get_or tet_edges (rank p) E01 ≡ p
unfolding rank
ranked E01 = refl
ranked E02 = refl
ranked E03 = refl
ranked E12 = refl
ranked E13 = refl
ranked E23 = refl

below_six : (p : TetEdge) → rank p < 6
unfolding rank
below_six E01 = lit< tt
below_six E02 = lit< tt
below_six E03 = lit< tt
below_six E12 = lit< tt
below_six E13 = lit< tt
below_six E23 = lit< tt

unfoldable pub eq_tet : TetEdge → TetEdge → Bool
eq_tet p q = eqb (rank p) (rank q)

pub tet_eq : (p q : TetEdge) → T (eq_tet p q) → p ≡ q
unfolding eq_tet
tet_eq p q h = sym (ranked p) ∙ ap (λ k. get_or tet_edges k E01) (eqb→eq (rank p) (rank q) h) ∙ ranked q

-- a test at each of the six, and at some
abbrev pub all_e : (TetEdge → Bool) → Bool
all_e f = all 6 λ k. f (get_or tet_edges k E01)

abbrev pub some_e : (TetEdge → Bool) → Bool
some_e f = some 6 λ k. f (get_or tet_edges k E01)

pub all_e_at : (f : TetEdge → Bool) → T (all_e f) → (p : TetEdge) → T (f p)
all_e_at f h p = subst (λ p. T (f p)) (ranked p) (all_at 6 (λ k. f (get_or tet_edges k E01)) h (rank p) (below_six p))

pub low_below : (p : TetEdge) → low_position p < 4
low_below p = ltb→lt _ 4 (all_e_at (λ p. ltb (low_position p) 4) (unfold ◌and◌ in tt) p)

pub high_below : (p : TetEdge) → high_position p < 4
high_below p = ltb→lt _ 4 (all_e_at (λ p. ltb (high_position p) 4) (unfold ◌and◌ in tt) p)

unfoldable pub same : Bool → Bool → Bool
same true b = b
same false b = not b

-- all that computes, for the tests
unfoldable pub table_open : ℕ
unfolding ◌and◌ bit rank eq_tet same zeros eq_point eq_edge ◌⊕◌ offset top tetrahedra corner odd vertex edge swap rows row value pack faces ones ones_in
table_open = 0

-- masks
unfoldable pub check_bits : Bool → Bool → Bool → Bool → Bool
check_bits p q r s =
    ltb (pack p q r s) 16 and (eqb (ones (pack p q r s)) (value p + value q + value r + value s)
    and all 4 λ m. eqb (bit (pack p q r s) m) (value (get_or (p ∷ q ∷ r ∷ s ∷ []) m false)))

fact_bits : T (all_b λ p. all_b λ q. all_b λ r. all_b λ s. check_bits p q r s)
unfolding table_open check_bits
fact_bits = tt

bits : (p q r s : Bool) → T (check_bits p q r s)
bits p q r s = all_b_at (check_bits p q r) (all_b_at (λ r. all_b λ s. check_bits p q r s) (all_b_at (λ q. all_b λ r. all_b λ s. check_bits p q r s) (all_b_at (λ p. all_b λ q. all_b λ r. all_b λ s. check_bits p q r s) fact_bits p) q) r) s

pub mask_below : (inside : Point → Bool) (B : Point) (t : ℕ) → mask inside B t < 16
unfolding mask check_bits
mask_below inside B t = ltb→lt _ _ (left _ _ (bits (inside (vertex B t 0)) (inside (vertex B t 1)) (inside (vertex B t 2)) (inside (vertex B t 3))))

pub mask_ones : (inside : Point → Bool) (B : Point) (t : ℕ) → ones (mask inside B t) ≡ inside_corners inside B t
unfolding mask check_bits inside_corners
mask_ones inside B t = eqb→eq _ _ (left _ _ (right _ _ (bits (inside (vertex B t 0)) (inside (vertex B t 1)) (inside (vertex B t 2)) (inside (vertex B t 3)))))

pick : (f : ℕ → Bool) (m : ℕ) → m < 4 → get_or (f 0 ∷ f 1 ∷ f 2 ∷ f 3 ∷ []) m false ≡ f m
pick f zero h = refl
pick f (suc zero) h = refl
pick f (suc (suc zero)) h = refl
pick f (suc (suc (suc zero))) h = refl
pick f (suc (suc (suc (suc m)))) h = absurd (omega arith)

pub bit_mask : (inside : Point → Bool) (B : Point) (t m : ℕ) → m < 4 → bit (mask inside B t) m ≡ value (inside (vertex B t m))
unfolding mask check_bits
bit_mask inside B t m h =
    let f : ℕ → Bool = λ m. inside (vertex B t m) in
    eqb→eq _ _ (all_at 4 (λ m. eqb (bit (pack (f 0) (f 1) (f 2) (f 3)) m) (value (get_or (f 0 ∷ f 1 ∷ f 2 ∷ f 3 ∷ []) m false))) (right _ _ (right _ _ (bits (f 0) (f 1) (f 2) (f 3)))) m h) ∙ ap value (pick f m h)

-- a row: its length, what its triangles name, and which edges it names
unfoldable pub spanned : ℕ → TetEdge → Bool
spanned w p = eqb (bit w (low_position p) + bit w (high_position p)) 1

unfoldable pub names : Triangle TetEdge → TetEdge → Bool
names τ p = eq_tet τ.a p || (eq_tet τ.b p || eq_tet τ.c p)

unfoldable pub check_row : Bool → ℕ → Bool
check_row o w =
    eqb (length (row o w)) (faces (ones w))
    and (all_l (λ τ. spanned w τ.a and (spanned w τ.b and spanned w τ.c)) (row o w)
    and all_e λ p. same (spanned w p) (any_l (λ τ. names τ p) (row o w)))

fact_row : T (all_b λ o. all 16 λ w. check_row o w)
unfolding table_open spanned names check_row
fact_row = tt

row_test : (o : Bool) (w : ℕ) → w < 16 → T (check_row o w)
row_test o w h = all_at 16 (check_row o) (all_b_at (λ o. all 16 λ w. check_row o w) fact_row o) w h

pub row_length : (o : Bool) (w : ℕ) → w < 16 → length (row o w) ≡ faces (ones w)
unfolding check_row
row_length o w h = eqb→eq _ _ (left _ _ (row_test o w h))

-- the mask has one of the edge's two corners
abbrev pub Spanned : ℕ → TetEdge → Type 0
Spanned w p = bit w (low_position p) + bit w (high_position p) ≡ 1

spanned_is : (w : ℕ) (p : TetEdge) → T (spanned w p) → Spanned w p
unfolding spanned
spanned_is w p h = eqb→eq _ _ h

pub record Row (w : ℕ) (τ : Triangle TetEdge) : Type 0 where
  pub a : Spanned w τ.a
  pub b : Spanned w τ.b
  pub c : Spanned w τ.c

pub row_triangle : (o : Bool) (w : ℕ) → w < 16 → (τ : Triangle TetEdge) → In τ (row o w) → Row w τ
unfolding check_row
row_triangle o w h τ m =
    let f : Triangle TetEdge → Bool = λ τ. spanned w τ.a and (spanned w τ.b and spanned w τ.c) in
    let k = all_l_at f (row o w) (left _ _ (right _ _ (row_test o w h))) τ m in
    let k1 = right _ _ k in
    record { a = spanned_is w _ (left _ _ k); b = spanned_is w _ (left _ _ k1); c = spanned_is w _ (right _ _ k1) }

same_true : (p q : Bool) → T (same p q) → T p → T q
unfolding same
same_true true q h t = h
same_true false q h t = absurd t

pub row_names : (o : Bool) (w : ℕ) (p : TetEdge) → w < 16 → Spanned w p → T (any_l (λ τ. names τ p) (row o w))
unfolding check_row spanned
row_names o w p h d =
    let r = right _ _ (right _ _ (row_test o w h)) in
    let k = all_e_at (λ p. same (spanned w p) (any_l (λ τ. names τ p) (row o w))) r p in
    same_true _ _ k (subst (λ n. T (eqb n 1)) (sym d) tt)

-- the three grid edges of a triangle are different
unfoldable pub apart : ℕ → Triangle TetEdge → Bool
apart t τ =
    let a = edge zeros t τ.a in
    let b = edge zeros t τ.b in
    let c = edge zeros t τ.c in
    not (eq_edge a b) and (not (eq_edge b c) and not (eq_edge c a))

fact_apart : T (all 6 λ t. all 16 λ w. all_l (apart t) (row (odd t) w))
unfolding table_open apart
fact_apart = tt

pub row_apart : (t w : ℕ) → t < 6 → w < 16 → (τ : Triangle TetEdge) → In τ (row (odd t) w) → T (apart t τ)
row_apart t w h k τ m =
    all_l_at (apart t) (row (odd t) w) (all_at 16 (λ w. all_l (apart t) (row (odd t) w)) (all_at 6 (λ t. all 16 λ w. all_l (apart t) (row (odd t) w)) fact_apart t h) w k) τ m

pub six_below : (t : ℕ) → In t six → t < 6
unfolding ◌and◌
six_below t h = ltb→lt t 6 (all_l_at (λ t. ltb t 6) six tt t h)

pub in_six : (t : ℕ) → t < 6 → In t six
unfolding ◌and◌
in_six t h =
    let r = any_l_at (eqb t) six (all_at 6 (λ t. any_l (eqb t) six) tt t h) in
    subst (λ n. In n six) (sym (eqb→eq t r.0 r.2)) r.1

-- edges of tetrahedra: the upper end, and the nineteen of a cell
unfoldable pub check_edge : ℕ → TetEdge → Bool
check_edge t p = eq_point (top (edge zeros t p)) (vertex zeros t (high_position p)) and any_l (eq_edge (edge zeros t p)) (cell_edges zeros)

fact_edge : T (all 6 λ t. all_e (check_edge t))
unfolding table_open cell_edges check_edge
fact_edge = tt

pub edge_test : (t : ℕ) (p : TetEdge) → t < 6 → T (check_edge t p)
edge_test t p h = all_e_at (check_edge t) (all_at 6 (λ t. all_e (check_edge t)) fact_edge t h) p

-- each edge of a cell is one of a tetrahedron
unfoldable pub in_tet : GridEdge → ℕ → TetEdge → Bool
in_tet e t p = eq_edge (edge zeros t p) e

unfoldable pub in_some_tet : GridEdge → Bool
in_some_tet e = some 6 λ t. some_e (in_tet e t)

pub fact_in_tet : T (all_l in_some_tet (cell_edges zeros))
unfolding table_open cell_edges in_tet in_some_tet
fact_in_tet = tt

-- no edge of a cell twice
unfoldable pub fresh : List GridEdge → Bool
fresh [] = true
fresh (e ∷ es) = not (any_l (eq_edge e) es) and fresh es

pub fact_fresh : T (fresh (cell_edges zeros))
unfolding table_open cell_edges fresh
fact_fresh = tt
