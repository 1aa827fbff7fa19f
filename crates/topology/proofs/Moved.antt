-- Translation: what stands at the base C ⊕ u is what stands at u, moved by C.
use Rattle.std.proofs.Common.{◌≡◌, ℕ, ◌+◌, ◌-◌, Bool, T, eqb, map, sym, refl, ap, ◌∙◌, subst, add-zero, add_assoc, arith, eqb→eq}
use lib.Dec.{eqb_refl}
use Rattle.grid.specs.declared.geometry.Point.{Point}
use Rattle.grid.specs.declared.geometry.GridEdge.{GridEdge}
use Rattle.grid.specs.declared.geometry.TetEdge.{TetEdge}
use Rattle.grid.specs.Points.{◌⊕◌, offset, top}
use Rattle.grid.specs.Cases.{low_position}
use Rattle.grid.specs.Cells.{corner, vertex, edge, cell_edges}
use Rattle.topology.proofs.Finite.{◌and◌, left, right, both}

unfoldable pub zeros : Point
zeros = record { x = 0; y = 0; z = 0 }

unfoldable pub ones : Point
ones = record { x = 1; y = 1; z = 1 }

infixl 60 ◌⊖◌
unfoldable pub ◌⊖◌ : Point → Point → Point
p ⊖ q = record { x = p.x - q.x; y = p.y - q.y; z = p.z - q.z }

pub point_≡ : {p q : Point} → p.x ≡ q.x → p.y ≡ q.y → p.z ≡ q.z → p ≡ q
point_≡ a b c = λ i. record { x = a i; y = b i; z = c i }

pub edge_≡ : {e f : GridEdge} → e.low ≡ f.low → e.direction ≡ f.direction → e ≡ f
edge_≡ a b = λ i. record { low = a i; direction = b i }

pub ⊕_assoc : (p q r : Point) → (p ⊕ q) ⊕ r ≡ p ⊕ (q ⊕ r)
unfolding ◌⊕◌
⊕_assoc p q r = point_≡ (add_assoc p.x q.x r.x) (add_assoc p.y q.y r.y) (add_assoc p.z q.z r.z)

pub ⊕_zeros : (p : Point) → p ⊕ zeros ≡ p
unfolding ◌⊕◌ zeros
⊕_zeros p = point_≡ (add-zero p.x) (add-zero p.y) (add-zero p.z)

pub ⊕_cancel_right : (p q r : Point) → p ⊕ r ≡ q ⊕ r → p ≡ q
unfolding ◌⊕◌
⊕_cancel_right p q r e =
    let ex : p.x + r.x ≡ q.x + r.x = ap (λ (v : Point). v.x) e in
    let ey : p.y + r.y ≡ q.y + r.y = ap (λ (v : Point). v.y) e in
    let ez : p.z + r.z ≡ q.z + r.z = ap (λ (v : Point). v.z) e in
    point_≡ (omega arith) (omega arith) (omega arith)

pub ⊕_cancel : (C p q : Point) → C ⊕ p ≡ C ⊕ q → p ≡ q
unfolding ◌⊕◌
⊕_cancel C p q e =
    let ex : C.x + p.x ≡ C.x + q.x = ap (λ (v : Point). v.x) e in
    let ey : C.y + p.y ≡ C.y + q.y = ap (λ (v : Point). v.y) e in
    let ez : C.z + p.z ≡ C.z + q.z = ap (λ (v : Point). v.z) e in
    point_≡ (omega arith) (omega arith) (omega arith)

-- an edge moved by C
unfoldable pub shift : Point → GridEdge → GridEdge
shift C e = record { low = C ⊕ e.low; direction = e.direction }

pub shift_cancel : (C : Point) (e f : GridEdge) → shift C e ≡ shift C f → e ≡ f
unfolding shift
shift_cancel C e f h = edge_≡ (⊕_cancel C e.low f.low (ap (λ (g : GridEdge). g.low) h)) (ap (λ (g : GridEdge). g.direction) h)

pub vertex_shift : (C u : Point) (t m : ℕ) → vertex (C ⊕ u) t m ≡ C ⊕ vertex u t m
unfolding vertex
vertex_shift C u t m = ⊕_assoc C u (offset (corner t m))

pub vertex_zeros : (B : Point) (t m : ℕ) → vertex B t m ≡ B ⊕ vertex zeros t m
vertex_zeros B t m = ap (λ v. vertex v t m) (sym (⊕_zeros B)) ∙ vertex_shift B zeros t m

pub crossing_shift : (C u : Point) (t : ℕ) (p : TetEdge) → edge (C ⊕ u) t p ≡ shift C (edge u t p)
unfolding edge shift
crossing_shift C u t p = edge_≡ (vertex_shift C u t (low_position p)) refl

pub crossing_zeros : (B : Point) (t : ℕ) (p : TetEdge) → edge B t p ≡ shift B (edge zeros t p)
crossing_zeros B t p = ap (λ v. edge v t p) (sym (⊕_zeros B)) ∙ crossing_shift B zeros t p

pub top_shift : (C : Point) (e : GridEdge) → top (shift C e) ≡ C ⊕ top e
unfolding top shift
top_shift C e = ⊕_assoc C e.low (offset e.direction)

pub edges_shift : (B : Point) → cell_edges B ≡ map (shift B) (cell_edges zeros)
unfolding cell_edges shift ◌⊕◌ zeros offset
edges_shift B = refl

-- tests of equality
unfoldable pub eq_point : Point → Point → Bool
eq_point p q = eqb p.x q.x and (eqb p.y q.y and eqb p.z q.z)

unfoldable pub eq_edge : GridEdge → GridEdge → Bool
eq_edge e f = eq_point e.low f.low and eqb e.direction f.direction

pub point_eq : (p q : Point) → T (eq_point p q) → p ≡ q
unfolding eq_point
point_eq p q h =
    let k = right _ _ h in
    point_≡ (eqb→eq _ _ (left _ _ h)) (eqb→eq _ _ (left _ _ k)) (eqb→eq _ _ (right _ _ k))

pub eq_point_from : (p q : Point) → p ≡ q → T (eq_point p q)
unfolding eq_point
eq_point_from p q e = subst (λ q. T (eq_point p q)) e (both _ _ (eqb_refl p.x) (both _ _ (eqb_refl p.y) (eqb_refl p.z)))

pub edge_eq : (e f : GridEdge) → T (eq_edge e f) → e ≡ f
unfolding eq_edge
edge_eq e f h = edge_≡ (point_eq _ _ (left _ _ h)) (eqb→eq _ _ (right _ _ h))

pub eq_edge_from : (e f : GridEdge) → e ≡ f → T (eq_edge e f)
unfolding eq_edge
eq_edge_from e f h = subst (λ f. T (eq_edge e f)) h (both _ _ (eq_point_from e.low e.low refl) (eqb_refl e.direction))
