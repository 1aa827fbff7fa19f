-- The triangles face outward: one test over the six tetrahedra and sixteen masks, moved.
use Rattle.std.proofs.Common.{◌≡◌, ℕ, ◌+◌, ◌-◌, ◌<◌, Bool, true, false, T, eqb, List, [], ◌∷◌, map, get_or, pos, ◌-ℤ◌, ◌<ℤ◌, sym, refl, ap, ◌∙◌, subst, ap₂, arith, eqb→eq}
use lib.Signed.{lt_z, lt_z_yes}
use Rattle.std.proofs.lemmas.List.{get_or-map}
use Rattle.std.proofs.lemmas.Int.{ints}
use Rattle.grid.specs.declared.geometry.Point.{Point}
use Rattle.grid.specs.declared.geometry.GridEdge.{GridEdge}
use Rattle.grid.specs.declared.geometry.Triangle.{Triangle}
use Rattle.grid.specs.declared.geometry.TetEdge.{TetEdge}
use Rattle.grid.specs.Points.{◌⊕◌, top}
use Rattle.grid.specs.Cases.{swap, row}
use Rattle.grid.specs.Cells.{odd, vertex, edge, value, mask, placed, tet_triangles}
use Rattle.topology.specs.Outward.{from_to, cross, dot, double_middle, normal, Outward, Complement, Parity}
use Rattle.topology.proofs.Finite.{◌and◌, all, imp, given, all_at}
use Rattle.topology.proofs.Members.{has_in, map_in, all_l, all_l_at}
use Rattle.topology.proofs.Moved.{zeros, point_≡, shift, vertex_zeros, crossing_zeros, top_shift}
use Rattle.topology.proofs.Tables.{bit, mask_below, bit_mask, table_open}

unfoldable pub check_facing : ℕ → ℕ → Triangle TetEdge → ℕ → ℕ → Bool
check_facing t w τ m n =
    imp (eqb (bit w m) 1) λ _. imp (eqb (bit w n) 0) λ _. lt_z (pos 0) (dot (normal (placed zeros t τ)) (from_to (vertex zeros t m) (vertex zeros t n)))

fact_facing : T (all 6 λ t. all 16 λ w. all_l (λ τ. all 4 λ m. all 4 λ n. check_facing t w τ m n) (row (odd t) w))
unfolding table_open placed from_to cross dot double_middle normal check_facing
fact_facing = tt

value_true : value true ≡ 1
unfolding value
value_true = refl

value_false : value false ≡ 0
unfolding value
value_false = refl

-- a vector between two points, and so a normal, does not change when both are moved
from_to_shift : (C p q : Point) → from_to (C ⊕ p) (C ⊕ q) ≡ from_to p q
unfolding from_to ◌⊕◌
from_to_shift C p q =
    let move : (c a b : ℕ) → pos (c + b) -ℤ pos (c + a) ≡ pos b -ℤ pos a = λ c a b. omega (arith, ints) in
    λ i. record { x = move C.x p.x q.x i; y = move C.y p.y q.y i; z = move C.z p.z q.z i }

both_up : (C p q : Point) → (C ⊕ p) ⊕ (C ⊕ q) ≡ (C ⊕ C) ⊕ (p ⊕ q)
unfolding ◌⊕◌
both_up C p q = point_≡ (omega arith) (omega arith) (omega arith)

middle_shift : (C : Point) (e : GridEdge) → double_middle (shift C e) ≡ (C ⊕ C) ⊕ double_middle e
unfolding double_middle shift
middle_shift C e = ap (λ q. (C ⊕ e.low) ⊕ q) (top_shift C e) ∙ both_up C e.low (top e)

middle_at : (B : Point) (t : ℕ) (p : TetEdge) → double_middle (edge B t p) ≡ (B ⊕ B) ⊕ double_middle (edge zeros t p)
middle_at B t p = ap double_middle (crossing_zeros B t p) ∙ middle_shift B (edge zeros t p)

normal_at : (B : Point) (t : ℕ) (τ : Triangle TetEdge) → normal (placed B t τ) ≡ normal (placed zeros t τ)
unfolding normal placed
normal_at B t τ =
    let side : (p q : TetEdge) → from_to (double_middle (edge B t p)) (double_middle (edge B t q)) ≡ from_to (double_middle (edge zeros t p)) (double_middle (edge zeros t q)) =
    λ p q. ap₂ from_to (middle_at B t p) (middle_at B t q) ∙ from_to_shift (B ⊕ B) _ _ in
    ap₂ cross (side τ.a τ.b) (side τ.a τ.c)

pub outward : Outward
unfolding tet_triangles check_facing
outward inside B t ht τ h m n hm hn a b =
    let w = mask inside B t in
    let hw = mask_below inside B t in
    let r = map_in (placed B t) (row (odd t) w) τ (has_in _ _ h) in
    let σ = r.0 in
    let f : ℕ → ℕ → Triangle TetEdge → ℕ → ℕ → Bool = check_facing in
    let g : ℕ → ℕ → Bool = λ t w. all_l (λ τ. all 4 λ m. all 4 λ n. f t w τ m n) (row (odd t) w) in
    let k1 = all_l_at (λ τ. all 4 λ m. all 4 λ n. f t w τ m n) (row (odd t) w) (all_at 16 (g t) (all_at 6 (λ t. all 16 (g t)) fact_facing t ht) w hw) σ r.1 in
    let k2 = all_at 4 (λ n. f t w σ m n) (all_at 4 (λ m. all 4 λ n. f t w σ m n) k1 m hm) n hn in
    let bm : T (eqb (bit w m) 1) = subst (λ k. T (eqb k 1)) (sym (bit_mask inside B t m hm ∙ ap value a ∙ value_true)) tt in
    let bn : T (eqb (bit w n) 0) = subst (λ k. T (eqb k 0)) (sym (bit_mask inside B t n hn ∙ ap value b ∙ value_false)) tt in
    let d0 = dot (normal (placed zeros t σ)) (from_to (vertex zeros t m) (vertex zeros t n)) in
    let k3 = given (eqb (bit w n) 0) (λ _. lt_z (pos 0) d0) (given (eqb (bit w m) 1) (λ _. imp (eqb (bit w n) 0) λ _. lt_z (pos 0) d0) k2 bm) bn in
    let e1 : normal (placed zeros t σ) ≡ normal τ = sym (normal_at B t σ) ∙ ap normal r.2 in
    let e2 : from_to (vertex zeros t m) (vertex zeros t n) ≡ from_to (vertex B t m) (vertex B t n) =
    sym (ap₂ from_to (vertex_zeros B t m) (vertex_zeros B t n) ∙ from_to_shift B (vertex zeros t m) (vertex zeros t n)) in
    subst (λ d. pos 0 <ℤ d) (ap₂ dot e1 e2) (lt_z_yes k3)

-- the rules of the rows
abbrev sixteen : List ℕ
sixteen = 0 ∷ 1 ∷ 2 ∷ 3 ∷ 4 ∷ 5 ∷ 6 ∷ 7 ∷ 8 ∷ 9 ∷ 10 ∷ 11 ∷ 12 ∷ 13 ∷ 14 ∷ 15 ∷ []

complements : (o : Bool) → map (λ w. row o (15 - w)) sixteen ≡ map (λ w. map swap (row o w)) sixteen
unfolding table_open
complements true = refl
complements false = refl

sixteen_at : (w : ℕ) → w < 16 → get_or sixteen w 0 ≡ w
unfolding ◌and◌
sixteen_at w h = eqb→eq _ _ (all_at 16 (λ w. eqb (get_or sixteen w 0) w) tt w h)

pub complement : Complement
complement o w h =
    let f : ℕ → List (Triangle TetEdge) = λ w. row o (15 - w) in
    let g : ℕ → List (Triangle TetEdge) = λ w. map swap (row o w) in
    let e = sixteen_at w h in
    ap f (sym e) ∙ sym (get_or-map f sixteen w 0 [] h) ∙ ap (λ l. get_or l w []) (complements o) ∙ get_or-map g sixteen w 0 [] h ∙ ap g e

pub parity : Parity
unfolding row
parity w = refl
