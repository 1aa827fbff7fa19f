-- The edges of a cell are the grid edges whose ends are both corners of it. Assumes nothing.
use Rattle.std.proofs.Common.{◌≡◌, ℕ, ◌+◌, ◌-◌, ◌*◌, ◌/◌, ◌%◌, ◌<◌, ◌≤◌, Bool, T, ltb, leb, List, map, sym, refl, subst, arith, le→leb, ltb→lt, lt→ltb, leb→le}
use Rattle.std.specs.List.{ContainsAt as Has}
use Rattle.grid.specs.declared.geometry.Point.{Point}
use Rattle.grid.specs.declared.geometry.GridEdge.{GridEdge}
use Rattle.grid.specs.Points.{◌⊕◌, offset, top}
use Rattle.grid.specs.Cells.{cell_edges}
use Rattle.topology.specs.Sides.{Belongs}
use Rattle.topology.proofs.Finite.{◌and◌, all, imp, left, right, both, given, all_at}
use Rattle.topology.proofs.Members.{In, in_has, has_in, map_in, in_map, all_l, all_l_at, any_l, any_l_at}
use Rattle.topology.proofs.Moved.{zeros, shift, top_shift, edges_shift, edge_≡, point_≡, eq_edge, edge_eq}

-- no coordinate is above 1
unfoldable small : Point → Bool
small p = leb p.x 1 and (leb p.y 1 and leb p.z 1)

unfoldable corners : GridEdge → Bool
corners e = ltb 0 e.direction and (ltb e.direction 8 and (small e.low and small (top e)))

fact_corners : T (all_l corners (cell_edges zeros))
unfolding corners small top ◌⊕◌ offset zeros cell_edges ◌and◌
fact_corners = tt

unfoldable spanned : ℕ → ℕ → Bool
spanned c d = imp (ltb 0 d and small (offset c ⊕ offset d)) (λ _. any_l (eq_edge (record { low = offset c; direction = d })) (cell_edges zeros))

fact_spanned : T (all 8 (λ c. all 8 (spanned c)))
unfolding spanned small ◌⊕◌ offset zeros cell_edges eq_edge Rattle.topology.proofs.Moved.eq_point ◌and◌
fact_spanned = tt

belongs : (B p : Point) → T (small p) → Belongs B (B ⊕ p)
unfolding small ◌⊕◌
belongs B p h =
    let k = right (leb p.x 1) (leb p.y 1 and leb p.z 1) h in
    let x = leb→le p.x 1 (left (leb p.x 1) (leb p.y 1 and leb p.z 1) h) in
    let y = leb→le p.y 1 (left (leb p.y 1) (leb p.z 1) k) in
    let z = leb→le p.z 1 (right (leb p.y 1) (leb p.z 1) k) in
    record { x = omega arith; x_next = omega arith; y = omega arith; y_next = omega arith; z = omega arith; z_next = omega arith }

pub record Ends (B : Point) (e : GridEdge) : Type 0 where
  pub some : 0 < e.direction
  pub few : e.direction < 8
  pub low : Belongs B e.low
  pub high : Belongs B (top e)

pub edge_ends : (B : Point) (e : GridEdge) → Has (cell_edges B) e → Ends B e
unfolding corners shift
edge_ends B e h =
    let i : In e (map (shift B) (cell_edges zeros)) = subst (λ (l : List GridEdge). In e l) (edges_shift B) (has_in (cell_edges B) e h) in
    let m = map_in (shift B) (cell_edges zeros) e i in
    let u = m.0 in
    let t = all_l_at corners (cell_edges zeros) fact_corners u m.1 in
    let t1 = right (ltb 0 u.direction) (ltb u.direction 8 and (small u.low and small (top u))) t in
    let t2 = right (ltb u.direction 8) (small u.low and small (top u)) t1 in
    subst (Ends B) m.2 (record {
      some = ltb→lt 0 u.direction (left (ltb 0 u.direction) (ltb u.direction 8 and (small u.low and small (top u))) t);
      few = ltb→lt u.direction 8 (left (ltb u.direction 8) (small u.low and small (top u)) t1);
      low = belongs B u.low (left (small u.low) (small (top u)) t2);
      high = subst (Belongs B) (sym (top_shift B u)) (belongs B (top u) (right (small u.low) (small (top u)) t2));
    })

-- the code of a corner
code_of : (x y z : ℕ) → x ≤ 1 → y ≤ 1 → z ≤ 1 → (c : ℕ) × (c < 8) × (c % 2 ≡ x) × (c / 2 % 2 ≡ y) × (c / 4 % 2 ≡ z)
code_of x y z hx hy hz = (x + 2 * y + 4 * z, omega arith, omega arith, omega arith, omega arith)

pub ends_edge : (B : Point) (e : GridEdge) → Ends B e → Has (cell_edges B) e
unfolding spanned small shift top ◌⊕◌ offset
ends_edge B e k =
    let lo = k.low in
    let hi = k.high in
    let d = e.direction in
    let dx : ℕ = e.low.x - B.x in
    let dy : ℕ = e.low.y - B.y in
    let dz : ℕ = e.low.z - B.z in
    let c = code_of dx dy dz (omega arith) (omega arith) (omega arith) in
    let cx = c.2 in
    let cy = c.3 in
    let cz = c.4 in
    let f = all_at 8 (spanned c.0) (all_at 8 (λ c. all 8 (spanned c)) fact_spanned c.0 c.1) d k.few in
    let p : Point = offset c.0 ⊕ offset d in
    let fits : T (small p) = both (leb p.x 1) (leb p.y 1 and leb p.z 1) (le→leb p.x 1 (omega arith))
    (both (leb p.y 1) (leb p.z 1) (le→leb p.y 1 (omega arith)) (le→leb p.z 1 (omega arith))) in
    let u : GridEdge = record { low = offset c.0; direction = d } in
    let a = any_l_at (eq_edge u) (cell_edges zeros) (given (ltb 0 d and small p) (λ _. any_l (eq_edge u) (cell_edges zeros)) f (both (ltb 0 d) (small p) (lt→ltb 0 d k.some) fits)) in
    let i : In u (cell_edges zeros) = subst (λ (v : GridEdge). In v (cell_edges zeros)) (sym (edge_eq u a.0 a.2)) a.1 in
    let j : In (shift B u) (map (shift B) (cell_edges zeros)) = in_map (shift B) (cell_edges zeros) u i in
    let q : shift B u ≡ e = edge_≡ (point_≡ (omega arith) (omega arith) (omega arith)) refl in
    in_has (cell_edges B) e (subst (λ (v : GridEdge). In v (cell_edges B)) q (subst (λ (l : List GridEdge). In (shift B u) l) (sym (edges_shift B)) j))
