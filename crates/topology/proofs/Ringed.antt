-- The ring at any crossed grid edge: the pattern of its star, the computed ring of that pattern, moved there.
use Rattle.std.proofs.Common.{◌≡◌, ℕ, zero, suc, ◌+◌, ◌-◌, ◌/◌, ◌%◌, ◌<◌, Bool, true, false, ◌||◌, T, eqb, ltb, List, [], ◌∷◌, map, length, get_or, sym, refl, ap, ◌∙◌, subst, ap₂, arith, eqb→eq, ltb→lt, lt→ltb}
use lib.ListN.{length-map}
use Rattle.std.proofs.lemmas.List.{get_or-map}
use Rattle.grid.specs.declared.geometry.GridEdge.{GridEdge}
use Rattle.grid.specs.declared.geometry.Point.{Point}
use Rattle.grid.specs.declared.geometry.Triangle.{Triangle}
use Rattle.grid.specs.declared.geometry.TetEdge.{TetEdge}
use Rattle.grid.specs.Points.{◌⊕◌, offset, top, differ, crossed}
use Rattle.grid.specs.Cases.{low_position, row}
use Rattle.grid.specs.Cells.{corner, odd, vertex, edge, mask, placed, tet_triangles}
use Rattle.topology.specs.Sides.{Side, Lives, source}
use Rattle.topology.specs.Rings.{Step, Leads, Ring, Ringed}
use Rattle.topology.proofs.Finite.{◌and◌, all, imp, left, right, given, all_at, all_b_at, some_at}
use Rattle.topology.proofs.Moved.{zeros, ◌⊖◌, point_≡, edge_≡, ⊕_assoc, ⊕_cancel_right, shift, vertex_shift, crossing_shift, top_shift, eq_point, point_eq}
use Rattle.topology.proofs.Tables.{mask_below}
use Rattle.topology.proofs.Keys.{from, each_at}
use Rattle.topology.proofs.Places.{Place, Stands, begins, at_row, begins_is, place_≡}
use Rattle.topology.proofs.Opposite.{one_true}
use Rattle.topology.proofs.Whole.{unique, side, seated, source_of}
use Rattle.topology.proofs.Star.{Tet, no_tet, near, seats, member, star, pattern, meshes, Post, around, first, others, closes, ring_by, ring, all_bits, rings, check_rings, check_star, check_seated, fact_rings, fact_star, fact_seated}
use Rattle.topology.proofs.Round.{place, site, carry, Moved, Good, lives, apex, round, onward, begun, taken}

all_bits_at : (n : ℕ) (f : List Bool → Bool) → T (all_bits n f) → (bs : List Bool) → length bs ≡ n → T (f bs)
all_bits_at zero f t [] h = t
all_bits_at zero f t (b ∷ bs) h = absurd (omega arith)
all_bits_at (suc n) f t [] h = absurd (omega arith)
all_bits_at (suc n) f t (b ∷ bs) h = all_bits_at n (λ bs. f (b ∷ bs)) (all_b_at (λ b. all_bits n λ bs. f (b ∷ bs)) t b) bs (omega arith)

chosen : (b x y z m : Bool) → (T b → x ≡ z) → (T m → y ≡ z) → T (b || m) → elim b [ true ↦ x | false ↦ y ] ≡ z
chosen true x y z m f g h = f tt
chosen false x y z m f g h = g h

-- a pattern read off a function agrees with it on the list
read : (f : Point → Bool) (ps : List Point) (p : Point) → T (member p ps) → pattern ps (map f ps) p ≡ f p
unfolding member pattern
read f [] p h = absurd h
read f (q ∷ qs) p h = chosen (eq_point q p) (f q) (pattern qs (map f qs) p) (f p) (member p qs) (λ t. ap f (point_eq q p t)) (read f qs p) h

placed_carry : (C u : Point) (t : ℕ) (τ : Triangle TetEdge) → placed (C ⊕ u) t τ ≡ carry C (placed u t τ)
unfolding placed carry
placed_carry C u t τ =
    let a = crossing_shift C u t τ.a in
    let b = crossing_shift C u t τ.b in
    let c = crossing_shift C u t τ.c in
    λ i. record { a = a i; b = b i; c = c i }

map_carry : (C u : Point) (t : ℕ) (l : List (Triangle TetEdge)) → map (placed (C ⊕ u) t) l ≡ map (carry C) (map (placed u t) l)
map_carry C u t [] = refl
map_carry C u t (τ ∷ l) = ap₂ ◌∷◌ (placed_carry C u t τ) (map_carry C u t l)

module _ (inside : Point → Bool) (C : Point) (d : ℕ) (h0 : 0 < d) (h8 : d < 8) where
  moved : Point → Bool
  moved p = inside (C ⊕ p)

  bits : List Bool
  bits = map moved (star d)

  shape : Point → Bool
  shape = pattern (star d) bits

  ts : List (List (Triangle GridEdge))
  ts = meshes (seats d) shape

  as_many : length ts ≡ length (seats d)
  unfolding ts meshes
  as_many = length-map (seats d) (λ (s : Tet). tet_triangles shape s.base s.tet)

  shape_at : (p : Point) → T (member p (star d)) → shape p ≡ inside (C ⊕ p)
  unfolding shape bits moved
  shape_at p h = read moved (star d) p h

  record Stars : Type 0 where
    low : T (member (near d).low (star d))
    high : T (member (top (near d)) (star d))
    tet : (k : ℕ) → k < length (seats d) → (get_or (seats d) k no_tet).tet < 6
    corners : (k m : ℕ) → k < length (seats d) → m < 4 → T (member (vertex (get_or (seats d) k no_tet).base (get_or (seats d) k no_tet).tet m) (star d))

  stars : Stars
  unfolding check_star
  stars =
      let f : ℕ → ℕ → Bool = λ k m. member (vertex (get_or (seats d) k no_tet).base (get_or (seats d) k no_tet).tet m) (star d) in
      let g : ℕ → Bool = λ k. ltb (get_or (seats d) k no_tet).tet 6 and all 4 (f k) in
      let h = given (ltb 0 d) (λ _. member (near d).low (star d) and (member (top (near d)) (star d) and all (length (seats d)) g)) (all_at 8 check_star fact_star d h8) (lt→ltb 0 d h0) in
      let h1 = right _ _ h in
      let at : (k : ℕ) → k < length (seats d) → T (g k) = all_at (length (seats d)) g (right _ _ h1) in
      record {
        low = left _ _ h;
        high = left _ _ h1;
        tet = λ k hk. ltb→lt _ _ (left _ _ (at k hk));
        corners = λ k m hk hm. all_at 4 (f k) (right _ _ (at k hk)) m hm;
      }

  same_mask : (k : ℕ) → k < length (seats d) → mask inside (C ⊕ (get_or (seats d) k no_tet).base) (get_or (seats d) k no_tet).tet ≡ mask shape (get_or (seats d) k no_tet).base (get_or (seats d) k no_tet).tet
  unfolding mask
  same_mask k hk =
      let u = (get_or (seats d) k no_tet).base in
      let t = (get_or (seats d) k no_tet).tet in
      let q : (m : ℕ) → m < 4 → shape (vertex u t m) ≡ inside (vertex (C ⊕ u) t m) = λ m hm. shape_at (vertex u t m) (stars.corners k m hk hm) ∙ ap inside (sym (vertex_shift C u t m)) in
      cc (q 0 (omega arith), q 1 (omega arith), q 2 (omega arith), q 3 (omega arith))

  moves : (k : ℕ) → k < length ts → Moved inside C (seats d) ts k
  unfolding ts meshes tet_triangles
  moves k h =
      let hk = subst (λ n. k < n) as_many h in
      let u = (get_or (seats d) k no_tet).base in
      let t = (get_or (seats d) k no_tet).tet in
      record {
        tet = stars.tet k hk;
        tris =
            ap (λ w. map (placed (C ⊕ u) t) (row (odd t) w)) (same_mask k hk)
            ∙ map_carry C u t (row (odd t) (mask shape u t))
            ∙ ap (map (carry C)) (sym (get_or-map (λ (s : Tet). map (placed s.base s.tet) (row (odd s.tet) (mask shape s.base s.tet))) (seats d) k no_tet [] hk));
      }

  -- each standing place at the moved edge sits at one of the seats
  record Sits (s : Place) : Type 0 where
    post : Post
    seat : post.seat < length ts
    is : place (seats d) C post ≡ s

  sits : (s : Place) → Stands inside s → begins inside s ≡ shift C (near d) → Sits s
  unfolding check_seated place edge vertex shift near
  sits s l e =
      let w = mask inside s.base s.tet in
      let p = from s.tet w s.tri s.turn in
      let c = corner s.tet (low_position p) in
      let ed = sym (begins_is inside s l) ∙ e in
      let dir : (edge zeros s.tet p).direction ≡ d = ap (λ (v : GridEdge). v.direction) ed in
      let at : s.base ⊕ offset c ≡ C ⊕ offset (7 - d) = ap (λ (v : GridEdge). v.low) ed in
      let f : ℕ → ℕ → Bool = λ d k. eqb (get_or (seats d) k no_tet).tet s.tet and eq_point ((get_or (seats d) k no_tet).base ⊕ offset c) (offset (7 - d)) in
      let h0 = each_at check_seated fact_seated s.tet w s.tri s.turn l.tet (mask_below inside s.base s.tet) (at_row inside s l) l.turn in
      let h = some_at (length (seats d)) (f d) (subst (λ d. T (Rattle.topology.proofs.Finite.some (length (seats d)) (f d))) dir h0) in
      let k = h.0 in
      let tet : (get_or (seats d) k no_tet).tet ≡ s.tet = eqb→eq _ _ (left _ _ h.2) in
      let low = point_eq _ _ (right _ _ h.2) in
      let base : C ⊕ (get_or (seats d) k no_tet).base ≡ s.base = ⊕_cancel_right _ _ (offset c) (⊕_assoc C _ (offset c) ∙ ap (λ q. C ⊕ q) low ∙ sym at) in
      record {
        post = record { seat = k; tri = s.tri; turn = s.turn };
        seat = subst (λ n. k < n) (sym as_many) h.1;
        is = place_≡ base tet refl refl;
      }

  -- each living side there is that of a good post
  record Found (s : Side) : Type 0 where
    post : Post
    good : Good ts (near d) post
    is : site inside (seats d) C post ≡ s

  found : (s : Side) → Lives inside s → source inside s ≡ shift C (near d) → Found s
  unfolding site
  found s l e =
      let a = seated inside s l in
      let b = sits a.place a.stands (sym (source_of inside s a) ∙ e) in
      let is : side inside (place (seats d) C b.post) ≡ s = ap (side inside) b.is ∙ a.is in
      record {
        post = b.post;
        good = taken inside C (seats d) ts (near d) moves b.post b.seat (subst (Stands inside) (sym b.is) a.stands) (ap (source inside) is ∙ e);
        is = is;
      }

  places : List Post
  places = around ts (near d)

  closed : T (crossed shape (near d)) → T (closes ts (near d) (first places) (others 12 ts places (first places)))
  unfolding check_rings rings ring ring_by places ts shape bits
  closed hc =
      let h = given (ltb 0 d) (λ _. rings (seats d) (star d) (near d)) (all_at 8 check_rings fact_rings d h8) (lt→ltb 0 d h0) in
      let f : List Bool → Bool = λ bs. imp (crossed (pattern (star d) bs) (near d)) λ _. ring (meshes (seats d) (pattern (star d) bs)) (near d) in
      given (crossed shape (near d)) (λ _. ring ts (near d)) (all_bits_at (length (star d)) f h bits (length-map (star d) moved)) hc

  ringed_at : T (crossed shape (near d)) → Ring inside (shift C (near d))
  ringed_at hc =
      let h = closed hc in
      let a = first places in
      let b = others 12 ts places a in
      let g = begun inside C (seats d) ts (near d) moves a b h in
      record {
        some = (site inside (seats d) C a, lives inside C (seats d) ts (near d) moves a g, apex inside C (seats d) ts (near d) moves a g);
        next = λ s ls es.
            let x = found s ls es in
            let n = subst (λ s. (r : Side) × Step inside s r) x.is (onward inside C (seats d) ts (near d) moves a b h x.post x.good) in
            (n.0, n.1, λ q k. unique inside q n.0 k.lives n.1.lives (k.apex ∙ sym n.1.apex) (k.shares ∙ sym n.1.shares));
        one = λ s r ls lr es er.
            let x = found s ls es in
            let y = found r lr er in
            let l = round inside C (seats d) ts (near d) moves a b h x.post y.post x.good y.good in
            subst (λ r. Leads inside s r) y.is (subst (λ s. Leads inside s (site inside (seats d) C y.post)) x.is l);
      }

  crossed_at : crossed inside (shift C (near d)) ≡ true → T (crossed shape (near d))
  unfolding crossed shift
  crossed_at h =
      let a = shape_at (near d).low stars.low in
      let b = shape_at (top (near d)) stars.high ∙ ap inside (sym (top_shift C (near d))) in
      subst T (sym (ap₂ differ a b ∙ h)) tt

-- a crossed edge leaves room below for the tetrahedra round it
room : (p : Point) (d : ℕ) → d < 8 → (0 < p.x + d % 2) × (0 < p.y + (d / 2) % 2) × (0 < p.z + (d / 4) % 2) → (p ⊖ offset (7 - d)) ⊕ offset (7 - d) ≡ p
unfolding ◌⊕◌ ◌⊖◌ offset
room p d h k = point_≡ (omega arith) (omega arith) (omega arith)

pub ringed : Ringed
unfolding shift near crossed
ringed inside ground v h0 h8 hc =
    let d = v.direction in
    let C = v.low ⊖ offset (7 - d) in
    let k : (0 < v.low.x + d % 2) × (0 < v.low.y + (d / 2) % 2) × (0 < v.low.z + (d / 4) % 2) =
    one_true (inside v.low) (inside (top v)) hc (λ a. omega (arith, ground _ a)) (λ a. unfold top ◌⊕◌ offset in ground _ a) in
    let e : shift C (near d) ≡ v = edge_≡ (room v.low d h8 k) refl in
    subst (Ring inside) e (ringed_at inside C d h0 h8 (crossed_at inside C d h0 h8 (subst (λ u. crossed inside u ≡ true) (sym e) hc)))
