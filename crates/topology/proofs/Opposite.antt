-- The side that runs against a given one: the tests at the least base with room, moved.
use Rattle.std.proofs.Common.{◌≡◌, ℕ, ◌+◌, ◌-◌, ◌<◌, ◌≤◌, Bool, true, false, not, ◌||◌, T, eqb, ◌⊎◌, length, sym, refl, ap, ◌∙◌, subst, subst₂, inl, inr, arith, le→leb, eqb→eq, ltb→lt, lt→ltb, leb→le, T_not}
use lib.Dec.{eqb_refl}
use lib.Bits.{and_le_r}
use lib.ListN.{length-map}
use Rattle.grid.specs.declared.geometry.GridEdge.{GridEdge}
use Rattle.grid.specs.declared.geometry.Point.{Point}
use Rattle.grid.specs.declared.geometry.GridTriangle.{GridTriangle}
use Rattle.grid.specs.Points.{◌⊕◌, offset, top, differ, crossed}
use Rattle.grid.specs.Cases.{low_position, high_position, row}
use Rattle.grid.specs.Cells.{corner, odd, vertex, edge, value, mask, placed, tet_triangles}
use Rattle.grid.specs.GridTriangles.{Part}
use Rattle.topology.specs.Sides.{EdgeOf, Belongs, InCell, OnWall, Grounded}
use Rattle.topology.proofs.Finite.{all, imp, left, right, both, given, when, or_cases, all_at, all_from}
use Rattle.topology.proofs.Moved.{zeros, ones, ◌⊖◌, point_≡, edge_≡, ⊕_assoc, ⊕_cancel, shift, vertex_shift, vertex_zeros, crossing_shift, top_shift, eq_point, point_eq, eq_point_from, edge_eq}
use Rattle.topology.proofs.Tables.{bit, mask_below, bit_mask}
use Rattle.topology.proofs.Keys.{from, to, local, find, each, each_at}
use Rattle.topology.proofs.Places.{Place, Stands, begins, ends, at_row, begins_is, ends_is, begins_low, begins_top, begins_crossed}
use Rattle.topology.proofs.Across.{agree, back, other, above, lift, head, tail, there, low_at, check_room, check_run, check_runs, part, belongs, in_cell, edge_of, on_wall, flat, check_place, shared, down, check_down, check_cells, fact_room, fact_runs, fact_place, fact_cells, check_end, fact_end}

-- a cell has the ends of both edges as corners
pub record Shared (B : Point) (e f : GridEdge) : Type 0 where
  pub low_e : Belongs B e.low
  pub top_e : Belongs B (top e)
  pub low_f : Belongs B f.low
  pub top_f : Belongs B (top f)

-- of two different values one is true
pub one_true : (b c : Bool) → differ b c ≡ true → {A : Type 0} → (b ≡ true → A) → (c ≡ true → A) → A
one_true true c e f g = f refl
one_true false c e f g = g e

eq_test : {m n : ℕ} → m ≡ n → T (eqb m n)
eq_test {m} e = subst (λ n. T (eqb m n)) e (eqb_refl m)

not_T : (b : Bool) → (T b → ⊥) → T (not b)
not_T true h = h tt
not_T false h = tt

-- what the tests say, moved by C
belongs_is : (b p : Point) → T (belongs b p) → Belongs b p
unfolding belongs
belongs_is b p h =
    let h1 = right _ _ h in
    let h2 = right _ _ h1 in
    let h3 = right _ _ h2 in
    let h4 = right _ _ h3 in
    record {
      x = leb→le _ _ (left _ _ h);
      x_next = leb→le _ _ (left _ _ h1);
      y = leb→le _ _ (left _ _ h2);
      y_next = leb→le _ _ (left _ _ h3);
      z = leb→le _ _ (left _ _ h4);
      z_next = leb→le _ _ (right _ _ h4);
    }

belongs_from : (b p : Point) → Belongs b p → T (belongs b p)
unfolding belongs
belongs_from b p h =
    both _ _ (le→leb _ _ h.x) (both _ _ (le→leb _ _ h.x_next) (both _ _ (le→leb _ _ h.y) (both _ _ (le→leb _ _ h.y_next) (both _ _ (le→leb _ _ h.z) (le→leb _ _ h.z_next)))))

belongs_up : (C b p : Point) → Belongs b p → Belongs (C ⊕ b) (C ⊕ p)
unfolding ◌⊕◌
belongs_up C b p h = record { x = omega arith; x_next = omega arith; y = omega arith; y_next = omega arith; z = omega arith; z_next = omega arith }

belongs_down : (C b p : Point) → Belongs (C ⊕ b) (C ⊕ p) → Belongs b p
unfolding ◌⊕◌
belongs_down C b p h =
    let x : C.x + b.x ≤ C.x + p.x = h.x in
    let x1 : C.x + p.x ≤ C.x + b.x + 1 = h.x_next in
    let y : C.y + b.y ≤ C.y + p.y = h.y in
    let y1 : C.y + p.y ≤ C.y + b.y + 1 = h.y_next in
    let z : C.z + b.z ≤ C.z + p.z = h.z in
    let z1 : C.z + p.z ≤ C.z + b.z + 1 = h.z_next in
    record { x = omega arith; x_next = omega arith; y = omega arith; y_next = omega arith; z = omega arith; z_next = omega arith }

pub part_is : (a b : ℕ) → T (part a b) → Part a b
unfolding part
part_is a b h =
    let k = right _ _ h in
    let l = right _ _ k in
    record {
      code = ltb→lt b 8 (left _ _ h);
      part = eqb→eq _ _ (left _ _ k);
      some = λ e. T_not _ (left _ _ l) (eq_test e);
      proper = λ e. T_not _ (right _ _ l) (eq_test e);
    }

pub part_from : (a b : ℕ) → Part a b → T (part a b)
unfolding part
part_from a b p = both _ _ (lt→ltb b 8 p.code) (both _ _ (eq_test p.part) (both _ _ (not_T _ (λ t. p.some (eqb→eq a 0 t))) (not_T _ (λ t. p.proper (eqb→eq a b t)))))

pub part_below : (a b : ℕ) → Part a b → a < 8
part_below a b p = omega (arith, and_le_r a b, p.part, p.code)

module _ (C : Point) where
  carry : GridTriangle → GridTriangle
  carry g = record { low = C ⊕ g.low; a = g.a; b = g.b }

  in_cell_is : (b : Point) (g : GridTriangle) → T (in_cell b g) → InCell (C ⊕ b) (carry g)
  unfolding in_cell carry
  in_cell_is b g h =
      let k = right _ _ h in
      let P : Point → Type 0 = Belongs (C ⊕ b) in
      record {
        low = belongs_up C b _ (belongs_is _ _ (left _ _ h));
        a = subst P (sym (⊕_assoc C g.low (offset g.a))) (belongs_up C b _ (belongs_is _ _ (left _ _ k)));
        b = subst P (sym (⊕_assoc C g.low (offset g.b))) (belongs_up C b _ (belongs_is _ _ (right _ _ k)));
      }

  edge_of_is : (g : GridTriangle) (e : GridEdge) → T (edge_of g e) → EdgeOf (carry g) (shift C e)
  unfolding edge_of carry shift
  edge_of_is g e h =
      elim (or_cases _ _ h) [
        | inl k ↦ inl (ap (shift C) (edge_eq _ _ k))
        | inr k ↦ elim (or_cases _ _ k) [
          | inl k ↦ inr (inl (ap (shift C) (edge_eq _ _ k)))
          | inr k ↦ inr (inr (ap (shift C) (edge_eq _ _ k) ∙ edge_≡ (sym (⊕_assoc C g.low (offset g.a))) refl))
        ]
      ]

  wall_is : (u v : Point) (e f : GridEdge) (g : GridTriangle) → T (on_wall u v e f g) → OnWall (C ⊕ u) (C ⊕ v) (shift C e) (shift C f)
  unfolding on_wall carry
  wall_is u v e f g h =
      let h1 = right _ _ h in
      let h2 = right _ _ h1 in
      let h3 = right _ _ h2 in
      let h4 = right _ _ h3 in
      record {
        two = λ q. T_not _ (left _ _ h) (eq_point_from u v (⊕_cancel C u v q));
        triangle = carry g;
        part = part_is g.a g.b (left _ _ h1);
        one_cell = in_cell_is u g (left _ _ h2);
        other_cell = in_cell_is v g (left _ _ h3);
        first = edge_of_is g e (left _ _ h4);
        second = edge_of_is g f (right _ _ h4);
      }

  agrees : (inside : Point → Bool) (u : Point) (t : ℕ) (v : Point) (s : ℕ) → T (agree u t (mask inside (C ⊕ u) t) v s (mask inside (C ⊕ v) s))
  unfolding agree
  agrees inside u t v s =
      let f : ℕ → ℕ → Bool = λ m n. imp (eq_point (vertex u t m) (vertex v s n)) (λ _. eqb (bit (mask inside (C ⊕ u) t) m) (bit (mask inside (C ⊕ v) s) n)) in
      all_from 4 (λ m. all 4 (f m)) λ m hm. all_from 4 (f m) λ n hn.
      when (eq_point (vertex u t m) (vertex v s n)) (λ _. eqb (bit (mask inside (C ⊕ u) t) m) (bit (mask inside (C ⊕ v) s) n)) λ h.
      let e : bit (mask inside (C ⊕ u) t) m ≡ bit (mask inside (C ⊕ v) s) n =
      bit_mask inside (C ⊕ u) t m hm
      ∙ ap (λ p. value (inside p)) (vertex_shift C u t m ∙ ap (λ q. C ⊕ q) (point_eq _ _ h) ∙ sym (vertex_shift C v s n))
      ∙ sym (bit_mask inside (C ⊕ v) s n hn) in
      subst (λ k. T (eqb (bit (mask inside (C ⊕ u) t) m) k)) e (eqb_refl _)

-- where the lower planes have no point inside, a base has the room that the test asks for
room_at : (B l p q : Point) → T (low_at l p) → q ≡ B ⊕ p → (0 < q.x) × (0 < q.y) × (0 < q.z) → (B ⊖ l) ⊕ l ≡ B
unfolding low_at ◌⊕◌ ◌⊖◌
room_at B l p q h e g =
    let k = right _ _ h in
    let hx = ltb→lt (l.x + p.x) 2 (left _ _ h) in
    let hy = ltb→lt (l.y + p.y) 2 (left _ _ k) in
    let hz = ltb→lt (l.z + p.z) 2 (right _ _ k) in
    let ex : q.x ≡ B.x + p.x = ap (λ (v : Point). v.x) e in
    let ey : q.y ≡ B.y + p.y = ap (λ (v : Point). v.y) e in
    let ez : q.z ≡ B.z + p.z = ap (λ (v : Point). v.z) e in
    point_≡ (omega arith) (omega arith) (omega arith)

module _ (inside : Point → Bool) (ground : Grounded inside) (s : Place) (h : Stands inside s) where
  S : Point
  S = s.base

  t : ℕ
  t = s.tet

  i : ℕ
  i = s.tri

  j : ℕ
  j = s.turn

  w : ℕ
  w = mask inside s.base s.tet

  L : Point
  L = lift t w i j

  C : Point
  C = S ⊖ L

  pass : (f : ℕ → ℕ → ℕ → ℕ → Bool) → T (each f) → T (f t w i j)
  unfolding t i j w
  pass f k = each_at f k s.tet (mask inside s.base s.tet) s.tri s.turn h.tet (mask_below inside s.base s.tet) (at_row inside s h) h.turn

  fits : C ⊕ L ≡ S
  unfolding S C L check_room crossed t w i j
  fits =
      let k = pass check_room fact_room in
      let p = from s.tet (mask inside s.base s.tet) s.tri s.turn in
      one_true (inside (begins inside s).low) (inside (top (begins inside s))) (begins_crossed inside s h)
      (λ a. room_at s.base L (vertex zeros s.tet (low_position p)) _ (left _ _ k) (begins_low inside s h ∙ vertex_zeros s.base s.tet (low_position p)) (ground _ a))
      (λ a. room_at s.base L (vertex zeros s.tet (high_position p)) _ (left _ _ (right _ _ k)) (begins_top inside s h ∙ vertex_zeros s.base s.tet (high_position p)) (ground _ a))

  u : Point
  u = there t w i j

  q : ℕ
  q = other t w i j

  x : ℕ
  x = mask inside (C ⊕ u) q

  i' : ℕ
  i' = (find (local q x) (back t w i j)).one

  j' : ℕ
  j' = (find (local q x) (back t w i j)).two

  record Runs : Type 0 where
    tet : q < 6
    tri : i' < length (row (odd q) x)
    turn : j' < 3
    begins : edge u q (from q x i' j') ≡ tail t w i j
    ends : edge u q (to q x i' j') ≡ head t w i j

  agreed : T (agree L t w u q x)
  unfolding x w t S
  agreed = subst (λ B. T (agree L s.tet (mask inside B s.tet) u q (mask inside (C ⊕ u) q))) fits (agrees C inside L s.tet u q)

  runs : Runs
  unfolding u q x i' j' L check_run check_runs
  runs =
      let k = pass check_runs fact_runs in
      let l = given _ (λ _. check_run t w i j x) (all_at 16 (λ x. imp (agree L t w u q x) λ _. check_run t w i j x) (right _ _ k) x (mask_below inside (C ⊕ u) q)) agreed in
      let l1 = right _ _ l in
      let l2 = right _ _ l1 in
      record {
        tet = ltb→lt _ _ (left _ _ k);
        tri = ltb→lt _ _ (left _ _ l);
        turn = ltb→lt _ _ (left _ _ l1);
        begins = edge_eq _ _ (left _ _ l2);
        ends = edge_eq _ _ (right _ _ l2);
      }

  pub reverse : Place
  reverse = record { base = C ⊕ u; tet = q; tri = i'; turn = j' }

  pub reverse_stands : Stands inside reverse
  unfolding reverse x tet_triangles
  reverse_stands = record {
    tet = runs.tet;
    tri = subst (λ n. i' < n) (sym (length-map (row (odd q) x) (placed (C ⊕ u) q))) runs.tri;
    turn = runs.turn;
  }

  begins_at : begins inside s ≡ shift C (head t w i j)
  unfolding head L S t w i j
  begins_at = begins_is inside s h ∙ ap (λ B. edge B s.tet (from t w i j)) (sym fits) ∙ crossing_shift C L s.tet (from t w i j)

  ends_at : ends inside s ≡ shift C (tail t w i j)
  unfolding tail L S t w i j
  ends_at = ends_is inside s h ∙ ap (λ B. edge B s.tet (to t w i j)) (sym fits) ∙ crossing_shift C L s.tet (to t w i j)

  pub reverse_begins : begins inside reverse ≡ ends inside s
  unfolding reverse x
  reverse_begins = begins_is inside reverse reverse_stands ∙ crossing_shift C u q (from q x i' j') ∙ ap (shift C) runs.begins ∙ sym ends_at

  pub reverse_ends : ends inside reverse ≡ begins inside s
  unfolding reverse x
  reverse_ends = ends_is inside reverse reverse_stands ∙ crossing_shift C u q (to q x i' j') ∙ ap (shift C) runs.ends ∙ sym begins_at

  pub reverse_place : (reverse.base ≡ s.base) ⊎ OnWall s.base reverse.base (begins inside s) (ends inside s)
  unfolding reverse check_place S u L
  reverse_place =
      let e = head t w i j in
      let f = tail t w i j in
      let P : GridEdge → GridEdge → Type 0 = OnWall s.base (C ⊕ u) in
      elim (or_cases (eq_point u L) (on_wall L u e f (flat e f)) (pass check_place fact_place)) [
        | inl k ↦ inl (ap (λ v. C ⊕ v) (point_eq _ _ k) ∙ fits)
        | inr k ↦ inr (subst₂ P (sym begins_at) (sym ends_at) (subst (λ B. OnWall B (C ⊕ u) (shift C e) (shift C f)) fits (wall_is C L u e f (flat e f) k)))
      ]

-- the cells that share a mesh edge
down_is : (S B e o : Point) → ones ⊕ e ≡ S ⊕ (ones ⊕ o) → Belongs B e → S ⊕ down (ones ⊕ o) (e.x - B.x) (e.y - B.y) (e.z - B.z) ≡ ones ⊕ B
unfolding ◌⊕◌ ones down
down_is S B e o q h =
    let ex : 1 + e.x ≡ S.x + (1 + o.x) = ap (λ (v : Point). v.x) q in
    let ey : 1 + e.y ≡ S.y + (1 + o.y) = ap (λ (v : Point). v.y) q in
    let ez : 1 + e.z ≡ S.z + (1 + o.z) = ap (λ (v : Point). v.z) q in
    point_≡ (omega arith) (omega arith) (omega arith)

⊕_comm : (p q : Point) → p ⊕ q ≡ q ⊕ p
unfolding ◌⊕◌
⊕_comm p q = point_≡ (omega arith) (omega arith) (omega arith)

⊕_swap : (p q r : Point) → p ⊕ (q ⊕ r) ≡ q ⊕ (p ⊕ r)
unfolding ◌⊕◌
⊕_swap p q r = point_≡ (omega arith) (omega arith) (omega arith)

belongs_rel : (S B b p p1 : Point) → S ⊕ b ≡ ones ⊕ B → ones ⊕ p ≡ S ⊕ p1 → Belongs B p → T (belongs b p1)
belongs_rel S B b p p1 eb ep h = belongs_from b p1 (belongs_down S b p1 (subst₂ Belongs (sym eb) ep (belongs_up ones B p h)))

edge_up : (S : Point) (e e1 : GridEdge) → shift ones e ≡ shift S e1 → (ones ⊕ e.low ≡ S ⊕ e1.low) × (ones ⊕ top e ≡ S ⊕ top e1)
unfolding shift
edge_up S e e1 q = (ap (λ (v : GridEdge). v.low) q, sym (top_shift ones e) ∙ ap top q ∙ top_shift S e1)

shared_rel : (S B b : Point) (e f e1 f1 : GridEdge) → S ⊕ b ≡ ones ⊕ B → shift ones e ≡ shift S e1 → shift ones f ≡ shift S f1 → Shared B e f → T (shared b e1 f1)
unfolding shared
shared_rel S B b e f e1 f1 eb qe qf h =
    let ee = edge_up S e e1 qe in
    let ff = edge_up S f f1 qf in
    both _ _ (belongs_rel S B b _ _ eb ee.0 h.low_e) (both _ _ (belongs_rel S B b _ _ eb ee.1 h.top_e) (both _ _ (belongs_rel S B b _ _ eb ff.0 h.low_f) (belongs_rel S B b _ _ eb ff.1 h.top_f)))

module _ (inside : Point → Bool) (ground : Grounded inside) (s : Place) (h : Stands inside s) where
  up_begins : shift ones (begins inside s) ≡ shift s.base (edge ones s.tet (from s.tet (mask inside s.base s.tet) s.tri s.turn))
  up_begins =
      let p = from s.tet (mask inside s.base s.tet) s.tri s.turn in
      ap (shift ones) (begins_is inside s h) ∙ sym (crossing_shift ones s.base s.tet p) ∙ ap (λ B. edge B s.tet p) (⊕_comm ones s.base) ∙ crossing_shift s.base ones s.tet p

  up_ends : shift ones (ends inside s) ≡ shift s.base (edge ones s.tet (to s.tet (mask inside s.base s.tet) s.tri s.turn))
  up_ends =
      let p = to s.tet (mask inside s.base s.tet) s.tri s.turn in
      ap (shift ones) (ends_is inside s h) ∙ sym (crossing_shift ones s.base s.tet p) ∙ ap (λ B. edge B s.tet p) (⊕_comm ones s.base) ∙ crossing_shift s.base ones s.tet p

  -- the base of the opposite, one up
  up_reverse : s.base ⊕ above s.tet (mask inside s.base s.tet) s.tri s.turn ≡ ones ⊕ (reverse inside ground s h).base
  unfolding reverse u L S t w i j check_room
  up_reverse =
      let k = pass inside ground s h check_room fact_room in
      let a = above s.tet (mask inside s.base s.tet) s.tri s.turn in
      let l = L inside ground s h in
      let c = C inside ground s h in
      ap (λ B. B ⊕ a) (sym (fits inside ground s h)) ∙ ⊕_assoc c l a ∙ ap (λ v. c ⊕ v) (point_eq _ _ (right _ _ (right _ _ k))) ∙ ⊕_swap c ones (u inside ground s h)

  pub shared_cells : (B : Point) → Shared B (begins inside s) (ends inside s) → (B ≡ s.base) ⊎ (B ≡ (reverse inside ground s h).base)
  unfolding check_cells check_down t w i j edge vertex
  shared_cells B k =
      let m = mask inside s.base s.tet in
      let e = begins inside s in
      let p = from s.tet m s.tri s.turn in
      let o = offset (corner s.tet (low_position p)) in
      let x = e.low.x - B.x in
      let y = e.low.y - B.y in
      let z = e.low.z - B.z in
      let e1 = edge ones s.tet p in
      let f1 = edge ones s.tet (to s.tet m s.tri s.turn) in
      let b = down e1.low x y z in
      let a = above s.tet m s.tri s.turn in
      let eb : s.base ⊕ b ≡ ones ⊕ B = down_is s.base B e.low o (edge_up s.base e e1 up_begins).0 k.low_e in
      let l = k.low_e in
      let g : ℕ → ℕ → ℕ → Bool = check_down s.tet m s.tri s.turn in
      let r1 = all_at 2 (λ x. all 2 λ y. all 2 λ z. g x y z) (pass inside ground s h check_cells fact_cells) x (omega (arith, l.x_next)) in
      let r2 = all_at 2 (λ y. all 2 λ z. g x y z) r1 y (omega (arith, l.y_next)) in
      let r3 = all_at 2 (λ z. g x y z) r2 z (omega (arith, l.z_next)) in
      let r4 = given (shared b e1 f1) (λ _. eq_point b ones || eq_point b a) r3 (shared_rel s.base B b e (ends inside s) e1 f1 eb up_begins up_ends k) in
      elim (or_cases (eq_point b ones) (eq_point b a) r4) [
        | inl q ↦ inl (⊕_cancel ones B s.base (sym eb ∙ ap (λ v. s.base ⊕ v) (point_eq b ones q) ∙ ⊕_comm s.base ones))
        | inr q ↦ inr (⊕_cancel ones B (reverse inside ground s h).base (sym eb ∙ ap (λ v. s.base ⊕ v) (point_eq b a q) ∙ up_reverse))
      ]

-- a wall's cells share what lies on it
third_top : (g : GridTriangle) → Part g.a g.b → offset g.a ⊕ offset (g.b - g.a) ≡ offset g.b
unfolding check_end
third_top g p =
    let k = all_at 8 (check_end g.a) (all_at 8 (λ a. all 8 λ b. check_end a b) fact_end g.a (part_below g.a g.b p)) g.b p.code in
    point_eq _ _ (given (part g.a g.b) (λ _. eq_point (offset g.a ⊕ offset (g.b - g.a)) (offset g.b)) k (part_from g.a g.b p))

edge_ends : (B : Point) (g : GridTriangle) (e : GridEdge) → Part g.a g.b → InCell B g → EdgeOf g e → Belongs B e.low × Belongs B (top e)
unfolding top
edge_ends B g e p c (inl q) = let P : GridEdge → Type 0 = λ e. Belongs B e.low × Belongs B (top e) in subst P (sym q) (c.low, c.a)
edge_ends B g e p c (inr (inl q)) = let P : GridEdge → Type 0 = λ e. Belongs B e.low × Belongs B (top e) in subst P (sym q) (c.low, c.b)
edge_ends B g e p c (inr (inr q)) =
    let P : GridEdge → Type 0 = λ e. Belongs B e.low × Belongs B (top e) in
    let k = ⊕_assoc g.low (offset g.a) (offset (g.b - g.a)) ∙ ap (λ v. g.low ⊕ v) (third_top g p) in
    subst P (sym q) (c.a, subst (Belongs B) (sym k) c.b)

wall_shares : (B : Point) (g : GridTriangle) (e f : GridEdge) → Part g.a g.b → InCell B g → EdgeOf g e → EdgeOf g f → Shared B e f
wall_shares B g e f p c he hf =
    let a = edge_ends B g e p c he in
    let b = edge_ends B g f p c hf in
    record { low_e = a.0; top_e = a.1; low_f = b.0; top_f = b.1 }

-- of two different cells that are each one of two, one is the first and the other the second
pair : {X : Type 0} (B C S R : X) → (B ≡ C → ⊥) → (B ≡ S) ⊎ (B ≡ R) → (C ≡ S) ⊎ (C ≡ R) → ((B ≡ S) × (C ≡ R)) ⊎ ((B ≡ R) × (C ≡ S))
pair B C S R n (inl a) (inl b) = absurd (n (a ∙ sym b))
pair B C S R n (inl a) (inr b) = inl (a, b)
pair B C S R n (inr a) (inl b) = inr (a, b)
pair B C S R n (inr a) (inr b) = absurd (n (a ∙ sym b))

pub walls_are : (inside : Point → Bool) (ground : Grounded inside) (s : Place) (h : Stands inside s) (B C : Point) → OnWall B C (begins inside s) (ends inside s) →
    ((B ≡ s.base) × (C ≡ (reverse inside ground s h).base)) ⊎ ((B ≡ (reverse inside ground s h).base) × (C ≡ s.base))
walls_are inside ground s h B C k =
    let g = k.triangle in
    pair B C s.base (reverse inside ground s h).base k.two
    (shared_cells inside ground s h B (wall_shares B g _ _ k.part k.one_cell k.first k.second))
    (shared_cells inside ground s h C (wall_shares C g _ _ k.part k.other_cell k.first k.second))
