-- The vertices and the triangles of a modelled surface are those of its marched cells. Assumes nothing.
use Rattle.std.proofs.Common.{◌≡◌, ℕ, zero, suc, ◌<◌, List, [], ◌∷◌, length, get_or, Some, sym, refl, ap, ◌∙◌, subst, ap₂, arith, Option}
use Rattle.std.specs.List.{flat_map}
use Rattle.std.proofs.lemmas.List.{length-take-le, get_or-take}
use Rattle.grid.specs.declared.geometry.GridEdge.{GridEdge}
use Rattle.grid.specs.declared.geometry.Triangle.{Triangle}
use Rattle.grid.specs.Cells.{cell_base, cell_number}
use Rattle.grid.specs.EdgeKeys.{vertex_on}
use Rattle.grid.proofs.Numbers.{number_of_base}
use Rattle.keymap.specs.declared.table.Entry.{Entry}
use Rattle.mesh.specs.Triangles.{triangle_at, no_triangle}
use Rattle.topology.specs.Crossings.{NoRepeat}
use Rattle.topology.specs.Sides.{none, Side, Lives, start, end, its_triangle, source, target}
use Rattle.topology.proofs.Members.{In, in_has}
use Rattle.topology.proofs.Places.{in_get_d}
use Rattle.topology.proofs.Seats.{spot, spot_below, spot_at, Seat, seat}
use Rattle.topology.proofs.Whole.{unique}
use Rattle.surface.specs.Marches.{State, Field}
use Rattle.surface.specs.Skins.{no_vertex, mesh, Carries, Marched, VerticesKept, tiles, Lies, Tile, TrianglesKept}
use Rattle.surface.proofs.Ends.{Ends, edge_ends, ends_edge}
use Rattle.surface.proofs.Models.{Model}
use Rattle.surface.proofs.Steady.{Means}

-- two places of a list without repeats that hold one value are the same
pub same_place : (xs : List ℕ) → NoRepeat xs → (i j : ℕ) → i < length xs → j < length xs → get_or xs i 0 ≡ get_or xs j 0 → i ≡ j
same_place [] n i j a b e = absurd (omega arith)
same_place (x ∷ xs) n zero zero a b e = refl
same_place (x ∷ xs) n zero (suc j) a b e = absurd (n.0 (in_has xs x (subst (λ (y : ℕ). In y xs) (sym e) (in_get_d xs j 0 (omega arith)))))
same_place (x ∷ xs) n (suc i) zero a b e = absurd (n.0 (in_has xs x (subst (λ (y : ℕ). In y xs) e (in_get_d xs i 0 (omega arith)))))
same_place (x ∷ xs) n (suc i) (suc j) a b e = ap suc (same_place xs n.1 i j (omega arith) (omega arith) e)

-- a side of triangle k of the cell c
abbrev pub side_of : Field → ℕ → ℕ → ℕ → Side
side_of f c k turn = record { base = cell_base f.sides c; triangle = k; turn = turn }

pub side_of_lives : (f : Field) (c k turn : ℕ) → k < length (tiles f c) → turn < 3 → Lives f.inside (side_of f c k turn)
unfolding tiles
side_of_lives f c k turn h t = record { triangle = h; turn = t }

-- the cells of two bases that are equal are one
pub same_cell : (f : Field) (c d : ℕ) → cell_base f.sides c ≡ cell_base f.sides d → c ≡ d
same_cell f c d p = sym (number_of_base f.sides c) ∙ ap (cell_number f.sides) p ∙ number_of_base f.sides d

-- one triangle is not at two places
pub one_place : (f : Field) (s : State) (n c k c' k' : ℕ) → Tile f s n c k → Tile f s n c' k' → (c ≡ c') × (k ≡ k')
unfolding tiles source target its_triangle start end
one_place f s n c k c' k' p q =
    let x = side_of f c k 0 in
    let y = side_of f c' k' 0 in
    let z = unique f.inside x y (side_of_lives f c k 0 p.rank (omega arith)) (side_of_lives f c' k' 0 q.rank (omega arith))
    (sym p.lies.a.edge ∙ q.lies.a.edge) (sym p.lies.b.edge ∙ q.lies.b.edge) in
    (same_cell f c c' (ap (λ (v : Side). v.base) z), ap (λ (v : Side). v.triangle) z)

module _ (f : Field) (s : State) (m : Model f s) where
  abbrev es : List (Option (Entry GridEdge))
  es = s.tables.numbered.entries

  held : (n : ℕ) (e : GridEdge) → Carries s n e → vertex_on es e ≡ Some n
  held n e c = subst (λ (x : GridEdge). vertex_on es x ≡ Some n) c.edge (m.tied.held n no_vertex c.within)

  carrying : (n : ℕ) (e : GridEdge) → vertex_on es e ≡ Some n → Carries s n e
  carrying n e h = record { within = m.tied.below e n h; edge = m.tied.keyed e n no_vertex h }

  is_marched : (c : ℕ) → In c m.order → Marched f s c
  is_marched c i = record { cell = m.cells c i; mark = m.marked c i }

  pub vertices_kept : VerticesKept f s
  vertices_kept = record {
    records = m.tied.within;
    met = λ e n c.
        let h = held n e c in
        let k = m.cell_of e n h in
        let b = edge_ends (cell_base f.sides k.0) e k.2 in
        record { some = b.some; few = b.few; crosses = m.crosses e n h; cell = k.0; marched = is_marched k.0 k.1; low = b.low; high = b.high };
    carried = λ e w.
        let b : Ends (cell_base f.sides w.cell) e = record { some = w.some; few = w.few; low = w.low; high = w.high } in
        let k = m.carries e w.cell (m.listed w.cell w.marched.mark) (ends_edge (cell_base f.sides w.cell) e b) w.crosses in
        (k.0, carrying k.0 e k.1);
    single = λ e i j a b. let x = held i e a in let y = held j e b in cc;
    placed = λ e n c. m.placed n no_vertex c.within ∙ ap f.place c.edge;
  }

  pub mesh_length : length (mesh s) ≡ s.tables.count
  mesh_length = length-take-le s.tables.count s.tables.triangles m.fits

  means_lies : (t : Triangle ℕ) (τ : Triangle GridEdge) → Means es t τ → Lies s t τ
  means_lies t τ h = record { a = carrying t.a τ.a h.a; b = carrying t.b τ.b h.b; c = carrying t.c τ.c h.c }

  lies_at : (n : ℕ) → n < length (mesh s) → Lies s (triangle_at (mesh s) n) (get_or (flat_map (tiles f) m.order) n none)
  lies_at n h =
      let l = mesh_length in
      let b : n < s.tables.count = omega arith in
      subst (λ (t : Triangle ℕ). Lies s t (get_or (flat_map (tiles f) m.order) n none)) (sym (get_or-take s.tables.count s.tables.triangles n no_triangle b)) (means_lies _ _ (m.means n no_triangle b))

  -- triangle k of the cell at place i of the order
  tile_at : (n i k : ℕ) → i < length m.order → k < length (tiles f (get_or m.order i 0)) → spot (tiles f) m.order i k ≡ n → Tile f s n (get_or m.order i 0) k
  tile_at n i k h b e =
      let l = mesh_length in
      let c = m.count in
      let w = spot_below (tiles f) 0 m.order i k h b in
      let x : n < length (mesh s) = omega arith in
      record {
        within = x;
        marched = is_marched (get_or m.order i 0) (in_get_d m.order i 0 h);
        rank = b;
        lies = subst (Lies s (triangle_at (mesh s) n)) (ap (λ (j : ℕ). get_or (flat_map (tiles f) m.order) j none) (sym e) ∙ spot_at (tiles f) 0 none m.order i k h b) (lies_at n x);
      }

  sits : (n : ℕ) → n < length (mesh s) → Seat (tiles f) 0 m.order n
  sits n h = let l = mesh_length in let c = m.count in seat (tiles f) 0 m.order n (omega arith)

  sits_tile : (n : ℕ) (r : Seat (tiles f) 0 m.order n) → Tile f s n (get_or m.order r.row 0) r.rank
  sits_tile n r = tile_at n r.row r.rank r.row_below r.rank_below r.is

  pub triangles_kept : TrianglesKept f s
  triangles_kept = record {
    records = m.fits;
    tile = λ n h. let r = sits n h in (get_or m.order r.row 0, (r.rank, sits_tile n r));
    one_tile = one_place f s;
    laid = λ c k w h.
        let p = in_has m.order c (m.listed c w.mark) in
        let e : get_or m.order p.0 0 ≡ c = p.2 0 in
        let b = subst (λ (d : ℕ). k < length (tiles f d)) (sym e) h in
        let n = spot (tiles f) m.order p.0 k in
        (n, subst (λ (d : ℕ). Tile f s n d k) e (tile_at n p.0 k p.1 b refl));
    once = λ i j c k p q.
        let x = sits i p.within in
        let y = sits j q.within in
        let a = one_place f s i _ _ c k (sits_tile i x) p in
        let b = one_place f s j _ _ c k (sits_tile j y) q in
        let r = same_place m.order m.once x.row y.row x.row_below y.row_below (a.0 ∙ sym b.0) in
        sym x.is ∙ ap₂ (λ (u v : ℕ). spot (tiles f) m.order u v) r (a.1 ∙ sym b.1) ∙ y.is;
  }
