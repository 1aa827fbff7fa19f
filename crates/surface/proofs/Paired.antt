-- The mesh edges of a surface whose triangles are those of its marched cells. Assumes nothing.
use Rattle.std.proofs.Common.{◌≡◌, ℕ, zero, suc, ◌<◌, false, ◌⊎◌, List, length, get_or, sym, refl, ap, ◌∙◌, subst, inl, inr, ⊎_elim, arith}
use Rattle.std.proofs.lemmas.Bool.{cases_Bool}
use Rattle.grid.specs.declared.geometry.Point.{Point}
use Rattle.grid.specs.declared.geometry.GridEdge.{GridEdge}
use Rattle.grid.specs.declared.geometry.Triangle.{Triangle}
use Rattle.grid.specs.Cells.{cell_count, cell_base, cell_number, cell_triangles}
use Rattle.mesh.specs.Triangles.{triangle_at, Corner, Runs, Apart}
use Rattle.topology.specs.Crossings.{CornerOf}
use Rattle.topology.specs.Sides.{none, Side, Lives, start, end, rest, its_triangle, source, target, third, OnWall, Opposed, Padded}
use Rattle.topology.proofs.Crossed.{corners_differ}
use Rattle.topology.proofs.Members.{in_has}
use Rattle.topology.proofs.Places.{in_get_d}
use Rattle.topology.proofs.Whole.{unique, closed, kept, padded_grounded}
use Rattle.surface.specs.Marches.{State, Field}
use Rattle.surface.specs.Skins.{vertex_at, mesh, Carries, Marched, VerticesKept, tiles, Lies, Tile, TrianglesKept, Two-triangles, One-triangle, OnFront, EdgesKept}
use Rattle.surface.proofs.Bases.{base_of_number, number_below}
use Rattle.surface.proofs.Laid.{side_of, side_of_lives, same_cell}
use Rattle.surface.proofs.Models.{true_false}

-- a triangle runs along its three sides
pub runs_turn : (t : Triangle ℕ) (u v : ℕ) → Runs t u v → (j : ℕ) × (j < 3) × (start j t ≡ u) × (end j t ≡ v)
unfolding start end
runs_turn t u v (inl p) = (0, omega arith, sym p.0, sym p.1)
runs_turn t u v (inr (inl p)) = (1, omega arith, sym p.0, sym p.1)
runs_turn t u v (inr (inr p)) = (2, omega arith, sym p.0, sym p.1)

pub turn_runs : (t : Triangle ℕ) (j u v : ℕ) → start j t ≡ u → end j t ≡ v → Runs t u v
unfolding start end
turn_runs t zero u v p q = inl (sym p, sym q)
turn_runs t (suc zero) u v p q = inr (inl (sym p, sym q))
turn_runs t (suc (suc j)) u v p q = inr (inr (sym p, sym q))

pub runs_from : (t : Triangle ℕ) (u v : ℕ) → Runs t u v → Corner t u
runs_from t u v (inl p) = inl p.0
runs_from t u v (inr (inl p)) = inr (inl p.0)
runs_from t u v (inr (inr p)) = inr (inr p.0)

-- the corners of a triangle that lies on grid edges
module _ (s : State) (t : Triangle ℕ) (τ : Triangle GridEdge) (l : Lies s t τ) where
  pub lies_start : (j : ℕ) → Carries s (start j t) (start j τ)
  unfolding start
  lies_start zero = l.a
  lies_start (suc zero) = l.b
  lies_start (suc (suc j)) = l.c

  pub lies_end : (j : ℕ) → Carries s (end j t) (end j τ)
  unfolding end
  lies_end zero = l.b
  lies_end (suc zero) = l.c
  lies_end (suc (suc j)) = l.a

  pub lies_rest : (j : ℕ) → Carries s (rest j t) (rest j τ)
  unfolding rest
  lies_rest zero = l.c
  lies_rest (suc zero) = l.a
  lies_rest (suc (suc j)) = l.b

  pub lies_corner : (u : ℕ) (e : GridEdge) → Carries s u e → Corner t u → CornerOf τ e
  lies_corner u e c (inl p) = inl (sym l.a.edge ∙ ap (λ (n : ℕ). (vertex_at s n).edge) (sym p) ∙ c.edge)
  lies_corner u e c (inr (inl p)) = inr (inl (sym l.b.edge ∙ ap (λ (n : ℕ). (vertex_at s n).edge) (sym p) ∙ c.edge))
  lies_corner u e c (inr (inr p)) = inr (inr (sym l.c.edge ∙ ap (λ (n : ℕ). (vertex_at s n).edge) (sym p) ∙ c.edge))

-- the same mesh edge, seen from its other end
two_turned : (ts : List (Triangle ℕ)) (u v : ℕ) → Two-triangles ts v u → Two-triangles ts u v
two_turned ts u v w = record {
  one = w.other;
  other = w.one;
  one_within = w.other_within;
  other_within = w.one_within;
  along = w.against;
  against = w.along;
  differ = λ p. w.differ (sym p);
  only = λ k b x y. ⊎_elim (λ p. inr p) (λ p. inl p) (w.only k b y x);
}

one_turned : (ts : List (Triangle ℕ)) (u v : ℕ) → One-triangle ts v u → One-triangle ts u v
one_turned ts u v w = record { one = w.one; one_within = w.one_within; along = ⊎_elim (λ p. inr p) (λ p. inl p) w.along; only = λ k b x y. w.only k b y x }

front_turned : (f : Field) (s : State) (e g : GridEdge) → OnFront f s g e → OnFront f s e g
front_turned f s e g w = record {
  here = w.here;
  there = w.there;
  marched = w.marched;
  unmarched = w.unmarched;
  wall = (let k = w.wall in record { two = k.two; triangle = k.triangle; part = k.part; one_cell = k.one_cell; other_cell = k.other_cell; first = k.second; second = k.first });
}

module _ (f : Field) (s : State) (pad : Padded f.sides f.inside) (vk : VerticesKept f s) (tk : TrianglesKept f s) where
  -- the triangle of the number n is that of the side q
  pub record On (n : ℕ) (q : Side) : Type 0 where
    pub cell : ℕ
    pub base : cell_base f.sides cell ≡ q.base
    pub tile : Tile f s n cell q.triangle

  pub on_lies : (n : ℕ) (q : Side) → On n q → Lies s (triangle_at (mesh s) n) (its_triangle f.inside q)
  unfolding its_triangle tiles
  on_lies n q o = subst (λ (B : Point). Lies s (triangle_at (mesh s) n) (get_or (cell_triangles f.inside B) q.triangle none)) o.base o.tile.lies

  pub on_source : (n : ℕ) (q : Side) → On n q → Carries s (start q.turn (triangle_at (mesh s) n)) (source f.inside q)
  unfolding source
  on_source n q o = lies_start s (triangle_at (mesh s) n) (its_triangle f.inside q) (on_lies n q o) q.turn

  pub on_target : (n : ℕ) (q : Side) → On n q → Carries s (end q.turn (triangle_at (mesh s) n)) (target f.inside q)
  unfolding target
  on_target n q o = lies_end s (triangle_at (mesh s) n) (its_triangle f.inside q) (on_lies n q o) q.turn

  pub on_third : (n : ℕ) (q : Side) → On n q → Carries s (rest q.turn (triangle_at (mesh s) n)) (third f.inside q)
  unfolding third
  on_third n q o = lies_rest s (triangle_at (mesh s) n) (its_triangle f.inside q) (on_lies n q o) q.turn

  pub same_record : (m n : ℕ) (q r : Side) → On m q → On n r → q.base ≡ r.base → q.triangle ≡ r.triangle → m ≡ n
  same_record m n q r a b p e =
      let c : a.cell ≡ b.cell = same_cell f a.cell b.cell (a.base ∙ p ∙ sym b.base) in
      tk.once m n b.cell r.triangle (subst (λ (k : ℕ). Tile f s m b.cell k) e (subst (λ (d : ℕ). Tile f s m d q.triangle) c a.tile)) b.tile

  -- a living side is in a cell of the grid
  pub record Housed (q : Side) : Type 0 where
    pub cell : ℕ
    pub below : cell < cell_count f.sides
    pub base : cell_base f.sides cell ≡ q.base

  pub housed : (q : Side) → Lives f.inside q → Housed q
  housed q l =
      let k = kept f.sides f.inside pad q l in
      record { cell = cell_number f.sides q.base; below = number_below f.sides q.base k; base = base_of_number f.sides q.base k }

  -- if that cell is marched, it has a record
  pub recorded : (q : Side) → Lives f.inside q → (h : Housed q) → Marched f s h.cell → (n : ℕ) × On n q
  unfolding tiles
  recorded q l h m =
      let b = subst (λ (B : Point). q.triangle < length (cell_triangles f.inside B)) (sym h.base) l.triangle in
      let r = tk.laid h.cell q.triangle m b in
      (r.0, record { cell = h.cell; base = h.base; tile = r.1 })

  -- a triangle that runs from u to v has a side there
  pub record Sided (n u v : ℕ) : Type 0 where
    pub side : Side
    pub lives : Lives f.inside side
    pub on : On n side
    pub from : start side.turn (triangle_at (mesh s) n) ≡ u
    pub to : end side.turn (triangle_at (mesh s) n) ≡ v
    pub source_is : Carries s u (source f.inside side)
    pub target_is : Carries s v (target f.inside side)

  pub sided : (n u v : ℕ) → n < length (mesh s) → Runs (triangle_at (mesh s) n) u v → Sided n u v
  sided n u v h r =
      let t = tk.tile n h in
      let j = runs_turn (triangle_at (mesh s) n) u v r in
      let q = side_of f t.0 t.1.0 j.0 in
      let o : On n q = record { cell = t.0; base = refl; tile = t.1.1 } in
      record {
        side = q;
        lives = side_of_lives f t.0 t.1.0 j.0 t.1.1.rank j.1;
        on = o;
        from = j.2;
        to = j.3;
        source_is = subst (λ (x : ℕ). Carries s x (source f.inside q)) j.2 (on_source n q o);
        target_is = subst (λ (x : ℕ). Carries s x (target f.inside q)) j.3 (on_target n q o);
      }

  -- the three corners of a triangle differ
  pub all_apart : (n : ℕ) → n < length (mesh s) → Apart (triangle_at (mesh s) n)
  unfolding tiles
  all_apart n h =
      let t = tk.tile n h in
      let l = t.1.1.lies in
      let ts = cell_triangles f.inside (cell_base f.sides t.0) in
      let d = corners_differ f.inside (cell_base f.sides t.0) (get_or ts t.1.0 none) (in_has ts _ (in_get_d ts t.1.0 none t.1.1.rank)) in
      record {
        ab = λ p. d.ab (sym l.a.edge ∙ ap (λ (k : ℕ). (vertex_at s k).edge) p ∙ l.b.edge);
        bc = λ p. d.bc (sym l.b.edge ∙ ap (λ (k : ℕ). (vertex_at s k).edge) p ∙ l.c.edge);
        ca = λ p. d.ca (sym l.c.edge ∙ ap (λ (k : ℕ). (vertex_at s k).edge) p ∙ l.a.edge);
      }

  -- one triangle at most runs from u to v
  pub one_sense : (m n u v : ℕ) → m < length (mesh s) → n < length (mesh s) → Runs (triangle_at (mesh s) m) u v → Runs (triangle_at (mesh s) n) u v → m ≡ n
  one_sense m n u v a b p q =
      let x = sided m u v a p in
      let y = sided n u v b q in
      let z = unique f.inside x.side y.side x.lives y.lives (sym x.source_is.edge ∙ y.source_is.edge) (sym x.target_is.edge ∙ y.target_is.edge) in
      same_record m n x.side y.side x.on y.on (ap (λ (w : Side). w.base) z) (ap (λ (w : Side). w.triangle) z)

  -- what the side that runs against it says of the mesh edge from u to v of the triangle n
  module _ (n u v : ℕ) (h : n < length (mesh s)) (x : Sided n u v) (r : Side) (o : Opposed f.inside x.side r) (w : Housed r) where
    abbrev q : Side
    q = x.side

    -- a triangle with both vertices
    both_ends : (k : ℕ) (b : k < length (mesh s)) → Corner (triangle_at (mesh s) k) u → Corner (triangle_at (mesh s) k) v →
        ((t : Side) × On k t × (((t.base ≡ q.base) × (t.triangle ≡ q.triangle)) ⊎ ((t.base ≡ r.base) × (t.triangle ≡ r.triangle))))
    unfolding tiles
    both_ends k b cu cv =
        let t = tk.tile k b in
        let τ = get_or (tiles f t.0) t.1.0 none in
        let l = t.1.1.lies in
        let y = side_of f t.0 t.1.0 0 in (
          y,
          record { cell = t.0; base = refl; tile = t.1.1 },
          o.two (cell_base f.sides t.0) t.1.0 t.1.1.rank
              (lies_corner s (triangle_at (mesh s) k) τ l u (source f.inside q) x.source_is cu)
              (lies_corner s (triangle_at (mesh s) k) τ l v (target f.inside q) x.target_is cv),
        )

    walls_of : (c d : ℕ) → OnWall (cell_base f.sides c) (cell_base f.sides d) (vertex_at s u).edge (vertex_at s v).edge →
        ((cell_base f.sides c ≡ q.base) × (cell_base f.sides d ≡ r.base)) ⊎ ((cell_base f.sides c ≡ r.base) × (cell_base f.sides d ≡ q.base))
    walls_of c d k = o.walls (cell_base f.sides c) (cell_base f.sides d)
        (subst (λ (g : GridEdge). OnWall (cell_base f.sides c) (cell_base f.sides d) (source f.inside q) g) x.target_is.edge
        (subst (λ (e : GridEdge). OnWall (cell_base f.sides c) (cell_base f.sides d) e (vertex_at s v).edge) x.source_is.edge k))

    two_here : Marched f s w.cell → Two-triangles (mesh s) u v × (OnFront f s (vertex_at s u).edge (vertex_at s v).edge → ⊥)
    two_here m =
        let k = recorded r o.lives w m in
        let i = k.0 in
        let y = k.1 in
        let b = y.tile.within in
        let from : start r.turn (triangle_at (mesh s) i) ≡ v =
        vk.single (target f.inside q) _ v (subst (Carries s _) o.begins (on_source i r y)) x.target_is in
        let to : end r.turn (triangle_at (mesh s) i) ≡ u =
        vk.single (source f.inside q) _ u (subst (Carries s _) o.ends (on_target i r y)) x.source_is in (
          record {
            one = n;
            other = i;
            one_within = h;
            other_within = b;
            along = turn_runs (triangle_at (mesh s) n) q.turn u v x.from x.to;
            against = turn_runs (triangle_at (mesh s) i) r.turn v u from to;
            differ = λ p.
                let a = tk.one_tile n x.on.cell q.triangle y.cell r.triangle x.on.tile (subst (λ (j : ℕ). Tile f s j y.cell r.triangle) (sym p) y.tile) in
                o.other (sym y.base ∙ ap (cell_base f.sides) (sym a.0) ∙ x.on.base) (sym a.1);
            only = λ j c cu cv.
                let t = both_ends j c cu cv in
                ⊎_elim (λ e. inl (same_record j n t.0 q t.1 x.on e.0 e.1)) (λ e. inr (same_record j i t.0 r t.1 y e.0 e.1)) t.2;
          },
          λ front.
              let d = front.there in
              let no : Marched f s d → ⊥ = λ g. true_false (get_or s.marks d false) g.mark front.unmarched.mark in
              ⊎_elim
              (λ e. no (subst (Marched f s) (same_cell f w.cell d (w.base ∙ sym e.1)) m))
              (λ e. no (subst (Marched f s) (same_cell f x.on.cell d (x.on.base ∙ sym e.1)) x.on.tile.marched))
              (walls_of front.here d front.wall),
        )

    one_here : get_or s.marks w.cell false ≡ false → One-triangle (mesh s) u v × OnFront f s (vertex_at s u).edge (vertex_at s v).edge
    one_here u0 =
        let no : Marched f s w.cell → ⊥ = λ g. true_false (get_or s.marks w.cell false) g.mark u0 in (
          record {
            one = n;
            one_within = h;
            along = inl (turn_runs (triangle_at (mesh s) n) q.turn u v x.from x.to);
            only = λ j c cu cv.
                let t = both_ends j c cu cv in
                ⊎_elim (λ e. same_record j n t.0 q t.1 x.on e.0 e.1)
                (λ e. absurd (no (subst (Marched f s) (same_cell f t.1.cell w.cell (t.1.base ∙ e.0 ∙ sym w.base)) t.1.tile.marched)))
                t.2;
          },
          ⊎_elim
              (λ e. absurd (no (subst (Marched f s) (same_cell f x.on.cell w.cell (x.on.base ∙ sym e ∙ sym w.base)) x.on.tile.marched)))
              (λ wall. record {
                here = x.on.cell;
                there = w.cell;
                marched = x.on.tile.marched;
                unmarched = record { cell = w.below; mark = u0 };
                wall =
                    let W : Point → Point → GridEdge → GridEdge → Type 0 = OnWall in
                    subst (λ (g : GridEdge). W (cell_base f.sides x.on.cell) (cell_base f.sides w.cell) (vertex_at s u).edge g) (sym x.target_is.edge)
                    (subst (λ (e : GridEdge). W (cell_base f.sides x.on.cell) (cell_base f.sides w.cell) e (target f.inside q)) (sym x.source_is.edge)
                    (subst (λ (C : Point). W (cell_base f.sides x.on.cell) C (source f.inside q) (target f.inside q)) (sym w.base)
                    (subst (λ (B : Point). W B r.base (source f.inside q) (target f.inside q)) (sym x.on.base) wall)));
              })
              o.place,
        )

    here : (Two-triangles (mesh s) u v × (OnFront f s (vertex_at s u).edge (vertex_at s v).edge → ⊥)) ⊎ (One-triangle (mesh s) u v × OnFront f s (vertex_at s u).edge (vertex_at s v).edge)
    here = ⊎_elim (λ t. inl (two_here (record { cell = w.below; mark = t }))) (λ t. inr (one_here t)) (cases_Bool (get_or s.marks w.cell false))

  abbrev Paired : ℕ → ℕ → Type 0
  Paired u v = (Two-triangles (mesh s) u v × (OnFront f s (vertex_at s u).edge (vertex_at s v).edge → ⊥)) ⊎ (One-triangle (mesh s) u v × OnFront f s (vertex_at s u).edge (vertex_at s v).edge)

  paired_along : (n u v : ℕ) → n < length (mesh s) → Runs (triangle_at (mesh s) n) u v → Paired u v
  paired_along n u v h p =
      let x = sided n u v h p in
      let c = closed f.inside (padded_grounded f.sides f.inside pad) x.side x.lives in
      here n u v h x c.0 c.1 (housed c.0 c.1.lives)

  turned : (u v : ℕ) → Paired v u → Paired u v
  turned u v (inl p) = inl (two_turned (mesh s) u v p.0, λ w. p.1 (front_turned f s (vertex_at s v).edge (vertex_at s u).edge w))
  turned u v (inr p) = inr (one_turned (mesh s) u v p.0, front_turned f s (vertex_at s u).edge (vertex_at s v).edge p.1)

  pub edges_kept : EdgesKept f s
  edges_kept = record {
    apart = all_apart;
    paired = λ u v e. ⊎_elim (paired_along e.at u v e.within) (λ p. turned u v (paired_along e.at v u e.within p)) e.runs;
  }
