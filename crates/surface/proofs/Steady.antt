-- What naming the triangles of a cell writes: numbers once given stay, and each new record is of a crossed edge of the cell. Assumes nothing.
use Rattle.std.proofs.Common.{◌≡◌, ℕ, zero, suc, ◌+◌, ◌<◌, ◌≤◌, Bool, true, ◌⊎◌, List, [], ◌∷◌, length, get_or, set, Some, None, Option, sym, refl, ap, ◌∙◌, subst, inl, inr, ⊎_elim, arith, length-set, get_or-set_other, get_or-set_same}
use Rattle.std.specs.List.{ContainsAt as Has}
use Rattle.std.proofs.lemmas.Bool.{cases_eq}
use Rattle.grid.specs.declared.geometry.Point.{Point}
use Rattle.grid.specs.declared.geometry.GridEdge.{GridEdge}
use Rattle.grid.specs.declared.geometry.Triangle.{Triangle}
use Rattle.grid.specs.Points.{crossed}
use Rattle.grid.specs.Cells.{cell_edges, cell_triangles}
use Rattle.grid.specs.EdgeKeys.{vertex_on, with_vertex}
use Rattle.keymap.specs.declared.table.Entry.{Entry}
use Rattle.mesh.specs.declared.records.Coordinates.{Coordinates}
use Rattle.mesh.specs.declared.records.Vertex.{Vertex}
use Rattle.topology.proofs.Crossed.{cell_crossings}
use Rattle.topology.proofs.Members.{In}
use Rattle.surface.specs.States.{Numbering, Tables, named, named_all, number, number_by, numbers, added, added_all}
use Rattle.surface.proofs.Ties.{same_edge, held_now, others_kept, named_kept, named_next, none_some}
use Rattle.surface.proofs.Growth.{Ready, step, fits, option_cases}

-- each vertex lies at the place of its edge
abbrev pub Placed : (GridEdge → Coordinates) → Numbering → Type 0
Placed place s = (k : ℕ) (d : Vertex) → k < s.count → (get_or s.vertices k d).at ≡ place (get_or s.vertices k d).edge

-- the map holds the numbers of a triangle's corners for the grid edges that carry them
pub record Means (es : List (Option (Entry GridEdge))) (t : Triangle ℕ) (τ : Triangle GridEdge) : Type 0 where
  pub a : vertex_on es τ.a ≡ Some t.a
  pub b : vertex_on es τ.b ≡ Some t.b
  pub c : vertex_on es τ.c ≡ Some t.c

module _ (place : GridEdge → Coordinates) (inside : Point → Bool) (B : Point) where
  -- no number changes, and only crossed edges of the cell get one
  pub record Grows (s t : Numbering) : Type 0 where
    pub stays : (x : GridEdge) (k : ℕ) → vertex_on s.entries x ≡ Some k → vertex_on t.entries x ≡ Some k
    pub fresh : (x : GridEdge) (k : ℕ) → vertex_on t.entries x ≡ Some k → (vertex_on s.entries x ≡ Some k) ⊎ (Has (cell_edges B) x × (crossed inside x ≡ true))
    pub placed : Placed place s → Placed place t

  pub no_growth : (s : Numbering) → Grows s s
  no_growth s = record { stays = λ x k h. h; fresh = λ x k h. inl h; placed = λ h. h }

  pub then_grows : {s t u : Numbering} → Grows s t → Grows t u → Grows s u
  then_grows p q = record {
    stays = λ x k h. q.stays x k (p.stays x k h);
    fresh = λ x k h. ⊎_elim (λ o. p.fresh x k o) (λ n. inr n) (q.fresh x k h);
    placed = λ h. q.placed (p.placed h);
  }

  module _ (s : Numbering) (e : GridEdge) (r : Ready inside B s) (has : Has (cell_edges B) e) (c : crossed inside e ≡ true) where
    pub record Once : Type 0 where
      pub ready : Ready inside B (named place s e)
      pub grows : Grows s (named place s e)
      pub gives : vertex_on (named place s e).entries e ≡ Some (number s e)

    old : (k : ℕ) → vertex_on s.entries e ≡ Some k → Grows s (named place s e) × (vertex_on (named place s e).entries e ≡ Some (number s e))
    unfolding number
    old k h =
        subst (λ (t : Numbering). Grows s t × (vertex_on t.entries e ≡ Some (number s e))) (sym (named_kept place s e k h))
        (no_growth s, h ∙ ap (λ (o : Option ℕ). Some (number_by o s.count)) (sym h))

    new : vertex_on s.entries e ≡ None → Grows s (named place s e) × (vertex_on (named place s e).entries e ≡ Some (number s e))
    unfolding number
    new n =
        let room = (fits place inside B s e r has c).entry n in
        let left = (fits place inside B s e r has c).vertex n in
        let sound = r.tied.sound in
        let es : List (Option (Entry GridEdge)) = with_vertex s.entries e s.count in
        let here : vertex_on es e ≡ Some s.count = held_now s.entries sound e s.count n room in
        let kept = others_kept s.entries sound e s.count n room in
        let v : Vertex = record { edge = e; at = place e } in
        let below : s.count < length s.vertices = omega arith in
        subst (λ (t : Numbering). Grows s t × (vertex_on t.entries e ≡ Some (number s e))) (sym (named_next place s e n)) (
          record {
            stays = λ x k h. ⊎_elim
                (λ p. absurd (none_some (vertex_on s.entries x) k (ap (vertex_on s.entries) p ∙ n) h))
                (λ d. kept x d ∙ h)
                (same_edge x e);
            fresh = λ x k h. ⊎_elim
                (λ p. inr (subst (λ (y : GridEdge). Has (cell_edges B) y × (crossed inside y ≡ true)) (sym p) (has, c)))
                (λ d. inl (sym (kept x d) ∙ h))
                (same_edge x e);
            placed = λ h k d b. ⊎_elim
                (λ q. subst (λ (w : Vertex). w.at ≡ place w.edge) (sym (ap (λ (m : ℕ). get_or (set s.vertices s.count v) m d) q ∙ get_or-set_same s.vertices s.count v d below)) refl)
                (λ ne. subst (λ (w : Vertex). w.at ≡ place w.edge) (sym (get_or-set_other s.vertices s.count k v d ne)) (h k d (omega arith)))
                (cases_eq k s.count);
          },
          here ∙ ap (λ (o : Option ℕ). Some (number_by o s.count)) (sym n),
        )

    -- an edge of the cell is named
    pub one_named : Once
    one_named =
        let g = ⊎_elim (λ o. old o.0 o.1) new (option_cases (vertex_on s.entries e)) in
        record { ready = (step place inside B s e r has c).0.ready; grows = g.0; gives = g.1 }

  -- and the three corners of a triangle
  pub record Thrice (s : Numbering) (τ : Triangle GridEdge) : Type 0 where
    pub ready : Ready inside B (named_all place s τ)
    pub grows : Grows s (named_all place s τ)
    pub means : Means (named_all place s τ).entries (numbers place s τ) τ

  pub all_named : (s : Numbering) (τ : Triangle GridEdge) → Ready inside B s → Has (cell_triangles inside B) τ → Thrice s τ
  all_named s τ r h =
      let ka = (cell_crossings inside B τ.a).0 (record { triangle = τ; has = h; corner = inl refl }) in
      let kb = (cell_crossings inside B τ.b).0 (record { triangle = τ; has = h; corner = inr (inl refl) }) in
      let kc = (cell_crossings inside B τ.c).0 (record { triangle = τ; has = h; corner = inr (inr refl) }) in
      let s1 = named place s τ.a in
      let s2 = named place s1 τ.b in
      let pa = one_named s τ.a r ka.0 ka.1 in
      let pb = one_named s1 τ.b pa.ready kb.0 kb.1 in
      let pc = one_named s2 τ.c pb.ready kc.0 kc.1 in
      let m = number s τ.a in
      let n = number s1 τ.b in
      record {
        ready = pc.ready;
        grows = then_grows pa.grows (then_grows pb.grows pc.grows);
        means = record {
          a = pc.grows.stays τ.a m (pb.grows.stays τ.a m pa.gives);
          b = pc.grows.stays τ.b n pb.gives;
          c = pc.gives;
        };
      }

  -- a map that keeps its numbers keeps what they mean
  pub means_on : {s t : Numbering} → Grows s t → (q : Triangle ℕ) (τ : Triangle GridEdge) → Means s.entries q τ → Means t.entries q τ
  means_on g q τ m = record { a = g.stays τ.a q.a m.a; b = g.stays τ.b q.b m.b; c = g.stays τ.c q.c m.c }

  -- all triangles of a list, of this cell
  pub record Filled (s : Tables) (τs : List (Triangle GridEdge)) : Type 0 where
    pub ready : Ready inside B (added_all place s τs).numbered
    pub grows : Grows s.numbered (added_all place s τs).numbered
    pub old : (j : ℕ) (d : Triangle ℕ) → j < s.count → get_or (added_all place s τs).triangles j d ≡ get_or s.triangles j d
    pub new : (j : ℕ) (d : Triangle ℕ) (d' : Triangle GridEdge) → j < length τs → Means (added_all place s τs).numbered.entries (get_or (added_all place s τs).triangles (s.count + j) d) (get_or τs j d')

  new_at : (t : Tables) (n : ℕ) (τ : Triangle GridEdge) (τs : List (Triangle GridEdge))
      → ((d : Triangle ℕ) → Means t.numbered.entries (get_or t.triangles n d) τ)
      → ((j : ℕ) (d : Triangle ℕ) (d' : Triangle GridEdge) → j < length τs → Means t.numbered.entries (get_or t.triangles (n + 1 + j) d) (get_or τs j d'))
      → (j : ℕ) (d : Triangle ℕ) (d' : Triangle GridEdge) → j < length (τ ∷ τs) → Means t.numbered.entries (get_or t.triangles (n + j) d) (get_or (τ ∷ τs) j d')
  new_at t n τ τs first rest zero d d' b =
      let z : n ≡ n + 0 = omega arith in
      subst (λ (m : ℕ). Means t.numbered.entries (get_or t.triangles m d) τ) z (first d)
  new_at t n τ τs first rest (suc j) d d' b =
      let z : n + 1 + j ≡ n + suc j = omega arith in
      subst (λ (m : ℕ). Means t.numbered.entries (get_or t.triangles m d) (get_or τs j d')) z (rest j d d' (omega arith))

  pub filled : (s : Tables) (τs : List (Triangle GridEdge)) → Ready inside B s.numbered → ((τ : Triangle GridEdge) → In τ τs → Has (cell_triangles inside B) τ)
      → s.count + length τs ≤ length s.triangles → Filled s τs
  unfolding added_all added
  filled s [] r h l = record { ready = r; grows = no_growth s.numbered; old = λ j d b. refl; new = λ j d d' b. absurd (omega arith) }
  filled s (τ ∷ τs) r h l =
      let u = added place s τ in
      let k = all_named s.numbered τ r (h τ (inl refl)) in
      let q = numbers place s.numbered τ in
      let long = length-set s.triangles s.count q in
      let more = filled u τs k.ready (λ σ m. h σ (inr m)) (omega arith) in
      let t = added_all place u τs in
      record {
        ready = more.ready;
        grows = then_grows k.grows more.grows;
        old = λ j d b. more.old j d (omega arith) ∙ get_or-set_other s.triangles s.count j q d (λ e. omega arith);
        new = new_at t s.count τ τs
            (λ d. subst (λ (x : Triangle ℕ). Means t.numbered.entries x τ)
            (sym (more.old s.count d (omega arith) ∙ get_or-set_same s.triangles s.count q d (omega arith)))
            (means_on more.grows q τ k.means))
            more.new;
      }
