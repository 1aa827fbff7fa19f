-- Marching a cell adds as many vertices as it needs, and there is room for each. Assumes nothing.
use Rattle.std.proofs.Common.{◌≡◌, ℕ, zero, suc, ◌+◌, ◌<◌, ◌≤◌, Bool, true, false, cond, not, ◌&&◌, ◌⊎◌, List, [], ◌∷◌, length, get_or, take, is_some, Some, None, count_by, Option, sym, refl, ap, ◌∙◌, subst, inl, inr, ⊎_elim, add-one, arith, length-set}
use Rattle.std.specs.List.{ContainsAt as Has}
use Rattle.std.proofs.lemmas.List.{get_or_default, take_all}
use Rattle.std.proofs.lemmas.List.Sums.{fold_more, get_or-le-sum_by, sum_by-cons}
use Rattle.std.proofs.lemmas.Bool.{cases_Bool, cases_eq}
use Rattle.grid.specs.declared.geometry.Point.{Point}
use Rattle.grid.specs.declared.geometry.GridEdge.{GridEdge}
use Rattle.grid.specs.declared.geometry.Triangle.{Triangle}
use Rattle.grid.specs.Points.{crossed}
use Rattle.grid.specs.Cells.{cell_edges, cell_triangles}
use Rattle.grid.specs.EdgeKeys.{vertex_on, with_vertex}
use Rattle.keymap.specs.declared.table.Entry.{Entry}
use Rattle.keymap.specs.Frees.{free}
use Rattle.mesh.specs.declared.records.Coordinates.{Coordinates}
use Rattle.topology.specs.Crossings.{CornerOf}
use Rattle.topology.proofs.Crossed.{cell_crossings, one_less}
use Rattle.surface.specs.Rooms.{room_left}
use Rattle.surface.specs.Needs.{bare, wanting}
use Rattle.surface.specs.Fits.{Fits, FitsTriangle, FitsAll}
use Rattle.surface.specs.States.{Numbering, Tables, named, named_all, added, added_all}
use Rattle.surface.specs.Ties.{Tied}
use Rattle.surface.proofs.Ties.{same_edge, held_now, others_kept, one_taken, named_kept, named_next, tied_next}

-- the crossed edges of the cell at B that have no vertex
abbrev pub wants : (Point → Bool) → Point → List (Option (Entry GridEdge)) → ℕ
wants inside B es = count_by (wanting inside es) (cell_edges B)

-- there is room for them
pub record Ready (inside : Point → Bool) (B : Point) (s : Numbering) : Type 0 where
  pub tied : Tied s
  pub entry : wants inside B s.entries ≤ free s.entries
  pub vertex : wants inside B s.entries ≤ room_left (length s.vertices) s.count

-- what a step of naming leaves: there still is room, the wants and the vertices add up to what they did, and no edge loses its vertex
pub record Step (inside : Point → Bool) (B : Point) (s t : Numbering) : Type 0 where
  pub ready : Ready inside B t
  pub sum : wants inside B t.entries + t.count ≡ wants inside B s.entries + s.count
  pub stays : (x : GridEdge) → is_some (vertex_on s.entries x) ≡ true → is_some (vertex_on t.entries x) ≡ true

-- a member that passes counts
count_some : {X : Type 0} (f : X → Bool) (xs : List X) (x : X) → Has xs x → f x ≡ true → 0 < count_by f xs
count_some f xs x h t =
    let k = h.0 in
    let e : ◌≡◌ {A = ℕ} (cond (f (get_or xs k x)) 1 0) 1 = ap (λ (b : Bool). cond {A = ℕ} b 1 0) (ap f (h.2 x) ∙ t) in
    let l = get_or-le-sum_by (λ y. cond (f y) 1 0) xs k x h.1 in
    omega arith

-- none that fails does
count_none : {X : Type 0} (f : X → Bool) (xs : List X) → ((x : X) → Has xs x → f x ≡ false) → count_by f xs ≡ 0
count_none f [] h = refl
count_none f (x ∷ xs) h =
    let e : ◌≡◌ {A = ℕ} (cond (f x) 1 0) 0 = ap (λ (b : Bool). cond {A = ℕ} b 1 0) (h x (0, omega arith, λ d. refl)) in
    let i = count_none f xs (λ y m. h y (suc m.0, (let b = m.1 in omega arith), λ d. m.2 d)) in
    sum_by-cons (λ y. cond (f y) 1 0) x xs ∙ omega arith

has_at : {X : Type 0} (xs : List X) (i : ℕ) (d : X) → i < length xs → Has xs (get_or xs i d)
has_at xs i d b = (i, b, λ e. get_or_default xs i e d b)

pub option_cases : (o : Option ℕ) → ((k : ℕ) × (o ≡ Some k)) ⊎ (o ≡ None)
option_cases (Some k) = inl (k, refl)
option_cases None = inr refl

module _ (place : GridEdge → Coordinates) (inside : Point → Bool) (B : Point) where
  bare_wanting : (es : List (Option (Entry GridEdge))) (e : GridEdge) → crossed inside e ≡ true → vertex_on es e ≡ None → wanting inside es e ≡ true
  bare_wanting es e c n = (λ i. c i && not (is_some (n i)))

  has_none : (es : List (Option (Entry GridEdge))) (e : GridEdge) (k : ℕ) → vertex_on es e ≡ Some k → wanting inside es e ≡ false
  has_none es e k h = ap (λ (o : Option ℕ). crossed inside e && not (is_some o)) h ∙ and_false (crossed inside e)
    where
      and_false : (b : Bool) → b && false ≡ false
      and_false true = refl
      and_false false = refl

  module _ (s : Numbering) (e : GridEdge) (r : Ready inside B s) (has : Has (cell_edges B) e) (c : crossed inside e ≡ true) where
    wanted : vertex_on s.entries e ≡ None → 0 < wants inside B s.entries
    wanted n = count_some (wanting inside s.entries) (cell_edges B) e has (bare_wanting s.entries e c n)

    -- a crossed edge of the cell can be named
    pub fits : Fits s e
    fits = record {
      entry = λ n. let w = wanted n in let a = r.entry in omega arith;
      vertex = λ n. let w = wanted n in let a = r.vertex in omega arith;
    }

    old : (k : ℕ) → vertex_on s.entries e ≡ Some k → Step inside B s (named place s e) × (is_some (vertex_on (named place s e).entries e) ≡ true)
    old k h =
        subst (λ (t : Numbering). Step inside B s t × (is_some (vertex_on t.entries e) ≡ true)) (sym (named_kept place s e k h))
        (record { ready = r; sum = refl; stays = λ x g. g }, ap is_some h)

    new : vertex_on s.entries e ≡ None → Step inside B s (named place s e) × (is_some (vertex_on (named place s e).entries e) ≡ true)
    new n =
        let room = fits.entry n in
        let left = fits.vertex n in
        let sound = r.tied.sound in
        let es : List (Option (Entry GridEdge)) = with_vertex s.entries e s.count in
        let here : vertex_on es e ≡ Some s.count = held_now s.entries sound e s.count n room in
        let kept = others_kept s.entries sound e s.count n room in
        let less : wants inside B s.entries ≡ wants inside B es + 1 =
        one_less B (wanting inside s.entries) (wanting inside es) e has (bare_wanting s.entries e c n) (has_none es e s.count here)
        (λ x m d. ap (λ (o : Option ℕ). crossed inside x && not (is_some o)) (kept x d)) in
        let taken = one_taken s.entries sound e s.count n room in
        let long = length-set s.vertices s.count (record { edge = e; at = place e }) in
        let a = r.entry in
        let b = r.vertex in
        subst (λ (t : Numbering). Step inside B s t × (is_some (vertex_on t.entries e) ≡ true)) (sym (named_next place s e n)) (
          record {
            ready = record { tied = tied_next place s e r.tied n room left; entry = omega arith; vertex = omega arith };
            sum = omega arith;
            stays = λ x g. ⊎_elim
                (λ p. ap (λ (y : GridEdge). is_some (vertex_on es y)) p ∙ ap is_some here)
                (λ d. ap is_some (kept x d) ∙ g)
                (same_edge x e);
          },
          ap is_some here,
        )

    pub step : Step inside B s (named place s e) × (is_some (vertex_on (named place s e).entries e) ≡ true)
    step = ⊎_elim (λ o. old o.0 o.1) new (option_cases (vertex_on s.entries e))

  then_step : {s t u : Numbering} → Step inside B s t → Step inside B t u → Step inside B s u
  then_step p q = record { ready = q.ready; sum = q.sum ∙ p.sum; stays = λ x h. q.stays x (p.stays x h) }

  -- the corners of a triangle of the cell
  pub record Done (s : Numbering) (τ : Triangle GridEdge) : Type 0 where
    pub fit : FitsTriangle place s τ
    pub whole : Step inside B s (named_all place s τ)
    pub all : (e : GridEdge) → CornerOf τ e → is_some (vertex_on (named_all place s τ).entries e) ≡ true

  pub triangle_done : (s : Numbering) (τ : Triangle GridEdge) → Ready inside B s → Has (cell_triangles inside B) τ → Done s τ
  triangle_done s τ r h =
      let ka = (cell_crossings inside B τ.a).0 (record { triangle = τ; has = h; corner = inl refl }) in
      let kb = (cell_crossings inside B τ.b).0 (record { triangle = τ; has = h; corner = inr (inl refl) }) in
      let kc = (cell_crossings inside B τ.c).0 (record { triangle = τ; has = h; corner = inr (inr refl) }) in
      let s1 = named place s τ.a in
      let s2 = named place s1 τ.b in
      let pa = step s τ.a r ka.0 ka.1 in
      let pb = step s1 τ.b pa.0.ready kb.0 kb.1 in
      let pc = step s2 τ.c pb.0.ready kc.0 kc.1 in
      record {
        fit = record { a = fits s τ.a r ka.0 ka.1; b = fits s1 τ.b pa.0.ready kb.0 kb.1; c = fits s2 τ.c pb.0.ready kc.0 kc.1 };
        whole = then_step pa.0 (then_step pb.0 pc.0);
        all = λ e k. ⊎_elim
            (λ p. subst (λ (x : GridEdge). is_some (vertex_on (named_all place s τ).entries x) ≡ true) p (pc.0.stays τ.a (pb.0.stays τ.a pa.1)))
            (⊎_elim
            (λ p. subst (λ (x : GridEdge). is_some (vertex_on (named_all place s τ).entries x) ≡ true) p (pc.0.stays τ.b pb.1))
            (λ p. subst (λ (x : GridEdge). is_some (vertex_on (named_all place s τ).entries x) ≡ true) p pc.1))
            k;
      }

  module _ (s : Tables) (r : Ready inside B s.numbered) where
    τs : List (Triangle GridEdge)
    τs = cell_triangles inside B

    -- the tables after the first i triangles
    abbrev upto : ℕ → Tables
    upto i = added_all place s (take i (cell_triangles inside B))

    none_yet : upto 0 ≡ s
    unfolding added_all
    none_yet = refl

    one_more : (i : ℕ) (d : Triangle GridEdge) → i < length (cell_triangles inside B) → (upto (suc i)).numbered ≡ named_all place (upto i).numbered (get_or (cell_triangles inside B) i d)
    unfolding added_all added
    one_more i d b = ap (λ (t : Tables). t.numbered) (ap (λ (n : ℕ). upto n) (sym (add-one i)) ∙ fold_more (added place) s (cell_triangles inside B) i d b)

    pub record Upto (i : ℕ) : Type 0 where
      pub whole : Step inside B s.numbered (upto i).numbered
      pub all : (j : ℕ) (d : Triangle GridEdge) → j < i → (e : GridEdge) → CornerOf (get_or (cell_triangles inside B) j d) e → is_some (vertex_on (upto i).numbered.entries e) ≡ true

    done_at : (i : ℕ) (d : Triangle GridEdge) → i < length (cell_triangles inside B) → Upto i → Done (upto i).numbered (get_or (cell_triangles inside B) i d)
    done_at i d b u = triangle_done (upto i).numbered (get_or (cell_triangles inside B) i d) u.whole.ready (has_at (cell_triangles inside B) i d b)

    pub reached : (i : ℕ) (d : Triangle GridEdge) → i ≤ length (cell_triangles inside B) → Upto i
    reached zero d h = record {
      whole = subst (λ (t : Tables). Step inside B s.numbered t.numbered) (sym none_yet) (record { ready = r; sum = refl; stays = λ x g. g });
      all = λ j e b. absurd (omega arith);
    }
    reached (suc i) d h =
        let b : i < length (cell_triangles inside B) = omega arith in
        let u = reached i d (omega arith) in
        let k = done_at i d b u in
        let p = one_more i d b in
        record {
          whole = subst (λ (t : Numbering). Step inside B s.numbered t) (sym p) (then_step u.whole k.whole);
          all = λ j d' l e m. subst (λ (t : Numbering). is_some (vertex_on t.entries e) ≡ true) (sym p)
              (⊎_elim
              (λ q. k.all e (subst (λ (τ : Triangle GridEdge). CornerOf τ e) (ap (λ (n : ℕ). get_or (cell_triangles inside B) n d') q ∙ get_or_default (cell_triangles inside B) i d' d b) m))
              (λ ne. k.whole.stays e (u.all j d' (omega arith) e m))
              (cases_eq j i));
        }

    -- the corners of all triangles of the cell can be named, one after the other
    pub fits_all : FitsAll place s (cell_triangles inside B)
    fits_all i d b = (done_at i d b (reached i d (omega arith))).fit

    no_triangle : Triangle GridEdge
    no_triangle = record { a = no_edge; b = no_edge; c = no_edge }
      where
        no_edge : GridEdge
        no_edge = record { low = record { x = 0; y = 0; z = 0 }; direction = 0 }

    last : Upto (length (cell_triangles inside B))
    last = reached (length (cell_triangles inside B)) no_triangle (omega arith)

    final : Step inside B s.numbered (added_all place s (cell_triangles inside B)).numbered
    final = subst (λ (l : List (Triangle GridEdge)). Step inside B s.numbered (added_all place s l).numbered) (take_all (length (cell_triangles inside B)) (cell_triangles inside B) (omega arith)) last.whole

    -- then each crossed edge of the cell has a vertex
    all_named : (e : GridEdge) → Has (cell_edges B) e → crossed inside e ≡ true → is_some (vertex_on (added_all place s (cell_triangles inside B)).numbered.entries e) ≡ true
    all_named e h c =
        let m = (cell_crossings inside B e).1 h c in
        let a = m.has in
        subst (λ (l : List (Triangle GridEdge)). is_some (vertex_on (added_all place s l).numbered.entries e) ≡ true) (take_all (length (cell_triangles inside B)) (cell_triangles inside B) (omega arith))
        (last.all a.0 no_triangle a.1 e (subst (λ (τ : Triangle GridEdge). CornerOf τ e) (sym (a.2 no_triangle)) m.corner))

    satisfied : wants inside B (added_all place s (cell_triangles inside B)).numbered.entries ≡ 0
    satisfied = count_none _ (cell_edges B) (λ e h. ⊎_elim
        (λ c. (λ i. c i && not (all_named e h c i)))
        (λ c. ap (λ (b : Bool). b && bare (added_all place s (cell_triangles inside B)).numbered.entries e) c)
        (cases_Bool (crossed inside e)))

    -- so many vertices came as the cell needed, and the tie holds
    pub grown : (added_all place s (cell_triangles inside B)).numbered.count ≡ s.numbered.count + wants inside B s.numbered.entries
    grown = let z = satisfied in let f = final.sum in omega arith
