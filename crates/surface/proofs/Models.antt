-- A surface as the list of cells that were marched, in their order: every run has such a model. Assumes nothing.
use Rattle.std.proofs.Common.{◌≡◌, ℕ, zero, suc, ◌+◌, ◌-◌, ◌<◌, ◌≤◌, Bool, true, false, cond, eqb, ltb, List, [], ◌∷◌, ◌++◌, length, get_or, set, replicate, Some, None, Ok, Err, Option, Result, sym, refl, ap, ◌∙◌, subst, inl, inr, ⊎_elim, arith, length-append, get_or-set_other, get_or-set_same}
use Rattle.std.specs.List.{ContainsAt as Has, flat_map}
use Rattle.std.proofs.lemmas.List.{flat_map_more, get_or_append_left, get_or-append-add}
use Rattle.std.proofs.lemmas.Bool.{cases_eq, cases_lt, ltb-true, eqb-true, both_ways}
use Rattle.grid.specs.declared.geometry.Point.{Point}
use Rattle.grid.specs.declared.geometry.GridEdge.{GridEdge}
use Rattle.grid.specs.declared.geometry.Triangle.{Triangle}
use Rattle.refusal.specs.declared.refusals.Refusal.{Refusal}
use Rattle.refusal.specs.declared.refusals.Refusal.TheVariants.{Outside, Marched, NoMark, OtherShape}
use Rattle.refusal.specs.declared.refusals.Axis.TheVariants.{X, Y, Z}
use Rattle.grid.specs.Points.{Sides, crossed}
use Rattle.grid.specs.Cells.{cell_count, cell_base, cell_edges, cell_triangles}
use Rattle.grid.specs.Shapes.{shapes_refusal}
use Rattle.grid.specs.EdgeKeys.{vertex_on}
use Rattle.keymap.specs.declared.table.Entry.{Entry}
use Rattle.keymap.specs.Frees.{free}
use Rattle.mesh.specs.declared.records.Vertex.{Vertex}
use Rattle.topology.specs.Crossings.{NoRepeat}
use Rattle.topology.specs.Sides.{none}
use Rattle.topology.proofs.Crossed.{cell_crossings}
use Rattle.topology.proofs.Members.{In, in_has, has_in, in_left, in_right, in_cases}
use Rattle.surface.specs.declared.sizes.Counts.{Counts}
use Rattle.surface.specs.Marches.{State, Field, March, march_refusal, marched, begun, cell_refusal, room_refusal, else_by}
use Rattle.surface.specs.Needs.{need}
use Rattle.surface.specs.Rooms.{room_left}
use Rattle.surface.specs.Runs.{Run, begin, march, other, ask}
use Rattle.surface.specs.Skins.{tiles}
use Rattle.surface.specs.States.{Tables, added_all}
use Rattle.surface.specs.Ties.{Tied}
use Rattle.surface.proofs.Begun.{tied_begun, vertex_on_cleared}
use Rattle.surface.proofs.Growth.{Ready}
use Rattle.surface.proofs.Marching.{Roomy, roomy, added_records, some_none}
use Rattle.surface.proofs.Steady.{Placed, Means, Filled, filled, means_on}
use Rattle.surface.proofs.Ties.{none_some}

pub record Model (f : Field) (s : State) : Type 0 where
  pub sides : s.sides ≡ f.sides
  pub order : List ℕ
  pub once : NoRepeat order
  pub cells : (c : ℕ) → In c order → c < cell_count f.sides
  pub marked : (c : ℕ) → In c order → get_or s.marks c false ≡ true
  pub listed : (c : ℕ) → get_or s.marks c false ≡ true → In c order
  pub tied : Tied s.tables.numbered
  pub placed : Placed f.place s.tables.numbered
  pub crosses : (e : GridEdge) (k : ℕ) → vertex_on s.tables.numbered.entries e ≡ Some k → crossed f.inside e ≡ true
  pub cell_of : (e : GridEdge) (k : ℕ) → vertex_on s.tables.numbered.entries e ≡ Some k → (c : ℕ) × In c order × Has (cell_edges (cell_base f.sides c)) e
  pub carries : (e : GridEdge) (c : ℕ) → In c order → Has (cell_edges (cell_base f.sides c)) e → crossed f.inside e ≡ true → (k : ℕ) × (vertex_on s.tables.numbered.entries e ≡ Some k)
  pub count : s.tables.count ≡ length (flat_map (tiles f) order)
  pub fits : s.tables.count ≤ length s.tables.triangles
  pub means : (i : ℕ) (d : Triangle ℕ) → i < s.tables.count → Means s.tables.numbered.entries (get_or s.tables.triangles i d) (get_or (flat_map (tiles f) order) i none)

-- of no cells
pub get_d_replicate : (n c : ℕ) → get_or (replicate n false) c false ≡ false
get_d_replicate zero c = refl
get_d_replicate (suc n) zero = refl
get_d_replicate (suc n) (suc c) = get_d_replicate n c

pub true_false : {A : Type 0} (b : Bool) → b ≡ true → b ≡ false → A
true_false b p q = absurd (both_ways b q p)

model_begun : (f : Field) (marks entries : ℕ) (vs : List Vertex) (ts : List (Triangle ℕ)) → Model f (begun f.sides marks entries vs ts)
unfolding begun
model_begun f marks entries vs ts = record {
  sides = refl;
  order = [];
  once = tt;
  cells = λ c h. absurd h;
  marked = λ c h. absurd h;
  listed = λ c h. true_false (get_or (replicate marks false) c false) h (get_d_replicate marks c);
  tied = tied_begun entries vs;
  placed = λ k d h. absurd (omega arith);
  crosses = λ e k h. absurd (none_some _ k (vertex_on_cleared entries e) h);
  cell_of = λ e k h. absurd (none_some _ k (vertex_on_cleared entries e) h);
  carries = λ e c h. absurd h;
  count = refl;
  fits = omega arith;
  means = λ i d h. absurd (omega arith);
}

-- what an accepted march found
pub record Accepted (f : Field) (s : State) (cell : ℕ) : Type 0 where
  pub shape : shapes_refusal s.sides f.sides ≡ None
  pub below : cell < cell_count s.sides
  pub mark : cell < length s.marks
  pub unmarked : get_or s.marks cell false ≡ false
  pub room : room_refusal s.tables (need f.inside s.tables.numbered.entries (cell_base s.sides cell)) cell ≡ None

else_none : (o q : Option Refusal) → else_by o q ≡ None → (o ≡ None) × (q ≡ None)
else_none (Some e) q h = absurd (some_none e h)
else_none None q h = (refl, h)

cond_none : (b : Bool) (o : Option Refusal) (e : Refusal) → cond b o (Some e) ≡ None → (b ≡ true) × (o ≡ None)
cond_none true o e h = (refl, h)
cond_none false o e h = absurd (some_none e h)

cond_some : (b : Bool) (e : Refusal) → cond b (Some e) None ≡ None → b ≡ false
cond_some true e h = absurd (some_none e h)
cond_some false e h = refl

pub accepted : (f : Field) (s : State) (cell : ℕ) → march_refusal f s cell ≡ None → Accepted f s cell
unfolding march_refusal
accepted f s cell h =
    let r = room_refusal s.tables (need f.inside s.tables.numbered.entries (cell_base s.sides cell)) cell in
    let a = else_none (shapes_refusal s.sides f.sides) (else_by (cell_refusal s cell) r) h in
    let b = else_none (cell_refusal s cell) r a.1 in
    let m : Option Refusal = cond (get_or s.marks cell false) (Some (Marched cell)) None in
    let l : Option Refusal = cond (ltb cell (length s.marks)) m (Some (NoMark cell)) in
    let c = cond_none (ltb cell (cell_count s.sides)) l (Outside cell) b.0 in
    let d = cond_none (ltb cell (length s.marks)) m (NoMark cell) c.1 in
    record {
      shape = a.0;
      below = ltb-true cell (cell_count s.sides) c.0;
      mark = ltb-true cell (length s.marks) d.0;
      unmarked = cond_some (get_or s.marks cell false) (Marched cell) d.1;
      room = b.1;
    }

-- shapes that are not refused are the same
pub same_shape : (s t : Sides) → shapes_refusal s t ≡ None → s ≡ t
same_shape s t h =
    let k : Option Refusal = cond (eqb s.nz t.nz) None (Some (OtherShape Z)) in
    let l : Option Refusal = cond (eqb s.ny t.ny) k (Some (OtherShape Y)) in
    let x = cond_none (eqb s.nx t.nx) l (OtherShape X) h in
    let y = cond_none (eqb s.ny t.ny) k (OtherShape Y) x.1 in
    let z = cond_none (eqb s.nz t.nz) None (OtherShape Z) y.1 in
    let ex = eqb-true s.nx t.nx x.0 in
    let ey = eqb-true s.ny t.ny y.0 in
    let ez = eqb-true s.nz t.nz z.0 in
    (λ i. record { nx = ex i; ny = ey i; nz = ez i })

norepeat_more : (xs : List ℕ) (x : ℕ) → NoRepeat xs → (In x xs → ⊥) → NoRepeat (xs ++ x ∷ [])
norepeat_more [] x h n = (λ k. absurd (let b = k.1 in omega arith), tt)
norepeat_more (y ∷ ys) x h n = (
  λ k. ⊎_elim (λ i. h.0 (in_has ys y i)) (λ i. ⊎_elim (λ p. n (inl (sym p))) (λ e. absurd e) i) (in_cases ys (x ∷ []) y (has_in (ys ++ x ∷ []) y k)),
  norepeat_more ys x h.1 (λ i. n (inr i)),
)

-- one cell more
module _ (f : Field) (s : State) (cell : ℕ) (m : Model f s) (a : Accepted f s cell) where
  abbrev B : Point
  B = cell_base f.sides cell

  abbrev es : List (Option (Entry GridEdge))
  es = s.tables.numbered.entries

  abbrev after : Tables
  after = added_all f.place s.tables (tiles f cell)

  room : Roomy (need f.inside es B) (free es) (room_left (length s.tables.numbered.vertices) s.tables.numbered.count) (room_left (length s.tables.triangles) s.tables.count)
  room = roomy _ _ _ _ cell (subst (λ (n : Sides). room_refusal s.tables (need f.inside es (cell_base n cell)) cell ≡ None) m.sides a.room)

  ready : Ready f.inside B s.tables.numbered
  unfolding need
  ready = let r = room in record { tied = m.tied; entry = r.entry; vertex = r.vertex }

  enough : s.tables.count + length (tiles f cell) ≤ length s.tables.triangles
  unfolding need tiles
  enough = let r = room.triangle in let l = m.fits in omega arith

  full : Filled f.place f.inside B s.tables (tiles f cell)
  unfolding tiles
  full = filled f.place f.inside B s.tables (cell_triangles f.inside B) ready (λ τ i. in_has _ τ i) enough

  abbrev all : List (Triangle GridEdge)
  all = flat_map (tiles f) m.order

  joined_now : flat_map (tiles f) (m.order ++ cell ∷ []) ≡ flat_map (tiles f) m.order ++ tiles f cell
  joined_now = sym (flat_map_more (tiles f) [] m.order cell)

  count_now : after.count ≡ length (flat_map (tiles f) (m.order ++ cell ∷ []))
  count_now =
      let r = (added_records f.place s.tables (tiles f cell)).0 in
      let c = m.count in
      let l = length-append (flat_map (tiles f) m.order) (tiles f cell) in
      let j = ap length joined_now in
      omega arith

  new_vertex : (e : GridEdge) → Has (cell_edges B) e → crossed f.inside e ≡ true → (k : ℕ) × (vertex_on after.numbered.entries e ≡ Some k)
  unfolding tiles
  new_vertex e h c =
      let n = (cell_crossings f.inside B e).1 h c in
      let j = n.has in
      let τ = n.triangle in
      let q : Triangle ℕ = get_or after.triangles (s.tables.count + j.0) (record { a = 0; b = 0; c = 0 }) in
      let w : Means after.numbered.entries q τ = subst (λ (σ : Triangle GridEdge). Means after.numbered.entries q σ) (j.2 τ) (full.new j.0 (record { a = 0; b = 0; c = 0 }) τ j.1) in
      elim n.corner [
        | inl p ↦ (q.a, ap (vertex_on after.numbered.entries) (sym p) ∙ w.a)
        | inr (inl p) ↦ (q.b, ap (vertex_on after.numbered.entries) (sym p) ∙ w.b)
        | inr (inr p) ↦ (q.c, ap (vertex_on after.numbered.entries) (sym p) ∙ w.c)
      ]

  means_now : (i : ℕ) (d : Triangle ℕ) → i < after.count → Means after.numbered.entries (get_or after.triangles i d) (get_or (flat_map (tiles f) (m.order ++ cell ∷ [])) i none)
  means_now i d h =
      let r = (added_records f.place s.tables (tiles f cell)).0 in
      let c = m.count in
      let P : Triangle ℕ → Triangle GridEdge → Type 0 = λ q τ. Means after.numbered.entries q τ in
      subst (λ (l : List (Triangle GridEdge)). P (get_or after.triangles i d) (get_or l i none)) (sym joined_now)
      (⊎_elim
      (λ b. subst (λ (q : Triangle ℕ). P q (get_or (all ++ tiles f cell) i none)) (sym (full.old i d b))
      (subst (λ (τ : Triangle GridEdge). P (get_or s.tables.triangles i d) τ) (sym (get_or_append_left all (tiles f cell) none i (omega arith)))
      (means_on f.place f.inside B full.grows _ _ (m.means i d b))))
      (λ b.
      let j = i - s.tables.count in
      let p : s.tables.count + j ≡ i = omega arith in
      let q : length all + j ≡ i = omega arith in
      subst (λ (k : ℕ). P (get_or after.triangles k d) (get_or (all ++ tiles f cell) i none)) p
      (subst (λ (τ : Triangle GridEdge). P (get_or after.triangles (s.tables.count + j) d) τ)
      (sym (ap (λ (k : ℕ). get_or (all ++ tiles f cell) k none) (sym q) ∙ get_or-append-add all (tiles f cell) j none))
      (full.new j d none (omega arith))))
      (cases_lt i s.tables.count))

  model_more : Model f (record { sides = s.sides; marks = set s.marks cell true; tables = after })
  model_more = record {
    sides = m.sides;
    order = m.order ++ cell ∷ [];
    once = norepeat_more m.order cell m.once (λ i. true_false (get_or s.marks cell false) (m.marked cell i) a.unmarked);
    cells = λ c i. ⊎_elim (m.cells c) (λ k. ⊎_elim
        (λ p. let b = subst (λ (n : Sides). cell < cell_count n) m.sides a.below in subst (λ (k : ℕ). k < cell_count f.sides) p b)
        (λ e. absurd e) k) (in_cases m.order (cell ∷ []) c i);
    marked = λ c i. ⊎_elim
        (λ p. ap (λ (k : ℕ). get_or (set s.marks cell true) k false) p ∙ get_or-set_same s.marks cell true false a.mark)
        (λ ne. get_or-set_other s.marks cell c true false ne ∙ ⊎_elim (m.marked c) (λ k. ⊎_elim (λ p. absurd (ne (sym p))) (λ e. absurd e) k) (in_cases m.order (cell ∷ []) c i))
        (cases_eq c cell);
    listed = λ c h. ⊎_elim
        (λ p. in_right m.order (cell ∷ []) c (inl (sym p)))
        (λ ne. in_left m.order (cell ∷ []) c (m.listed c (sym (get_or-set_other s.marks cell c true false ne) ∙ h)))
        (cases_eq c cell);
    tied = full.ready.tied;
    placed = full.grows.placed m.placed;
    crosses = λ e k h. ⊎_elim (m.crosses e k) (λ n. n.1) (full.grows.fresh e k h);
    cell_of = λ e k h. ⊎_elim
        (λ o. let c = m.cell_of e k o in (c.0, in_left m.order (cell ∷ []) c.0 c.1, c.2))
        (λ n. (cell, in_right m.order (cell ∷ []) cell (inl refl), n.0))
        (full.grows.fresh e k h);
    carries = λ e c i h x. ⊎_elim
        (λ o. let k = m.carries e c o h x in (k.0, full.grows.stays e k.0 k.1))
        (λ n. ⊎_elim (λ p. new_vertex e (subst (λ (k : ℕ). Has (cell_edges (cell_base f.sides k)) e) (sym p) h) x) (λ e. absurd e) n)
        (in_cases m.order (cell ∷ []) c i);
    count = count_now;
    fits = (let r = added_records f.place s.tables (tiles f cell) in let x = r.0 in let y = r.1 in let z = enough in omega arith);
    means = means_now;
  }

pub model_marched : (f : Field) (s : State) (cell : ℕ) → Model f s → march_refusal f s cell ≡ None → Model f (marched f s cell)
unfolding marched tiles
model_marched f s cell m h =
    subst (λ (n : Sides). Model f (record { sides = s.sides; marks = set s.marks cell true; tables = added_all f.place s.tables (cell_triangles f.inside (cell_base n cell)) }))
    (sym m.sides) (model_more f s cell m (accepted f s cell h))

model_march : (f : Field) (s t : State) (cell : ℕ) (answer : Result Counts Refusal) → Model f s → March f s cell answer t → Model f t
model_march f s t cell (Ok n) m h = subst (Model f) (sym h.2) (model_marched f s cell m h.0)
model_march f s t cell (Err e) m h = subst (Model f) (sym h.1) m

model_other : (f g : Field) (s t : State) (cell : ℕ) (answer : Result Counts Refusal) → (g.sides ≡ f.sides → ⊥) → Model f s → March g s cell answer t → Model f t
model_other f g s t cell (Ok n) d m h = absurd (d (sym (same_shape s.sides g.sides (accepted g s cell h.0).shape) ∙ m.sides))
model_other f g s t cell (Err e) d m h = subst (Model f) (sym h.1) m

-- every run has a model
pub modelled : (f : Field) (s : State) → Run f s → Model f s
modelled f s (begin marks entries vs ts) = model_begun f marks entries vs ts
modelled f t (march {s = s} r cell answer h) = model_march f s t cell answer (modelled f s r) h
modelled f t (other {s = s} r g d cell answer h) = model_other f g s t cell answer d (modelled f s r) h
modelled f t (ask {s = s} r h) = subst (Model f) (sym h) (modelled f s r)
