-- What the calls of a march add up to. Assumes nothing.
use Rattle.std.proofs.Common.{◌≡◌, ℕ, ◌+◌, ◌≤◌, Bool, true, false, cond, ◌&&◌, leb, List, [], ◌∷◌, length, set, Some, None, Ok, count_by, filter, Option, sym, refl, ap, ◌∙◌, subst, arith, length-set}
use mathlib.Core.Logic.{∥∥₁_elim}
use native.Mathlib.Bridge.{le_prop}
use native.Mathlib.Nat.{ℕ_set}
use Rattle.std.proofs.lemmas.List.{nil_from_length}
use Rattle.std.proofs.lemmas.List.Sums.{sum_by-cons}
use Rattle.std.proofs.lemmas.Bool.{leb-true}
use Rattle.grid.specs.declared.geometry.Point.{Point}
use Rattle.grid.specs.declared.geometry.GridEdge.{GridEdge}
use Rattle.grid.specs.declared.geometry.Triangle.{Triangle}
use Rattle.refusal.specs.declared.refusals.Refusal.{Refusal}
use Rattle.refusal.specs.declared.refusals.Refusal.TheVariants.{EntryRoom, VertexRoom, TriangleRoom}
use Rattle.grid.specs.Points.{crossed}
use Rattle.grid.specs.Cells.{cell_base, cell_edges, cell_triangles}
use Rattle.grid.specs.Patterns.{corner_flags, flag_edges, flag_triangles}
use Rattle.grid.specs.Shapes.{shapes_refusal}
use Rattle.grid.proofs.Patterns.{edges_by_flags, triangles_by_flags}
use Rattle.keymap.specs.declared.table.Entry.{Entry}
use Rattle.keymap.specs.Frees.{free}
use Rattle.mesh.specs.declared.records.Coordinates.{Coordinates}
use Rattle.surface.specs.declared.sizes.Counts.{Counts}
use Rattle.surface.specs.Fits.{Fits, FitsAll}
use Rattle.surface.specs.Needs.{bare, wanting, need, flag_need, lack}
use Rattle.surface.specs.Marches.{State, Field, cell_refusal, room_refusal, else_by, march_refusal, marched, March}
use Rattle.surface.specs.Rooms.{room_left}
use Rattle.surface.specs.States.{Numbering, Tables, tables, added, added_all}
use Rattle.surface.specs.Ties.{Tied}
use Rattle.surface.proofs.Growth.{Ready, fits_all, grown}

-- the need of a cell, by the flags of its corners
count_kept : {X : Type 0} (p q : X → Bool) (xs : List X) → count_by p (filter q xs) ≡ count_by (λ x. q x && p x) xs
count_kept p q [] = refl
count_kept p q (x ∷ xs) =
    chosen (q x)
    ∙ ap (λ (n : ℕ). cond (q x && p x) 1 0 + n) (count_kept p q xs)
    ∙ sym (sum_by-cons (λ y. cond (q y && p y) 1 0) x xs)
  where
    chosen : (b : Bool) → count_by p (cond b (x ∷ filter q xs) (filter q xs)) ≡ cond (b && p x) 1 0 + count_by p (filter q xs)
    chosen true = sum_by-cons (λ y. cond (p y) 1 0) x (filter q xs)
    chosen false = omega arith

pub need_by_flags : (inside : Point → Bool) (es : List (Option (Entry GridEdge))) (B C : Point) (flags : List Bool) → C ≡ B → flags ≡ corner_flags inside C → flag_need es flags C ≡ need inside es B
unfolding flag_need need
need_by_flags inside es B C flags p f =
    ap (λ (l : List Bool). flag_need es l C) f ∙ ap (λ (q : Point). flag_need es (corner_flags inside q) q) p
    ∙ (λ i. record {
      vertices = (ap (count_by (bare es)) (edges_by_flags inside B) ∙ count_kept (bare es) (crossed inside) (cell_edges B)) i;
      triangles = ap length (triangles_by_flags inside B) i;
    })

pub list_by_flags : (inside : Point → Bool) (B C : Point) (flags : List Bool) → C ≡ B → flags ≡ corner_flags inside C → flag_triangles flags C ≡ cell_triangles inside B
list_by_flags inside B C flags p f =
    ap (λ (l : List Bool). flag_triangles l C) f ∙ triangles_by_flags inside C ∙ ap (cell_triangles inside) p

-- a need and triangles that are those of the cell at B
pub record Listed (inside : Point → Bool) (es : List (Option (Entry GridEdge))) (B : Point) (n : Counts) (τs : List (Triangle GridEdge)) : Type 0 where
  pub need_is : n ≡ need inside es B
  pub list_is : τs ≡ cell_triangles inside B

pub listed : (inside : Point → Bool) (es : List (Option (Entry GridEdge))) (B C : Point) (flags : List Bool) (edges : List GridEdge) (τs : List (Triangle GridEdge)) (n : Counts)
    → C ≡ B → flags ≡ corner_flags inside C → edges ≡ flag_edges flags C → τs ≡ flag_triangles flags C
    → n.vertices ≡ count_by (bare es) edges → n.triangles ≡ length τs → Listed inside es B n τs
unfolding flag_need
listed inside es B C flags edges τs n p f e t v w = record {
  need_is = (λ i. record { vertices = (v ∙ ap (count_by (bare es)) e) i; triangles = (w ∙ ap length t) i }) ∙ need_by_flags inside es B C flags p f;
  list_is = t ∙ list_by_flags inside B C flags p f;
}

-- why a march is refused
module _ (f : Field) (s : State) (cell : ℕ) where
  pub refused_shape : (e : Refusal) → shapes_refusal s.sides f.sides ≡ Some e → march_refusal f s cell ≡ Some e
  unfolding march_refusal
  refused_shape e h = ap (λ (o : Option Refusal). else_by o (else_by (cell_refusal s cell) (room_refusal s.tables (need f.inside s.tables.numbered.entries (cell_base s.sides cell)) cell))) h

  pub past_shape : shapes_refusal s.sides f.sides ≡ None → (o : Option Refusal) → else_by (cell_refusal s cell) (room_refusal s.tables (need f.inside s.tables.numbered.entries (cell_base s.sides cell)) cell) ≡ o → march_refusal f s cell ≡ o
  unfolding march_refusal
  past_shape h o k = ap (λ (q : Option Refusal). else_by q (else_by (cell_refusal s cell) (room_refusal s.tables (need f.inside s.tables.numbered.entries (cell_base s.sides cell)) cell))) h ∙ k

  pub refused_cell : (e : Refusal) → shapes_refusal s.sides f.sides ≡ None → cell_refusal s cell ≡ Some e → march_refusal f s cell ≡ Some e
  refused_cell e h k = past_shape h (Some e) (ap (λ (q : Option Refusal). else_by q (room_refusal s.tables (need f.inside s.tables.numbered.entries (cell_base s.sides cell)) cell)) k)

  -- past the cell, room alone decides
  pub by_room : (n : Counts) (o : Option Refusal) → shapes_refusal s.sides f.sides ≡ None → cell_refusal s cell ≡ None
      → n ≡ need f.inside s.tables.numbered.entries (cell_base s.sides cell) → room_refusal s.tables n cell ≡ o → march_refusal f s cell ≡ o
  by_room n o h k e r =
      past_shape h o
      (ap (λ (q : Option Refusal). else_by q (room_refusal s.tables (need f.inside s.tables.numbered.entries (cell_base s.sides cell)) cell)) k
      ∙ ap (λ (m : Counts). room_refusal s.tables m cell) (sym e) ∙ r)

-- where nothing is lacking there is room
pub record Roomy (n : Counts) (entries vertices triangles : ℕ) : Type 0 where
  pub entry : n.vertices ≤ entries
  pub vertex : n.vertices ≤ vertices
  pub triangle : n.triangles ≤ triangles

pub some_none : (e : Refusal) → Some e ≡ None → ⊥
some_none e p = let z : ◌≡◌ {A = ℕ} 0 1 = cc in omega arith

pub roomy : (n : Counts) (entries vertices triangles cell : ℕ) → lack n entries vertices triangles cell ≡ None → Roomy n entries vertices triangles
roomy n entries vertices triangles cell h = by_entry (leb n.vertices entries) refl
  where
    by_triangle : leb n.vertices entries ≡ true → leb n.vertices vertices ≡ true → (b : Bool) → leb n.triangles triangles ≡ b → Roomy n entries vertices triangles
    by_triangle p q true r = record { entry = leb-true n.vertices entries p; vertex = leb-true n.vertices vertices q; triangle = leb-true n.triangles triangles r }
    by_triangle p q false r =
        absurd (some_none (TriangleRoom cell)
        (sym (λ i. cond (p i) (cond (q i) (cond (r i) None (Some (TriangleRoom cell))) (Some (VertexRoom cell))) (Some (EntryRoom cell))) ∙ h))

    by_vertex : leb n.vertices entries ≡ true → (b : Bool) → leb n.vertices vertices ≡ b → Roomy n entries vertices triangles
    by_vertex p true q = by_triangle p q (leb n.triangles triangles) refl
    by_vertex p false q =
        absurd (some_none (VertexRoom cell)
        (sym (λ i. cond (p i) (cond (q i) (cond (leb n.triangles triangles) None (Some (TriangleRoom cell))) (Some (VertexRoom cell))) (Some (EntryRoom cell))) ∙ h))

    by_entry : (b : Bool) → leb n.vertices entries ≡ b → Roomy n entries vertices triangles
    by_entry true p = by_vertex p (leb n.vertices vertices) refl
    by_entry false p =
        absurd (some_none (EntryRoom cell)
        (sym (λ i. cond (p i) (cond (leb n.vertices vertices) (cond (leb n.triangles triangles) None (Some (TriangleRoom cell))) (Some (VertexRoom cell))) (Some (EntryRoom cell))) ∙ h))

-- room is a fact with one proof
fits_prop : (s : Numbering) (e : GridEdge) → IsProp (Fits s e)
fits_prop s e p q = λ i. record { entry = λ h. le_prop (p.entry h) (q.entry h) i; vertex = λ h. le_prop (p.vertex h) (q.vertex h) i }

fits_all_prop : (place : GridEdge → Coordinates) (s : Tables) (τs : List (Triangle GridEdge)) → IsProp (FitsAll place s τs)
fits_all_prop place s τs p q = λ i j d b. record {
  a = fits_prop _ _ (p j d b).a (q j d b).a i;
  b = fits_prop _ _ (p j d b).b (q j d b).b i;
  c = fits_prop _ _ (p j d b).c (q j d b).c i;
}

-- the triangle records after triangles were added
pub added_records : (place : GridEdge → Coordinates) (s : Tables) (τs : List (Triangle GridEdge)) → ((added_all place s τs).count ≡ s.count + length τs) × (length (added_all place s τs).triangles ≡ length s.triangles)
unfolding added_all added
added_records place s [] = (omega arith, refl)
added_records place s (τ ∷ τs) =
    let r = added_records place (added place s τ) τs in
    let a = r.0 in
    (a ∙ omega arith, r.1 ∙ length-set s.triangles s.count _)

-- a march of the cell at B for which there is room
module _ (place : GridEdge → Coordinates) (inside : Point → Bool) (B : Point) (s : Tables) (n : Counts) (e : n ≡ need inside s.numbered.entries B)
    (tied : ∥ Tied s.numbered ∥₁) (room : Roomy n (free s.numbered.entries) (room_left (length s.numbered.vertices) s.numbered.count) (room_left (length s.triangles) s.count)) where
  vertices_is : n.vertices ≡ count_by (wanting inside s.numbered.entries) (cell_edges B)
  unfolding need
  vertices_is = ap (λ (m : Counts). m.vertices) e

  pub triangles_is : n.triangles ≡ length (cell_triangles inside B)
  unfolding need
  triangles_is = ap (λ (m : Counts). m.triangles) e

  ready : Tied s.numbered → Ready inside B s.numbered
  ready t = let v = vertices_is in let a = room.entry in let b = room.vertex in record { tied = t; entry = omega arith; vertex = omega arith }

  pub all_fit : (τs : List (Triangle GridEdge)) → τs ≡ cell_triangles inside B → FitsAll place s τs
  all_fit τs p = subst (FitsAll place s) (sym p) (∥∥₁_elim tied (fits_all_prop place s (cell_triangles inside B)) (λ t. fits_all place inside B s (ready t)))

  pub room_for : (τs : List (Triangle GridEdge)) → τs ≡ cell_triangles inside B → length τs ≤ room_left (length s.triangles) s.count
  room_for τs p = let l = ap length p in let t = triangles_is in let r = room.triangle in omega arith

  module _ (t : Tables) (after : t ≡ added_all place s (cell_triangles inside B)) where
    pub grown_then : t.numbered.count ≡ s.numbered.count + n.vertices
    grown_then = ap (λ (q : Tables). q.numbered.count) after ∙ ∥∥₁_elim tied (ℕ_set _ _) (λ k. grown place inside B s (ready k)) ∙ ap (λ (m : ℕ). s.numbered.count + m) (sym vertices_is)

  -- a cell with no triangles leaves the tables as they are
  pub nothing_added : n.triangles ≡ 0 → s ≡ added_all place s (cell_triangles inside B)
  unfolding added_all
  nothing_added z = ap (added_all place s) (sym (nil_from_length (cell_triangles inside B) (sym triangles_is ∙ z)))

-- the state after the march
pub marched_is : (f : Field) (s t : State) (cell : ℕ) → t.sides ≡ s.sides → t.marks ≡ set s.marks cell true → t.tables ≡ added_all f.place s.tables (cell_triangles f.inside (cell_base s.sides cell)) → t ≡ marched f s cell
unfolding marched
marched_is f s t cell a b c = (λ i. record { sides = a i; marks = b i; tables = c i })

-- an accepted march, by what it leaves
pub accepted : (f : Field) (s t : State) (cell : ℕ) (n : Counts) → shapes_refusal s.sides f.sides ≡ None → cell_refusal s cell ≡ None
    → n ≡ need f.inside s.tables.numbered.entries (cell_base s.sides cell) → ∥ Tied s.tables.numbered ∥₁ → room_refusal s.tables n cell ≡ None
    → t.sides ≡ s.sides → t.marks ≡ set s.marks cell true → t.tables ≡ added_all f.place s.tables (cell_triangles f.inside (cell_base s.sides cell)) → March f s cell (Ok n) t
accepted f s t cell n shape allowed e tied none sides marks tables =
    let room = roomy n _ _ _ cell none in (
      by_room f s cell n None shape allowed e none,
      e,
      marched_is f s t cell sides marks tables,
      grown_then f.place f.inside (cell_base s.sides cell) s.tables n e tied room t.tables tables,
    )
